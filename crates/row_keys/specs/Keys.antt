-- The numbers of keys, by first sight.
use Rattle.std.specs.Prelude.{ℕ, Bool, List, ◌==◌, ◌&&◌, map, slice_index_or}
use Rattle.std.specs.List.{position_or_len}
use Rattle.std.specs.Cmp.Lexicographic.{pointwise}
use Rattle.multi_index.specs.cells.Reduce.{distinct}
use Rattle.cell_core.specs.declared.cell.Label.{Label}
use Rattle.cell_core.specs.declared.cell.Label.TheVariants.{Na}
use Rattle.multi_index.specs.index_core.Labels.{same_number}

-- equal tuples, where equal texts have one number
abbrev pub same_tuple : List Label → List Label → Bool
same_tuple = pointwise same_number

-- equal labels, or whatever else, with equal numbers
abbrev pub same_pair : {L : Type 0} → (L → L → Bool) → L × ℕ → L × ℕ → Bool
same_pair eq p q = eq p.0 q.0 && (p.1 == q.1)

-- the place of a key among keys
abbrev pub place_among : {K : Type 0} → (K → K → Bool) → List K → K → ℕ
place_among eq among k = position_or_len (eq k) among

-- each row's key by its place among the distinct ones
abbrev pub codes_of : {K : Type 0} → (K → K → Bool) → List K → List ℕ
codes_of eq keys = map (place_among eq (distinct eq keys)) keys

-- the first row of each distinct key
abbrev pub first_rows : {K : Type 0} → (K → K → Bool) → List K → List ℕ
first_rows eq keys = map (place_among eq keys) (distinct eq keys)

-- the label of a level, or NA
abbrev pub label_in : ℕ → List Label → Label
label_in level t = slice_index_or t level Na
