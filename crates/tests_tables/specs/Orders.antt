-- Orders of rows of the tests.
use Rattle.std.specs.Prelude.{ℕ, ◌%◌, nat_lt, Bool, List, slice_index_or}
use Rattle.std.specs.Cmp.{IsStrictWeakOrder}
use Rattle.std.proofs.lemmas.List.Sorted.{IsStrictWeakOrder-by_number}
use Rattle.cell_core.specs.declared.cell.Label.{Label}
use Rattle.cell_core.specs.declared.cell.Label.TheVariants.{Na}

-- an even row stands before an odd one
abbrev pub is_sooner : ℕ → ℕ → Bool
is_sooner i j = nat_lt (i % 2) (j % 2)

pub sooner_is_weak : IsStrictWeakOrder is_sooner
sooner_is_weak = IsStrictWeakOrder-by_number (λ i. i % 2)

-- the label of a row, and NA behind the last one
abbrev pub label_at : List Label → ℕ → Label
label_at labels row = slice_index_or labels row Na
