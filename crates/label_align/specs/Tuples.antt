-- The order of tuples, and the keys of rows that are sorted.
use Rattle.std.specs.Prelude.{ℕ, Bool, List, [], map, slice_index_or}
use Rattle.std.specs.List.{range_with_len}
use Rattle.std.specs.Ordering.{is_lt}
use Rattle.std.specs.Cmp.{IsStrictWeakOrder}
use Rattle.std.specs.Cmp.Lexicographic.{slice_cmp, lists_total}
use Rattle.std.proofs.lemmas.List.Sorted.{ranks_by}
use Rattle.meaning_align.specs.cells.Text.{Text}
use Rattle.cell_core.specs.declared.cell.Label.{Label}
use Rattle.cell_core.specs.Values.{LabelValue, label_cmp, label_datum}
use Rattle.cell_core.proofs.LabelLaws.{label_total}
use Rattle.row_keys.specs.Keys.{label_in}

-- a tuple with its texts
abbrev pub tuple_seen : List Text → List Label → List LabelValue
tuple_seen texts tuple = map (label_datum texts) tuple

-- whether a tuple stands before another: by their first different label
abbrev pub tuple_less : List Text → List Label → List Label → Bool
tuple_less texts a b = is_lt (slice_cmp label_cmp (tuple_seen texts a) (tuple_seen texts b))

-- the labels of a row at so many levels: NA behind the last row
abbrev pub labels_of : List Text → List (List Label) → ℕ → ℕ → List LabelValue
labels_of texts tuples levels row = map (λ level. label_datum texts (label_in level (slice_index_or tuples row []))) (range_with_len 0 levels)

-- whether a row stands before another by these labels
abbrev pub row_less : List Text → List (List Label) → ℕ → ℕ → ℕ → Bool
row_less texts tuples levels i j = is_lt (slice_cmp label_cmp (labels_of texts tuples levels i) (labels_of texts tuples levels j))

pub row_weak : (texts : List Text) (tuples : List (List Label)) (levels : ℕ) → IsStrictWeakOrder (row_less texts tuples levels)
row_weak texts tuples levels = ranks_by (lists_total label_total) (labels_of texts tuples levels)
