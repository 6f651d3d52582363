-- Equality and order of labels whose texts are numbers.
use Rattle.std.specs.Prelude.{ℕ, Bool, List, map, slice_index_or}
use Rattle.std.specs.declared.cmp.Ordering.{Ordering}
use Rattle.cell_core.specs.Values.{label_cmp, label_datum}
use Rattle.cell_core.specs.declared.cell.Label.{Label}
use Rattle.cell_core.specs.declared.cell.Label.TheVariants.{Na}
use Rattle.cell_core.specs.contracts.cell.LabelPartialEq.TheImpl.{eq-value}
use Rattle.meaning_pick.specs.cells.Text.{Text}
use Rattle.meaning_pick.specs.Rows.{rows_where}

-- equal labels, where equal texts have one number
abbrev pub same_number : Label → Label → Bool
same_number a b = eq-value.it a b

-- the order of labels, where these are the texts by number
abbrev pub order_in : List Text → Label → Label → Ordering
order_in texts a b = label_cmp (label_datum texts a) (label_datum texts b)

-- the labels at these places, in their order
abbrev pub labels_at : List Label → List ℕ → List Label
labels_at labels places = map (λ place. slice_index_or labels place Na) places

-- the places of a label, in order
abbrev pub places_in : List Label → Label → List ℕ
places_in labels label = rows_where (same_number label) 0 labels
