-- Labels are equal exactly where their numbers are.
use Rattle.{
  column_core.proofs.cells.Common.{arith, ◌≡◌, ℕ, Bool, List, [], ◌∷◌, map, refl, Option, Some, same_from_decides, pos, Decides, Label, AreDistinct, IsGivenLabel, int, label_datum, Text},
  frame_store.{specs.{tables.{Settled.{IsSettled}, Table.{heading_value}}, Shown.{labels_value}}, proofs.Settling.{cell_given}},
  label_align.specs.index_core.Ranges.{number_label},
  multi_index.specs.Axes.{range_axis, single_tuples},
  meaning_form.specs.{Given.{same_label}, Finish.{default_labels}},
}
use Rattle.cell_core.specs.declared.cell.Label.TheVariants as label
use Rattle.cell_core.specs.declared.cell.Cell.TheVariants as cell
pub use Rattle.label_align.proofs.index_core.TextLaws.{label_one}
pub use Rattle.cell_core.proofs.LabelLaws.{value_decides}

-- a label that further texts leave as it is was given
pub label_given : (texts : List Text) (l : Label) → IsSettled label_datum texts l → IsGivenLabel texts l
label_given texts (label.Text id) settled = cell_given texts (cell.Text id) (λ more. cc (settled more))
label_given _ _ _ = tt

-- a test by numbers is the test by texts
pub same_by_number : (texts : List Text) (a b : Label) (r : Bool) → AreDistinct texts → IsSettled label_datum texts a → IsSettled label_datum texts b → Decides r (a ≡ b)
    → r ≡ same_label (label_datum texts a) (label_datum texts b)
same_by_number texts a b r distinct f g is = grind (arith, label_one texts a b distinct (label_given texts a f) (label_given texts b g), value_decides (label_datum texts a) (label_datum texts b), is, same_from_decides)

-- a heading's label
pub heading_label : (texts : List Text) (h : Option Label) (l : Label) → h ≡ Some l → IsSettled heading_value texts h → IsSettled label_datum texts l
heading_label texts h l is settled more = cc (rw is at (settled more))

-- the labels 0, 1 and so on
numbers_seen : (texts : List Text) (ns : List ℕ) → labels_value texts (single_tuples (map number_label ns)) ≡ map (λ k. int (pos k) ∷ []) ns
numbers_seen _ [] = refl
numbers_seen texts (n ∷ ns) = search (numbers_seen texts ns)

pub default_seen : (texts : List Text) (count : ℕ) → labels_value texts (range_axis count).tuples ≡ default_labels count
default_seen = search numbers_seen
