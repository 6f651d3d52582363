-- The labels of columns as labels of rows.
use Rattle.{
  frame_parts.proofs.Common.{arith, ◌≡◌, pos, List, [], ◌∷◌, map, length, Option, unwrap_or, All-map, Label, Text, LabelValue, int, HaveLevels, heading_value, tuple_value, labels_value, headings_value},
  column_core.proofs.CellRows.{map-map},
  frame_labels.specs.Labels.{column_tuple},
}

pub tuples_alike : (hs : List (Option Label)) → HaveLevels 1 (map column_tuple hs)
tuples_alike hs = All-map (λ tuple. length tuple ≡ 1) column_tuple hs (λ k d lt. grind arith)

-- the label of a column as a tuple, with texts
abbrev pub label_tuple : Option LabelValue → List LabelValue
label_tuple h = unwrap_or h (int (pos 0)) ∷ []

tuple_seen : (texts : List Text) (h : Option Label) → label_tuple (heading_value texts h) ≡ tuple_value texts (column_tuple h)
tuple_seen = grind arith

pub tuples_seen : (texts : List Text) (hs : List (Option Label)) → map label_tuple (headings_value texts hs) ≡ labels_value texts (map column_tuple hs)
tuples_seen texts hs = simp (map-map, tuple_seen)
