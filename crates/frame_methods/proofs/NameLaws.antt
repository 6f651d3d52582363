-- Objects under other headings.
use Rattle.{
  frame_parts.proofs.Common.{arith, ◌≡◌, refl, pos, List, [], ◌∷◌, ◌++◌, length, Option, Some, None, slice_index_or, unwrap_or, Result, Label, Text, LabelValue, int, label_datum, FaultValue, IsSettled, heading_value, Entry, Value, OpFault, HeadingList, Shown, headings_value, FormAnswers},
  frame_labels.specs.Labels.{column_tuple},
}

-- a heading that is read of what is settled is settled
pub named_settled : {A : Type 0} (view : List Text → A) (read : A → Option LabelValue) (texts : List Text) (name : Option Label) (labels : List (Option Label))
    → ((more : List Text) → view (texts ++ more) ≡ view texts) → ((ts : List Text) → heading_value ts name ≡ read (view ts)) → labels ≡ name ∷ [] → IsSettled headings_value texts labels
named_settled = grind arith

-- another wording of what is meant
pub meant_so : (texts : List Text) (result : Result Value OpFault) (meant meant' : Result Entry FaultValue) (old new : Shown) → meant ≡ meant' → FormAnswers texts result meant old new → FormAnswers texts result meant' old new
meant_so _ _ meant = grind arith

-- the label of a Series' column
pub label_seen : (h : Option Label) (l : Label) → column_tuple h ≡ l ∷ [] → (ts : List Text) → label_datum ts l ≡ unwrap_or (heading_value ts h) (int (pos 0))
label_seen = grind arith

pub one_item : (hs : List (Option Label)) → length hs ≡ 1 → hs ≡ slice_index_or hs 0 None ∷ []
one_item [] is = cc
one_item (h ∷ []) _ = refl
one_item (h ∷ g ∷ hs) is = cc

abbrev pub frame_heading : Option LabelValue → Option LabelValue
frame_heading h = Some (unwrap_or h (int (pos 0)))

-- a list of one heading
pub heading_list : (columns_name name : Option Label) (first list : HeadingList) → first ≡ record { columns_name = columns_name; labels = [] } → list ≡ record first { labels = first.labels ++ name ∷ [] }
    → list ≡ record { columns_name = columns_name; labels = name ∷ [] }
heading_list _ _ _ _ begins more = search
