-- The headings of a frame that `melt` makes.
use Rattle.{frame_parts.proofs.Common.{◌≡◌, ◌∙◌, ap, refl, sym, subst, append-nil, if◌then◌else◌, Bool, true, false, ℕ, List, [], ◌∷◌, ◌++◌, slice_get, codes, Option, Some, append_assoc, map-append, Label, TextId, Text, label_datum, IsLonger, IsSettled, NumberedTable, table_value, headings_value, settled_later, seen_later, longer_twice, headings_part}, column_core.{specs.cells.Cell.{text}, proofs.cells.Common.{with_text}}, frame_select.specs.Selected.{headings_at}, frame_labels.{specs.method.{Groups.{headings_of}, Reshape.{label_heading, melted_headings}}, proofs.{IndexingLaws.{headings_seen, headings_settled}, ResetLaws.{text_seen, text_settled}}}}
use Rattle.cell_core.specs.declared.cell.Label.TheVariants as label

-- a text that got a number
longer_if : (b : Bool) (old : List Text) (t : Text) → IsLonger old (if b then old else (old ++ t ∷ []))
longer_if true old t = ([], sym (append-nil old))
longer_if false old t = (t ∷ [], refl)

pub text_grown : (old new : List Text) (t : Text) → new ≡ with_text old t → IsLonger old new
text_grown old new t is = subst (IsLonger old) (sym is) (longer_if _ old t)

module _ (old mid new : List Text) (t : NumberedTable) (kept : List ℕ) (name : Label) (id : TextId) (first own labels : List (Option Label)) (longer : IsLonger old mid) (grown : IsLonger mid new) (settled : IsSettled table_value old t)
    (named : label_datum mid name ≡ label_heading (table_value old t)) (given : IsSettled label_datum mid name) (value : slice_get new id.0 ≡ Some (codes "value")) (first_are : first ≡ headings_at t kept) (own_are : own ≡ first ++ Some name ∷ []) (labels_are : labels ≡ own ++ Some (label.Text id) ∷ []) where
  kept_seen : headings_value new first ≡ headings_of (table_value old t) kept
  kept_seen =
      ap (headings_value new) first_are ∙ headings_seen new t kept ∙ ap (λ v. headings_of v kept) (seen_later table_value old new t (longer_twice old mid new longer grown) settled)

  name_seen : label_datum new name ≡ label_heading (table_value old t)
  name_seen = seen_later label_datum mid new name grown given ∙ named

  pub labels_meant : headings_value new labels ≡ melted_headings (table_value old t) kept
  labels_meant =
      let whole : headings_value new labels ≡ (headings_of (table_value old t) kept ++ Some (label_heading (table_value old t)) ∷ []) ++ Some (text (codes "value")) ∷ [] =
      rw (labels_are, own_are, map-append, map-append) (λ i. (kept_seen i ++ Some (name_seen i) ∷ []) ++ Some (text_seen new id (codes "value") value i) ∷ []) in
      whole ∙ append_assoc (headings_of (table_value old t) kept) (Some (label_heading (table_value old t)) ∷ []) (Some (text (codes "value")) ∷ [])

  pub labels_given : IsSettled headings_value new labels
  labels_given = λ more.
      let kept_given = headings_settled new t kept (headings_part new t (settled_later table_value old new t (longer_twice old mid new longer grown) settled)) in
      rw (labels_are, own_are, first_are, map-append, map-append, map-append, map-append)
      (λ i. (kept_given more i ++ Some (settled_later label_datum mid new name grown given more i) ∷ []) ++ Some (text_settled new id (codes "value") value more i) ∷ [])
