-- The texts of keys, label by label.
use Rattle.meaning_script.{proofs.cells.Common.{◌≡◌, ℕ, suc, ◌+◌, List, [], ◌∷◌, ◌++◌, length, drop, map, slice_get, Some, codes, ap, sym, ◌∙◌, append_assoc, arith, drop-cons, slice_get_within, get_or_from_slice_get, Label, LabelValue, more_labels}, specs.cells.FaultText.{label_text, key_text}}

module _ (f : Label → LabelValue) where
  pub key_text-one : (key : List Label) (l : Label) → length key ≡ 1 → slice_get key 0 ≡ Some l → key_text (map f key) ≡ label_text (f l)
  key_text-one [] l one is = absurd (omega arith)
  key_text-one (x ∷ []) l one is = let same : x ≡ l = cc in ap (λ y. label_text (f y)) same
  key_text-one (x ∷ y ∷ more) l one is = absurd (omega arith)

  more_labels-drop : (key : List Label) (level : ℕ) (l : Label) → slice_get key level ≡ Some l → more_labels (map f (drop level key)) ≡ codes ", " ++ label_text (f l) ++ more_labels (map f (drop (level + 1) key))
  more_labels-drop key level l is =
      let next : suc level ≡ level + 1 = omega arith in
      ap (λ ls. more_labels (map f ls)) (drop-cons key level l (slice_get_within key level l is))
      ∙ ap (λ x. codes ", " ++ label_text (f x) ++ more_labels (map f (drop (suc level) key))) (get_or_from_slice_get key level l l is)
      ∙ ap (λ k. codes ", " ++ label_text (f l) ++ more_labels (map f (drop k key))) next

  -- a label more of a key
  pub labels_more : (line with_comma with_label whole : List ℕ) (key : List Label) (level : ℕ) (l : Label)
      → line ++ more_labels (map f (drop level key)) ≡ whole → slice_get key level ≡ Some l → with_comma ≡ line ++ codes ", " → with_label ≡ with_comma ++ label_text (f l)
      → with_label ++ more_labels (map f (drop (level + 1) key)) ≡ whole
  labels_more line _ _ _ key level l so_far is comma label =
      let rest = more_labels (map f (drop (level + 1) key)) in
      ap (λ t. t ++ rest) (label ∙ ap (λ t. t ++ label_text (f l)) comma)
      ∙ append_assoc (line ++ codes ", ") (label_text (f l)) rest
      ∙ append_assoc line (codes ", ") (label_text (f l) ++ rest)
      ∙ ap (λ t. line ++ t) (sym (more_labels-drop key level l is))
      ∙ so_far
