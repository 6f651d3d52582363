-- Laws of the numbers that were tried for labels.
use Rattle.{
  column_core.proofs.cells.Common.{get_or_default, list_any-append, prefix_len-le-length, cases_eq, slice_get-get_or, add-one, sym, ◌≡◌, ◌≢◌, ℕ, zero, suc, ◌+◌, ◌<◌, ◌≤◌, true, false, List, [], ◌∷◌, ◌++◌, length, slice_get, slice_index_or, slice_set, Some, refl, arith, get_or-append, get_or-append_seam, list_any, with_text, number_of, Text, same_text},
  std.proofs.{lemmas.List.{length-append}, Common.{get_or-set_same, get_or-set_other, length-set}},
  meaning_csv.specs.CsvRead.{with_number, is_free, free_label, next_label},
  csv_frames.{specs.Labels.{IsSkipped, AreSkipped}, proofs.LabelLaws.{first_free, number_passed, new_number}},
}

-- numbers that were passed over
module _ (taken : List Text) (label : Text) where
  passed_all : (columns n : ℕ) → 1 ≤ n → n ≤ columns → IsSkipped taken label n → n + first_free taken label columns n ≡ 1 + first_free taken label columns 1
  passed_all _ zero some _ _ = absurd (omega arith)
  passed_all _ (suc zero) _ _ _ = refl
  passed_all columns (suc (suc k)) _ le skipped =
      rw add-one at (number_passed taken label (suc k) columns le (passed_all columns (suc k) (omega arith) (omega arith) (λ n some lt. skipped n some (omega arith))) (sym (skipped (suc k) (omega arith) (omega arith))))

  -- the first number that is free, and the last one
  module _ (t : Text) (n columns : ℕ) where
    pub label_found : 1 ≤ n → n < columns → IsSkipped taken label n → t ≡ with_number label n → true ≡ is_free taken label n → t ≡ free_label columns taken label
    label_found some lt skipped is free = let passed = passed_all columns n some (omega arith) skipped in grind arith

    pub label_last : 0 < columns → columns ≤ n → IsSkipped taken label n → t ≡ with_number label columns → t ≡ free_label columns taken label
    label_last some le skipped is = grind (arith, passed_all columns columns)

-- what is taken stays so
pub skipped_later : (taken taken' : List Text) (t label : Text) (n : ℕ) → taken' ≡ with_text taken t → IsSkipped taken label n → IsSkipped taken' label n
skipped_later = grind (arith, list_any-append)

module _ (texts : List Text) (t : Text) (n : ℕ) (is : n ≡ number_of texts t) where
  pub number_within : n ≢ length texts → n < length texts
  number_within = grind (arith, prefix_len-le-length)

  -- whether a text stood before is told by its number
  pub old_text : n ≢ length texts → list_any (same_text t) texts ≡ true
  old_text other = let told = new_number texts t n _ is refl in grind arith

  new_text : n ≡ length texts → list_any (same_text t) texts ≡ false
  new_text same = let told = new_number texts t n _ is refl in grind arith

module _ (texts texts' : List Text) (t : Text) where
  kept : texts' ≡ with_text texts t → list_any (same_text t) texts ≡ true → texts' ≡ texts
  kept put old = cc

  pub text_numbered : (n : ℕ) → texts' ≡ with_text texts t → n ≡ number_of texts t → n ≢ length texts → slice_get texts' n ≡ Some t → slice_index_or texts n [] ≡ t
  text_numbered = grind (arith, kept, old_text, slice_get-get_or, number_within, slice_get)

-- a new label, for which no number was tried
module _ (before before' taken : List Text) where
  module _ (taken' : List Text) (next : List ℕ) where
    pub skipped_new : (next' : List ℕ) (label : Text) (n : ℕ) → AreSkipped before taken next → before' ≡ with_text before label → taken' ≡ with_text taken label → next' ≡ next ++ 1 ∷ [] → n ≡ number_of before label → n ≡ length before → AreSkipped before' taken' next'
    skipped_new _ label n inv put takes pushed is same =
        let more : before' ≡ before ++ label ∷ [] = cc (new_text before label n is same) in
        rw (more, pushed) record {
          count = grind (arith, length-append);
          some = λ k lt. grind (arith, cases_eq k (length before), length-append, get_or-append_seam, get_or-append, inv.some k);
          skipped = λ k lt. grind (arith, cases_eq k (length before), length-append, get_or-append_seam, get_or-append, inv.skipped k, skipped_later taken taken' label (slice_index_or before k []) (slice_index_or next k 0) takes);
        }

    -- a label that stood before, for which numbers were tried
    pub skipped_old : (label t : Text) (n m : ℕ) → AreSkipped before taken next → before' ≡ with_text before label → taken' ≡ with_text taken t → n ≡ number_of before label → n ≢ length before → slice_get before' n ≡ Some label → 1 ≤ m → IsSkipped taken' label m → AreSkipped before' taken' (slice_set next n m)
    skipped_old = grind (arith, kept, old_text, length-set, cases_eq, get_or-set_other, text_numbered, skipped_later, slice_set, get_or-set_same, number_within)

  -- the next number for a label that stood before
  pub next_number_of : (next : List ℕ) (label : Text) (n first : ℕ) → AreSkipped before taken next → before' ≡ with_text before label → n ≡ number_of before label → n ≢ length before → slice_get before' n ≡ Some label → first ≡ slice_index_or next n first → (1 ≤ first) × IsSkipped taken label first
  next_number_of next label n first inv put is other given read = grind (arith, get_or_default, number_within, text_numbered before before' label n put is other given)

-- its label
pub next_old : (columns : ℕ) (before taken : List Text) (label t : Text) (n : ℕ) → n ≡ number_of before label → n ≢ length before → t ≡ free_label columns taken label → t ≡ next_label columns before taken label
next_old = grind (arith, old_text)
