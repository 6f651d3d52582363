-- The escapes of printed texts.
use Rattle.{
  meaning_format.{proofs.cells.Common.{◌≡◌, ◌≢◌, ℕ, suc, ◌<◌, ◌≤◌, List, [], ◌∷◌, ◌++◌, length, get_or, encode_utf8, refl, sym, ◌∙◌, append_assoc, arith, inside_one, nat_tests, Text}, specs.Print.{shown_byte, shown_text}},
  std.proofs.Common.{append-nil},
}

-- what writes a text byte by byte
module _ (write : Text → Text) (mark : ℕ → Text) (none : write [] ≡ []) (more : (b : ℕ) (bs : Text) → write (b ∷ bs) ≡ mark b ++ write bs) where
  pub each-append : (xs ys : Text) → write (xs ++ ys) ≡ write xs ++ write ys
  each-append [] _ = cc none
  each-append (x ∷ xs) ys = cc (more x (xs ++ ys), more x xs, append_assoc (mark x) (write xs) (write ys), each-append xs ys)

  each-plain : (bs : Text) → ((k : ℕ) → k < length bs → mark (get_or bs k 0) ≡ get_or bs k 0 ∷ []) → write bs ≡ bs
  each-plain [] _ = none
  each-plain (b ∷ bs) plain = cc (more b bs, plain 0 (omega arith), each-plain bs (λ k within. plain (suc k) (omega arith)))

  -- another character stands for itself: a byte below 128 is all of its character
  pub each-encode : ((b : ℕ) → 128 ≤ b → mark b ≡ b ∷ []) → (c : ℕ) → mark c ≡ c ∷ [] → write (encode_utf8 c) ≡ encode_utf8 c
  each-encode high c plain = each-plain _ (λ k within. let same = inside_one c [] _ k (sym (append-nil _)) within in grind (arith, high))

pub shown_text-encode : (c : ℕ) → c ≢ 9 → c ≢ 10 → c ≢ 13 → shown_text (encode_utf8 c) ≡ encode_utf8 c
shown_text-encode c tab line_feed carriage_return = each-encode shown_text shown_byte refl (λ _ _. refl) (grind (arith, nat_tests)) c (grind (arith, nat_tests))

pub shown_whole : (out rest whole : List ℕ) → out ++ shown_text rest ≡ whole → length rest ≡ 0 → out ≡ whole
shown_whole out [] _ so_far _ = sym (append-nil out) ∙ so_far
shown_whole _ (b ∷ bs) _ so_far none = search
