-- Records of orders, one behind the other.
use Rattle.{
  std.proofs.Common.{◌≡◌, ℕ, ◌+◌, List, ◌++◌, refl, ap, ◌∙◌, add-one, append_assoc},
  meaning_words.specs.Demonstration.{order_line, order_lines},
}

last_line : (n : ℕ) → order_lines n ++ order_line (n + 1) ≡ order_lines (n + 1)
last_line n = rw add-one refl

-- a record more behind a header and others
pub lines_more : (header file file' : List ℕ) (n : ℕ) → file ≡ header ++ order_lines n → file' ≡ file ++ order_line (n + 1) → file' ≡ header ++ order_lines (n + 1)
lines_more header _ _ n is more =
    more ∙ ap (λ text. text ++ order_line (n + 1)) is ∙ append_assoc header (order_lines n) (order_line (n + 1)) ∙ ap (λ text. header ++ text) (last_line n)
