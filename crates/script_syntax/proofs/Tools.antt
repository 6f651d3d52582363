-- Taking readers apart.
use Rattle.{
  script_tokens.{proofs.cells.Common.{◌≡◌, ℕ, ◌≤◌, true, false, List, Option, Some, None, refl, arith, ◌⊎◌, leb-true, bytes_eq-Decides, Text, same_text}, specs.language.{Token.{Token}, Tree.{Expr}, Depth.{depth}}},
  script_syntax.specs.Reading.{pick, guard},
}

-- ---- what holds of the value that a reader gives, if it gives one

abbrev pub Only : {A : Type 0} → (A → Type 0) → Option A → Type 0
Only P None = Unit {0}
Only P (Some y) = P y

-- what a reader finds at the tokens
abbrev pub Sound : {A : Type 0} → (List Token → Option A) → (List Token → A → Type 0) → Type 0
Sound read Is = (ts : List Token) → Only (Is ts) (read ts)

pub guard_takes : (room : ℕ) (x : Expr) (ts : List Token) → Only (λ y. (y ≡ (x, ts)) × (depth x ≤ room)) (guard room x ts)
unfolding guard pick
guard_takes = grind (arith, leb-true)

-- ---- marks and words are told apart

pub text_is : (a b : Text) → same_text a b ≡ true → a ≡ b
text_is a b e = (bytes_eq-Decides a b).0 e

-- either the texts are equal, or the test says no
pub text_tells : (a b : Text) → ((same_text a b ≡ true) × (a ≡ b)) ⊎ (same_text a b ≡ false)
text_tells a b = grind (arith, text_is a b)

pub text_same : (a : Text) → same_text a a ≡ true
text_same a = (bytes_eq-Decides a a).1 refl
