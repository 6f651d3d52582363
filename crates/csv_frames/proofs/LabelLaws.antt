-- Laws of the labels of columns.
use Rattle.{
  column_core.proofs.cells.Common.{rules, ◌≡◌, ℕ, ◌+◌, ◌-◌, ◌<◌, Bool, false, not, cond, List, [], ◌∷◌, length, nat_eq, refl, arith, list_any, position_or_len, range_with_len, number_of, Text, same_text},
  meaning_csv.specs.CsvRead.{is_free},
}

at_end : {X : Type 0} (p : X → Bool) (xs : List X) → nat_eq (position_or_len p xs) (length xs) ≡ not (list_any p xs)
at_end p [] = refl
at_end p (x ∷ xs) = search (rules, at_end p xs)

-- a text is new where its number is that after the last one
pub new_number : (texts : List Text) (t : Text) (n count : ℕ) → n ≡ number_of texts t → count ≡ length texts → nat_eq n count ≡ not (list_any (same_text t) texts)
new_number = grind (arith, at_end)

-- from a number on
abbrev pub first_free : List Text → Text → ℕ → ℕ → ℕ
first_free taken label columns n = position_or_len (is_free taken label) (range_with_len n (columns - n))

from_number : (p : ℕ → Bool) (n columns : ℕ) → n < columns → position_or_len p (range_with_len n (columns - n)) ≡ cond (not (p n)) (1 + position_or_len p (range_with_len (n + 1) (columns - (n + 1)))) 0
from_number = grind arith

pub number_passed : (taken : List Text) (label : Text) (n columns : ℕ) → n < columns → n + first_free taken label columns n ≡ 1 + first_free taken label columns 1
    → false ≡ is_free taken label n → n + 1 + first_free taken label columns (n + 1) ≡ 1 + first_free taken label columns 1
number_passed = grind (arith, from_number)
