-- The numbers that texts are.
use Rattle.{
  column_core.{proofs.cells.Common.{◌≡◌, ℕ, zero, suc, ◌<◌, true, List, [], ◌∷◌, slice_index, arith, ℤ, Option, Some, None, option_map, FitsSigned, w64, lt-ltb, ltb-true, eqb-true, IsUtf8-from_ascii, IsNumeralModel, numerals_by_value, IsAscii, IsUtf8, digits_value, TextId, Int64, Boolean, datum, text_of, cast_cell}, specs.{cells.Cast.{numeral_value, whole_number, truth_value, truth_of_number}, Columns.{number_cell, truth_cell, text_cell}}},
  std.{proofs.lemmas.Str.Parse.{tells_all_ascii_digits}, specs.Str.{all_ascii_digits, Parse.{IsNumeral, without_leading_sign, signed_digits_value}}},
  nullable_array.specs.Casts.{partial_cast},
}

digits : IsNumeralModel (λ ds. all_ascii_digits ds ≡ true) (digits_value 10)
digits = search (numerals_by_value, tells_all_ascii_digits)

-- a text that is read
pub numeral_read : (bs : List ℕ) (z : ℤ) → IsNumeral 10 (without_leading_sign bs) → FitsSigned w64 (signed_digits_value 10 bs) → z ≡ signed_digits_value 10 bs → Some z ≡ numeral_value bs
numeral_read = grind (arith, lt-ltb, digits.from)

-- a text that isn't read
pub numeral_refused : (bs : List ℕ) → (IsNumeral 10 (without_leading_sign bs) × FitsSigned w64 (signed_digits_value 10 bs) → ⊥) → None ≡ numeral_value bs
numeral_refused = grind (arith, digits.to, ltb-true)

digits_ascii : (ds : List ℕ) → all_ascii_digits ds ≡ true → (i : ℕ) → slice_index ds i < 128
digits_ascii [] h i = omega arith
digits_ascii (d ∷ ds) h zero = grind (arith, tells_all_ascii_digits.parts)
digits_ascii (d ∷ ds) h (suc i) = grind (arith, tells_all_ascii_digits.parts, digits_ascii ds)

numeral_ascii : (bs : List ℕ) → all_ascii_digits (without_leading_sign bs) ≡ true → IsAscii bs
numeral_ascii = grind (arith, digits_ascii, eqb-true)

-- bytes that are no text are no number
pub numeral_no_text : (bs : List ℕ) → (IsUtf8 bs → ⊥) → None ≡ numeral_value bs
numeral_no_text bs untext = numeral_refused bs (λ n. untext (search (IsUtf8-from_ascii, numeral_ascii, digits.from)))

module _ (texts : List (List ℕ)) where
  pub number_truth_cast : (x : Option ℤ) → cast_cell Boolean (datum texts (number_cell x)) ≡ option_map (λ z. datum texts (truth_cell z)) (partial_cast truth_of_number x)
  number_truth_cast = grind arith

  pub text_number_cast : (x : Option TextId) → cast_cell Int64 (datum texts (text_cell x)) ≡ option_map (λ z. datum texts (number_cell z)) (partial_cast (λ id. whole_number (text_of texts id)) x)
  text_number_cast = grind arith

  pub text_truth_cast : (x : Option TextId) → cast_cell Boolean (datum texts (text_cell x)) ≡ option_map (λ z. datum texts (truth_cell z)) (partial_cast (λ id. truth_value (text_of texts id)) x)
  text_truth_cast = grind arith
