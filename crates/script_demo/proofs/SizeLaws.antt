-- Words that are sizes of demonstrations.
use Rattle.{
  std.{proofs.{Common.{◌≡◌, ◌≢◌, ◌<◌, ◌≤◌, ℕ, ◌^◌, List, length, get_or, true, Some, None, Result, Ok, Err, arith}, lemmas.{Bool.Decides.{nat_tests}, Str.Parse.{IsNumeralModel, numerals_by_value, tells_all_ascii_digits, digits_value_short, parse_plain}}}, specs.{Str.{all_ascii_digits}, Str.Parse.{digits_value, ParsesUnsigned}}},
  meaning_words.specs.Words.{demo_size},
}

digits : IsNumeralModel (λ ds. all_ascii_digits ds ≡ true) (digits_value 10)
digits = numerals_by_value _ tells_all_ascii_digits

module _ {E : Type 0} (word : List ℕ) (parsed : Result ℕ E) (parses : ParsesUnsigned 32 10 word parsed) (unsigned : get_or word 0 0 ≢ 43) (short : length word ≤ 6) where
  below : all_ascii_digits word ≡ true → digits_value 10 word < 10 ^ 6
  below are = digits_value_short digits word 6 are short

  pub no_size : (e : E) → parsed ≡ Err e → None ≡ demo_size word
  no_size _ is =
      let no_number = rw is at (parse_plain digits 32 word parsed parses unsigned) in
      grind (arith, nat_tests, below)

  pub size : (n : ℕ) → parsed ≡ Ok n → 0 < n → n ≤ 100000 → Some n ≡ demo_size word
  size _ is =
      let number = rw is at (parse_plain digits 32 word parsed parses unsigned) in
      grind (arith, nat_tests)
