-- Names of levels that an argument is.
use Rattle.{
  frame_parts.proofs.Common.{arith, ◌≡◌, ℕ, List, [], ◌∷◌, ◌++◌, Option, None, Label, cell_label, Text, heading_value, Given, scalar_in, list_in, IsSettled, Tables, arguments_of, headings_value},
  column_core.proofs.cells.Common.{option_map},
  meaning_method.specs.Levels.{names_in},
  frame_signatures.specs.{Bound.{stands_at}, declared.bound.Bound.{Bound}},
}

-- or one name
pub single_name : (texts : List Text) (g : Given) (name : Option Label) (names : List (Option Label)) → None ≡ list_in g → heading_value texts name ≡ option_map cell_label (scalar_in g) → names ≡ name ∷ []
    → headings_value texts names ≡ names_in g
single_name = grind arith

-- names that were given
pub names_given : (b : Bound) (place : ℕ) (names : List (Option Label)) (live : Tables) (texts : List Text) → ((live : Tables) (texts : List Text) → headings_value texts names ≡ names_in (stands_at live texts b place))
    → IsSettled (arguments_of live) texts b.args.now → IsSettled headings_value texts names
names_given b place _ live texts told settled = λ more. cc (told live (texts ++ more), settled more, told live texts)
