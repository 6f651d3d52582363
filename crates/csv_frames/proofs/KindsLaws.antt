-- Laws of the kinds that fields have, one field after the other.
use Rattle.{
  column_core.{proofs.cells.Common.{rules, arith, ◌≡◌, refl, Bool, true, false, ◌&&◌, List, [], ◌∷◌, ◌++◌, length, map, replicate, Some, and_parts, list_all-append, list_all, Text, na_cell, Kind, Int64, Boolean}, specs.cells.Cell.{string}},
  meaning_csv.specs.CsvRead.{is_missing, field_cell, is_of_kind, kind_of_fields, cell_of_field},
}

-- a missing field is a missing cell of each kind
missing_cell : (kind : Kind) (f : Text) → is_missing f ≡ true → field_cell kind f ≡ Some na_cell
missing_cell _ f e = cc

all_fit : (kind : Kind) (fs : List Text) → list_all is_missing fs ≡ true → list_all (is_of_kind kind) fs ≡ true
all_fit _ [] e = refl
all_fit kind (f ∷ fs) e =
    let b = and_parts (is_missing f) _ e in
    search (all_fit kind fs b.1)

-- only missing fields
pub kind_missing : (fs : List Text) → list_all is_missing fs ≡ true → kind_of_fields fs ≡ Int64
kind_missing = search all_fit

-- so many missing cells
pub all_na : (kind : Kind) (fs : List Text) → list_all is_missing fs ≡ true → map (cell_of_field kind) fs ≡ replicate (length fs) na_cell
all_na _ [] e = refl
all_na kind (f ∷ fs) e =
    let b = and_parts (is_missing f) _ e in
    search (missing_cell, all_na kind fs b.1)

-- a field that isn't missing isn't both
exclusive : (f : Text) → is_missing f ≡ false → is_of_kind Int64 f ≡ true → is_of_kind Boolean f ≡ false
exclusive = search rules

one_false : (m x p q : Bool) → m && x ≡ false → (m ≡ false → p ≡ false) → (x ≡ false → q ≡ false) → p && q ≡ false
one_false = grind arith

-- where one isn't missing and all are numbers, not all are truth values
no_truths : (fs : List Text) → list_all is_missing fs ≡ false → list_all (is_of_kind Int64) fs ≡ true → list_all (is_of_kind Boolean) fs ≡ false
no_truths [] value _ = grind arith
no_truths (f ∷ fs) value numbers =
    let both = and_parts _ _ numbers in
    one_false _ _ _ _ value (λ given. exclusive f given both.0) (λ some. no_truths fs some both.1)

module _ (fs : List Text) (f : Text) where
  -- the first that isn't missing has the kind
  pub kind_first : list_all is_missing fs ≡ true → kind_of_fields (fs ++ f ∷ []) ≡ kind_of_fields (f ∷ [])
  kind_first = grind (arith, list_all-append, all_fit)

  -- a field of another kind makes texts of all
  pub kind_mixed : is_of_kind (kind_of_fields fs) f ≡ false → list_all is_missing fs ≡ false → kind_of_fields (fs ++ f ∷ []) ≡ string
  kind_mixed = grind (arith, list_all-append, no_truths)
