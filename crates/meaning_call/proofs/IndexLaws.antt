-- Labels of an index that has a right form.
use Rattle.{
  meaning_form.{proofs.cells.Common.{◌≡◌, ◌<◌, ◌≤◌, refl, ℕ, nat_eq, nat_lt, ◌&&◌, Bool, true, false, List, length, slice_get, Option, Some, None, All, arith, nat_tests, All-nil, LabelValue}, specs.{tables.Value.{cell, Given, GivenList, NamedGiven, no_given, more_given, one, row, list_in}, Select.{labels_of}, Make.{row_labels, index_labels, AreAlike}}},
  meaning_call.{specs.{declared.Parameter.{Parameter}, Binding.{is_scalar, each, count_of, is_tuple_of, are_row_labels, argument_at, bound, bound_of}}, proofs.BoundLaws.{list_taken}},
}
use Rattle.meaning_call.specs.declared.Accepted.TheVariants as accepted

both : (a b : Bool) → (a && b) ≡ true → (a ≡ true) × (b ≡ true)
both true b h = (refl, h)
both false b h = cc

nat_same : (a b : ℕ) → nat_eq a b ≡ true → a ≡ b
nat_same = grind (arith, nat_tests)

below : (a b : ℕ) → nat_lt a b ≡ true → a < b
below = grind (arith, nat_tests)

-- as many labels as scalars
labels_count : (parts : GivenList) → each is_scalar parts ≡ true → length (labels_of parts) ≡ count_of parts
labels_count no_given h = refl
labels_count (more_given (one (cell c)) rest) h = grind (arith, labels_count rest h)
labels_count _ h = cc

abbrev Has : ℕ → List LabelValue → Type 0
Has n tuple = length tuple ≡ n

scalar_labels : (g : Given) → is_scalar g ≡ true → Has 1 (row_labels g)
scalar_labels (one (cell c)) h = refl
scalar_labels _ h = cc

tuple_labels : (n : ℕ) (g : Given) → is_tuple_of n g ≡ true → Has n (row_labels g)
tuple_labels n (row parts) h = grind (arith, both, nat_eq, labels_count, nat_same)
tuple_labels n _ h = cc

each_has : (n : ℕ) (test : Given → Bool) → ((g : Given) → test g ≡ true → Has n (row_labels g)) → (parts : GivenList) → each test parts ≡ true → All (Has n) (index_labels parts)
each_has n _ _ no_given h = All-nil (Has n)
each_has n test so (more_given g rest) h =
    grind (arith, each_has n test so rest (both (test g) (each test rest) h).1)

alike_from : (g : Given) (rest : GivenList) (n : ℕ) → 1 ≤ n → Has n (row_labels g) → All (Has n) (index_labels rest) → AreAlike (index_labels (more_given g rest))
alike_from = grind arith

-- the labels of an index that has the form are alike
pub index_alike : (parts : GivenList) → are_row_labels parts ≡ true → AreAlike (index_labels parts)
index_alike no_given h = grind arith
index_alike (more_given (one (cell c)) rest) h = alike_from (one (cell c)) rest 1 (omega arith) refl (each_has 1 is_scalar scalar_labels rest h)
index_alike (more_given (row parts) rest) h =
    let n = count_of parts in
    let x = both (nat_lt 1 n && each is_scalar parts) (each (is_tuple_of n) rest) h in
    let y = both (nat_lt 1 n) (each is_scalar parts) x.0 in
    let some = below 1 n y.0 in
    alike_from (row parts) rest n (omega arith) (labels_count parts y.1) (each_has n (is_tuple_of n) (tuple_labels n) rest x.1)
index_alike _ h = cc

-- the labels that are given, if an index is
abbrev pub GivesAlike : Option GivenList → Type 0
GivesAlike None = Unit {0}
GivesAlike (Some parts) = AreAlike (index_labels parts)

index_of : (ps : List Parameter) (gs : List NamedGiven) (place : ℕ) (p : Parameter) (l : List Given) → bound_of ps gs ≡ bound l → slice_get ps place ≡ Some p → p.accepted ≡ accepted.RowLabels
    → (o : Option GivenList) → list_in (argument_at ps gs place) ≡ o → GivesAlike o
index_of _ _ _ p l _ _ accepted None _ = tt
index_of ps gs place p l same there accepted (Some parts) is = index_alike parts (cc (list_taken ps gs place p l parts same there is))

-- an index that is bound to a parameter for labels of rows gives labels that are alike
pub index_taken : (ps : List Parameter) (gs : List NamedGiven) (place : ℕ) (p : Parameter) (l : List Given) → bound_of ps gs ≡ bound l → slice_get ps place ≡ Some p → p.accepted ≡ accepted.RowLabels → GivesAlike (list_in (argument_at ps gs place))
index_taken _ _ _ p l same there accepted = search index_of
