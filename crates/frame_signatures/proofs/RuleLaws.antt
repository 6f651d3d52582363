-- Binding by walks meets its rule.
use Rattle.{
  frame_store.{proofs.cells.Common.{◌≡◌, ◌∙◌, ◌+◌, ℕ, zero, suc, Bool, true, false, not, cond, List, [], ◌∷◌, length, take, refl, sym, arith, if◌then◌else◌, eqb-true, eqb-false, lt-ltb, sum_by-cons, slice_get_within, slice_get, nat_eq, Option, Some, None, Text}, specs.tables.Value.{Given, NamedGiven}},
  std.specs.Prelude.{count_by},
  meaning_call.specs.{declared.Parameter.{Parameter}, Binding.{takes, or_stand_in, goes_to, counted, given_at, is_given, taken_by, listed_by, fit, are_listed, argument_at, arguments_from, may_be_omitted, none_missing, Bound, not_taken, not_listed, bound, bound_of}},
  frame_signatures.specs.{Filled.{Fills}, Rule.{is_unnamed, HasPlace, IsTaken, HasArgument, AreTaken, AreListed, AreInOrder, IsBinding}},
}
use Rattle.meaning_call.specs.declared.Omitted.TheVariants as omitted

-- cases

if_both : (a b : Bool) → (if a then b else false) ≡ true → (a ≡ true) × (b ≡ true)
if_both = grind arith

both_if : (a b : Bool) → a ≡ true → b ≡ true → (if a then b else false) ≡ true
both_if a b x y = cc

some_is : {X : Type 0} (d x y : X) → Some x ≡ Some y → x ≡ y
some_is d x y h = cc

-- how many of these have no name, and the place of an argument after them, where k without a name came before

abbrev unnamed : List NamedGiven → ℕ
unnamed gs = count_by (λ g. is_unnamed g.name) gs

abbrev goes_after : List Parameter → ℕ → List NamedGiven → ℕ → NamedGiven → ℕ
goes_after ps k gs i g = goes_to ps (k + unnamed (take i gs)) g.name

count_first : (k n : ℕ) (name : Option Text) → k + (cond (is_unnamed name) 1 0 + n) ≡ counted k name + n
count_first = grind arith

goes_next : (ps : List Parameter) (k : ℕ) (x : NamedGiven) (gs : List NamedGiven) (i : ℕ) (g : NamedGiven) → goes_after ps k (x ∷ gs) (suc i) g ≡ goes_after ps (counted k x.name) gs i g
goes_next = search (sum_by-cons, count_first)

goes_first : (ps : List Parameter) (k : ℕ) (name : Option Text) → goes_to ps (k + 0) name ≡ goes_to ps k name
goes_first = grind arith

-- an argument among these that goes to a place
record Goes (ps : List Parameter) (k : ℕ) (gs : List NamedGiven) (place : ℕ) (a : Given) : Type 0 where
  index : ℕ
  argument : NamedGiven
  is_at : slice_get gs index ≡ Some argument
  goes : goes_after ps k gs index argument ≡ place
  is : argument.value ≡ a

goes_later : (ps : List Parameter) (k : ℕ) (x : NamedGiven) (gs : List NamedGiven) (place : ℕ) (a : Given) → Goes ps (counted k x.name) gs place a → Goes ps k (x ∷ gs) place a
goes_later _ k x _ _ a h =
    record { index = suc h.index; argument = h.argument; is_at = h.is_at; goes = search goes_next; is = h.is }

given_goes : (ps : List Parameter) (k : ℕ) (gs : List NamedGiven) (place : ℕ) (a : Given) → given_at ps k gs place ≡ Some a → Goes ps k gs place a
given_goes _ k [] _ a h = cc
given_goes ps k (x ∷ gs) place a h =
    elim (nat_eq (goes_to ps k x.name) place) as (λ b. (nat_eq (goes_to ps k x.name) place ≡ b) → cond b (Some x.value) (given_at ps (counted k x.name) gs place) ≡ Some a → Goes ps k (x ∷ gs) place a) [
      | true ↦ λ e is. record { index = 0; argument = x; is_at = refl; goes = goes_first ps k x.name ∙ eqb-true _ _ e; is = some_is a x.value a is }
      | false ↦ λ e is. goes_later ps k x gs place a (given_goes ps (counted k x.name) gs place a is)
    ] refl h

none_goes : (ps : List Parameter) (k : ℕ) (gs : List NamedGiven) (place : ℕ) → given_at ps k gs place ≡ None → (i : ℕ) (g : NamedGiven) → slice_get gs i ≡ Some g → goes_after ps k gs i g ≡ place → ⊥
none_goes ps k [] place h i g = grind arith
none_goes ps k (x ∷ gs) place h zero g = grind (arith, eqb-false, goes_first, some_is)
none_goes ps k (x ∷ gs) place h (suc i) g = grind (arith, goes_next ps k x gs i g, none_goes ps (counted k x.name) gs place)

-- the walks over the arguments

abbrev EachTaken : List Parameter → ℕ → List NamedGiven → Type 0
EachTaken ps k gs = (i : ℕ) (g : NamedGiven) → slice_get gs i ≡ Some g → taken_by (slice_get ps (goes_after ps k gs i g)) g.value ≡ true

abbrev AllApart : List Parameter → ℕ → List NamedGiven → Type 0
AllApart ps k gs = (i j : ℕ) (g h : NamedGiven) → slice_get gs i ≡ Some g → slice_get gs j ≡ Some h → goes_after ps k gs i g ≡ goes_after ps k gs j h → i ≡ j

abbrev EachListed : List Parameter → ℕ → List NamedGiven → Type 0
EachListed ps k gs = (i : ℕ) (g : NamedGiven) → slice_get gs i ≡ Some g → listed_by (slice_get ps (goes_after ps k gs i g)) g.value ≡ true

fit_taken : (ps : List Parameter) (k : ℕ) (gs : List NamedGiven) → fit ps k gs ≡ true → EachTaken ps k gs
fit_taken ps k [] h i g = grind arith
fit_taken ps k (x ∷ gs) h zero g = grind (arith, goes_first, some_is, if_both)
fit_taken ps k (x ∷ gs) h (suc i) g = grind (arith, goes_next ps k x gs i g, if_both, fit_taken ps (counted k x.name) gs)

first_apart : (ps : List Parameter) (k : ℕ) (x : NamedGiven) (gs : List NamedGiven) → given_at ps (counted k x.name) gs (goes_to ps k x.name) ≡ None → (g : NamedGiven) → Some x ≡ Some g → (j : ℕ) (h : NamedGiven) → slice_get gs j ≡ Some h → goes_to ps (k + 0) g.name ≡ goes_after ps k (x ∷ gs) (suc j) h → ⊥
first_apart ps k x gs none g is j h = grind (arith, none_goes, goes_next ps k x gs j h, goes_first)

fit_apart : (ps : List Parameter) (k : ℕ) (gs : List NamedGiven) → fit ps k gs ≡ true → AllApart ps k gs
fit_apart ps k [] fitted i j g h = grind arith
fit_apart ps k (x ∷ gs) _ zero zero g h = grind arith
fit_apart ps k (x ∷ gs) fitted zero (suc j) g h = grind (arith, first_apart, if_both)
fit_apart ps k (x ∷ gs) fitted (suc i) zero g h = grind (arith, first_apart, if_both)
fit_apart ps k (x ∷ gs) fitted (suc i) (suc j) g h = grind (arith, goes_next ps k x gs i g, goes_next ps k x gs j h, if_both, fit_apart ps (counted k x.name) gs)

none_given : (ps : List Parameter) (k : ℕ) (x : NamedGiven) (gs : List NamedGiven) → AllApart ps k (x ∷ gs) → (o : Option Given) → given_at ps (counted k x.name) gs (goes_to ps k x.name) ≡ o → not (is_given o) ≡ true
none_given _ k x _ apart None _ = refl
none_given ps k x gs apart (Some a) is =
    let h = given_goes ps (counted k x.name) gs (goes_to ps k x.name) a is in
    let e = apart zero (suc h.index) x h.argument refl h.is_at (grind (arith, goes_first, goes_next)) in
    search

fit_from : (ps : List Parameter) (k : ℕ) (gs : List NamedGiven) → EachTaken ps k gs → AllApart ps k gs → fit ps k gs ≡ true
fit_from ps k [] taken apart = grind arith
fit_from ps k (x ∷ gs) taken apart =
    let rest = fit_from ps (counted k x.name) gs (λ i g is. grind (arith, goes_next ps k x gs i g, taken (suc i) g is)) (λ i j g h is later e. grind (arith, goes_next ps k x gs i g, goes_next ps k x gs j h, apart (suc i) (suc j) g h is later)) in
    grind (arith, goes_first, taken zero x, none_given, both_if)

listed_each : (ps : List Parameter) (k : ℕ) (gs : List NamedGiven) → are_listed ps k gs ≡ true → EachListed ps k gs
listed_each ps k [] h i g = grind arith
listed_each ps k (x ∷ gs) h zero g = grind (arith, goes_first, some_is)
listed_each ps k (x ∷ gs) h (suc i) g = grind (arith, goes_next ps k x gs i g, if_both, listed_each ps (counted k x.name) gs)

listed_from : (ps : List Parameter) (k : ℕ) (gs : List NamedGiven) → EachListed ps k gs → are_listed ps k gs ≡ true
listed_from ps k [] each = grind arith
listed_from ps k (x ∷ gs) each = grind (arith, goes_first, each zero x, goes_next ps k x gs, listed_from ps (counted k x.name) gs (λ i g is. grind (arith, goes_next ps k x gs i g, each (suc i) g is)))

-- the walks over the parameters

abbrev is_there : Bool → Parameter → Bool
is_there given p = if given then true else may_be_omitted p.omitted

abbrev EachThere : List Parameter → List NamedGiven → ℕ → List Parameter → Type 0
EachThere ps gs m rest = (j : ℕ) (p : Parameter) → slice_get rest j ≡ Some p → is_there (is_given (given_at ps 0 gs (m + j))) p ≡ true

there_at : (ps : List Parameter) (gs : List NamedGiven) (m n : ℕ) (p : Parameter) → m ≡ n → is_there (is_given (given_at ps 0 gs m)) p ≡ true → is_there (is_given (given_at ps 0 gs n)) p ≡ true
there_at _ _ m n p e h = cc

missing_each : (ps : List Parameter) (gs : List NamedGiven) (m : ℕ) (rest : List Parameter) → none_missing ps gs m rest ≡ true → EachThere ps gs m rest
missing_each ps gs m [] h j p = grind arith
missing_each ps gs m (x ∷ rest) h zero p = grind (arith, there_at, some_is, if_both)
missing_each ps gs m (x ∷ rest) h (suc j) p = grind (arith, there_at ps gs ((m + 1) + j) (m + suc j) p, missing_each ps gs (m + 1) rest)

missing_from : (ps : List Parameter) (gs : List NamedGiven) (m : ℕ) (rest : List Parameter) → EachThere ps gs m rest → none_missing ps gs m rest ≡ true
missing_from ps gs m [] each = grind arith
missing_from ps gs m (x ∷ rest) each = grind (arith, there_at, each zero x, missing_from ps gs (m + 1) rest (λ j p is. grind (arith, there_at, each (suc j) p is)))

arguments_at : (ps : List Parameter) (gs : List NamedGiven) (m : ℕ) (rest : List Parameter) (j : ℕ) (p : Parameter) → slice_get rest j ≡ Some p → slice_get (arguments_from ps gs m rest) j ≡ Some (argument_at ps gs (m + j))
arguments_at _ _ m [] j p is = cc
arguments_at _ _ m (x ∷ rest) zero p is = grind arith
arguments_at ps gs m (x ∷ rest) (suc j) p is = grind (arith, arguments_at ps gs (m + 1) rest)

arguments_count : (ps : List Parameter) (gs : List NamedGiven) (m : ℕ) (rest : List Parameter) → length (arguments_from ps gs m rest) ≡ length rest
arguments_count ps gs m [] = grind arith
arguments_count ps gs m (x ∷ rest) = grind (arith, arguments_count ps gs (m + 1) rest)

-- places

has_place : (ps : List Parameter) (gs : List NamedGiven) (i : ℕ) (g : NamedGiven) (place : ℕ) (p : Parameter) → slice_get gs i ≡ Some g → goes_after ps 0 gs i g ≡ place → slice_get ps place ≡ Some p → HasPlace ps gs i g place
has_place = grind (arith, lt-ltb, slice_get_within)

goes_of : (ps : List Parameter) (gs : List NamedGiven) (i : ℕ) (g : NamedGiven) (place : ℕ) → HasPlace ps gs i g place → goes_after ps 0 gs i g ≡ place
goes_of = grind (arith, some_is)

taken_at : (ps : List Parameter) (gs : List NamedGiven) (i : ℕ) (g : NamedGiven) → slice_get gs i ≡ Some g → (o : Option Parameter) → slice_get ps (goes_after ps 0 gs i g) ≡ o → taken_by o g.value ≡ true → IsTaken ps gs i g
taken_at = grind (arith, has_place)

-- a required parameter has an argument

argument_of : (ps : List Parameter) (gs : List NamedGiven) (place : ℕ) (p : Parameter) → slice_get ps place ≡ Some p → (a : Given) → given_at ps 0 gs place ≡ Some a → HasArgument ps gs place
argument_of ps gs place p found a is =
    let h = given_goes ps 0 gs place a is in
    grind (arith, has_place)

required_given : (ps : List Parameter) (gs : List NamedGiven) (place : ℕ) (p : Parameter) → slice_get ps place ≡ Some p → p.omitted ≡ omitted.Required → (o : Option Given) → given_at ps 0 gs place ≡ o → is_there (is_given o) p ≡ true → HasArgument ps gs place
required_given = grind (arith, argument_of)

-- the rule

taken_from : (ps : List Parameter) (gs : List NamedGiven) → fit ps 0 gs ≡ true → none_missing ps gs 0 ps ≡ true → AreTaken ps gs
taken_from ps gs fitted given =
    record {
      each = grind (arith, taken_at, fit_taken);
      apart = grind (arith, fit_apart, goes_of);
      complete = λ place p found needed. required_given ps gs place p found needed _ refl (there_at ps gs (0 + place) place p (omega arith) (missing_each ps gs 0 ps given place p found));
    }

fit_of : (ps : List Parameter) (gs : List NamedGiven) → AreTaken ps gs → fit ps 0 gs ≡ true
fit_of ps gs h =
    fit_from ps 0 gs (λ i g is. grind (arith, h.each i g is, goes_of ps gs i g))
    (λ i j g k is later e.
    let t = h.each i g is in
    h.apart i j t.place g k t.placed (has_place ps gs j k t.place t.parameter later (sym e ∙ (goes_of ps gs i g t.place t.placed)) t.found))

none_missing_of : (ps : List Parameter) (gs : List NamedGiven) → AreTaken ps gs → none_missing ps gs 0 ps ≡ true
none_missing_of ps gs h = missing_from ps gs 0 ps (λ j p found. grind (arith, there_at ps gs j (0 + j) p, none_goes, goes_of))

listed_found : (ps : List Parameter) (gs : List NamedGiven) → are_listed ps 0 gs ≡ true → AreListed ps gs
listed_found = grind (arith, goes_of, listed_each)

listed_at : (ps : List Parameter) (gs : List NamedGiven) → AreListed ps gs → (i : ℕ) (g : NamedGiven) → slice_get gs i ≡ Some g → (o : Option Parameter) → slice_get ps (goes_after ps 0 gs i g) ≡ o → listed_by o g.value ≡ true
listed_at = grind (arith, has_place)

-- the list that is bound

given_value : (ps : List Parameter) (gs : List NamedGiven) → AreTaken ps gs → (i place : ℕ) (g : NamedGiven) → HasPlace ps gs i g place → (o : Option Given) → given_at ps 0 gs place ≡ o → or_stand_in o (slice_get ps place) ≡ g.value
given_value ps gs h i place g placed None is = search (none_goes, goes_of)
given_value ps gs h i place g placed (Some a) is =
    let t = h.each i g placed.argument in
    let there = given_goes ps 0 gs place a is in
    grind (arith, goes_of, has_place ps gs there.index there.argument place t.parameter there.is_at there.goes, h.apart i there.index place g there.argument placed, some_is)

in_order : (ps : List Parameter) (gs : List NamedGiven) → AreTaken ps gs → AreInOrder ps gs (arguments_from ps gs 0 ps)
in_order ps gs h =
    record {
      as_many = arguments_count ps gs 0 ps;
      given = λ i place g placed. grind (arith, h.each i g placed.argument, goes_of, arguments_at ps gs 0 ps place, given_value ps gs h i place g placed);
      omitted = grind (arith, arguments_at, argument_of);
    }

abbrev outcome : List Parameter → List NamedGiven → Bool → Bool → Bool → Bound
outcome ps gs a b c = if a then (if b then (if c then bound (arguments_from ps gs 0 ps) else not_listed) else not_taken) else not_taken

by_cases : (ps : List Parameter) (gs : List NamedGiven) (a b c : Bool) → fit ps 0 gs ≡ a → none_missing ps gs 0 ps ≡ b → are_listed ps 0 gs ≡ c → IsBinding ps gs (outcome ps gs a b c)
by_cases _ _ true true true = search (taken_from, listed_found, in_order)
by_cases _ _ true true false = grind (arith, taken_from, listed_from, listed_at)
by_cases _ _ true false c = grind (arith, none_missing_of)
by_cases _ _ false b c = grind (arith, fit_of)

pub bound_by_rule : (ps : List Parameter) (gs : List NamedGiven) → IsBinding ps gs (bound_of ps gs)
bound_by_rule = search by_cases

-- what stands at each place

given_taken : (ps : List Parameter) (gs : List NamedGiven) (place : ℕ) (p : Parameter) (a : Given) → fit ps 0 gs ≡ true → slice_get ps place ≡ Some p → given_at ps 0 gs place ≡ Some a → takes p a ≡ true
given_taken ps gs place p a fitted is given =
    let h = given_goes ps 0 gs place a given in
    sym (search)
    ∙ fit_taken ps 0 gs fitted h.index h.argument h.is_at

pub filled : (ps : List Parameter) (gs : List NamedGiven) → fit ps 0 gs ≡ true → none_missing ps gs 0 ps ≡ true → (place : ℕ) (p : Parameter) → slice_get ps place ≡ Some p → Fills p (argument_at ps gs place)
filled ps gs fitted there place p is = go (given_at ps 0 gs place) refl
  where
    go : (o : Option Given) → given_at ps 0 gs place ≡ o → Fills p (or_stand_in o (slice_get ps place))
    go (Some a) given = grind (arith, given_taken)
    go None given =
        let here = there_at ps gs (0 + place) place p (omega arith) (missing_each ps gs 0 ps there place p is) in
        grind arith
