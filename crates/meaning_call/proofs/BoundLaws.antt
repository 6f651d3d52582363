-- What stands at a place of bound arguments is taken by its parameter.
use Rattle.{
  meaning_form.{proofs.cells.Common.{arith, ◌≡◌, ◌∙◌, refl, ap, sym, ℕ, Bool, true, false, cond, List, [], ◌∷◌, Option, Some, None, if◌then◌else◌, eqb-true, slice_get, nat_eq}, specs.tables.Value.{Given, GivenList, NamedGiven, many, list_in}},
  meaning_call.specs.{declared.{Omitted.{Omitted}, Parameter.{Parameter}}, Binding.{takes, list_has, stands_for, or_stand_in, goes_to, counted, given_at, taken_by, fit, argument_at, arguments_from, not_taken, not_listed, bound, bound_of}},
}
use Rattle.meaning_call.specs.declared.Omitted.TheVariants as omitted

if_both : (a b : Bool) → (if a then b else false) ≡ true → (a ≡ true) × (b ≡ true)
if_both true b h = (refl, h)
if_both false b h = cc

some_is : {X : Type 0} (x y : X) → Some x ≡ Some y → x ≡ y
some_is x y h = cc

given_taken : (ps : List Parameter) (k : ℕ) (gs : List NamedGiven) (place : ℕ) (a : Given) → fit ps k gs ≡ true → given_at ps k gs place ≡ Some a → taken_by (slice_get ps place) a ≡ true
given_taken _ k [] _ a fitted is = cc
given_taken ps k (x ∷ gs) place a fitted is =
    elim (nat_eq (goes_to ps k x.name) place) as (λ b. (nat_eq (goes_to ps k x.name) place ≡ b) → cond b (Some x.value) (given_at ps (counted k x.name) gs place) ≡ Some a → taken_by (slice_get ps place) a ≡ true) [
      | true ↦ grind (arith, eqb-true, some_is, if_both)
      | false ↦ λ e same. given_taken ps (counted k x.name) gs place a (if_both _ _ fitted).1 same
    ] refl is

fitted : (a b c : Bool) (r l : List Given) → (if a then (if b then (if c then bound r else not_listed) else not_taken) else not_taken) ≡ bound l → a ≡ true
fitted true b c r l _ = refl
fitted false b c r l is = cc

no_default : (o : Omitted) (parts : GivenList) → list_in (stands_for o) ≡ Some parts → ⊥
no_default omitted.Required _ is = cc
no_default omitted.None _ is = cc
no_default (omitted.Number z) _ is = cc
no_default (omitted.Truth b) _ is = cc
no_default (omitted.Text t) _ is = cc

taken_list : (p : Parameter) (a : Given) (parts : GivenList) → takes p a ≡ true → list_in a ≡ Some parts → list_has p.accepted parts ≡ true
taken_list p (many parts') _ taken is = search some_is
taken_list p _ _ taken is = cc

list_of : (p : Parameter) (o : Option Given) (parts : GivenList) → ((a : Given) → o ≡ Some a → takes p a ≡ true) → list_in (or_stand_in o (Some p)) ≡ Some parts → list_has p.accepted parts ≡ true
list_of p None _ taken is = search no_default
list_of p (Some a) _ taken is = search taken_list

-- a list at a place has the form of the parameter there
pub list_taken : (ps : List Parameter) (gs : List NamedGiven) (place : ℕ) (p : Parameter) (l : List Given) (parts : GivenList) → bound_of ps gs ≡ bound l → slice_get ps place ≡ Some p → list_in (argument_at ps gs place) ≡ Some parts
    → list_has p.accepted parts ≡ true
list_taken ps gs place p l parts same there is =
    list_of p (given_at ps 0 gs place) parts
    (λ a given. ap (λ o. taken_by o a) (sym there) ∙ given_taken ps 0 gs place a (search fitted) given)
    (cc)

bound_is : (a b c : Bool) (r l : List Given) → (if a then (if b then (if c then bound r else not_listed) else not_taken) else not_taken) ≡ bound l → l ≡ r
bound_is true true true r l is = cc
bound_is true true false r l is = cc
bound_is true false c r l is = cc
bound_is false b c r l is = cc

-- the arguments that are bound, in the order of the signature
pub bound_list : (ps : List Parameter) (gs : List NamedGiven) (l : List Given) → bound_of ps gs ≡ bound l → l ≡ arguments_from ps gs 0 ps
bound_list = search bound_is
