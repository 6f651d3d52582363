-- Arguments that are bound are valid where those of the call are, and have the form of their parameter.
use Rattle.{
  meaning_script.{proofs.cells.Common.{arith, ◌≡◌, refl, ℕ, List, [], ◌∷◌, eqb-true, All-head, All-tail, same_Some, Bool, true, false, slice_get, nat_eq, Option, Some, IfSome, Result, All, if◌then◌else◌, Shape, Frame, FaultValue}, specs.{tables.{Valid.{IsValid}, Value.{Entry, Given, GivenList, NamedGiven, more_given, object_in}}, call.{declared.Parameter.{Parameter}, Binding.{is_frame, takes, or_stand_in, goes_to, counted, given_at, taken_by, fit, argument_at, arguments_from, bound_of, on_bound}}, method.Concat.{tables_of}}},
  meaning_laws.{specs.Validity.{IsValidArgument, AreValidArguments}, proofs.Words.{Keeps, IsFrame}},
}
use Rattle.meaning_script.specs.call.declared.Accepted.TheVariants as accepted

-- an argument that goes to a place
given_valid : (ps : List Parameter) (k : ℕ) (gs : List NamedGiven) (place : ℕ) → AreValidArguments gs → IfSome (given_at ps k gs place) IsValidArgument
given_valid ps k [] place h = tt
given_valid ps k (g ∷ gs) place h =
    let here = All-head (λ g. IsValidArgument g.value) g gs h in
    grind (arith, given_valid ps (counted k g.name) gs place (All-tail (λ g. IsValidArgument g.value) g gs h))

or_valid : (o : Option Given) (p : Option Parameter) → IfSome o IsValidArgument → IsValidArgument (or_stand_in o p)
or_valid = grind arith

module _ (ps : List Parameter) (gs : List NamedGiven) where
  pub argument_valid : (place : ℕ) → AreValidArguments gs → IsValidArgument (argument_at ps gs place)
  argument_valid = search (or_valid, given_valid)

  -- where arguments are bound each was taken
  pub bound_taken : (go : List Given → Result Entry FaultValue) → (fit ps 0 gs ≡ true → Keeps (go (arguments_from ps gs 0 ps))) → Keeps (on_bound (bound_of ps gs) go)
  bound_taken = grind arith

if_both : (a b : Bool) → (if a then b else false) ≡ true → (a ≡ true) × (b ≡ true)
if_both = grind arith

given_taken : (ps : List Parameter) (k : ℕ) (gs : List NamedGiven) (place : ℕ) (a : Given) → fit ps k gs ≡ true → given_at ps k gs place ≡ Some a → taken_by (slice_get ps place) a ≡ true
given_taken ps k [] place a fitted is = cc
given_taken ps k (g ∷ gs) place a fitted is =
    let both = if_both _ _ fitted in
    by _ refl is (if_both (taken_by (slice_get ps (goes_to ps k g.name)) g.value) _ both.0).0 (given_taken ps (counted k g.name) gs _ a both.1)
  where
    by : (b : Bool) → nat_eq (goes_to ps k g.name) place ≡ b → (if b then Some g.value else given_at ps (counted k g.name) gs place) ≡ Some a → taken_by (slice_get ps (goes_to ps k g.name)) g.value ≡ true
        → (given_at ps (counted k g.name) gs place ≡ Some a → taken_by (slice_get ps place) a ≡ true) → taken_by (slice_get ps place) a ≡ true
    by true e same here later = grind (arith, eqb-true, same_Some)
    by false e same here later = later same

-- a parameter for frames takes no Series
frame_is : (s : Shape) → is_frame s ≡ true → s ≡ Frame
frame_is = grind arith

frame_taken : (p : Parameter) (a : Given) → p.accepted ≡ accepted.Frame → takes p a ≡ true → IfSome (object_in a) (λ t. IsFrame t)
frame_taken = grind arith

-- an object at the place of such a parameter is a frame
pub frame_at : (ps : List Parameter) (gs : List NamedGiven) (place : ℕ) (p : Parameter) → slice_get ps place ≡ Some p → p.accepted ≡ accepted.Frame → fit ps 0 gs ≡ true → IfSome (object_in (argument_at ps gs place)) (λ t. IsFrame t)
frame_at ps gs place p there is fitted =
    let taken : (a : Given) → given_at ps 0 gs place ≡ Some a → IfSome (object_in a) (λ t. IsFrame t) = λ a e. frame_taken p a is (cc (given_taken ps 0 gs place a fitted e)) in
    grind arith

-- the object that an argument is
pub object_valid : (a : Given) → IsValidArgument a → IfSome (object_in a) IsValid
object_valid = grind arith

-- a list with one part more
pub more_valid : (a : Given) (rest : GivenList) → IsValidArgument a → All IsValid (tables_of rest) → All IsValid (tables_of (more_given a rest))
more_valid = grind arith
