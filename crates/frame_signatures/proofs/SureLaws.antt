-- What always stands at a place.
use mathlib.Core.Bool.{Bool-set}
use Rattle.{
  frame_store.{proofs.cells.Common.{ℕ, List, rules, arith, ◌≡◌, Bool, true, false, not, ◌&&◌, ◌||◌, ⊎_elim, Option, Some, None, if◌then◌else◌, IsSome, Text}, specs.{Objects.{Tables}, tables.Value.{Given, nothing, scalar_in, object_in, list_in, dict_in}}},
  std.{proofs.Math.Logic.{∥∥₁_elim}, specs.Option.{option_map}},
  frame_signatures.specs.{Bound.{accepted_at, stands_at}, declared.bound.Bound.{Bound}, Filled.{Fills, is_sure, sure_accepted}},
  meaning_call.specs.{declared.{Accepted.{Accepted}, Parameter.{Parameter}}, Binding.{takes, stands_for, may_be_omitted, whole_in, truth_in, text_in}},
}
use Rattle.meaning_call.specs.declared.Accepted.TheVariants as accepted

first_of : (a b : Bool) → (not a && b) ≡ true → a ≡ false
first_of = grind arith

-- a parameter of the form takes it, and doesn't take None
record IsTaken (f : Accepted) (g : Given) : Type 0 where
  parameter : Parameter
  taken : takes (record parameter { accepted = f }) g ≡ true
  refused : takes (record parameter { accepted = f }) nothing ≡ false

-- the form where there is one
accepted_is : (p : Parameter) (f : Accepted) (sure : Bool) → (if sure then Some p.accepted else None) ≡ Some f → (sure ≡ true) × (p.accepted ≡ f)
accepted_is = grind arith

sure_at : (o : Option Parameter) (f : Accepted) (g : Given) → sure_accepted o ≡ Some f → ((p : Parameter) → o ≡ Some p → Fills p g) → IsTaken f g
sure_at None f g is fills = cc
sure_at (Some p) f g is fills =
    let h = accepted_is p f (is_sure p) is in
    record {
      parameter = p;
      taken = grind (arith, ⊎_elim);
      refused = cc (h.1, first_of (takes p nothing) (not (may_be_omitted p.omitted) || takes p (stands_for p.omitted)) h.0);
    }

abbrev of_accepted : Parameter → Accepted → Parameter
of_accepted p f = record p { accepted = f }

frame_taken : (p : Parameter) (g : Given) → takes (of_accepted p accepted.Frame) g ≡ true → takes (of_accepted p accepted.Frame) nothing ≡ false → IsSome (object_in g)
frame_taken = grind arith

-- what is read where a form always stands
abbrev Sure : Accepted → {A : Type 0} → (Given → Option A) → Type 0
Sure f read = (o : Option Parameter) (g : Given) → sure_accepted o ≡ Some f → ((p : Parameter) → o ≡ Some p → Fills p g) → IsSome (read g)

pub scalar_sure : Sure accepted.Scalar scalar_in
scalar_sure = grind (arith, sure_at)

pub whole_sure : Sure accepted.Whole whole_in
whole_sure = grind (rules, sure_at, arith)

pub truth_sure : Sure accepted.Truth truth_in
truth_sure = search (rules, sure_at)

pub text_sure : Sure accepted.Text text_in
text_sure = search (rules, sure_at)

pub frame_sure : Sure accepted.Frame object_in
frame_sure = grind (arith, sure_at, frame_taken)

pub list_sure : Sure accepted.Scalars list_in
list_sure = grind (arith, sure_at)

pub objects_sure : Sure accepted.Objects list_in
objects_sure = grind (arith, sure_at)

pub dict_sure : Sure accepted.Dict dict_in
dict_sure = grind (arith, sure_at)

-- there is what is told, where there is what is read
pub told_there : {A B : Type 0} (f : A → B) (o : Option A) (read : Option B) → option_map f o ≡ read → IsSome read → IsSome o
told_there = grind arith

-- what a test says is so, where what always stands at the place says it
pub sure_told : {B : Type 0} {f : Accepted} (read : Given → Option B) → Sure f read → (b : Bound) (place : ℕ) (test : Bool) → accepted_at b place ≡ Some f
    → ((live : Tables) (texts : List Text) → IsSome (read (stands_at live texts b place)) → test ≡ true) → test ≡ true
sure_told _ sure b place test at told = ∥∥₁_elim b.filled (Bool-set _ _) (λ d. told d.live d.texts (sure _ _ at (d.filled place)))
