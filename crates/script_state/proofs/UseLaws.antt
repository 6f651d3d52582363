-- How many names stand for an object, as names get values and lose them.
use Rattle.{
  frame_calls.proofs.frame_parts.Common.{rules, suc, ◌≡◌, ◌<◌, ℕ, Bool, true, [], ◌∷◌, Option, Some, refl, arith, nat_tests, if◌then◌else◌, cond, nat_lt, Text, ObjId, Value, Object},
  script_state.{specs.{Bindings.{Bindings, bound, unbound, value_at, is_named, uses_of}, Uses.{or_none, with_one, with_left, CanTake}}, proofs.Bindings.{named_object}},
}

-- counts in another order
bools_swap : (p q : Bool) (n : ℕ) → (if p then suc (if q then suc n else n) else (if q then suc n else n)) ≡ (if q then suc (if p then suc n else n) else (if p then suc n else n))
bools_swap = grind arith

-- a name that gets a value, and one that is taken out
uses-bound : (bs : Bindings) (x : Text) (v : Value) (id : ℕ) → with_left (value_at bs x) id (uses_of (bound bs x v) id) ≡ with_one v id (uses_of bs id)
uses-bound [] x v _ = refl
uses-bound (b ∷ bs) x v id = search (rules, bools_swap, uses-bound bs x v id)

uses-unbound : (bs : Bindings) (x : Text) (id : ℕ) → with_left (value_at bs x) id (uses_of (unbound bs x) id) ≡ uses_of bs id
uses-unbound [] x _ = refl
uses-unbound (b ∷ bs) x id = grind (arith, uses-unbound bs x id)

pub named_uses : (bs : Bindings) (id : ℕ) → nat_lt 0 (uses_of bs id) ≡ is_named bs id
named_uses [] _ = refl
named_uses (b ∷ bs) id = grind (arith, nat_tests, named_uses bs id)

pub object_counts : (bs : Bindings) (x : Text) (id : ObjId) → value_at bs x ≡ Some (Object id) → 0 < uses_of bs id.0
object_counts bs x id is = grind (arith, nat_tests, named_uses bs id.0, named_object bs x id is)

-- the counts after a name gets a value, and after it is taken out
module _ (bs : Bindings) (x : Text) (old : ObjId → ℕ) (counted : (id : ObjId) → old id ≡ uses_of bs id.0) where
  pub takes_unbound : (l : Option Value) → l ≡ value_at bs x → CanTake l old
  takes_unbound = grind (arith, object_counts)

  pub counted_unbound : (l : Option Value) → l ≡ value_at bs x → (new : ObjId → ℕ) → ((id : ObjId) → with_left l id.0 (new id) ≡ old id) → (id : ObjId) → new id ≡ uses_of (unbound bs x) id.0
  counted_unbound l is new taken id = grind (arith, uses-unbound bs x id.0, taken id, counted id)

  module _ (v : Value) (mid : ObjId → ℕ) (added : (id : ObjId) → mid id ≡ with_one v id.0 (old id)) where
    pub takes_bound : (l : Option Value) → l ≡ value_at bs x → CanTake l mid
    takes_bound = grind (arith, object_counts)

    pub counted_bound : (l : Option Value) → l ≡ value_at bs x → (new : ObjId → ℕ) → ((id : ObjId) → with_left l id.0 (new id) ≡ mid id) → (id : ObjId) → new id ≡ uses_of (bound bs x v) id.0
    counted_bound l is new taken id = grind (arith, uses-bound bs x v id.0, taken id, added id, counted id)

-- what a count that is put makes of the others
pub same_after : (b : Bool) (n : ℕ) (o : Option ℕ) → (b ≡ true → n ≡ or_none o) → or_none (cond b (Some n) o) ≡ or_none o
same_after = grind arith
