-- What changes of names, objects and texts do to the state, and the names of objects.
use Rattle.{
  frame_calls.proofs.frame_parts.Common.{arith, ◌≡◌, nat_eq, Option, Some, ◌↔◌, ℕ, zero, suc, Bool, true, false, List, [], ◌∷◌, None, IsSome, refl, sym, ◌∙◌, subst, string_bytes, slice_get, if◌then◌else◌, Result, Ok, IfOk, String, string_eq, IsDistinct, keys_of, Text, FaultValue, Value, Object, Scalar, ObjId, OpFault, World, entry_in, IsSettledWorld, Keeps, IsKnownValue, objects_of, FormsFor, Tables, Entry},
  std.{proofs.lemmas.Map.Entries.{lookup_from_place}, specs.String.{string_eq_equiv}},
  meaning_laws.specs.script.{State.{State, without_name}, Statement.{with_value}},
  script_state.{specs.{Bindings.{Bindings, bound, unbound, value_at, state_over, AreLive, AreGiven, KeepNamed, IsOf, bindings_of, is_named, is_object, AreNamed}, Work.{names_in, world_of, state_in}, declared.work.Work.{Work}}, proofs.{Bindings.{nat_same, nat_eq_self, names-bound, value_at-bound, names-unbound, value_at-unbound, named_object, some_none, value_at-bindings_of}, Worlds.{object_known, some_shown, none_shown}}},
}

-- two states that answer alike are one
pub same_state : (s t : State) → s.names ≡ t.names → ((n : Text) → s.value n ≡ t.value n) → ((a b : Text) → s.paired a b ≡ t.paired a b) → s ≡ t
same_state = grind arith

-- what a name stands for is known
pub named_known : (bs : Bindings) (w : World) (n : Text) (v : Value) → AreLive bs w.tables → AreGiven bs w.texts → IsSettledWorld w → value_at bs n ≡ Some v → IsKnownValue w v
named_known _ w n (Object id) = search object_known
named_known _ w n (Scalar c) = search

-- after what keeps live objects the state is the same
pub state_kept : (s w : Work) → names_in w ≡ names_in s → Keeps (world_of s) (world_of w) → state_in w ≡ state_in s
state_kept = grind (arith, same_state, named_known)

-- and after a sweep
pub state_swept : (bs bs' : Bindings) (old new : World) → bs' ≡ bs → new.texts ≡ old.texts → KeepNamed bs old.tables new.tables → state_over bs' new ≡ state_over bs old
state_swept = grind (arith, same_state, named_object)

-- a name that gets the value of an expression
pub bind_state : (bs : Bindings) (x : Text) (o : Option Text) (v : Value) (w : World) → IsOf bs o v → state_over (bound bs x v) w ≡ with_value (state_over bs w) x o (entry_in w v)
bind_state = grind (arith, value_at-bound, nat_eq_self, same_state, names-bound, nat_eq, named_object, nat_same)

-- a name that is taken out
pub state_unbound : {Y : Type 0} (es : List (String Y × Value)) → IsDistinct string_eq (keys_of es) → (x : Text) (w : World) → state_over (unbound (bindings_of es) x) w ≡ without_name (state_over (bindings_of es) w) x
state_unbound es distinct x w = grind (arith, same_state, names-unbound es distinct x, value_at-unbound es distinct x)

-- A name stands for each object that is named.
-- an entry of an object that is named
place_of_named : {Y : Type 0} (es : List (String Y × Value)) (id : ObjId) → is_named (bindings_of es) id.0 ≡ true → (i : ℕ) × (k : String Y) × (slice_get es i ≡ Some (k, Object id))
place_of_named [] _ e = Prim.cc
place_of_named {Y} (e ∷ es) id named = go (place_of_named es id) _ refl named
  where
    go : (is_named (bindings_of es) id.0 ≡ true → (i : ℕ) × (k : String Y) × (slice_get es i ≡ Some (k, Object id))) → (c : Bool) → is_object e.1 id.0 ≡ c → (if c then true else is_named (bindings_of es) id.0) ≡ true
        → (i : ℕ) × (k : String Y) × (slice_get (e ∷ es) i ≡ Some (k, Object id))
    go among true is named = (zero, e.0, grind (arith, nat_same))
    go among false _ named = let p = among named in (suc p.0, p.1, p.2)

module _ {Y : Type 0} (es : List (String Y × Value)) (unique : IsDistinct string_eq (keys_of es)) where
  pub name_of_named : (id : ObjId) → is_named (bindings_of es) id.0 ≡ true → (n : Text) × (value_at (bindings_of es) n ≡ Some (Object id))
  name_of_named id named =
      let p = place_of_named es id named in
      (string_bytes p.1, value_at-bindings_of es _ ∙ lookup_from_place string_eq_equiv es p.0 p.1 _ unique p.2)

  pub live_are_named : (w : World) → AreLive (bindings_of es) w.tables → AreNamed (bindings_of es) w.tables → (id : ObjId) → IsSome (objects_of w id.0) ↔ ((n : Text) × (value_at (bindings_of es) n ≡ Some (Object id)))
  live_are_named = grind (arith, name_of_named, some_shown)

  pub named_live : (tables : Tables) → AreLive (bindings_of es) tables → (id : ℕ) → is_named (bindings_of es) id ≡ true → IsSome (tables id)
  named_live _ live id named = let p = name_of_named _ named in live p.0 (record { 0 = id }) p.1

  -- no name stands for an object that isn't live
  unnamed : (tables : Tables) → AreLive (bindings_of es) tables → (id : ObjId) → tables id.0 ≡ None → is_named (bindings_of es) id.0 ≡ false
  unnamed _ live id none = go _ refl
    where
      go : (b : Bool) → is_named (bindings_of es) id.0 ≡ b → b ≡ false
      go true named = let p = name_of_named id named in some_none _ (live p.0 id p.1) none
      go false _ = refl

  -- and so for none that a form makes
  pub form_unnamed : (bs : Bindings) (charge : Entry → ℕ) (r : Result Value OpFault) (meant : Result Entry FaultValue) (old new : World) → bs ≡ bindings_of es → AreLive (bindings_of es) old.tables → FormsFor charge r meant old new → IfOk r (λ v. IsOf bs None v)
  form_unnamed _ charge r meant old new same live answers = subst (λ b. IfOk r (λ v. IsOf b None v)) (sym same) (go r answers)
    where
      go : (r : Result Value OpFault) → FormsFor charge r meant old new → IfOk r (λ v. IsOf (bindings_of es) None v)
      go (Ok (Object id)) answers = search (unnamed, none_shown)
      go _ _ = tt
