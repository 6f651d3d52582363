-- Names that get values and lose them, and the objects that they stand for.
use Rattle.{
  frame_calls.proofs.frame_parts.Common.{rules, ◌≡◌, ℕ, Bool, true, false, nat_eq, Option, None, arith, IsSome, List, [], ◌∷◌, map, Some, refl, string_bytes, ◌++◌, not, filter, sym, ◌∙◌, ap, nat_tests, if◌then◌else◌, String, string_eq, lookup, keys_of, AllByRecursion, Text, datum, ObjId, Value, Object, Scalar, Tables, with_object, shown, World, IsKnownValue, IsSettled, NumberedTable, table_value},
  std.specs.List.{IsDistinct},
  meaning_laws.{proofs.cells.Common.{option_map, same_text}, specs.script.State.{with_name}},
  indexmap.specs.IndexMap.{insert_entry, shift_remove_entry},
  script_state.specs.Bindings.{Bindings, bindings_of, bound, unbound, value_at, is_named, contains, AreNoted, AreNamed, KeepNamed, is_object, released, noted_old, AreLive, AreGiven},
}

pub nat_same : (a b : ℕ) → nat_eq a b ≡ true → a ≡ b
nat_same = grind (arith, nat_tests)

pub nat_eq_self : (n : ℕ) → nat_eq n n ≡ true
nat_eq_self = grind (arith, nat_tests)

pub true_false : {P : Type 0} (b : Bool) → b ≡ true → b ≡ false → P
true_false = grind arith

pub some_none : {X P : Type 0} (o : Option X) → IsSome o → o ≡ None → P
some_none = grind arith

-- a text that is the same as one is like it to every other
pub same_congr : (a b c : Text) → same_text a b ≡ true → same_text a c ≡ same_text b c
same_congr = search rules

pub same_sym : (a b : Text) → same_text a b ≡ same_text b a
same_sym = search rules

-- Names that get values and lose them.
pub bindings_of-insert_entry : {Y : Type 0} (es : List (String Y × Value)) (k : String Y) (v : Value) → bindings_of (insert_entry string_eq es k v) ≡ bound (bindings_of es) (string_bytes k) v
bindings_of-insert_entry [] k v = refl
bindings_of-insert_entry (e ∷ es) k v = grind (arith, string_bytes, bindings_of-insert_entry es k v)

pub bindings_of-remove_entry : {Y : Type 0} (es : List (String Y × Value)) (x : Text) → bindings_of (shift_remove_entry (λ k. same_text x (string_bytes k)) es) ≡ unbound (bindings_of es) x
bindings_of-remove_entry [] x = refl
bindings_of-remove_entry (e ∷ es) x = grind (arith, string_bytes, bindings_of-remove_entry es x)

pub value_at-bindings_of : {Y : Type 0} (es : List (String Y × Value)) (n : Text) → value_at (bindings_of es) n ≡ lookup (λ k. same_text n (string_bytes k)) es
value_at-bindings_of [] n = refl
value_at-bindings_of (e ∷ es) n = cc (value_at-bindings_of es n)

-- a map's clauses on its entries, as they stand for names
module _ {Y : Type 0} (es : List (String Y × Value)) (key : String Y) (x : Text) (named : string_bytes key ≡ x) where
  pub bound_entries : (es' : List (String Y × Value)) (v : Value) → es' ≡ insert_entry string_eq es key v → bindings_of es' ≡ bound (bindings_of es) x v
  bound_entries = grind (arith, bindings_of-insert_entry)

  pub left_entry : (left : Option Value) → left ≡ lookup (string_eq key) es → left ≡ value_at (bindings_of es) x
  left_entry = grind (arith, value_at-bindings_of, string_bytes)

pub names-bound : (bs : Bindings) (x : Text) (v : Value) → map (λ b. b.0) (bound bs x v) ≡ with_name (map (λ b. b.0) bs) x
names-bound [] x v = refl
names-bound (b ∷ bs) x v = grind (arith, names-bound bs x v)

-- the name has the value, and the others have their own
pub value_at-bound : (bs : Bindings) (x : Text) (v : Value) (m : Text) → value_at (bound bs x v) m ≡ (if same_text x m then Some v else value_at bs m)
value_at-bound [] x v m = search same_sym
value_at-bound (b ∷ bs) x v m = grind (arith, same_congr, same_sym, value_at-bound bs x v m)

-- a name stands for its object
pub named_object : (bs : Bindings) (n : Text) (id : ObjId) → value_at bs n ≡ Some (Object id) → is_named bs id.0 ≡ true
named_object [] n _ e = Prim.cc
named_object (b ∷ bs) n id e = grind (arith, named_object bs n id)

-- Objects that are made, kept and ended.
pub contains_last : (ts : List ObjId) (o : ObjId) (id : ℕ) → nat_eq o.0 id ≡ true → contains (ts ++ o ∷ []) id ≡ true
contains_last [] o _ e = cc
contains_last (t ∷ ts) o id e = grind (arith, contains_last ts o id e)

pub contains_more : (ts : List ObjId) (o : ObjId) (id : ℕ) → contains ts id ≡ true → contains (ts ++ o ∷ []) id ≡ true
contains_more [] o _ e = Prim.cc
contains_more (t ∷ ts) o id e = grind (arith, contains_more ts o id)

contains_but_last : (ts : List ObjId) (o : ObjId) (id : ℕ) → nat_eq o.0 id ≡ false → contains (ts ++ o ∷ []) id ≡ true → contains ts id ≡ true
contains_but_last [] o _ no_ e = Prim.cc
contains_but_last (t ∷ ts) o id no_ e = grind (arith, contains_but_last ts o id no_)

-- a noted object that a name stands for needs no note
pub noted_named : (bs : Bindings) (ts : List ObjId) (o : ObjId) (tables : Tables) → AreNoted bs (ts ++ o ∷ []) tables → is_named bs o.0 ≡ true → AreNoted bs ts tables
noted_named = grind (arith, nat_eq, nat_same, contains_but_last)

-- and one that no name stands for is ended
pub noted_ended : (bs : Bindings) (ts : List ObjId) (o : ObjId) (old new : Tables) → AreNoted bs (ts ++ o ∷ []) old → new ≡ with_object old o.0 None → AreNoted bs ts new
noted_ended = grind (arith, nat_eq, contains_but_last)

pub kept_ended : (bs : Bindings) (o : ObjId) (first old new : Tables) → KeepNamed bs first old → is_named bs o.0 ≡ false → new ≡ with_object old o.0 None → KeepNamed bs first new
kept_ended = grind (arith, nat_eq, nat_same)

pub ended_was : (id : ℕ) (old new : Tables) → new ≡ with_object old id None → (k : ℕ) → IsSome (new k) → IsSome (old k)
ended_was = grind (arith, nat_eq)

pub named_when_none_noted : (bs : Bindings) (tables : Tables) → AreNoted bs [] tables → AreNamed bs tables
named_when_none_noted = grind arith

-- What stands after a name got a value or left it.
pub bound_given : (bs : Bindings) (x : Text) (v : Value) (w : World) → IsKnownValue w v → AreGiven bs w.texts → AreGiven (bound bs x v) w.texts
bound_given bs x v w known given n c is = go _ (sym (value_at-bound bs x v n) ∙ is)
  where
    scalar : (v : Value) → IsKnownValue w v → ◌≡◌ (Some v) (Some (Scalar c)) → IsSettled datum w.texts c
    scalar (Object o) k e = Prim.cc
    scalar (Scalar d) k e = grind arith

    go : (b : Bool) → (if b then Some v else value_at bs n) ≡ Some (Scalar c) → IsSettled datum w.texts c
    go true e = scalar v known e
    go false e = given n c e

abbrev left_object : Option Value → ℕ → Bool
left_object None id = false
left_object (Some v) id = is_object v id

-- an object that was named is named, or is the one that the name left
named_or_left : (bs : Bindings) (x : Text) (v : Value) (id : ℕ) → is_named bs id ≡ true → (if is_named (bound bs x v) id then true else left_object (value_at bs x) id) ≡ true
named_or_left [] x v _ e = Prim.cc
named_or_left (b ∷ bs) x v id e = grind (arith, named_or_left bs x v id)

unbound_or_left : (bs : Bindings) (x : Text) (id : ℕ) → is_named bs id ≡ true → (if is_named (unbound bs x) id then true else left_object (value_at bs x) id) ≡ true
unbound_or_left [] x _ e = Prim.cc
unbound_or_left (b ∷ bs) x id e = grind (arith, unbound_or_left bs x id)

noted_left : (ts : List ObjId) (left : Option Value) (id : ℕ) → left_object left id ≡ true → contains (noted_old ts left) id ≡ true
noted_left = grind (arith, contains_last)

noted_more : (ts : List ObjId) (left : Option Value) (id : ℕ) → contains ts id ≡ true → contains (noted_old ts left) id ≡ true
noted_more = grind (arith, contains_more)

pub bound_noted : (bs bs' : Bindings) (ts ts' ts'' : List ObjId) (x : Text) (v : Value) (left : Option Value) (tables : Tables) → bs' ≡ bound bs x v → left ≡ value_at bs x → ts' ≡ ts → ts'' ≡ noted_old ts' left → AreNoted bs ts tables → AreNoted bs' ts'' tables
bound_noted = grind (arith, noted_left, named_or_left, noted_more)

pub bound_is : (bs bs' : Bindings) (x : Text) (v : Value) (w : World) → bs' ≡ bound bs x v → IsKnownValue w v → AreLive bs w.tables → AreLive bs' w.tables
bound_is = grind (arith, value_at-bound)

pub given_is : (bs bs' : Bindings) (x : Text) (v : Value) (w : World) → bs' ≡ bound bs x v → IsKnownValue w v → AreGiven bs w.texts → AreGiven bs' w.texts
given_is = grind (arith, bound_given)

-- a name that isn't among others that differ
absent : {Y : Type 0} (es : List (String Y × Value)) (k : String Y) (m : Text) → AllByRecursion (λ y. string_eq k y ≡ false) (keys_of es) → same_text m (string_bytes k) ≡ true → value_at (bindings_of es) m ≡ None
absent [] k m _ _ = refl
absent (e ∷ es) k m all same = grind (arith, string_bytes, same_congr, absent es k m all.1 same)

module _ {Y : Type 0} where
  -- the name has no value, and the others have their own
  pub value_at-unbound : (es : List (String Y × Value)) → IsDistinct string_eq (keys_of es) → (x m : Text) → value_at (unbound (bindings_of es) x) m ≡ (if same_text x m then None else value_at (bindings_of es) m)
  unfolding IsDistinct
  value_at-unbound [] distinct x m = grind arith
  value_at-unbound (e ∷ es) distinct x m = grind (arith, string_bytes, absent, same_congr, same_sym, value_at-unbound es distinct.1 x m)

  -- names that differ from one stay
  stays : (es : List (String Y × Value)) (k : String Y) (x : Text) → AllByRecursion (λ y. string_eq k y ≡ false) (keys_of es) → same_text x (string_bytes k) ≡ true → filter (λ n. not (same_text x n)) (map (λ b. b.0) (bindings_of es)) ≡ map (λ b. b.0) (bindings_of es)
  stays [] k x _ _ = refl
  stays (e ∷ es) k x all same = grind (arith, string_bytes, same_congr, stays es k x all.1 same)

  pub names-unbound : (es : List (String Y × Value)) → IsDistinct string_eq (keys_of es) → (x : Text) → map (λ b. b.0) (unbound (bindings_of es) x) ≡ filter (λ n. not (same_text x n)) (map (λ b. b.0) (bindings_of es))
  unfolding IsDistinct
  names-unbound [] _ x = refl
  names-unbound (e ∷ es) distinct x = grind (arith, string_bytes, stays, names-unbound es distinct.1 x)

  module _ (es : List (String Y × Value)) (distinct : IsDistinct string_eq (keys_of es)) (x : Text) where
    pub unbound_has : (n : Text) (v : Value) → value_at (unbound (bindings_of es) x) n ≡ Some v → value_at (bindings_of es) n ≡ Some v
    unbound_has = grind (arith, value_at-unbound)

pub released_keeps : (bs : Bindings) (tables : Tables) (left : Option Value) → KeepNamed bs tables (released bs tables left)
released_keeps = grind (arith, nat_eq, nat_same)

left_named : (bs : Bindings) (tables : Tables) (left : Option Value) (id : ℕ) → IsSome (released bs tables left id) → left_object left id ≡ true → is_named bs id ≡ true
left_named = grind (arith, nat_same, nat_eq)

pub released_noted : (bs : Bindings) (ts : List ObjId) (x : Text) (tables : Tables) → AreNoted bs ts tables → AreNoted (unbound bs x) ts (released (unbound bs x) tables (value_at bs x))
released_noted = grind (arith, nat_eq, unbound_or_left, left_named)

pub swept_noted : (bs : Bindings) (ts : List ObjId) (tables : Tables) → AreNamed bs tables → AreNoted bs ts tables
swept_noted = grind arith

pub released_named : (bs : Bindings) (x : Text) (tables : Tables) → AreNamed bs tables → AreNamed (unbound bs x) (released (unbound bs x) tables (value_at bs x))
released_named bs x tables named = named_when_none_noted (unbound bs x) (released (unbound bs x) tables (value_at bs x)) (released_noted bs [] x tables (swept_noted bs [] tables named))

pub swept_live : (bs : Bindings) (old new : Tables) → KeepNamed bs old new → AreLive bs old → AreLive bs new
swept_live = grind (arith, named_object)

-- tables without an object are settled
settled_without : (texts : List Text) (tables : Tables) (id : ℕ) → IsSettled shown texts tables → IsSettled shown texts (with_object tables id None)
settled_without texts tables id settled = λ more j other. at more other (nat_eq id other) j
  where
    at : (more : List Text) (other : ℕ) (b : Bool) → option_map (table_value (texts ++ more)) (if b then None else tables other) ≡ option_map (table_value texts) (if b then None else tables other)
    at _ _ true = refl
    at more other false = λ j. settled more j other

pub released_settled : (texts : List Text) (bs : Bindings) (tables : Tables) (left : Option Value) → IsSettled shown texts tables → IsSettled shown texts (released bs tables left)
released_settled texts _ tables (Some (Object o)) settled = go _
  where
    go : (b : Bool) → IsSettled shown texts (if b then tables else with_object tables o.0 None)
    go true = settled
    go false = search settled_without
released_settled _ _ _ _ settled = settled

pub swept_settled : (texts : List Text) (bs : Bindings) (old new : Tables) → KeepNamed bs old new → AreNamed bs new → IsSettled shown texts old → IsSettled shown texts new
swept_settled texts _ old new kept named settled = λ more j id. at more id (new id) refl j
  where
    at : (more : List Text) (id : ℕ) (o : Option NumberedTable) → new id ≡ o → option_map (table_value (texts ++ more)) (new id) ≡ option_map (table_value texts) (new id)
    at _ _ None is = cc
    at more id (Some t) is =
        let same : new id ≡ old id = grind arith in
        ap (option_map (table_value (texts ++ more))) same ∙ (λ j. settled more j id) ∙ sym (ap (option_map (table_value texts)) same)
