-- The tables of live objects stay valid, also where an object ends that no name stands for.
use Rattle.{
  frame_calls.proofs.frame_parts.Common.{arith, ◌≡◌, ℕ, Bool, true, false, nat_eq, List, Option, Some, None, refl, sym, subst, IsSome, All-nil, if◌then◌else◌, ⊤, Result, Ok, Err, IfOk, IfSome, [], ◌∷◌, All, IsLonger, Text, FaultValue, IsSettled, NumberedTable, Table, table_value, Entry, scalar_in, Tables, with_object, entry_of, argument_of, arguments_of, IsLive, IsLiveArgument, item_of, items_of, IsLiveItem, AreLiveItems, AreLive as AreLiveArguments, ObjId, Argument, One, Many, Value, Object, Scalar, Item, Row' as RowItem', Named, OpFault, Refused, NoMemory, Shown, shown, with_shown, table_in, World, IsSettledWorld, objects_of, FormsFor, SetsFor, seen_later},
  meaning_laws.{proofs.{cells.Common.{option_map}, ArgumentLaws.{more_valid}}, specs.{tables.Valid.{IsValid}, Validity.{IsHeldCell, IsValidObject, IsValidEntry, IsValidGiven, AreValid, IsValidArgument, AreValidArguments}, method.Concat.{tables_of}}},
  frame_store.specs.{declared.arguments.Item.{One as OneItem}, Shown.{spent}},
  script_state.{specs.{Bindings.{Bindings, released, noted, AreNamed, KeepNamed, AreLive, AreGiven, AreNoted, is_named, state_over}, Work.{names_in, world_of, IsUnnamedValue}, declared.work.Work.{Work}}, proofs.{Worlds.{made_noted, form_keeps, live_after, given_after, noted_after}, Bindings.{nat_same, kept_ended}, States.{state_swept}}},
  frame_set.specs.Assigned.{without, IsOther},
}

-- what holds in the midst of a statement
abbrev pub Stands : Bindings → List ObjId → World → Type 0
Stands bs ts w = record { settled : IsSettledWorld w; valid : AreValid (objects_of w); live : AreLive bs w.tables; given : AreGiven bs w.texts; noted : AreNoted bs ts w.tables }

-- the same by cases
abbrev Each : Shown → Type 0
Each objects = (id : ℕ) → IfSome (objects id) IsValid

each : (objects : Shown) → AreValid objects → Each objects
each = grind arith

are_valid : (objects : Shown) → Each objects → AreValid objects
are_valid = grind arith

pub object_valid : (texts : List Text) (tables : Tables) (v : Value) → AreValid (shown texts tables) → IsLive tables v → IsValidObject (entry_of tables texts v)
object_valid texts tables (Object id) valid live = grind (arith, each _ valid id.0)
object_valid texts tables (Scalar c) _ _ = tt

-- a live argument whose scalar a column can hold
pub argument_valid : (texts : List Text) (tables : Tables) (a : Argument) → AreValid (shown texts tables) → IsLiveArgument tables a → IfSome (scalar_in (argument_of tables texts a)) IsHeldCell → IsValidGiven (argument_of tables texts a)
argument_valid texts tables (One (Object id)) valid live held = search object_valid
argument_valid texts tables (One (Scalar c)) _ _ held = held
argument_valid texts tables _ _ _ _ = tt

-- the tables in live arguments are valid
item_valid : (texts : List Text) (tables : Tables) (item : Item) → AreValid (shown texts tables) → IsLiveItem tables item → IsValidArgument (item_of tables texts item)
item_valid texts tables (OneItem v) valid live = object_valid texts tables v valid live
item_valid texts tables (RowItem' shape row) _ _ = tt

items_valid : (texts : List Text) (tables : Tables) (items : List Item) → AreValid (shown texts tables) → AreLiveItems tables items → All IsValid (tables_of (items_of tables texts items))
items_valid texts tables [] _ _ = All-nil IsValid
items_valid texts tables (item ∷ rest) valid live = search (more_valid, item_valid, items_valid texts tables rest valid live.1)

tables_valid : (texts : List Text) (tables : Tables) (a : Argument) → AreValid (shown texts tables) → IsLiveArgument tables a → IsValidArgument (argument_of tables texts a)
tables_valid texts tables (One v) valid live = object_valid texts tables v valid live
tables_valid texts tables (Many l) valid live = search items_valid
tables_valid texts tables _ _ _ = tt

pub arguments_valid : (texts : List Text) (tables : Tables) (args : List Named) → AreValid (shown texts tables) → AreLiveArguments tables args → AreValidArguments (arguments_of tables texts args)
arguments_valid texts tables [] valid live = grind arith
arguments_valid texts tables (g ∷ rest) valid live = grind (arith, tables_valid, arguments_valid texts tables rest valid live.1)

put_valid : (id : ℕ) (old new : Shown) → IsValid (table_in (new id)) → new ≡ with_shown old id (new id) → AreValid old → AreValid new
put_valid id old new h put valid = are_valid _ (λ k. grind (arith, by, nat_eq))
  where
    by : (k : ℕ) (b : Bool) → IfSome (if b then new id else old k) IsValid
    by k true = grind arith
    by k false = each _ valid k

-- what a form makes is valid, and the others are as they were
pub form_valid : (charge : Entry → ℕ) (r : Result Value OpFault) (meant : Result Entry FaultValue) (old new : World) → FormsFor charge r meant old new → IfOk meant IsValidEntry → AreValid (objects_of old) → AreValid (objects_of new)
form_valid _ (Ok (Object id)) _ _ _ h made valid = put_valid _ _ _ (subst (λ m. IfOk m IsValidEntry) h.0.0 made) h.0.1.2 valid
form_valid _ (Ok (Scalar c)) _ _ _ h _ valid = subst AreValid (sym h.0.1.0) valid
form_valid _ (Err (Refused code)) _ _ _ h _ valid = subst AreValid (sym h.0.1) valid
form_valid _ (Err NoMemory) _ _ _ h _ valid = subst AreValid (sym h.0) valid

-- a form leaves the work of a statement as it has to be, and what it makes is noted
module _ (s : Work) (new : World) (charge : Entry → ℕ) (r : Result Value OpFault) (meant : Result Entry FaultValue) (answers : FormsFor charge r meant (world_of s) new) (valid : IfOk meant IsValidEntry) where
  stands : {ts : List ObjId} → ts ≡ made_noted s.temps.items r → Stands (names_in s) ts new
  stands is =
      record {
        settled = answers.2;
        valid = form_valid charge _ _ _ _ answers valid s.valid;
        live = live_after _ _ _ (form_keeps charge _ _ _ _ answers) s.live;
        given = given_after _ _ _ answers.1 s.given;
        noted = rw is (noted_after (names_in s) s.temps.items charge r meant (world_of s) new answers s.noted);
      }

  pub stands_made : {ts ts' : List ObjId} {v : Value} → r ≡ Ok v → ts' ≡ s.temps.items → ts ≡ noted ts' v → Stands (names_in s) ts new
  stands_made is same notes = stands (cc (is, same, notes))

  pub stands_refused : {ts : List ObjId} {f : OpFault} → r ≡ Err f → ts ≡ s.temps.items → Stands (names_in s) ts new
  stands_refused is same = stands (cc (is, same))

pub set_valid : (charge : Table → ℕ) (r : Result ⊤ OpFault) (on : Value) (meant : Result Table FaultValue) (old new : World) → SetsFor charge r on meant old new → IfOk meant IsValid → AreValid (objects_of old) → AreValid (objects_of new)
set_valid _ (Ok done) (Object id) _ _ _ h made valid = put_valid _ _ _ (subst (λ m. IfOk m IsValid) h.0.0 made) h.0.2 valid
set_valid _ (Ok done) (Scalar c) _ _ _ h _ _ = absurd h.0
set_valid _ (Err (Refused code)) _ _ _ _ h _ valid = subst AreValid (sym h.0.1) valid
set_valid _ (Err NoMemory) _ _ _ _ h _ valid = subst AreValid (sym h.0) valid

-- further texts change no table
pub longer_valid : (tables : Tables) (old new : List Text) → IsLonger old new → IsSettled shown old tables → AreValid (shown old tables) → AreValid (shown new tables)
longer_valid _ old new longer settled valid = subst AreValid (sym (seen_later shown old new _ longer settled)) valid

-- an object ends
pub without_valid : (texts : List Text) (tables : Tables) (id : ℕ) → AreValid (shown texts tables) → AreValid (shown texts (with_object tables id None))
without_valid texts tables _ valid = are_valid _ (λ k. by k _)
  where
    by : (k : ℕ) (b : Bool) → IfSome (option_map (table_value texts) (if b then None else tables k)) IsValid
    by k true = tt
    by k false = each _ valid k

pub released_valid : (texts : List Text) (bs : Bindings) (tables : Tables) (left : Option Value) → AreValid (shown texts tables) → AreValid (shown texts (released bs tables left))
released_valid texts _ tables (Some (Object o)) valid = by _
  where
    by : (b : Bool) → AreValid (shown texts (if b then tables else with_object tables o.0 None))
    by true = valid
    by false = search without_valid
released_valid _ _ _ _ valid = valid

pub swept_valid : (texts : List Text) (bs : Bindings) (old new : Tables) → KeepNamed bs old new → AreNamed bs new → AreValid (shown texts old) → AreValid (shown texts new)
swept_valid texts _ _ new kept named valid = are_valid _ (λ id. at id (new id) refl)
  where
    at : (id : ℕ) (o : Option NumberedTable) → new id ≡ o → IfSome (option_map (table_value texts) (new id)) IsValid
    at _ None is = rw is tt
    at id (Some t) is = rw (kept id (named id (subst IsSome (sym is) refl))) (each _ valid id)

-- Settings that may end an object that no name stands for.
pub unnamed_spare : (bs : Bindings) (value : Argument) (spare : Option ObjId) → IfSome spare (IsUnnamedValue bs value) → IfSome spare (λ id. is_named bs id.0 ≡ false)
unnamed_spare = grind arith

-- what holds without it
pub spent_valid : (texts : List Text) (r : Result ⊤ OpFault) (spare : Option ObjId) (tables : Tables) → AreValid (shown texts tables) → AreValid (shown texts (spent r spare tables))
spent_valid _ (Ok _) (Some id) _ valid = search without_valid
spent_valid _ _ _ _ valid = valid

pub spent_keeps : (bs : Bindings) (r : Result ⊤ OpFault) (spare : Option ObjId) (tables : Tables) → IfSome spare (λ id. is_named bs id.0 ≡ false) → KeepNamed bs tables (spent r spare tables)
spent_keeps = grind (arith, kept_ended)

pub spent_noted : (bs : Bindings) (ts : List ObjId) (r : Result ⊤ OpFault) (spare : Option ObjId) (tables : Tables) → AreNoted bs ts tables → AreNoted bs ts (spent r spare tables)
spent_noted = grind (arith, nat_eq)

-- the value that is set stays
pub spent_on : (tables : Tables) (on : Value) (spare : Option ObjId) (r : Result ⊤ OpFault) → IfSome spare (IsOther on) → IsLive tables on → IsLive (spent r spare tables) on
spent_on = grind (arith, nat_eq, nat_same)

-- the state is the same without it
pub spent_state : (bs : Bindings) (value : Argument) (r : Result ⊤ OpFault) (spare : Option ObjId) (w : World) → IfSome spare (IsUnnamedValue bs value) → state_over bs w ≡ state_over bs (without r spare w)
spent_state _ _ r _ w is = sym (search (state_swept, spent_keeps, unnamed_spare))
