-- What forms do to the objects and the texts, and how values are seen then.
use mathlib.Core.Former.{Count}
use Rattle.{
  frame_calls.proofs.frame_parts.Common.{arith, ◌≡◌, ℕ, List, [], ◌∷◌, refl, ap, IsSome, rules, ◌↔◌, Bool, true, false, nat_eq, ◌++◌, Option, None, sym, ◌∙◌, subst, if◌then◌else◌, ⊤, Result, Ok, Err, IfOk, IfSome, Label, Text, IsLonger, FaultValue, Tables, table_or, object_value, entry_of, item_of, items_row, items_of, argument_of, entries_of, arguments_of, subscript_of, IsLive, IsLiveItem, AreLiveItems, IsLiveArgument, AreLive as AreLiveArguments, ObjId, Value, Object, Scalar, Argument, One, Many, Item, Row' as RowItem', Row_of-Item, end_of-Item, more_of-Item, Named, Subscript, Key, OpFault, Refused, NoMemory, Shown, shown, with_shown, table_in, FormAnswers, Holding, World, objects_of, entry_in, argument_in, IsSettledWorld, Keeps, IsKnownValue, IsKnownArgument, FormsFor, SetsFor, settled_later, seen_later, longer_self, longer_twice, IsSettled, NumberedTable, Table, table_value, Entry},
  meaning_laws.proofs.cells.Common.{option_map},
  frame_store.specs.{Arguments.{entries_row, IsLiveRow, AreLiveEntries, AreLivePairs, IsLiveSubscript}, declared.arguments.{Argument.{Nothing, Row, Table', Row_of-Entries-pairs-2, end_of-Entries-pairs-2, more_of-Entries-pairs-2}, Item.{One as OneItem}, Subscript.TheVariants.{Span}}, Shown.{seen}, World.{IsKnown}},
  frame_store.specs.{Objects.{KeepBlocks}, declared.store.Store.{Store}},
  script_state.{specs.{Bindings.{Bindings, is_named, contains, noted, AreLive, AreGiven, AreNoted}, Work.{world_of}, declared.work.Work.{Work}}, proofs.Bindings.{nat_same, contains_last, contains_more}},
}
use Rattle.meaning_laws.specs.tables.Value as value
use Rattle.meaning_laws.specs.tables.Value as value

module _ (texts : List Text) (tables tables' : Tables) (same : (id : ObjId) → IsSome (tables id.0) → object_value tables' texts id ≡ object_value tables texts id) (later : (id : ℕ) → IsSome (tables id) → IsSome (tables' id)) where
  pub value_same : (v : Value) → IsLive tables v → (entry_of tables' texts v ≡ entry_of tables texts v) × IsLive tables' v
  value_same = grind arith

  mutual
    item_same : (item : Item) → IsLiveItem tables item → (item_of tables' texts item ≡ item_of tables texts item) × IsLiveItem tables' item
    item_same (OneItem v) live = grind (arith, value_same v live)
    item_same (RowItem' shape row) live = grind (arith, row_same _ row live)

    row_same : (n : Count) (row : Row_of-Item n) → IsLiveRow tables row → (items_row tables' texts row ≡ items_row tables texts row) × IsLiveRow tables' row
    row_same _ end_of-Item _ = (refl, tt)
    row_same _ (more_of-Item {n} a rest) live = grind (arith, item_same a live.0, row_same n rest live.1)

  pub items_same : (items : List Item) → AreLiveItems tables items → (items_of tables' texts items ≡ items_of tables texts items) × AreLiveItems tables' items
  items_same [] _ = (refl, tt)
  items_same (item ∷ items) live = grind (arith, item_same item live.0, items_same items live.1)

  mutual
    pub argument_same : (a : Argument) → IsLiveArgument tables a → (argument_of tables' texts a ≡ argument_of tables texts a) × IsLiveArgument tables' a
    argument_same Nothing _ = (refl, tt)
    argument_same (One v) live = grind (arith, value_same v live)
    argument_same (Row l) live = grind (arith, items_same l.items.items live)
    argument_same (Many l) live = grind (arith, items_same l.items.items live)
    argument_same (Table' shape row) live = grind (arith, entries_same _ row live)

    entries_same : (n : Count) (row : Row_of-Entries-pairs-2 n) → AreLiveEntries tables row → (entries_row tables' texts row ≡ entries_row tables texts row) × AreLiveEntries tables' row
    entries_same _ end_of-Entries-pairs-2 _ = (refl, tt)
    entries_same _ (more_of-Entries-pairs-2 {n} label a rest) live = grind (arith, argument_same a live.0, entries_same n rest live.1)

  pub pairs_same : (pairs : List (Label × Argument)) → AreLivePairs tables pairs → (entries_of tables' texts pairs ≡ entries_of tables texts pairs) × AreLivePairs tables' pairs
  pairs_same [] _ = (refl, tt)
  pairs_same (pair ∷ pairs) live = grind (arith, argument_same pair.1 live.0, pairs_same pairs live.1)

  pub arguments_same : (args : List Named) → AreLiveArguments tables args → (arguments_of tables' texts args ≡ arguments_of tables texts args) × AreLiveArguments tables' args
  arguments_same [] _ = (refl, tt)
  arguments_same (g ∷ args) live = grind (arith, argument_same g.value live.0, arguments_same args live.1)

  pub subscript_same : (s : Subscript) → IsLiveSubscript tables s → (subscript_of tables' texts s ≡ subscript_of tables texts s) × IsLiveSubscript tables' s
  subscript_same (Key a) live = grind (arith, argument_same a live)
  subscript_same (Span from to by) live = grind (arith, argument_same from live.0, argument_same to live.1, argument_same by live.2)

-- What forms do to the objects and the texts.
-- an object and its table with texts
pub some_shown : (w : World) (id : ℕ) → IsSome (objects_of w id) → IsSome (w.tables id)
some_shown = grind arith

pub shown_some : (w : World) (id : ℕ) → IsSome (w.tables id) → IsSome (objects_of w id)
shown_some = grind arith

pub none_shown : (w : World) (id : ℕ) → objects_of w id ≡ None → w.tables id ≡ None
none_shown = grind arith

pub table_shown : (texts : List Text) (o : Option NumberedTable) → table_in (option_map (table_value texts) o) ≡ table_value texts (table_or o)
table_shown = grind arith

pub keeps_same : (old new : World) → new ≡ old → Keeps old new
keeps_same = search (rules, longer_self)

pub longer_keeps : (tables : Tables) (holding : Holding) (old new : List Text) → IsLonger old new → IsSettled shown old tables
    → Keeps (record { tables = tables; texts = old; holding = holding }) (record { tables = tables; texts = new; holding = holding })
longer_keeps tables holding old new longer settled = record { objects = λ id live. cc (seen_later shown old new tables longer settled); texts = longer }

pub live_kept : (old new : World) → Keeps old new → (id : ℕ) → IsSome (old.tables id) → IsSome (new.tables id)
live_kept = grind (arith, some_shown, shown_some)

pub keeps_both : (first second third : World) → Keeps first second → Keeps second third → Keeps first third
keeps_both _ _ _ p q =
    record {
      objects = grind (arith, live_kept);
      texts = search longer_twice;
    }

-- live objects lie on the blocks on which they lay
pub blocks_self : (s : Store) → KeepBlocks None s s
blocks_self s id live there apart = refl

pub blocks_same : (old new : Work) → world_of new ≡ world_of old → KeepBlocks None old.store new.store
blocks_same old new same id live there apart = ap (λ (w : World). w.holding.blocks id) same

pub blocks_both : (first second third : Work) → Keeps (world_of first) (world_of second) → KeepBlocks None first.store second.store → KeepBlocks None second.store third.store → KeepBlocks None first.store third.store
blocks_both first second third kept p q id live there apart =
    let mid = live_kept (world_of first) (world_of second) kept id live in
    q id mid there apart ∙ p id live mid apart

-- live objects have the same tables, through all texts from the new ones on
same_at : (texts : List Text) (t t' : Tables) (id : ObjId) → shown texts t' id.0 ≡ shown texts t id.0 → object_value t' texts id ≡ object_value t texts id
same_at = grind (arith, table_shown)

-- what is made of values is seen by live objects alone, and is live as they are
pub record OfObjects {X Y : Type 0} (alive : Tables → X → Type 0) (view : Tables → List Text → X → Y) : Type 0 where
  pub same : (texts : List Text) (t t' : Tables) → ((id : ObjId) → IsSome (t id.0) → object_value t' texts id ≡ object_value t texts id) → ((id : ℕ) → IsSome (t id) → IsSome (t' id)) → (x : X) → alive t x → (view t' texts x ≡ view t texts x) × alive t' x

pub of_value : OfObjects IsLive entry_of
of_value = record { same = value_same }

pub of_items : OfObjects AreLiveItems items_of
of_items = record { same = items_same }

pub of_argument : OfObjects IsLiveArgument argument_of
of_argument = record { same = argument_same }

pub of_pairs : OfObjects AreLivePairs entries_of
of_pairs = record { same = pairs_same }

pub of_arguments : OfObjects AreLiveArguments arguments_of
of_arguments = record { same = arguments_same }

pub of_subscript : OfObjects IsLiveSubscript subscript_of
of_subscript = record { same = subscript_same }

module _ (old new : World) (settled : IsSettledWorld old) (settled' : IsSettledWorld new) (keeps : Keeps old new) where
  now_same : (id : ObjId) → IsSome (old.tables id.0) → object_value new.tables new.texts id ≡ object_value old.tables new.texts id
  now_same id live = same_at _ old.tables new.tables id (cc (keeps.objects id.0 live, seen_later shown old.texts new.texts old.tables keeps.texts settled))

  later_same : (more : List Text) (id : ObjId) → IsSome (old.tables id.0) → object_value new.tables (new.texts ++ more) id ≡ object_value old.tables (new.texts ++ more) id
  later_same more id live =
      let here : shown new.texts new.tables id.0 ≡ shown new.texts old.tables id.0 = cc (keeps.objects id.0 live, seen_later shown old.texts new.texts old.tables keeps.texts settled) in
      same_at _ old.tables new.tables id
      (cc (settled' more, settled_later shown old.texts new.texts old.tables keeps.texts settled more))

  module _ {X Y : Type 0} {alive : Tables → X → Type 0} {view : Tables → List Text → X → Y} (of : OfObjects alive view) {x : X} (known : IsKnown alive view old x) where
    pub seen_kept : view new.tables new.texts x ≡ view old.tables old.texts x
    seen_kept = (of.same new.texts old.tables new.tables now_same (live_kept old new keeps) x known.live).0 ∙ seen_later (view old.tables) _ _ x keeps.texts known.given

    pub known_kept : IsKnown alive view new x
    known_kept =
        record {
          live = (of.same new.texts old.tables new.tables now_same (live_kept old new keeps) x known.live).1;
          given = λ more. (of.same (new.texts ++ more) old.tables new.tables (later_same _) (live_kept old new keeps) x known.live).0
              ∙ settled_later (view _) _ _ x keeps.texts known.given more
              ∙ sym (of.same new.texts old.tables new.tables now_same (live_kept old new keeps) x known.live).0;
        }

  pub brackets_seen : (by : Option Argument) → IfSome by (IsKnownArgument old) → option_map (argument_in new) by ≡ option_map (argument_in old) by
  brackets_seen = grind (arith, seen_kept of_argument)

  pub brackets_kept : (by : Option Argument) → IfSome by (IsKnownArgument old) → IfSome by (IsKnownArgument new)
  brackets_kept = grind (arith, known_kept of_argument)

-- a form leaves all objects that were live as they were
grew_keeps : (id : ObjId) (old new : Shown) → old id.0 ≡ None → new ≡ with_shown old id.0 (new id.0) → (k : ℕ) → IsSome (old k) → new k ≡ old k
grew_keeps = grind (arith, nat_eq, nat_same)

pub form_keeps : (charge : Entry → ℕ) (r : Result Value OpFault) (meant : Result Entry FaultValue) (old new : World) → FormsFor charge r meant old new → Keeps old new
form_keeps charge r meant old new answers = record { objects = go r answers.0; texts = answers.1 }
  where
    go : (r : Result Value OpFault) → FormAnswers new.texts r meant (objects_of old) (objects_of new) → (id : ℕ) → IsSome (old.tables id) → objects_of new id ≡ objects_of old id
    go (Ok (Object o)) a id live = grew_keeps o _ _ a.1.0 a.1.2 id (shown_some old id live)
    go (Err NoMemory) a id _ = cc
    go _ a id _ = search

-- an object is seen as its table
pub entry_seen : (w : World) (v : Value) → seen w.texts (objects_of w) v ≡ entry_in w v
entry_seen = grind (arith, table_shown)

-- an object of a settled world is known, if it is live
pub object_known : (w : World) (id : ObjId) → IsSettledWorld w → IsSome (w.tables id.0) → IsKnownValue w (Object id)
object_known w id settled live =
    record {
      live = live;
      given = λ more. ap value.table (sym (table_shown _ (w.tables id.0)) ∙ ap (λ f. table_in (f id.0)) (settled more) ∙ table_shown _ (w.tables id.0));
    }

-- and so is what a form answers
pub form_known : (charge : Entry → ℕ) (r : Result Value OpFault) (meant : Result Entry FaultValue) (old new : World) → IsSettledWorld new → FormsFor charge r meant old new → IfOk r (λ v. IsKnownValue new v)
form_known = grind (arith, object_known, some_shown)

-- invariants after a form
pub live_after : (bs : Bindings) (old new : World) → Keeps old new → AreLive bs old.tables → AreLive bs new.tables
live_after = search live_kept

abbrev pub made_noted : List ObjId → Result Value OpFault → List ObjId
made_noted ts (Ok v) = noted ts v
made_noted ts (Err f) = ts

pub noted_after : (bs : Bindings) (ts : List ObjId) (charge : Entry → ℕ) (r : Result Value OpFault) (meant : Result Entry FaultValue) (old new : World) → FormsFor charge r meant old new → AreNoted bs ts old.tables → AreNoted bs (made_noted ts r) new.tables
noted_after bs ts charge r meant old new answers have = go r answers.0
  where
    same : objects_of new ≡ objects_of old → AreNoted bs ts new.tables
    same e id live = have id (some_shown old id (subst (λ f. IsSome (f id)) e (shown_some new id live)))

    go : (r : Result Value OpFault) → FormAnswers new.texts r meant (objects_of old) (objects_of new) → AreNoted bs (made_noted ts r) new.tables
    go (Ok (Scalar c)) a id live = same a.1.0 id live
    go (Err (Refused code)) a id live = same a.1 id live
    go (Err NoMemory) a id live = same a id live
    go (Ok (Object o)) a id live = at (nat_eq o.0 id) refl
      where
        at : (b : Bool) → nat_eq o.0 id ≡ b → (if is_named bs id then true else contains (ts ++ o ∷ []) id) ≡ true
        at true is = grind (arith, contains_last)
        at false is =
            let was = ap (λ f. f id) a.1.2 ∙ ap (λ b. if b then objects_of new o.0 else objects_of old id) is in
            grind (arith, contains_more, some_shown, shown_some)

pub given_after : (bs : Bindings) (old new : List Text) → IsLonger old new → AreGiven bs old → AreGiven bs new
given_after = search settled_later

alike : {X : Type 0} (x y : Option X) → x ≡ y → IsSome x ↔ IsSome y
alike = grind arith

-- a setting changes one live object
module _ (old new : World) where
  set_table : (o : ObjId) → objects_of new ≡ with_shown (objects_of old) o.0 (objects_of new o.0) → (id : ℕ) → nat_eq o.0 id ≡ false → objects_of new id ≡ objects_of old id
  set_table o put id other = ap (λ f. f id) put ∙ ap (λ b. if b then objects_of new o.0 else objects_of old id) other

  module _ (r : Result ⊤ OpFault) (on : Value) (charge : Table → ℕ) (meant : Result Table FaultValue) (there : IsLive old.tables on) (sets : SetsFor charge r on meant old new) where
    -- the same objects are live
    set_shown : (id : ℕ) → IsSome (objects_of new id) ↔ IsSome (objects_of old id)
    set_shown id = go r on there sets
      where
        at : (o : ObjId) → IsLive old.tables (Object o) → SetsFor charge (Ok tt) (Object o) meant old new → (b : Bool) → nat_eq o.0 id ≡ b → IsSome (objects_of new id) ↔ IsSome (objects_of old id)
        at o there sets true same = grind (arith, nat_same, shown_some)
        at o there sets false other = alike _ _ (set_table o sets.0.2 id other)

        go : (r : Result ⊤ OpFault) (on : Value) → IsLive old.tables on → SetsFor charge r on meant old new → IsSome (objects_of new id) ↔ IsSome (objects_of old id)
        go (Ok _) (Scalar c) _ sets = absurd sets.0
        go (Ok _) (Object o) there sets = at o there sets _ refl
        go (Err (Refused code)) _ _ sets = alike _ _ (ap (λ f. f id) sets.0.1)
        go (Err NoMemory) _ _ sets = alike _ _ (ap (λ f. f id) sets.0)

    pub live_set : (bs : Bindings) → AreLive bs old.tables → AreLive bs new.tables
    live_set _ have n id is = some_shown new id.0 ((set_shown id.0).1 (shown_some old id.0 (have n id is)))

    pub noted_set : (bs : Bindings) (ts : List ObjId) → AreNoted bs ts old.tables → AreNoted bs ts new.tables
    noted_set _ _ have id live = have id (some_shown old id ((set_shown id).0 (shown_some new id live)))

  -- a setting that was refused leaves all objects as they were
  pub set_failed : (f : OpFault) (on : Value) (charge : Table → ℕ) (meant : Result Table FaultValue) → SetsFor charge (Err f) on meant old new → Keeps old new
  set_failed (Refused code) _ _ _ sets = record { objects = λ id live. ap (λ f. f id) sets.0.1; texts = sets.1 }
  set_failed NoMemory _ _ _ sets = record { objects = λ id live. ap (λ f. f id) sets.0; texts = sets.1 }
