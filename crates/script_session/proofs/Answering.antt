-- What statements answer.
use Rattle.{
  script_state.{proofs.{cells.Common.{arith, ◌≡◌, ◌≤◌, ℕ, Bool, true, false, nat_eq, List, [], ◌∷◌, Option, Some, None, refl, sym, subst, ◌∙◌, ap, Contents, IsSome, if◌then◌else◌, Result, Ok, Err, IsErrAnd, ⊤, Text, same_text, FaultValue}, Bindings.{nat_same, nat_eq_self, true_false, same_congr, named_object}, States.{same_state, state_kept, state_swept, bind_state}, Worlds.{entry_seen, some_shown, shown_some, set_failed, keeps_both, keeps_same, blocks_same, blocks_both}, Validity.{spent_state}, Rides.{serves_self, serves_both, caused_later, goes_both, stuck_both, spends_both, pays_value, pays_none, pays_by, pays_both, halts_first, goes_same, fault_uncaused, spends_none}, laws.SpentLaws.{sum-nothing}}, specs.{cells.Cell.{IsLonger}, tables.{Cost.{free}, Table.{Table}}, script.{State.{State}, Spent.{spent_for}, Reading.{Files, Reading, Reads, at_once}, Statement.{Answer, with_value, done, refused, then_answer, set_answer, is_chained}}, frame_set.Assigned.{without}, declared.{file_names.FileName.{FileName}, fault.EvalFault.{EvalFault}, work.Work.{Work}}, Evaluates.{Moment, meter_of, moment_of, Evaluates}, Reads.{Costs, Tab, Meter, metered, files_in, Pays, Halts}, Charges.{Charges}, Work.{names_in, tab_of, tables_in, world_of, state_in, SetsFrom}, Bindings.{Bindings, bound, value_at, is_named, state_over, IsOf, KeepNamed, AreGiven, AreNamed}, laws.FormFault.{HasFormFault}}},
  std.{specs.Prelude.{OnErr, OnOk, is_ok}, proofs.lemmas.Result.{on_err_weaker}},
  frame_store.{specs.{Objects.{Tables, BlocksByObject, CountsOnce, KeepBlocks, LieStill, held_of}, Shown.{Shown, Changes, table_in}, declared.{object.ObjId.{ObjId}, arguments.{Value.{Value, TheVariants.{Object, Scalar}}, Argument.{Argument, TheVariants.{Nothing}}}, fault.OpFault.{OpFault}}, World.{World, IsSettledWorld, objects_of, entry_in, changed_value, Keeps, SetsFor}}, proofs.{OnceLaws.{held_by_blocks}, Settling.{seen_later, longer_twice}}},
  frame_store.specs.declared.fault.OpFault.TheVariants.{Refused as OpRefused, NoMemory as OpNoMemory},
  script_session.specs.{declared.fault.{Outcome.{Outcome}, StepFault.{StepFault, TheVariants.{Refused, Input, NoMemory}}}, Faults.{IsStepFault, Performs, Answers, step_fault, marked_fault}},
  outside_io.specs.Files.{FilesValue, Serves},
}
use Rattle.script_state.specs.tables.Value as value

-- a fault of an expression is the statement's
abbrev pub refusal : FaultValue → Answer
refusal fault = refused fault false

pub step_halts : (texts : List Text) (files : Files) (old new : FilesValue) (whole : Reading Answer) (f : EvalFault) → Halts refusal texts files old new whole f → IsStepFault texts files old new whole (step_fault f)
step_halts = grind arith

-- the names that are the same text have the same value
value_at-same : (bs : Bindings) (n m : Text) → same_text n m ≡ true → value_at bs m ≡ value_at bs n
value_at-same [] n m e = refl
value_at-same (b ∷ bs) n m e = grind (arith, same_congr, value_at-same bs n m e)

-- a setting on the object of a name, or on one that no name stands for
module _ (bs : Bindings) (meant : Result Table FaultValue) (old new : World) (given : AreGiven bs old.texts) (id : ObjId) (sets : Changes new.texts (Ok tt) (Object id) meant (objects_of old) (objects_of new) × IsLonger old.texts new.texts × IsSettledWorld new) where
  other_same : (k : ObjId) → nat_eq id.0 k.0 ≡ false → entry_in old (Object k) ≡ entry_in new (Object k)
  other_same k other =
      sym (entry_seen old (Object k))
      ∙ ap (λ o. value.table (table_in o)) (sym (ap (λ f. f k.0) sets.0.2 ∙ ap (λ b. if b then objects_of new id.0 else objects_of old k.0) other))
      ∙ entry_seen new (Object k)

  named_set : (n : Text) → value_at bs n ≡ Some (Object id) → set_answer (state_over bs old) (Some n) meant ≡ done (state_over bs new) [] false
  named_set = grind (arith, same_state, value_at-same, nat_eq_self, seen_later, nat_eq, nat_same, entry_seen, other_same)

  unnamed_set : is_named bs id.0 ≡ false → set_answer (state_over bs old) None meant ≡ done (state_over bs new) [] true
  unnamed_set = grind (arith, same_state, seen_later, nat_eq, true_false, named_object, nat_same, other_same)

pub set_state : (bs : Bindings) (o : Option Text) (on : Value) (charge : Table → ℕ) (meant : Result Table FaultValue) (old new : World) → AreGiven bs old.texts → IsOf bs o on → SetsFor charge (Ok tt) on meant old new
    → set_answer (state_over bs old) o meant ≡ done (state_over bs new) [] (is_chained o)
set_state bs (Some n) (Object id) charge meant old new given is sets = named_set bs meant old new given id (sets.0, sets.1, sets.2) n is
set_state bs None (Object id) charge meant old new given is sets = unnamed_set bs meant old new given id (sets.0, sets.1, sets.2) is
set_state bs o (Scalar c) charge meant old new given is sets = absurd sets.0

-- readings one after the other
performs_both : (s : State) (texts : List Text) (files : Files) (third : Meter) {first second : Meter} {a b : Reading Answer} (r : Result Outcome StepFault) → Serves first.files second.files → Pays files.held first second a b → Performs s texts files second third b r
    → Performs s texts files first third a r
performs_both _ _ _ _ (Ok o) serves p h = pays_both serves p h
performs_both _ _ files third (Err (Refused code warned)) serves p h = (goes_both serves p.goes h.0, caused_later third.files serves files.paths _ h.1, h.2)
performs_both _ _ _ _ (Err Input) serves p h = stuck_both serves p.goes h
performs_both _ _ _ _ (Err NoMemory) serves p h = spends_both serves p.goes h

module _ {paths : List FileName} where
  module _ {V A : Type 0} {known : Work → V → Type 0} {view : World → V → A} {first : Files → State → Reads A} (go : Files → State → A → Reading Answer) where
    -- the first fault refuses the statement
    pub fails : {old new : Moment} {f : EvalFault} {r : Result Outcome StepFault} → Evaluates paths known view first old new (Err f) → IsErrAnd r (λ e. e ≡ step_fault f) → Answers paths (λ files s. then_answer (first files s) (go files s)) old new r
    fails {r = Ok o} x is = absurd is
    fails {old} {new} {f} {r = Err e} x is = record { answers = λ held. rw is (step_halts _ _ _ _ _ f (halts_first _ _ _ _ _ refusal _ f (x.reads held))); serves = x.serves; names = x.names; kept = x.kept; blocks = x.blocks; longer = x.kept.texts }

    -- a value goes on
    pub follows : {old mid new : Moment} {v : V} {r : Result Outcome StepFault} → Evaluates paths known view first old mid (Ok v) → Answers paths (λ files s. go files s (view (world_of mid.work) v)) mid new r → Answers paths (λ files s. then_answer (first files s) (go files s)) old new r
    follows {old} {mid} {new} {v} {r} x y =
        record {
          answers = λ held. performs_both _ _ _ (meter_of new) r x.serves
              (pays_value refusal _ _ _ (x.reads held) (ap (λ s. go (files_in paths held) s (view (world_of mid.work) v)) (sym (state_kept old.work mid.work x.names x.kept))))
              (y.answers held);
          serves = serves_both x.serves y.serves;
          names = on_err_weaker r (λ e. e ∙ x.names) y.names;
          kept = on_err_weaker r (keeps_both _ _ _ x.kept) y.kept;
          blocks = on_err_weaker r (blocks_both old.work mid.work new.work x.kept x.blocks) y.blocks;
          longer = longer_twice _ _ _ x.kept.texts y.longer;
        }

  -- memory was refused
  pub runs_out : {w u : Work} {s : FilesValue} {meant : Files → State → Reading Answer} {r : Result Outcome StepFault} → IsErrAnd r (λ e. e ≡ NoMemory) → names_in u ≡ names_in w → world_of u ≡ world_of w → Answers paths meant (moment_of w s) (moment_of u s) r
  runs_out {r = Ok o} is names same = absurd is
  runs_out {w = w} {u} {s = s} {r = Err e} is names same =
      let kept = keeps_same (world_of w) (world_of u) same in
      record { answers = λ held. rw is spends_none; serves = serves_self s; names = names; kept = kept; blocks = blocks_same w u same; longer = kept.texts }

  -- a statement is done
  pub does : (u : Work) {w : Work} {s : FilesValue} (a : State → Answer) {printed : Text} {warned : Bool} {o : Outcome} → a (state_in w) ≡ done (state_in u) printed warned → o.printed ≡ printed → o.warned ≡ warned → IsLonger (world_of w).texts (world_of u).texts → Costs 0 (tab_of w) (tab_of u)
      → Answers paths (λ files t. at_once (a t)) (moment_of w s) (moment_of u s) (Ok o)
  does u {s = s} a is first second longer costs = record { answers = λ held. pays_none costs (cc (is, first, second)); serves = serves_self s; names = tt; kept = tt; blocks = tt; longer = longer }

-- what a setting does, and costs
abbrev pub set_whole : {A : Type 0} → (A → ℕ) → Result A FaultValue → Answer → Reading Answer
set_whole charge meant answer = record { spent = spent_for charge meant; answer = answer }

free_spent : {A : Type 0} (meant : Result A FaultValue) → (spent_for (λ (a : A). 0) meant).charge ≡ 0
free_spent (Ok a) = refl
free_spent (Err fault) = refl

-- one that costs nothing
pub free_set : {A : Type 0} (meant : Result A FaultValue) (answer : Answer) → at_once answer ≡ set_whole (λ (a : A). 0) meant answer
free_set (Ok a) answer = refl
free_set (Err fault) answer = refl

refused_is : (charge : Table → ℕ) (t : State) (o : Option Text) (meant : Result Table FaultValue) (fault : FaultValue) → meant ≡ Err fault → set_whole charge meant (set_answer t o meant) ≡ at_once (refused fault (is_chained o))
refused_is charge t o meant fault is = rw is refl

-- a setting that is refused changes the blocks of no object
still_refused : (on : Value) (f : OpFault) (live live' : Tables) (before after : BlocksByObject) → LieStill (changed_value {A = ⊤} on (Err f)) live live' before after → LieStill None live live' before after
still_refused (Object id) f live live' before after still = still
still_refused (Scalar c) f live live' before after still = still

-- a setting, after which an object may end that no name stands for
module _ (w u : Work) {value : Argument} {r : Result ⊤ OpFault} {on : Value} {charge : Table → ℕ} {meant : Result Table FaultValue} (e : SetsFrom value r on charge meant w u) where
  pub set_done : (o : Option Text) → IsOf (names_in w) o on → r ≡ Ok tt → set_answer (state_in w) o meant ≡ done (state_in u) [] (is_chained o)
  set_done o of is =
      let sets = rw is at e.sets in
      cc (e.names, spent_state (names_in w) value (Ok tt) e.spare (world_of w) e.unnamed, set_state (names_in w) o on charge meant (without (Ok tt) e.spare (world_of w)) (world_of u) w.given of sets)

  pub set_longer : IsLonger (world_of w).texts (world_of u).texts
  set_longer = e.sets.1

  -- one that was done
  set_paid : {held : Contents} {s : FilesValue} (o : Option Text) (a : Answer) → set_answer (state_in w) o meant ≡ a → r ≡ Ok tt
      → Pays held (metered (tab_of w) s) (metered (tab_of u) s) (set_whole charge meant (set_answer (state_in w) o meant)) (at_once a)
  set_paid o a is set =
      let n = spent_for charge meant in
      record {
        goes = record { spent = n; counted = refl; meant = λ _ i. record { spent = sym (sum-nothing n) i; answer = is i } };
        costs = record { charge = rw set at e.charged; held = (rw set at e.sets).3.cells };
      }

  pub set_does : {paths : List FileName} {s : FilesValue} {whole : Files → State → Reading Answer} (o : Option Text) {out : Outcome} → ((files : Files) → whole files (state_in w) ≡ set_whole charge meant (set_answer (state_in w) o meant)) → IsOf (names_in w) o on → r ≡ Ok tt
      → out.printed ≡ [] → out.warned ≡ is_chained o → Answers paths whole (moment_of w s) (moment_of u s) (Ok out)
  set_does {paths} {s} o {out} same of is printed warned =
      record {
        answers = λ held. pays_by (same (files_in paths held)) (set_paid o (done (state_in u) out.printed out.warned) (set_done o of is ∙ cc (printed, warned)) is);
        serves = serves_self s;
        names = tt;
        kept = tt;
        blocks = tt;
        longer = set_longer;
      }

  -- one that was refused, with its mark
  pub set_refused : {paths : List FileName} {s : FilesValue} {whole : Files → State → Reading Answer} (o : Option Text) (f : OpFault) {fault : StepFault} → ((files : Files) → whole files (state_in w) ≡ set_whole charge meant (set_answer (state_in w) o meant)) → HasFormFault meant → r ≡ Err f → fault ≡ marked_fault (is_chained o) f
      → Answers paths whole (moment_of w s) (moment_of u s) (Err fault)
  set_refused {paths} {s} o (OpRefused code) same form is marked =
      let sets = rw is at e.sets in
      let refuses = sets.0.0 in
      record {
        answers = λ held. rw marked (
          goes_same (same (files_in paths held) ∙ refused_is charge (state_in w) o meant _ refuses.0),
          fault_uncaused (world_of u).texts (files_in paths held).paths s s code meant form refuses.0,
          refuses.1,
        );
        serves = serves_self s;
        names = e.names;
        kept = set_failed _ _ (OpRefused code) on charge meant sets;
        blocks = still_refused on (OpRefused code) (tables_in w) (tables_in u) (world_of w).holding.blocks (world_of u).holding.blocks sets.3.blocks;
        longer = e.sets.1;
      }
  set_refused {s = s} o OpNoMemory same form is marked =
      let sets = rw is at e.sets in
      record { answers = λ held. rw marked spends_none; serves = serves_self s; names = e.names; kept = set_failed _ _ OpNoMemory on charge meant sets; blocks = still_refused on OpNoMemory (tables_in w) (tables_in u) (world_of w).holding.blocks (world_of u).holding.blocks sets.3.blocks; longer = e.sets.1 }

-- one after which none ends, and which costs nothing
alone_charged : (r : Result ⊤ OpFault) (meant : Result Table FaultValue) (old new : ℕ) → new ≡ old → Charges r (spent_for (λ (t : Table). 0) meant).charge old new
alone_charged (Ok x) meant old new same = rw (free_spent meant) same
alone_charged (Err f) meant old new same = same

pub alone : (r : Result ⊤ OpFault) (on : Value) (meant : Result Table FaultValue) (old new : Work) → names_in new ≡ names_in old → SetsFor free r on meant (world_of old) (world_of new) → new.charge ≡ old.charge → SetsFrom Nothing r on (λ (t : Table). 0) meant old new
alone (Ok x) _ meant old new names sets same = record { names = names; spare = None; unnamed = tt; sets = sets; charged = alone_charged (Ok x) meant old.charge new.charge same }
alone (Err f) _ meant old new names sets same = record { names = names; spare = None; unnamed = tt; sets = sets; charged = same }

-- a name that gets a value
pub set_name : (w u : Work) (n : Text) (o : Option Text) (v : Value) → IsOf (names_in w) o v → names_in u ≡ bound (names_in w) n v → world_of u ≡ world_of w → done (with_value (state_in w) n o (entry_in (world_of w) v)) [] false ≡ done (state_in u) [] false
set_name w u n o v of names world = cc (bind_state (names_in w) n o v (world_of w) of, names, world)

-- an evaluation leaves the state
pub state_after : {paths : List FileName} {V A : Type 0} {known : Work → V → Type 0} {view : World → V → A} {meant : Files → State → Reads A} {old new : Moment} {r : Result V EvalFault} → Evaluates paths known view meant old new r → state_in new.work ≡ state_in old.work
state_after {old = old} {new} x = state_kept old.work new.work x.names x.kept

-- the state that a sweep leaves, where the charge was set before it
pub state_left : (w set u : Work) (left : ℕ) → set ≡ record w { charge = left } → names_in u ≡ names_in set → (world_of u).texts ≡ (world_of set).texts → KeepNamed (names_in u) (tables_in set) (tables_in u) → state_in w ≡ state_in u
state_left w set u left same names texts kept =
    let bs : names_in u ≡ names_in w = names ∙ ap names_in same in
    sym (state_swept (names_in w) (names_in u) (world_of w) (world_of u) bs (texts ∙ ap (λ (x : Work). (world_of x).texts) same)
    (subst (λ b. KeepNamed b (tables_in w) (tables_in u)) bs (subst (λ (x : Work). KeepNamed (names_in u) (tables_in x) (tables_in u)) same kept)))

-- after a sweep, which keeps the state and the texts
pub performs_after : {texts texts' : List Text} (files : Files) (old : Meter) (new : FilesValue) (tab tab' : Tab) (whole : Reading Answer) (s t : State) (r : Result Outcome StepFault) → Performs s texts files old (metered tab new) whole r → s ≡ t → texts ≡ texts' → OnOk r (Costs 0 tab tab')
    → Performs t texts' files old (metered tab' new) whole r
performs_after _ _ _ _ _ _ s t (Ok o) h e _ after = rw (← e) (record { goes = h.goes; costs = record { charge = after.charge ∙ h.costs.charge; held = omega (arith, after.held, h.costs.held) } })
performs_after {texts} {texts'} files old new _ _ whole s t (Err f) h e same after = subst (λ ts. IsStepFault ts files old.files new whole f) same h

-- what a statement that was done leaves on the tab
pub done_tab : (r : Result Outcome StepFault) (was : Bool) (w set swept : Work) (before left : ℕ) → was ≡ is_ok r → left ≡ (if was then w.charge else before) → set ≡ record w { charge = left } → Costs 0 (tab_of set) (tab_of swept) → OnOk r (Costs 0 (tab_of w) (tab_of swept))
done_tab (Ok o) was w set swept before left is l same costs =
    let kept : left ≡ w.charge = rw is at l in
    subst (λ n. Costs 0 (record { charge = n; held = (world_of w).holding.cells }) (tab_of swept)) kept (subst (λ u. Costs 0 (tab_of u) (tab_of swept)) same costs)
done_tab (Err f) was w set swept before left is l same costs = tt

-- the charge that a refused one leaves
pub refused_charge : (r : Result Outcome StepFault) (was : Bool) (before after left : ℕ) → was ≡ is_ok r → left ≡ (if was then after else before) → OnErr r (left ≡ before)
refused_charge (Ok o) was before after left is l = tt
refused_charge (Err f) was before after left is l = rw is at l

-- after a statement that was refused the state is the same
pub refused_kept : (s w : Work) (r : Result Outcome StepFault) → OnErr r (names_in w ≡ names_in s) → OnErr r (Keeps (world_of s) (world_of w)) → OnErr r (state_in w ≡ state_in s)
refused_kept = grind (arith, state_kept)

module _ (r : Result Outcome StepFault) where
  pub live_refused : (bs bs1 bs2 : Bindings) (old w1 w2 : World) → OnErr r (bs1 ≡ bs) → OnErr r (Keeps old w1) → bs2 ≡ bs1 → w2.texts ≡ w1.texts → KeepNamed bs2 w1.tables w2.tables → AreNamed bs2 w2.tables → AreNamed bs old.tables
      → ((id : ℕ) → is_named bs id ≡ true → IsSome (old.tables id)) → OnErr r (objects_of w2 ≡ objects_of old)
  live_refused = grind (arith, some_shown)

-- and each live object lies on the blocks on which it lay, also after a sweep
pub lie_refused : (r : Result Outcome StepFault) (s w set u : Work) (left : ℕ) → OnErr r (Keeps (world_of s) (world_of w)) → OnErr r (KeepBlocks None s.store w.store) → set ≡ record w { charge = left } → KeepBlocks None set.store u.store
    → OnErr r (KeepBlocks None s.store u.store)
lie_refused (Ok o) s w set u left kept lie same swept = tt
lie_refused (Err f) s w set u left kept lie same swept = blocks_both s w u kept lie (subst (λ (x : Work). KeepBlocks None x.store u.store) same swept)

-- so no more is held
pub held_refused : (r : Result Outcome StepFault) (s u : Work) → CountsOnce (tables_in s) (world_of s).holding → CountsOnce (tables_in u) (world_of u).holding → OnErr r (objects_of (world_of u) ≡ objects_of (world_of s)) → OnErr r (KeepBlocks None s.store u.store)
    → OnErr r (held_of u.store ≤ held_of s.store)
held_refused (Ok o) s u was is live lie = tt
held_refused (Err f) s u was is live lie =
    held_by_blocks s.store u.store was is (λ id there. some_shown (world_of s) id (subst (λ (f : Shown). IsSome (f id)) live (shown_some (world_of u) id there))) lie
