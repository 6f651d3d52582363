-- Evaluations one after the other.
use Rattle.{
  meaning_laws.{proofs.cells.Common.{rules, arith, ◌≡◌, ℕ, Bool, List, Some, None, refl, sym, ap, ◌∙◌, Result, Ok, Err, IfOk, IfErr, OnOk, IsErrAnd, Text, Contents, FaultValue}, specs.{tables.{Cost.{cost_of}, Value.{Entry, Given}}, script.{Reading.{Files, Reads, at_once, gives, costing, then_read}, State.{State}, Expression.{value_of_name, where_named}}, FormFault.{HasFormFault}}},
  frame_store.specs.{declared.{arguments.{Value.{Value}, Argument.{Argument}}, fault.OpFault.{OpFault}}, Objects.{Tables, KeepBlocks}, World.{World, Keeps, IsKnown, IsKnownValue, IsKnownArgument, argument_in, entry_in}},
  script_state.{specs.{Reads.{both_of, files_in, metered, Costs, Pays, Reaches}, Bindings.{value_at, IsOf}, Evaluates.{Moment, meter_of, moment_of, IsValue, Evaluates}, Faults.{IsNoAttribute, IsNoName, evaluated}, Work.{names_in, tab_of, world_of, state_in, FormsIn}, declared.{file_names.FileName.{FileName}, fault.EvalFault.{EvalFault, TheVariants.{NoMemory}}, work.Work.{Work}}}, proofs.{States.{form_unnamed, state_kept}, Rides.{serves_self, serves_both, both_then, then_after, then_gives, goes_spends, pays_same, pays_value, pays_both, halts_first, reaches_by, reaches_both, form_reads, evaluated_if, unknown_fault, unnamed_fault, made_reads}, Worlds.{OfObjects, of_argument, seen_kept, known_kept, keeps_both, keeps_same, blocks_self, blocks_both, form_keeps, form_known}}},
  outside_io.specs.Files.{FilesValue, Serves},
}

-- a value of which something is made, and then the rest
then_made : {A B C : Type 0} (f : A → B) (r : Reads A) (go : B → Reads C) → then_read (then_read r (λ a. gives (f a))) go ≡ then_read r (λ a. go (f a))
then_made f r go = grind (arith, then_after, then_gives)

-- a value that no name stands for
value_if : (w : Work) (r : Result Value EvalFault) → IfOk r (λ v. IsKnownValue (world_of w) v) → IfOk r (λ v. IsOf (names_in w) None v) → IfOk r (IsValue None w)
value_if = grind arith

-- how the value of a name is read
name_reads : (files : Files) (s : FilesValue) (w : Work) (n : Text) (r : Result Value EvalFault) → IfOk r (IsValue (Some n) w) → IfErr r (λ f. IsNoName f n (value_at (names_in w) n))
    → Reaches (entry_in (world_of w)) (world_of w).texts files (metered (tab_of w) s) (metered (tab_of w) s) (at_once (value_of_name n ((state_in w).value n))) r
name_reads files s w n (Ok v) is none = pays_same refl (grind arith)
name_reads files s w n (Err f) is none = unnamed_fault (world_of w).texts files s (names_in w) (world_of w) n f none

-- what a form that was done puts on the tab
form_costs : (charge : Entry → ℕ) (r : Result Value OpFault) (meant : Result Entry FaultValue) (w u : Work) → FormsIn r charge meant w u → OnOk r (Costs (cost_of charge meant) (tab_of w) (tab_of u))
form_costs charge (Ok v) meant w u m = record { charge = m.charged; held = m.answers.3.cells }
form_costs charge (Err f) meant w u m = tt

module _ {paths : List FileName} where
  module _ {V A : Type 0} {known : Work → V → Type 0} {view : World → V → A} where
    -- the same meaning in other words
    pub evaluates_by : {meant other : Files → State → Reads A} {old new : Moment} {r : Result V EvalFault} → Evaluates paths known view other old new r
        → ((files : Files) → meant files (state_in old.work) ≡ other files (state_in old.work)) → Evaluates paths known view meant old new r
    evaluates_by {r = r} x is = record { names = x.names; kept = x.kept; blocks = x.blocks; serves = x.serves; reads = λ held. reaches_by _ _ _ _ _ r (is (files_in paths held)) (x.reads held); found = x.found }

    -- two parts that are read together
    pub apart : {B C : Type 0} (first : Files → State → Reads B) (second : Files → State → Reads C) (go : Files → State → B → C → Reads A) {old new : Moment} {r : Result V EvalFault}
        → Evaluates paths known view (λ files s. then_read (both_of (first files s) (second files s)) (λ p. go files s p.0 p.1)) old new r → Evaluates paths known view (λ files s. then_read (first files s) (λ b. then_read (second files s) (go files s b))) old new r
    apart _ _ _ x = evaluates_by x (λ files. both_then _ _ _ _)

    -- what is made of a part
    pub flat : {B C : Type 0} (first : Files → State → Reads B) (f : B → C) (go : Files → State → C → Reads A) {old new : Moment} {r : Result V EvalFault}
        → Evaluates paths known view (λ files s. then_read (first files s) (λ b. go files s (f b))) old new r → Evaluates paths known view (λ files s. then_read (then_read (first files s) (λ b. gives (f b))) (go files s)) old new r
    flat _ _ _ x = evaluates_by x (λ files. then_made _ _ _)

    -- memory was refused behind a value
    pub spent : {meant : Files → State → Reads A} {old new : Moment} {v : V} → Evaluates paths known view meant old new (Ok v) → Evaluates paths known view meant old new (Err NoMemory)
    spent x = record { names = x.names; kept = x.kept; blocks = x.blocks; serves = x.serves; reads = λ held. goes_spends (x.reads held).goes; found = tt }

    -- a value that is there
    pub stays : {at : Moment} (v : V) → known at.work v → Evaluates paths known view (λ files s. gives (view (world_of at.work) v)) at at (Ok v)
    stays {at} v is = record { names = refl; kept = keeps_same _ _ refl; blocks = blocks_self at.work.store; serves = serves_self _; reads = λ held. pays_same refl refl; found = is }

    module _ {meant : Files → State → Reads A} {old new : Moment} {r : Result V EvalFault} (x : Evaluates paths known view meant old new r) {X Y : Type 0} {alive : Tables → X → Type 0} {sight : Tables → List Text → X → Y} (of : OfObjects alive sight) {a : X}
        (here : IsKnown alive sight (world_of old.work) a) where
      -- what was known before an evaluation is known after it, and seen as it was
      pub known_after : IsKnown alive sight (world_of new.work) a
      known_after = known_kept _ _ old.work.settled new.work.settled x.kept of here

      pub seen_after : sight (world_of new.work).tables (world_of new.work).texts a ≡ sight (world_of old.work).tables (world_of old.work).texts a
      seen_after = seen_kept _ _ old.work.settled new.work.settled x.kept of here

  module _ {V A V' A' : Type 0} {known : Work → V → Type 0} {view : World → V → A} {known' : Work → V' → Type 0} {view' : World → V' → A'} {first : Files → State → Reads A} where
    -- the fault of the first is that of the whole
    pub stops : (go : Files → State → A → Reads A') {old new : Moment} {f : EvalFault} {r : Result V' EvalFault} → Evaluates paths known view first old new (Err f) → IsErrAnd r (λ e. e ≡ f) → Evaluates paths known' view' (λ files s. then_read (first files s) (go files s)) old new r
    stops _ {r = Ok v} x is = absurd is
    stops _ {f = f} {r = Err e} x is = record { names = x.names; kept = x.kept; blocks = x.blocks; serves = x.serves; reads = λ held. rw is (halts_first _ _ _ _ _ Err _ f (x.reads held)); found = tt }

    -- the value goes on
    pub goes_on : (go : Files → State → A → Reads A') {old mid new : Moment} {r : Result V' EvalFault} {v : V} → Evaluates paths known view first old mid (Ok v)
        → Evaluates paths known' view' (λ files s. go files s (view (world_of mid.work) v)) mid new r → Evaluates paths known' view' (λ files s. then_read (first files s) (go files s)) old new r
    goes_on go {old} {mid} {new} {r} {v} x y =
        record {
          names = y.names ∙ x.names;
          kept = search keeps_both;
          blocks = blocks_both old.work mid.work new.work x.kept x.blocks y.blocks;
          serves = serves_both x.serves y.serves;
          reads = λ held. reaches_both _ _ _ (meter_of new) r x.serves
              (pays_value Err _ _ _ (x.reads held) (ap (λ s. go (files_in paths held) s (view (world_of mid.work) v)) (sym (state_kept old.work mid.work x.names x.kept))))
              (y.reads held);
          found = y.found;
        }

    -- something is made of the value
    pub makes : {old new : Moment} (f : A → A') {v : V} {v' : V'}
        → Evaluates paths known view first old new (Ok v) → known' new.work v' → view' (world_of new.work) v' ≡ f (view (world_of new.work) v)
        → Evaluates paths known' view' (λ files s. then_read (first files s) (λ a. gives (f a))) old new (Ok v')
    makes {old} {new} f {v} {v'} x is made =
        record { names = x.names; kept = x.kept; blocks = x.blocks; serves = x.serves; reads = λ held. pays_value Err _ (view (world_of new.work) v) _ (x.reads held) (ap gives (sym made)); found = is }

  -- texts are added to behind an argument
  pub adds : {meant : Files → State → Reads Given} {old : Moment} (w u : Work) {s : FilesValue} {a : Argument} → Evaluates paths (λ w a. IsKnownArgument (world_of w) a) argument_in meant old (moment_of w s) (Ok a) → names_in u ≡ names_in w → Keeps (world_of w) (world_of u) → KeepBlocks None w.store u.store → tab_of u ≡ tab_of w
      → Evaluates paths (λ w a. IsKnownArgument (world_of w) a) argument_in meant old (moment_of u s) (Ok a)
  adds {old = old} w u {s} {a} x names kept blocks same =
      record {
        names = names ∙ x.names;
        kept = search keeps_both;
        blocks = blocks_both old.work w u x.kept x.blocks blocks;
        serves = x.serves;
        reads = λ held. pays_both x.serves (x.reads held) (pays_same same (ap gives (sym (seen_kept (world_of w) (world_of u) w.settled u.settled kept of_argument x.found))));
        found = known_kept _ _ w.settled u.settled kept of_argument x.found;
      }

  -- what a form answers, behind what was read
  pub forms_behind : {w u : Work} {s t : FilesValue} {whole : Files → State → Reads Entry} {meant : Result Entry FaultValue} (charge : Entry → ℕ) (r : Result Value OpFault) {r' : Result Value EvalFault} → HasFormFault meant → Serves s t
      → ((held : Contents) → Pays held (metered (tab_of w) s) (metered (tab_of w) t) (whole (files_in paths held) (state_in w)) (costing charge meant)) → r' ≡ evaluated r → FormsIn r charge meant w u → Evaluates paths (IsValue None) entry_in whole (moment_of w s) (moment_of u t) r'
  forms_behind {w} {u} {meant = meant} charge r {r'} form serves pays is m =
      record {
        names = m.names;
        kept = form_keeps charge _ _ _ _ m.answers;
        blocks = m.answers.3.blocks;
        serves = serves;
        reads = λ held. form_reads (world_of w) (world_of u) (files_in paths held) charge meant form serves (pays held) (tab_of u) r r' is m.answers (form_costs charge r meant w u m);
        found = value_if u r' (evaluated_if _ r r' is (form_known charge r _ _ _ u.settled m.answers))
            (evaluated_if _ r r' is (form_unnamed _ w.names.unique (names_in u) charge r _ _ _ m.names w.live m.answers));
      }

  -- what a form answers
  pub forms : {w u : Work} {s : FilesValue} {meant : Result Entry FaultValue} (charge : Entry → ℕ) (r : Result Value OpFault) {r' : Result Value EvalFault} → HasFormFault meant → r' ≡ evaluated r → FormsIn r charge meant w u
      → Evaluates paths (IsValue None) entry_in (λ files t. costing charge meant) (moment_of w s) (moment_of u s) r'
  forms {s = s} charge r form is m = forms_behind charge r form (serves_self s) (λ held. pays_same refl refl) is m

  -- the name of a method or a function isn't there
  pub knows_none : {known : Work → Value → Type 0} (meant : Files → State → Reads Entry) {at : Moment} (f : EvalFault) (there : Bool) (n : Text) {r : Result Value EvalFault} → IsNoAttribute f n there → IsErrAnd r (λ e. e ≡ f) → Evaluates paths known entry_in (λ files s. where_named there n (meant files s)) at at r
  knows_none meant f there n {r = Ok v} none is = absurd is
  knows_none meant {at} f there n {r = Err e} none is = search (rules, keeps_same, blocks_self, serves_self, unknown_fault)

  -- the value of a name, and one that is written out
  pub names_value : (w : Work) {s : FilesValue} (n : Text) (r : Result Value EvalFault) → IfOk r (IsValue (Some n) w) → IfErr r (λ f. IsNoName f n (value_at (names_in w) n))
      → Evaluates paths (IsValue (Some n)) entry_in (λ files t. at_once (value_of_name n (t.value n))) (moment_of w s) (moment_of w s) r
  names_value w {s} = search (rules, keeps_same, blocks_self, serves_self, name_reads)

  pub writes_out : (w u : Work) {s : FilesValue} (e : Entry) (r : Result Value EvalFault) → names_in u ≡ names_in w → Keeps (world_of w) (world_of u) → KeepBlocks None w.store u.store → tab_of u ≡ tab_of w → IfOk r (λ v. entry_in (world_of u) v ≡ e) → IfOk r (IsValue None u) → IfErr r (λ f. f ≡ NoMemory)
      → Evaluates paths (IsValue None) entry_in (λ files t. gives e) (moment_of w s) (moment_of u s) r
  writes_out w u {s} e r names kept blocks same made found none = record { names = names; kept = kept; blocks = blocks; serves = serves_self s; reads = λ held. made_reads (files_in paths held) s (tab_of w) (tab_of u) (world_of u) e r same made none; found = found }
