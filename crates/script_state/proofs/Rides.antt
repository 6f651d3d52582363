-- Readings one after the other, and how far they have come.
use Rattle.{
  frame_calls.proofs.frame_parts.Common.{◌≡◌, ℕ, ◌+◌, Bool, List, Option, None, ◌∙◌, refl, sym, ap, arith, Result, Ok, Err, IfOk, IfErr, Code, Text, Contents, FaultValue, fault_of, Entry, Value, OpFault, World, entry_in, FormsFor},
  meaning_laws.{proofs.{cells.Common.{OnOk, option_map, zero-add, add-zero}, SpentLaws.{nothing-at_most}}, specs.{script.{Spent.{Spent, nothing_spent, cells_spent, spent_sum, IsAtMost}, Reading.{Files, Reading, Reads, at_once, gives, costing, after, then_or, then_read}, Expression.{where_named, value_of_name}}, FormFault.{HasFormFault}, tables.Cost.{cost_of}}},
  outside_io.specs.Files.{FilesValue, Serves},
  frame_store.specs.declared.fault.OpFault.TheVariants.{Refused as OpRefused, NoMemory as OpNoMemory},
  script_state.{specs.{Bindings.{Bindings, value_at}, declared.fault.EvalFault.{EvalFault, TheVariants.{Refused, Input, NoMemory}}, Faults.{IsNoAttribute, IsNoName, eval_fault, evaluated}, Reads.{both_of, Holds, Goes, Costs, Tab, Meter, metered, Pays, Stuck, Spends, Halts, Reaches, ReachesBytes, IsCaused, absent_name, count_after}}, proofs.Worlds.{entry_seen}},
}

-- readings after what was spent
pub after_both : {X : Type 0} (a b : Spent) (r : Reading X) → after a (after b r) ≡ after (spent_sum a b) r
after_both = grind arith

after_nothing : {X : Type 0} (r : Reading X) → after nothing_spent r ≡ r
after_nothing = grind arith

module _ {A X : Type 0} (stop : FaultValue → X) where
  pub then_gives : (a : A) (go : A → Reading X) → then_or stop (gives a) go ≡ go a
  then_gives = grind arith

  pub then_after : (n : Spent) (r : Reads A) (go : A → Reading X) → then_or stop (after n r) go ≡ after n (then_or stop r go)
  then_after = search after_both

-- the count after some and some more
pub count_after-add : (count a b : ℕ) → count_after (count_after count a) b ≡ count_after count (a + b)
count_after-add = grind (arith, zero-add, add-zero)

-- what is put on a tab
pub costs_same : {c c' : Tab} → c' ≡ c → Costs 0 c c'
costs_same {c} same = rw same (record { charge = refl; held = omega arith })

costs_both : {m n : ℕ} {first second third : Tab} → Costs m first second → Costs n second third → Costs (m + n) first third
costs_both {m} {n} {first} p q = record { charge = q.charge ∙ ap (λ c. count_after c n) p.charge ∙ count_after-add first.charge m n; held = omega (arith, p.held, q.held) }

-- two parts that are read together
module _ {X : Type 0} (stop : FaultValue → X) where
  module _ {A B : Type 0} where
    pub both_then : (x : Reads A) (y : Reads B) (go : A → B → Reading X) → then_or stop x (λ a. then_or stop y (go a)) ≡ then_or stop (both_of x y) (λ p. go p.0 p.1)
    both_then = grind (arith, then_after, then_gives)

pub serves_self : (s : FilesValue) → Serves s s
serves_self = grind arith

pub serves_both : {first second third : FilesValue} → Serves first second → Serves second third → Serves first third
serves_both = grind arith

-- the cause of a file that isn't there
pub caused_later : {first second : FilesValue} (third : FilesValue) → Serves first second → (paths : List (Text × Text)) (name : Option Text) → IsCaused paths second third name → IsCaused paths first third name
caused_later = grind arith

-- a fault that isn't that of a file
pub uncaused : (paths : List (Text × Text)) (old new : FilesValue) (name : Option Text) → name ≡ None → IsCaused paths old new name
uncaused _ _ _ _ is = rw is tt

-- the fault of a form, in what is meant
pub fault_uncaused : {A : Type 0} (texts : List Text) (paths : List (Text × Text)) (old new : FilesValue) (code : Code) (meant : Result A FaultValue) → HasFormFault meant → meant ≡ Err (fault_of texts code) → IsCaused paths old new (absent_name code)
fault_uncaused = grind arith

module _ {X : Type 0} {held : Contents} where
  -- nothing was spent
  pub goes_same : {s : FilesValue} {whole rest : Reading X} → whole ≡ rest → Goes held s s whole rest
  goes_same {rest = rest} is = record { spent = nothing_spent; counted = refl; meant = λ _. is ∙ sym (after_nothing rest) }

  pub goes_by : {old new : FilesValue} {whole other rest : Reading X} → whole ≡ other → Goes held old new other rest → Goes held old new whole rest
  goes_by {old} {new} {whole} {other} {rest} is g = rw is g

  pub goes_to : {old new : FilesValue} {whole rest other : Reading X} → Goes held old new whole rest → rest ≡ other → Goes held old new whole other
  goes_to {old} {new} {whole} g is = rw is at g

  module _ {first second : FilesValue} {a b : Reading X} (serves : Serves first second) (p : Goes held first second a b) where
    -- what holds for the whole holds for both parts of it
    halves : (n : Spent) → Holds first.contents (spent_sum p.spent n) a.spent held → (a ≡ after p.spent b) × Holds second.contents n b.spent held
    halves = grind (arith)

    counted_both : (third : FilesValue) (n : Spent) → third.fetches ≡ count_after second.fetches n.fetches → third.fetches ≡ count_after first.fetches (spent_sum p.spent n).fetches
    counted_both = grind (arith)

    within_both : (n : Spent) → (Holds second.contents n b.spent held → IsAtMost n b.spent) → Holds first.contents (spent_sum p.spent n) a.spent held → IsAtMost (spent_sum p.spent n) a.spent
    within_both = grind (arith, halves)

    pub goes_both : {third : FilesValue} {c : Reading X} → Goes held second third b c → Goes held first third a c
    goes_both = grind (arith, counted_both, halves, after_both)

    -- a read failed later
    pub stuck_both : {third : FilesValue} → Stuck held second third b → Stuck held first third a
    stuck_both = grind (arith, counted_both, within_both)

    -- memory was refused later
    pub spends_both : {third : FilesValue} → Spends held second third b → Spends held first third a
    spends_both {third} q = record { spent = spent_sum p.spent q.spent; counted = counted_both third q.spent q.counted; within = within_both q.spent q.within }

  -- nothing was spent, though less may be held
  pub pays_none : {s : FilesValue} {c c' : Tab} {whole rest : Reading X} → Costs 0 c c' → whole ≡ rest → Pays held (metered c s) (metered c' s) whole rest
  pays_none costs is = record { goes = record { spent = nothing_spent; counted = refl; meant = λ _. is ∙ sym (after_nothing _) }; costs = costs }

  pub pays_same : {s : FilesValue} {c c' : Tab} {whole rest : Reading X} → c' ≡ c → whole ≡ rest → Pays held (metered c s) (metered c' s) whole rest
  pays_same same is = pays_none (costs_same same) is

  pub pays_by : {old new : Meter} {whole other rest : Reading X} → whole ≡ other → Pays held old new other rest → Pays held old new whole rest
  pays_by {old} {new} {whole} {other} {rest} is p = rw is p

  pub pays_to : {old new : Meter} {whole rest other : Reading X} → Pays held old new whole rest → rest ≡ other → Pays held old new whole other
  pays_to {old} {new} {whole} p is = rw is at p

  pub pays_both : {first second third : Meter} {a b c : Reading X} → Serves first.files second.files → Pays held first second a b → Pays held second third b c → Pays held first third a c
  pays_both {third = third} serves p q =
      record {
        goes = record {
          spent = spent_sum p.goes.spent q.goes.spent;
          counted = counted_both serves p.goes third.files q.goes.spent q.goes.counted;
          meant = λ holds.
              let both = halves serves p.goes q.goes.spent holds in
              both.0 ∙ ap (after p.goes.spent) (q.goes.meant both.1) ∙ after_both p.goes.spent q.goes.spent _;
        };
        costs = costs_both p.costs q.costs;
      }

  pub goes_spends : {old new : FilesValue} {whole rest : Reading X} → Goes held old new whole rest → Spends held old new whole
  goes_spends = grind arith

  pub spends_none : {s : FilesValue} {whole : Reading X} → Spends held s s whole
  spends_none = record { spent = nothing_spent; counted = refl; within = λ _. nothing-at_most _ }

module _ {X : Type 0} (stop : FaultValue → X) (texts : List Text) where
  pub halts_by : (files : Files) (old new : FilesValue) {whole other : Reading X} (f : EvalFault) → whole ≡ other → Halts stop texts files old new other f → Halts stop texts files old new whole f
  halts_by = grind (arith, goes_by)

  pub halts_both : (files : Files) (third : FilesValue) {first second : FilesValue} {a b : Reading X} (f : EvalFault) → Serves first second → Goes files.held first second a b → Halts stop texts files second third b f → Halts stop texts files first third a f
  halts_both _ _ (Refused code) serves p h = search (goes_both, caused_later)
  halts_both _ _ Input serves p h = stuck_both serves p h
  halts_both _ _ NoMemory serves p h = spends_both serves p h

within_then : {A X : Type 0} (stop : FaultValue → X) (go : A → Reading X) (held : Contents) (contents : Option Contents) (whole : Reads A) (n : Spent)
    → (Holds contents n whole.spent held → IsAtMost n whole.spent) → Holds contents n (then_or stop whole go).spent held → IsAtMost n (then_or stop whole go).spent
within_then = grind (arith)

meant_then : {A X : Type 0} (stop : FaultValue → X) (go : A → Reading X) (held : Contents) (contents : Option Contents) (n : Spent) (whole rest : Reads A) → (Holds contents n whole.spent held → whole ≡ after n rest) → Holds contents n (then_or stop whole go).spent held → then_or stop whole go ≡ after n (then_or stop rest go)
meant_then = grind (arith, then_after)

module _ {A X : Type 0} {held : Contents} (stop : FaultValue → X) (go : A → Reading X) where
  -- what follows a reading
  pub goes_then : {old new : FilesValue} {whole rest : Reads A} → Goes held old new whole rest → Goes held old new (then_or stop whole go) (then_or stop rest go)
  goes_then {old} {whole = whole} {rest} g = record { spent = g.spent; counted = g.counted; meant = meant_then stop go held old.contents g.spent whole rest g.meant }

  pub pays_then : {old new : Meter} {whole rest : Reads A} → Pays held old new whole rest → Pays held old new (then_or stop whole go) (then_or stop rest go)
  pays_then {old} {new} {whole} {rest} p =
      record { goes = record { spent = p.goes.spent; counted = p.goes.counted; meant = meant_then stop go held old.files.contents p.goes.spent whole rest p.goes.meant }; costs = p.costs }

  -- the value goes on
  pub goes_value : {old new : FilesValue} {whole : Reads A} (a : A) (rest : Reading X) → Goes held old new whole (gives a) → go a ≡ rest → Goes held old new (then_or stop whole go) rest
  goes_value a _ g is = goes_to (goes_then g) (then_gives stop a go ∙ is)

  pub pays_value : {old new : Meter} {whole : Reads A} (a : A) (rest : Reading X) → Pays held old new whole (gives a) → go a ≡ rest → Pays held old new (then_or stop whole go) rest
  pays_value a rest p is = pays_to (pays_then p) (then_gives stop a go ∙ is)

  pub spends_then : {old new : FilesValue} {whole : Reads A} → Spends held old new whole → Spends held old new (then_or stop whole go)
  spends_then = grind (arith, within_then)

-- the fault of the first stops the whole
pub halts_first : {A X : Type 0} (texts : List Text) (files : Files) (old new : FilesValue) (whole : Reads A) (stop : FaultValue → X) (go : A → Reading X) (f : EvalFault)
    → Halts Err texts files old new whole f → Halts stop texts files old new (then_or stop whole go) f
halts_first = grind (arith, goes_to, goes_then, within_then, spends_then)

-- what an evaluation reaches
module _ {V A : Type 0} (view : V → A) (texts : List Text) (files : Files) where
  pub reaches_both : (third : Meter) {first second : Meter} {whole rest : Reads A} (r : Result V EvalFault) → Serves first.files second.files → Pays files.held first second whole rest
      → Reaches view texts files second third rest r → Reaches view texts files first third whole r
  reaches_both _ (Ok v) serves p h = pays_both serves p h
  reaches_both third (Err f) serves p h = halts_both Err texts files third.files f serves p.goes h

  pub reaches_by : (old new : Meter) {whole rest : Reads A} (r : Result V EvalFault) → whole ≡ rest → Reaches view texts files old new rest r → Reaches view texts files old new whole r
  reaches_by old new (Ok v) is h = pays_by is h
  reaches_by old new (Err f) is h = halts_by Err texts files old.files new.files f is h

pub bytes_by : {A : Type 0} (texts : List Text) (files : Files) (old new : Meter) {whole other : Reads A} (go : List ℕ → Reads A) (r : Result (List ℕ) EvalFault) → whole ≡ other
    → ReachesBytes go texts files old new other r → ReachesBytes go texts files old new whole r
bytes_by texts files old new go (Ok bytes) is h = pays_by is h
bytes_by texts files old new go (Err f) is h = halts_by Err texts files old.files new.files f is h

-- a form that was done, and one that was refused
paid_is : {A : Type 0} (n : ℕ) (a : A) → record { spent = cells_spent n; answer = Ok a } ≡ after (cells_spent n) (gives a)
paid_is = grind (arith, add-zero)

module _ {A : Type 0} (charge : A → ℕ) where
  paid_for : {held : Contents} {s : FilesValue} {c c' : Tab} (a : A) → Costs (charge a) c c' → Pays held (metered c s) (metered c' s) (costing charge (Ok a)) (gives a)
  paid_for a paid = record { goes = record { spent = cells_spent (charge a); counted = refl; meant = λ _. paid_is (charge a) a }; costs = paid }

  pub cost_paid : {held : Contents} {s : FilesValue} {c c' : Tab} (meant : Result A FaultValue) (a : A) → meant ≡ Ok a → Costs (cost_of charge meant) c c' → Pays held (metered c s) (metered c' s) (costing charge meant) (gives a)
  cost_paid meant a is paid = rw is (paid_for a (rw is at paid))

  pub cost_refused : (meant : Result A FaultValue) (fault : FaultValue) → meant ≡ Err fault → costing charge meant ≡ at_once (Err fault)
  cost_refused meant fault is = rw is refl

-- what costs nothing
pub cost_nothing : {A : Type 0} (meant : Result A FaultValue) → at_once meant ≡ costing (λ _. 0) meant
cost_nothing (Ok a) = refl
cost_nothing (Err fault) = refl

-- what a form answers, as the whole does
pub form_meant : (charge : Entry → ℕ) (w w' : World) (meant : Result Entry FaultValue) (v : Value) → FormsFor charge (Ok v) meant w w' → meant ≡ Ok (entry_in w' v)
form_meant charge w w' meant v h = h.0.0 ∙ ap Ok (entry_seen w' v)

module _ (w w' : World) (files : Files) {s t : FilesValue} {c : Tab} {whole : Reads Entry} (charge : Entry → ℕ) (meant : Result Entry FaultValue) (form : HasFormFault meant) (serves : Serves s t) (p : Pays files.held (metered c s) (metered c t) whole (costing charge meant)) where
  form_halts : (f : OpFault) → FormsFor charge (Err f) meant w w' → Halts Err w'.texts files s t whole (eval_fault f)
  form_halts (OpRefused code) h =
      let refuses = h.0.0 in
      (goes_to p.goes (cost_refused charge meant _ refuses.0), fault_uncaused w'.texts files.paths s t code meant form refuses.0, refuses.1)
  form_halts OpNoMemory h = goes_spends p.goes

  form_at : (c' : Tab) (r : Result Value OpFault) → FormsFor charge r meant w w' → OnOk r (Costs (cost_of charge meant) c c') → Reaches (entry_in w') w'.texts files (metered c s) (metered c' t) whole (evaluated r)
  form_at c' (Ok v) h paid = pays_both serves p (cost_paid charge meant (entry_in w' v) (form_meant charge w w' meant v h) paid)
  form_at c' (Err f) h paid = form_halts f h

  pub form_reads : (c' : Tab) (r : Result Value OpFault) (r' : Result Value EvalFault) → r' ≡ evaluated r → FormsFor charge r meant w w' → OnOk r (Costs (cost_of charge meant) c c') → Reaches (entry_in w') w'.texts files (metered c s) (metered c' t) whole r'
  form_reads c' r r' is h paid = rw is (form_at c' r h paid)

pub evaluated_if : (P : Value → Type 0) (r : Result Value OpFault) (r' : Result Value EvalFault) → r' ≡ evaluated r → IfOk r P → IfOk r' P
evaluated_if P = grind arith

-- a name that isn't there is the fault, or memory was refused
pub unknown_fault : (texts : List Text) (files : Files) (s : FilesValue) (f : EvalFault) (known : Bool) (n : Text) (rest : Reads Entry) → IsNoAttribute f n known → Halts Err texts files s s (where_named known n rest) f
unknown_fault = grind (arith, goes_same, uncaused, spends_none)

-- a name that stands for nothing
pub unnamed_fault : (texts : List Text) (files : Files) (s : FilesValue) (bs : Bindings) (w : World) (n : Text) (f : EvalFault) → IsNoName f n (value_at bs n) → Halts Err texts files s s (at_once (value_of_name n (option_map (entry_in w) (value_at bs n)))) f
unnamed_fault = grind (arith, goes_same, uncaused, spends_none)

-- what is made without a fetch, unless memory is refused
pub made_reads : (files : Files) (s : FilesValue) (c c' : Tab) (w : World) (e : Entry) (r : Result Value EvalFault) → c' ≡ c → IfOk r (λ v. entry_in w v ≡ e) → IfErr r (λ f. f ≡ NoMemory) → Reaches (entry_in w) w.texts files (metered c s) (metered c' s) (gives e) r
made_reads files s c c' w e (Ok v) same is none = pays_same same (ap gives (sym is))
made_reads files s c c' w e (Err f) same is none = rw none spends_none

-- The parts of a list one after the other: the parts so far are joined to what the rest gives.
abbrev pub ahead : {G L : Type 0} → (G → L → L) → Reads G → Reads L → Reads L
ahead cons first rest = then_read first (λ g. then_read rest (λ l. gives (cons g l)))

abbrev pub joined : {L : Type 0} → (L → L → L) → L → Reads L → Reads L
joined join so_far rest = then_read rest (λ l. gives (join so_far l))

module _ {G L : Type 0} (cons : G → L → L) (join : L → L → L) where
  next_is : (rest : Reads L) (so_far : L) (g : G) (so_far' : L) → ((l : L) → join so_far (cons g l) ≡ join so_far' l) → then_read (then_read rest (λ l. gives (cons g l))) (λ l. gives (join so_far l)) ≡ joined join so_far' rest
  next_is = grind (arith, then_after, then_gives)

  module _ {held : Contents} {whole : Reads L} {old mid new : Meter} (serves : Serves old.files mid.files) (first : Reads G) (rest : Reads L) (so_far : L) (seen : Pays held old mid whole (joined join so_far (ahead cons first rest))) where
    pub loop_next : (g : G) (so_far' : L) → Pays held mid new first (gives g) → ((l : L) → join so_far (cons g l) ≡ join so_far' l) → Pays held old new whole (joined join so_far' rest)
    loop_next g so_far' p law =
        let tail : G → Reads L = λ g. then_read rest (λ l. gives (cons g l)) in
        let end : L → Reads L = λ l. gives (join so_far l) in
        pays_both serves seen (pays_to (pays_then Err end (pays_then Err tail p)) (ap (λ (r : Reads L). then_read r end) (then_gives Err g tail) ∙ next_is rest so_far g so_far' law))

  pub loop_end : {held : Contents} {whole : Reads L} {old new : Meter} (rest : Reads L) (end so_far : L) → Pays held old new whole (joined join so_far rest) → rest ≡ gives end → join so_far end ≡ so_far → Pays held old new whole (gives so_far)
  loop_end rest end so_far seen is law =
      let go : L → Reads L = λ l. gives (join so_far l) in
      pays_to seen (ap (λ (r : Reads L). then_read r go) is ∙ then_gives Err end go ∙ ap (λ (l : L). gives l) law)

pub loop_fault : {G L : Type 0} (texts : List Text) (files : Files) (new : FilesValue) (cons : G → L → L) (join : L → L → L) {whole : Reads L} {old mid : FilesValue} (serves : Serves old mid) (first : Reads G) (rest : Reads L) (so_far : L)
    → Goes files.held old mid whole (joined join so_far (ahead cons first rest)) → (f : EvalFault) → Halts Err texts files mid new first f → Halts Err texts files old new whole f
loop_fault _ _ _ _ _ {whole} {old} {mid} = search (halts_both, halts_first)
