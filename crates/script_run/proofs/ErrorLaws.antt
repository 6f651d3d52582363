-- What a run leaves on the errors.
use Rattle.{script_session.{proofs.cells.Common.{◌≡◌, ◌≢◌, ◌≤◌, ◌+◌, ℕ, Bool, true, false, List, [], ◌∷◌, ◌++◌, ◌⊎◌, ◌||◌, refl, sym, ap, ◌∙◌, arith, codes, inl, inr, append-nil, append_assoc, flat_map-append, Code, Text, FaultValue, fault_of, fault_text}, specs.{script.Run.{warning_line, line_about, stats_line}, script_state.Reads.{IsCaused, absent_name}}}, std.proofs.{Common.{true≢false}, lemmas.List.Elements.{All-append, All-cons, All-nil}}, outside_io.{specs.{Count.{HasRisen}, Files.{FilesValue}, Sink.{appended, AppendsFront}}, proofs.Appended.{appended-appended, appended-nil}}, meaning_run.specs.words.Words.{Flags}, script_run.{proofs.{StepLaws.{Written}}, specs.{Errors.{ErrorLine, warning, refusal, line_text, lines_text, faults_in, HasNoFault, HasFault, MayHaveFault, IsOfStatement, IsOfGivenFiles, IsLineOfGivenFiles, Reports, StatementsLeave, RunLeaves}, Ends.{EndsWithLine, IsCutShort}, declared.status.Status.{Status, TheVariants.{Done, Fault, Usage, Syntax, Input, Output, Memory}}}}}

-- ---- lines, and lines behind them

faults_in-append : (a b : List ErrorLine) → faults_in (a ++ b) ≡ faults_in a + faults_in b
faults_in-append [] b = omega arith
faults_in-append (warning line ∷ a) b = faults_in-append a b
faults_in-append (refusal line fault ∷ a) b = omega (arith, faults_in-append a b)

no_faults : (a b : List ErrorLine) → HasNoFault a → HasNoFault b → HasNoFault (a ++ b)
no_faults a b x y = omega (arith, faults_in-append a b, x, y)

fault_last : (a b : List ErrorLine) → HasNoFault a → HasFault false b → HasFault false (a ++ b)
fault_last a b x (warnings, line, fault, none, is) =
    (a ++ warnings, line, fault, no_faults a warnings x none, ap (λ l. a ++ l) is ∙ sym (append_assoc a warnings (refusal line fault ∷ [])))

-- a fault that is the last line is one
fault_among : (lines : List ErrorLine) → HasFault false lines → HasFault true lines
fault_among lines (warnings, line, fault, none, is) =
    let one : faults_in (refusal line fault ∷ []) ≡ 1 = omega arith in
    omega (arith, ap faults_in is, faults_in-append warnings (refusal line fault ∷ []), one)

fault_before : (a b : List ErrorLine) → HasFault true a → HasFault true (a ++ b)
fault_before a b some = omega (arith, faults_in-append a b, some)

fault_behind : (a b : List ErrorLine) → HasFault true b → HasFault true (a ++ b)
fault_behind a b some = omega (arith, faults_in-append a b, some)

-- the lines so far, after a fault or none
abbrev pub IsSoFar : Bool → List ErrorLine → Type 0
IsSoFar false lines = HasNoFault lines
IsSoFar true lines = HasFault true lines

-- and those of a statement more
turn_lines : (faulted rejected : Bool) (a b : List ErrorLine) → IsSoFar faulted a → IsOfStatement rejected b → IsSoFar (faulted || rejected) (a ++ b)
turn_lines false false a b x y = no_faults a b x y
turn_lines true false a b x y = fault_before a b x
turn_lines false true a b x y = fault_behind a b (fault_among b y)
turn_lines true true a b x y = fault_behind a b (fault_among b y)

-- ---- what is reported

-- a count that hasn't risen had not risen before, nor rose later
still_before : (a b c : ℕ) → a ≤ b → b ≤ c → ¬ (HasRisen a c) → ¬ (HasRisen a b)
still_before = grind arith

still_later : (a b c : ℕ) → a ≤ b → ¬ (HasRisen a c) → ¬ (HasRisen b c)
still_later = grind arith

pub risen_before : (a b c : ℕ) → a ≤ b → HasRisen b c → HasRisen a c
risen_before = grind arith

-- a write that failed, or want of memory, is no read that failed
pub never_read : (status : Status) → (status ≡ Output) ⊎ (status ≡ Memory) → status ≡ Input → ⊥
never_read = grind arith

module _ (paths : List (Text × Text)) where
  reports_both : (P Q R : List ErrorLine → Type 0) (a b c : ℕ) (first second third : Written) → a ≤ b → b ≤ c → ((x y : List ErrorLine) → P x → Q y → R (x ++ y)) → Reports paths a b P first second → Reports paths b c Q second third
      → Reports paths a c R first third
  reports_both P Q R a b c first second third before later both p q = record {
    lines = p.lines ++ q.lines;
    are_so = both p.lines q.lines p.are_so q.are_so;
    cause = λ still. All-append (IsLineOfGivenFiles paths) p.lines q.lines (p.cause (still_before a b c before later still)) (q.cause (still_later a b c before still));
    errors = q.errors ∙ ap (λ w. appended w (lines_text q.lines)) p.errors ∙ appended-appended first (lines_text p.lines) (lines_text q.lines)
        ∙ ap (appended first) (sym (flat_map-append line_text p.lines q.lines));
  }

  -- lines that are so in another way, and after absences that may have risen
  reports_other : (P Q : List ErrorLine → Type 0) (a b c : ℕ) (old new : Written) → a ≤ b → ((x : List ErrorLine) → P x → Q x) → Reports paths b c P old new → Reports paths a c Q old new
  reports_other P Q a b c old new before other p = record { lines = p.lines; are_so = other p.lines p.are_so; cause = λ still. p.cause (still_later a b c before still); errors = p.errors }

  -- no line was written
  reports_none : (P : List ErrorLine → Type 0) (a b : ℕ) (old new : Written) → P [] → new ≡ old → Reports paths a b P old new
  reports_none P a b old new so is = record { lines = []; are_so = so; cause = λ _. All-nil (IsLineOfGivenFiles paths); errors = is ∙ sym (appended-nil old) }

  pub reports_same : (a b : ℕ) (old new : Written) → new ≡ old → Reports paths a b HasNoFault old new
  reports_same a b old new is = reports_none HasNoFault a b old new refl is

  pub reports_nothing : (a b : ℕ) (text : Written) → Reports paths a b HasNoFault text text
  reports_nothing a b text = reports_none HasNoFault a b text text refl refl

  -- a statement warns once or not at all
  pub reports_warning : (line : ℕ) (marked : Bool) (a b : ℕ) (old new : Written) → new ≡ appended old (warning_line line marked) → Reports paths a b HasNoFault old new
  reports_warning line true a b old new is = record { lines = warning line ∷ []; are_so = refl; cause = λ _. All-cons (IsLineOfGivenFiles paths) (warning line) [] tt (All-nil (IsLineOfGivenFiles paths)); errors = is ∙ ap (appended old) (sym (append-nil (warning_line line true))) }
  reports_warning line false a b old new is = reports_none HasNoFault a b old new refl (is ∙ appended-nil old)

  -- and it is refused by one line behind that
  pub reports_refusal : (line : ℕ) (marked : Bool) (fault : FaultValue) (a b : ℕ) (old mid new : Written) → a ≤ b → (¬ (HasRisen a b) → IsOfGivenFiles paths fault) → mid ≡ appended old (warning_line line marked)
      → new ≡ appended mid (line_about line (fault_text fault)) → Reports paths a b (HasFault false) old new
  reports_refusal line marked fault a b old mid new within cause first second =
      let warned : Reports paths a a HasNoFault old mid = reports_warning line marked a a old mid first in
      reports_both HasNoFault (HasFault false) (HasFault false) a a b old mid new (omega arith) within fault_last warned
      (record {
        lines = refusal line fault ∷ [];
        are_so = ([], line, fault, refl, refl);
        cause = λ still. All-cons (IsLineOfGivenFiles paths) (refusal line fault) [] (cause still) (All-nil (IsLineOfGivenFiles paths));
        errors = second ∙ ap (appended mid) (sym (append-nil (line_about line (fault_text fault))));
      })

  -- a fault that is caused isn't that the file of a given name isn't there, where no absence rose
  pub given_files : (texts : List Text) (old new : FilesValue) (c : Code) → IsCaused paths old new (absent_name c) → ¬ (HasRisen old.absences new.absences) → IsOfGivenFiles paths (fault_of texts c)
  given_files = grind arith

  -- ---- what a run leaves that is cut short

  -- a statement, before which nothing was written
  pub leaves_unread : (a b : ℕ) (old new : Written) → AppendsFront old new (codes "input failed\n") → StatementsLeave false paths a b Input old new
  leaves_unread a b old new front = (old, reports_nothing a b old, front)

  pub leaves_cut : (a b : ℕ) (status : Status) (old new : Written) → (status ≡ Output) ⊎ (status ≡ Memory) → (status ≡ Memory → Reports paths a b HasNoFault old new) → StatementsLeave false paths a b status old new
  leaves_cut a b status old new (inl output) more = rw output tt
  leaves_cut a b status old new (inr memory) more = rw memory (more memory)

  cut_lines : (keep_going faulted : Bool) → (faulted ≡ true → keep_going ≡ true) → (x y : List ErrorLine) → IsSoFar faulted x → MayHaveFault false y → MayHaveFault keep_going (x ++ y)
  cut_lines true faulted keeps x y so none = tt
  cut_lines false true keeps x y so none = absurd (true≢false (sym (keeps refl)))
  cut_lines false false keeps x y so none = no_faults x y so none

  module _ (flags : Flags) (faulted : Bool) (keeps : faulted ≡ true → flags.keep_going ≡ true) (a b c : ℕ) (before : a ≤ b) (later : b ≤ c) (first second third : Written) (so_far : Reports paths a b (IsSoFar faulted) first second) where
    -- lines so far, and then a statement at which the run is cut short
    pub leaves_later : (status : Status) → IsCutShort status → StatementsLeave false paths b c status second third → RunLeaves flags paths a c status first third
    leaves_later status (inl input) left = go (rw input at left)
      where
        go : StatementsLeave false paths b c Input second third → RunLeaves flags paths a c status first third
        go (mid, lines, front) = rw input (mid, reports_both (IsSoFar faulted) HasNoFault (MayHaveFault flags.keep_going) a b c first second mid before later (cut_lines flags.keep_going faulted keeps) so_far lines, front)
    leaves_later status (inr (inl output)) left = rw output tt
    leaves_later status (inr (inr memory)) left =
        rw memory (reports_both (IsSoFar faulted) HasNoFault (MayHaveFault flags.keep_going) a b c first second third before later (cut_lines flags.keep_going faulted keeps) so_far (rw memory at left))

    -- or one that is refused, and is the last
    pub leaves_refused : flags.keep_going ≡ false → Reports paths b c (IsOfStatement true) second third → RunLeaves flags paths a c Fault first third
    leaves_refused ends lines =
        reports_both (IsSoFar faulted) (HasFault false) (HasFault flags.keep_going) a b c first second third before later (last faulted refl) so_far lines
      where
        last : (f : Bool) → faulted ≡ f → (x y : List ErrorLine) → IsSoFar faulted x → HasFault false y → HasFault flags.keep_going (x ++ y)
        last true is x y so fault = absurd (true≢false (sym (keeps is) ∙ ends))
        last false is x y so fault = rw ends (fault_last x y (rw is at so) fault)

    -- or one after which the run goes on
    pub reports_turn : (rejected : Bool) → Reports paths b c (IsOfStatement rejected) second third → Reports paths a c (IsSoFar (faulted || rejected)) first third
    reports_turn rejected lines = reports_both (IsSoFar faulted) (IsOfStatement rejected) (IsSoFar (faulted || rejected)) a b c first second third before later (turn_lines faulted rejected) so_far lines

  -- all statements were done or refused
  pub leaves_faulted : (flags : Flags) (a b : ℕ) (old new : Written) → flags.keep_going ≡ true → Reports paths a b (IsSoFar true) old new → RunLeaves flags paths a b Fault old new
  leaves_faulted flags a b old new keeps lines = rw keeps lines

  pub leaves_done : (flags : Flags) (a b : ℕ) (old new : Written) → flags.stats ≡ false → Reports paths a b (IsSoFar false) old new → RunLeaves flags paths a b Done old new
  leaves_done flags a b old new plain lines = (new, lines, rw plain refl)

  -- want of memory before all of them
  pub leaves_nothing : (flags : Flags) (a b : ℕ) (old new : Written) → new ≡ old → RunLeaves flags paths a b Memory old new
  leaves_nothing flags a b old new is = reports_none (MayHaveFault flags.keep_going) a b old new (may flags.keep_going) is
    where
      may : (keep_going : Bool) → MayHaveFault keep_going []
      may true = tt
      may false = refl

  -- the script could not be read
  pub leaves_script_unread : (flags : Flags) (a b : ℕ) (old new : Written) → AppendsFront old new (codes "input failed\n") → RunLeaves flags paths a b Input old new
  leaves_script_unread flags a b old new front = (old, leaves_nothing flags a b old old refl, front)

  -- the line of `--stats` behind the lines of all statements
  pub leaves_stats : (flags : Flags) (a b : ℕ) (peak charge : ℕ) (result : Status) (old mid new : Written) → flags.stats ≡ true → Reports paths a b (IsSoFar false) old mid → EndsWithLine (stats_line peak charge) Done result mid new
      → RunLeaves flags paths a b result old new
  leaves_stats flags a b peak charge result old mid new told lines (inl p) = rw p.0 (mid, lines, rw told (peak, charge, p.1))
  leaves_stats flags a b peak charge result old mid new told lines (inr (inl p)) = rw p.0 tt
  leaves_stats flags a b peak charge result old mid new told lines (inr (inr p)) =
      rw (p.0, p.1) (reports_other HasNoFault (MayHaveFault flags.keep_going) a a b old mid (omega arith) (may flags.keep_going) lines)
    where
      may : (keep_going : Bool) (x : List ErrorLine) → HasNoFault x → MayHaveFault keep_going x
      may true x none = tt
      may false x none = none

  -- absences that may have risen before
  pub run_leaves_later : (flags : Flags) (a b c : ℕ) (status : Status) (old new : Written) → a ≤ b → RunLeaves flags paths b c status old new → RunLeaves flags paths a c status old new
  run_leaves_later flags a b c Done old new before (mid, lines, told) = (mid, reports_other HasNoFault HasNoFault a b c old mid before (λ _ so. so) lines, told)
  run_leaves_later flags a b c Fault old new before lines = reports_other (HasFault flags.keep_going) (HasFault flags.keep_going) a b c old new before (λ _ so. so) lines
  run_leaves_later flags a b c Usage old new before left = tt
  run_leaves_later flags a b c Syntax old new before left = left
  run_leaves_later flags a b c Input old new before (mid, lines, front) = (mid, reports_other (MayHaveFault flags.keep_going) (MayHaveFault flags.keep_going) a b c old mid before (λ _ so. so) lines, front)
  run_leaves_later flags a b c Output old new before left = tt
  run_leaves_later flags a b c Memory old new before lines = reports_other (MayHaveFault flags.keep_going) (MayHaveFault flags.keep_going) a b c old new before (λ _ so. so) lines

  -- the line of a script that isn't there, or of bytes that are no script
  pub run_leaves_line : (flags : Flags) (a b : ℕ) (line : Text) (status result : Status) (old new : Written) → (new ≡ appended old line → RunLeaves flags paths a b status old new) → EndsWithLine line status result old new → RunLeaves flags paths a b result old new
  run_leaves_line flags a b line status result old new left (inl p) = rw p.0 (left p.1)
  run_leaves_line flags a b line status result old new left (inr (inl p)) = rw p.0 tt
  run_leaves_line flags a b line status result old new left (inr (inr p)) = rw p.0 (leaves_nothing flags a b old new p.1)

-- what ends a statement doesn't end a run as one that isn't there
pub never_usage : (status : Status) → IsCutShort status → status ≢ Usage
never_usage = grind arith

-- what the errors are where a run ends with the line that the script isn't there
pub absent_said : (line : Text) (result : Status) (old new : Written) → EndsWithLine line Usage result old new → result ≡ Usage → new ≡ appended old line
absent_said = grind arith

-- a run that ends with another line
pub never_absent : (line : Text) (result : Status) (old new : Written) → EndsWithLine line Syntax result old new → result ≢ Usage
never_absent = grind arith
