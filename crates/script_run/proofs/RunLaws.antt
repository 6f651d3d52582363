-- What one statement of a run, its lines and its failures make of the run.
use Rattle.{
  script_session.{proofs.{script_state.laws.{SpentLaws.{sum-nothing}, PaidLaws.{least-append}}, cells.Common.{err_from_is_err_and, lt-ltb, le-ltb, append-nil, nil_from_length, flat_map-append, rules, ◌≡◌, ◌≢◌, ℕ, zero, suc, ◌+◌, ◌<◌, ◌≤◌, length, List, [], ◌∷◌, ◌++◌, drop, Option, Some, refl, sym, ◌∙◌, ap, subst, append_assoc, length-append, add-zero, arith, max, inl, inr, ◌⊎◌, codes, slice_get, Bool, true, false, ◌||◌, IfSome, IfErr, IsErrAnd, Result, Text, Contents, FaultValue, fault_text}}, specs.{language.Tree.{Statement}, script.{Spent.{Spent, nothing_spent, spent_sum}, Reading.{Files, Reading, at_once}, State.{State, most_rows}, Statement.{Answer, done, refused, statement_result}, Run.{RunStep, RunResult, Ending, fault, finished, errors_of, spent_of, before_fetch, after_step, after_fault, after_answer, after_reading, statements_result, warning_line, line_about, with_line}}, script_state.Reads.{Goes, Holds, Meter, Pays, Stuck, count_after}}},
  std.proofs.{Common.{true≢false}, Math.ListN.{drop_of_length-le}},
  outside_io.{specs.{Count.{HasRisen}, Files.{FilesValue}, Sink.{appended, AppendsFront, AppendsPart}}, proofs.Appended.{appended-appended, appended-nil}},
  script_run.{specs.{Ends.{Outside, Ends, EndsAs, EndsEarly, EndsUnwritten, EndsUnread, EndsWithLine, Is, status_of}, Steps.{Does, Tally, ComesTo, GoesOn, Stops, after_steps, after_turn}, declared.status.Status.{Status, TheVariants.{Done, Fault, Input, Output, Memory}}}, proofs.{Options.{some-told}, StepLaws.{Written, spent_of-append, before_fetch-append, before_byte-append, count_after-add, does_one, does_more, text_more}}},
}

-- nothing was written yet
pub nothing_yet : (old new : Written) (whole : Text) → new ≡ old → AppendsFront old new whole
nothing_yet = grind (arith, appended-nil)

-- a front of a front
front_of : (old new : Written) (whole rest : Text) → AppendsFront old new whole → AppendsFront old new (whole ++ rest)
front_of _ _ _ rest f = (f.0, f.1 ++ rest, f.2, grind (arith, append_assoc))

-- a front of what comes after a text that was written
front_after : (text whole both : Text) (old mid new : Written) → both ≡ text ++ whole → mid ≡ appended old text → AppendsFront mid new whole → AppendsFront old new both
front_after = grind (arith, appended-appended, append_assoc)

-- a part of a text that more follows
part_of : (old new : Written) (whole rest : Text) → AppendsPart old new whole → AppendsPart old new (whole ++ rest)
part_of _ _ _ rest f = (f.0, f.1 ++ rest, more _ f.2, f.3, grind (arith, append_assoc))
  where
    more : (some : Text) → some ≢ [] → some ++ rest ≢ []
    more [] none _ = none refl
    more (b ∷ bs) some is = cc

-- a part of what comes after a text that was written
part_after : (old mid new : Written) (text whole : Text) → mid ≡ appended old text → AppendsPart mid new whole → AppendsPart old new (text ++ whole)
part_after old mid new text whole wrote (front, rest, some, is, split) =
    (text ++ front, rest, some, is ∙ ap (λ w. appended w front) wrote ∙ appended-appended old text front, ap (λ t. text ++ t) split ∙ sym (append_assoc text front rest))

-- the result of one step, and then of others
abbrev pub first_then : RunStep → List RunStep → Ending → RunResult
first_then step others ending = record { steps = step ∷ others; ending = ending }

module _ (old new : Outside) where
  -- nothing was written
  pub early_none : (means : RunResult → Type 0) (r : RunResult) → means r → new.out ≡ old.out → new.err ≡ old.err → EndsEarly means old new
  early_none = search nothing_yet

  module _ (step : RunStep) (others : List RunStep) (ending : Ending) where
    -- the errors of the first step could not be written
    unwritten_first : new.out ≡ old.out → AppendsPart old.err new.err step.errors → EndsUnwritten (Is (first_then step others ending)) old new
    unfolding part_of
    unwritten_first out part =
        let all : AppendsPart old.err new.err (errors_of (step ∷ others)) = search part_of in
        grind (arith, lt-ltb, length-append, nil_from_length, nothing_yet, appended-nil)

    -- they were written, but not what it prints
    unwritten_output : AppendsFront old.out new.out step.output → new.err ≡ appended old.err step.errors → HasRisen old.out_faults new.out_faults → EndsUnwritten (Is (first_then step others ending)) old new
    unwritten_output front err risen = (_, refl, front_of _ _ _ _ front, (step.errors, errors_of others, refl, err, grind arith))

    -- they were written in part, for want of memory
    early_errors : new.out ≡ old.out → AppendsFront old.err new.err step.errors → EndsEarly (Is (first_then step others ending)) old new
    early_errors out front = (_, refl, nothing_yet _ _ _ out, front_of _ _ _ _ front)

    -- they could not be written, for one of both
    stops_first : (status : Status) → (status ≡ Output) ⊎ (status ≡ Memory) → new.out ≡ old.out → AppendsPart old.err new.err step.errors → Ends (Is (first_then step others ending)) status old new
    stops_first _ (inl output) out part = rw output (unwritten_first out part)
    stops_first _ (inr memory) out part = rw memory (search early_errors)

  -- a read failed in the first step
  pub unread_first : (means : RunResult → Type 0) (r : RunResult) → means r → (step : RunStep) (others : List RunStep) → r.steps ≡ step ∷ others → (m : ℕ) → m ≤ step.spent.fetches → 0 < m → new.files.fetches ≡ count_after old.files.fetches m → new.out ≡ old.out
      → AppendsFront old.err new.err (codes "input failed\n") → (¬ (HasRisen old.err_faults new.err_faults) → new.err ≡ appended old.err (codes "input failed\n")) → EndsUnread means old new
  unread_first = grind (arith, le-ltb, nothing_yet, appended-nil)

  ends_as : (ending : Ending) (means : RunResult → Type 0) → EndsAs means (status_of ending) old new → Ends means (status_of ending) old new
  ends_as = grind arith

  -- a run of one step whose errors end with a line, where what stands before the line was written
  pub ends_with_lines : (ending : Ending) (spent : Spent) (before line : Text) (result : Status) (mid : Written) → new.out ≡ old.out → mid ≡ appended old.err before → new.files.fetches ≡ count_after old.files.fetches spent.fetches
      → EndsWithLine line (status_of ending) result mid new.err → Ends (Is (first_then (record { output = []; errors = before ++ line; spent = spent; rows = 0 }) [] ending)) result old new
  ends_with_lines _ _ _ _ _ _ out wrote count (inl last) = rw last.0 (ends_as _ _ (grind (arith, appended-nil, append-nil, appended-appended)))
  ends_with_lines _ _ _ _ _ _ out wrote count (inr (inl last)) =
      let f = front_after _ _ _ _ _ _ refl wrote last.1 in
      rw last.0 (_, refl, nothing_yet _ _ _ out, (f.0, f.1, grind (arith, append-nil), f.2, grind (arith, appended-nil)))
  ends_with_lines _ _ _ _ _ _ out wrote count (inr (inr last)) = search (rules, early_errors)

  -- a run that ends with one line
  pub ends_with_line : (ending : Ending) (line : Text) (result : Status) → new.out ≡ old.out → new.files.fetches ≡ old.files.fetches → EndsWithLine line (status_of ending) result old.err new.err → Ends (Is (with_line line ending)) result old new
  ends_with_line = search (rules, ends_with_lines, appended-nil)

  -- a run that ends with one line on the output
  pub ends_with_output : (ending : Ending) (line : Text) (result : Status) → new.err ≡ old.err → new.files.fetches ≡ old.files.fetches → EndsWithLine line (status_of ending) result old.out new.out
      → Ends (Is (first_then (record { output = line; errors = []; spent = nothing_spent; rows = 0 }) [] ending)) result old new
  ends_with_output ending _ _ err count (inl last) = rw last.0 (ends_as ending _ (_, refl, refl, rw append-nil last.1, err ∙ sym (appended-nil _), count))
  ends_with_output _ _ _ err count (inr (inl last)) = rw last.0 (_, refl, front_of _ _ _ [] last.1, ([], [], refl, err ∙ sym (appended-nil _), λ _ some. absurd (some refl)))
  ends_with_output _ _ _ err count (inr (inr last)) = rw last.0 (early_none _ _ refl last.1 err)

-- a meaning after some steps
abbrev pub After : List RunStep → (RunResult → Type 0) → RunResult → Type 0
After steps means result = (rest : RunResult) × means rest × (result ≡ after_steps steps rest)

-- a count that hasn't risen has not risen later
not_later : (old mid new : ℕ) → old ≤ mid → ¬ (HasRisen old new) → ¬ (HasRisen mid new)
not_later = grind arith

module _ (means : RunResult → Type 0) (steps : List RunStep) (old mid new : Outside) (does : Does steps old mid) where
  as_after : (status : Status) → EndsAs means status mid new → EndsAs (After steps means) status old new
  as_after _ t = (
    after_steps steps t.0,
    (t.0, t.1, refl),
    t.2,
    search text_more,
    search text_more,
    grind (arith, count_after-add, spent_of-append),
  )

  early_after : EndsEarly means mid new → EndsEarly (After steps means) old new
  early_after t = (after_steps steps t.0, (t.0, t.1, refl), search (front_after, flat_map-append), search (front_after, flat_map-append))

  unwritten_after : EndsUnwritten means mid new → EndsUnwritten (After steps means) old new
  unwritten_after t =
      let rest = t.0 in
      let last = t.3 in
      let place = rw (← length-append) at (before_byte-append steps rest.steps (length last.0)) in
      let no_out = not_later _ _ new.out_faults does.out_faults in (
        after_steps steps rest,
        (rest, t.1, refl),
        search (front_after, flat_map-append),
        (
          errors_of steps ++ last.0,
          last.1,
          search (append_assoc, flat_map-append, last.2),
          last.3 ∙ ap (λ w. appended w last.0) does.err ∙ appended-appended _ _ _,
          λ ok some. rw place (text_more (λ step. step.output) steps _ _ _ _ does.out (last.4 (no_out ok) some)),
        ),
      )

  unread_after : EndsUnread means mid new → EndsUnread (After steps means) old new
  unread_after t =
      let rest = t.0 in
      let last = t.3 in
      let read = t.4 in
      let place = before_fetch-append steps rest.steps read.0 read.1 in
      let no_out = not_later _ _ new.out_faults does.out_faults in
      let no_err = not_later _ _ new.err_faults does.err_faults in
      let split = flat_map-append (λ step. step.errors) steps (before_fetch read.0 rest.steps) in (
        after_steps steps rest,
        (rest, t.1, refl),
        search (front_after, flat_map-append),
        (
          errors_of steps ++ last.0,
          last.1,
          search (append_assoc, flat_map-append, last.2),
          subst (λ w. AppendsFront w new.err (codes "input failed\n")) (ap (λ w. appended w last.0) does.err ∙ appended-appended _ _ _) last.3,
        ),
        (
          (spent_of steps).fetches + read.0,
          omega (arith, read.1),
          rw (spent_of-append steps rest.steps) (omega (arith, read.2)),
          read.3 ∙ ap (λ c. count_after c read.0) does.fetches ∙ count_after-add old.files.fetches (spent_of steps).fetches read.0,
          λ out err.
              let written = read.4 (no_out out) (no_err err) in
              let text = errors_of (before_fetch read.0 rest.steps) ++ codes "input failed\n" in (
                rw place (text_more (λ step. step.output) steps _ _ _ _ does.out written.0),
                rw (place, split, append_assoc) (written.1 ∙ ap (λ w. appended w text) does.err ∙ appended-appended old.err (errors_of steps) text),
              ),
        ),
      )

  -- a run that ends after these steps were done
  pub ends_after : (status : Status) → Ends means status mid new → Ends (After steps means) status old new
  ends_after = grind (arith, as_after, unread_after, unwritten_after, early_after)

-- what has one meaning ends as what has that meaning for another reason
pub ends_other : (means other : RunResult → Type 0) (status : Status) (old new : Outside) → ((r : RunResult) → means r → other r) → Ends means status old new → Ends other status old new
ends_other = grind arith

-- a run that has come to the rest, and ends as the rest does
pub ends_come : (whole rest : RunResult) (status : Status) (old mid new : Outside) (steps : List RunStep) → whole ≡ after_steps steps rest → Does steps old mid → Ends (Is rest) status mid new → Ends (Is whole) status old new
ends_come _ _ status _ _ _ steps whole does t =
    ends_other _ _ _ _ _ (λ r (x, is, same). same ∙ ap (after_steps steps) is ∙ sym whole)
    (ends_after _ _ _ _ _ does status t)

-- nothing follows the last statement
pub none_left : (keep_going : Bool) (files : Files) (ss : List Statement) (i : ℕ) (s : State) → length ss ≤ i → statements_result keep_going files s (drop i ss) ≡ record { steps = []; ending = finished }
none_left keep_going files ss i s within = ap (statements_result keep_going files s) (drop_of_length-le ss within)

-- a run with no steps
pub ends_nothing : (new : Outside) → Ends (Is (record { steps = []; ending = finished })) Done new new
ends_nothing = search (rules, appended-nil)

pub ends_fault : (new : Outside) → Ends (Is (record { steps = []; ending = fault })) Fault new new
ends_fault = search (rules, appended-nil)

-- nothing was done yet
pub comes_none : (whole rest : RunResult) (tally : Tally) (old : Outside) → whole ≡ rest → tally.charge ≡ 0 → ComesTo whole rest tally old old
comes_none _ _ _ _ is none = record { steps = []; is = is; does = grind (arith, appended-nil); charge = none; least = omega arith }

-- what is left after a statement, where a fault came before it or none
abbrev pub left_by : Bool → Bool → Bool → RunResult → RunResult
left_by keep_going faulted false rest = after_turn true faulted rest
left_by keep_going faulted true rest = after_fault keep_going rest

pub left_is : (keep_going faulted rejected : Bool) → (rejected ≡ true → keep_going ≡ true) → (rest : RunResult) → left_by keep_going faulted rejected rest ≡ after_turn true (faulted || rejected) rest
left_is keep_going false false keeps rest = refl
left_is keep_going true false keeps rest = refl
left_is true false true keeps rest = refl
left_is true true true keeps rest = refl
left_is false false true keeps rest = absurd (true≢false (sym (keeps refl)))
left_is false true true keeps rest = absurd (true≢false (sym (keeps refl)))

turned : (keep_going faulted rejected : Bool) (step : RunStep) (rest : RunResult) → after_turn true faulted (after_step step (after_turn keep_going rejected rest)) ≡ after_step step (left_by keep_going faulted rejected rest)
turned keep_going false false step rest = refl
turned keep_going true false step rest = refl
turned keep_going false true step rest = refl
turned false true true step rest = refl
turned true true true step rest = refl

-- one statement more was done or refused, after a fault or none
pub comes_more : (keep_going faulted rejected : Bool) (whole rest : RunResult) (answer : Reading Answer) (line : ℕ) (first state : State) (go : State → RunResult) (before after : Tally) (old mid new : Outside) → ComesTo whole (after_turn true faulted rest) before old mid
    → rest ≡ after_reading keep_going first answer line go → GoesOn answer line rejected first state before after mid new → ComesTo whole (left_by keep_going faulted rejected (go state)) after old new
comes_more keep_going faulted rejected _ _ _ _ _ state go before after _ _ _ come is on =
    let cost = on.step.spent.charge in
    record {
      steps = come.steps ++ on.step ∷ [];
      is = come.is ∙ ap (λ r. after_steps come.steps (after_turn true faulted r)) (is ∙ on.goes keep_going go) ∙ ap (after_steps come.steps) (turned keep_going faulted rejected on.step (go state)) ∙ one_more come.steps on.step _;
      does = does_more _ _ _ _ _ come.does on.does;
      charge = on.charge ∙ ap (λ n. count_after n cost) come.charge ∙ count_after-add 0 (spent_of come.steps).charge cost
          ∙ ap (count_after 0) (ap (λ n. (spent_of come.steps).charge + n) (sym (add-zero cost)) ∙ sym (ap (λ (s : Spent). s.charge) (spent_of-append come.steps (on.step ∷ []))));
      least = omega (arith, least-append come.steps (on.step ∷ []), come.least, on.rows, on.peak);
    }
  where
    one_more : (steps : List RunStep) (step : RunStep) (next : RunResult) → after_steps steps (after_step step next) ≡ after_steps (steps ++ step ∷ []) next
    one_more steps step next = λ i. record { steps = sym (append_assoc steps (step ∷ []) next.steps) i; ending = next.ending }

-- the next statement, and then the others
pub next-result : (keep_going : Bool) (files : Files) (ss : List Statement) (i : ℕ) (st : Statement) (s : State) → slice_get ss i ≡ Some st
    → statements_result keep_going files s (drop i ss) ≡ after_reading keep_going s (statement_result files s st.action) st.line (λ s'. statements_result keep_going files s' (drop (i + 1) ss))
next-result keep_going _ [] i _ s is = cc
next-result keep_going _ (x ∷ ss) zero _ s is = grind arith
next-result keep_going files (x ∷ ss) (suc i) st s is = grind (arith, next-result keep_going files ss i st s is)

-- whether an answer comes with a warning
abbrev pub marked : Answer → Bool
marked (done state printed mark) = mark
marked (refused f mark) = mark

-- the first step of what an answer makes, with the warning
first_step : (keep_going : Bool) (first : State) (n : Spent) (a : Answer) (line : ℕ) (go : State → RunResult) → (step : RunStep) × (others : List RunStep) × (ending : Ending) × (after_answer keep_going first n a line go ≡ first_then step others ending)
    × (step.spent.fetches ≡ n.fetches) × ((old new : Written) → AppendsPart old new (warning_line line (marked a)) → AppendsPart old new step.errors)
first_step _ _ _ (done state printed mark) _ go = (_, (go state).steps, (go state).ending, refl, refl, λ _ _ part. part)
first_step keep_going first _ (refused f mark) _ go = (_, (after_fault keep_going (go first)).steps, (after_fault keep_going (go first)).ending, refl, refl, λ _ _ part. part_of _ _ _ _ part)

-- what is so of the status of a write that failed is so of the error that it is
pub err_is : {T : Type 0} (r : Result T Status) (P : Status → Type 0) (status : Status) → (status ≡ Output) ⊎ (status ≡ Memory) → IsErrAnd r (λ e. e ≡ status) → P status → IfErr r P
err_is r P status _ is so =
    let p = err_from_is_err_and r is in
    rw (p.1, p.2) so

-- there was no memory for the statement
pub stops_memory : (contents : Option Contents) (answer : Contents → Reading Answer) (line : ℕ) (first : State) (o : Outside) → IfSome contents (λ held. Stops (answer held) line first Memory o o)
stops_memory = search (rules, some-told, early_none)

module _ {files files' : FilesValue} {answer : Contents → Reading Answer} where
  -- What holds of an answer after what was spent holds of the one for the contents that are told.
  module _ {a : Answer} (goes : (held : Contents) → Goes held files files' (answer held) (at_once a)) where
    told : (P : Reading Answer → Type 0) → ((n : Spent) → files'.fetches ≡ count_after files.fetches n.fetches → P (record { spent = n; answer = a })) → IfSome files.contents (λ held. P (answer held))
    told P = grind (arith, some-told, add-zero)

    -- the warning of a statement could not be written
    pub stops_warning : {T : Type 0} (r : Result T Status) (line : ℕ) (first : State) (status : Status) (old new : Outside) → IsErrAnd r (λ e. e ≡ status) → (status ≡ Output) ⊎ (status ≡ Memory) → new.out ≡ old.out → AppendsPart old.err new.err (warning_line line (marked a))
        → IfErr r (λ status. IfSome files.contents (λ held. Stops (answer held) line first status old new))
    stops_warning r line first status old new is why out part =
        let p = err_from_is_err_and r is in
        rw (p.1, p.2) (told (λ r. Stops r line first status old new) (λ n count keep_going go.
        let f = first_step keep_going first n a line go in
        rw f.3 (stops_first old new f.0 f.1 f.2 status why out (f.5 _ _ part))))

  module _ {state : State} {printed : Text} {mark : Bool} (goes : (held : Contents) → Goes held files files' (answer held) (at_once (done state printed mark)))
      (line : ℕ) (first : State) (old new : Outside) (err : new.err ≡ appended old.err (warning_line line mark)) where
    -- the text of the statement could not be written
    pub stops_showing : (status : Status) → status ≡ Output → AppendsFront old.out new.out printed → HasRisen old.out_faults new.out_faults → IfSome files.contents (λ held. Stops (answer held) line first status old new)
    stops_showing status is front risen = told goes (λ r. Stops r line first status old new) (λ n count keep_going go. rw is (unwritten_output old new _ _ _ front err risen))

  -- the line of its fault could not be written, behind its warning
  pub stops_fault : {f : FaultValue} {mark : Bool} → ((held : Contents) → Goes held files files' (answer held) (at_once (refused f mark))) → (line : ℕ) (first : State) (status : Status) (old new : Outside) (mid : Written)
      → (status ≡ Output) ⊎ (status ≡ Memory) → new.out ≡ old.out → mid ≡ appended old.err (warning_line line mark) → AppendsPart mid new.err (line_about line (fault_text f)) → IfSome files.contents (λ held. Stops (answer held) line first status old new)
  stops_fault goes line first status old new mid why out wrote part =
      told goes (λ r. Stops r line first status old new) (λ n count keep_going go. stops_first old new _ _ _ status why out (part_after _ _ _ _ _ wrote part))

  -- a file could not be read: where the contents are told, the last fetch is one of the statement
  pub stops_input : (line : ℕ) (first : State) (old new : Outside) → ((held : Contents) → Stuck held files files' (answer held))
      → old.files.fetches ≡ files.fetches → new.files.fetches ≡ files'.fetches → new.out ≡ old.out → AppendsFront old.err new.err (codes "input failed\n")
      → (¬ (HasRisen old.err_faults new.err_faults) → new.err ≡ appended old.err (codes "input failed\n")) → IfSome files.contents (λ held. Stops (answer held) line first Input old new)
  stops_input line first old new stuck before after out front whole = some-told files.contents (λ held. Stops (answer held) line first Input old new) (λ held told keep_going go.
      let s = stuck held in
      let f = first_step keep_going first (answer held).spent (answer held).answer line go in
      unread_first old new _ _ refl f.0 f.1 (ap (λ r. r.steps) f.3) s.spent.fetches (grind arith) s.some (cc s.counted) out front whole)

  -- the statement was refused, and its warning and the line of its fault were written
  pub goes_refused : {f : FaultValue} {mark : Bool} → ((held : Contents) → Goes held files files' (answer held) (at_once (refused f mark))) → (line : ℕ) (first state : State) (before after : Tally) (old new : Outside) (mid : Written)
      → state ≡ first → after.charge ≡ before.charge → before.peak ≤ after.peak → mid ≡ appended old.err (warning_line line mark) → new.err ≡ appended mid (line_about line (fault_text f))
      → old.files.fetches ≡ files.fetches → new.files.fetches ≡ files'.fetches → new.out ≡ old.out → old.out_faults ≤ new.out_faults → old.err_faults ≤ new.err_faults
      → IfSome files.contents (λ held. GoesOn (answer held) line true first state before after old new)
  goes_refused {f} {mark} goes line first state before after old new mid same charge peak warned wrote from to out out_faults err_faults =
      told goes (λ r. GoesOn r line true first state before after old new) (λ n count.
      let errors = warning_line line mark ++ line_about line (fault_text f) in
      record {
        step = record { output = []; errors = errors; spent = record n { charge = 0 }; rows = 0 };
        does = does_one _ old new (out ∙ sym (appended-nil old.out)) (wrote ∙ ap (λ w. appended w (line_about line (fault_text f))) warned ∙ appended-appended old.err (warning_line line mark) (line_about line (fault_text f)))
            (to ∙ count ∙ ap (λ c. count_after c n.fetches) (sym from)) out_faults err_faults;
        goes = λ keep_going go. ap (λ s. after_step (record { output = []; errors = errors; spent = record n { charge = 0 }; rows = 0 }) (after_fault keep_going (go s))) (sym same);
        charge = charge;
        rows = omega arith;
        peak = peak;
      })

-- the statement was done, and its warning and its text were written
pub goes_on : {before after : Meter} {answer : Contents → Reading Answer} {state : State} {printed : Text} {mark : Bool} → ((held : Contents) → Pays held before after (answer held) (at_once (done state printed mark)))
    → (line : ℕ) (s : State) (peak peak' most : ℕ) → peak' ≡ max peak most → most_rows state ≤ most → (old new : Outside) → new.err ≡ appended old.err (warning_line line mark) → old.files.fetches ≡ before.files.fetches → new.files.fetches ≡ after.files.fetches → new.out ≡ appended old.out printed
    → old.out_faults ≤ new.out_faults → old.err_faults ≤ new.err_faults
    → IfSome before.files.contents (λ held. GoesOn (answer held) line false s state (record { charge = before.tab.charge; peak = peak }) (record { charge = after.tab.charge; peak = peak' }) old new)
goes_on {before} {after} {answer} {state} {printed} {mark} pays line s peak peak' _ top rows old new err first last out out_faults err_faults =
    some-told before.files.contents (λ held. GoesOn (answer held) line false s state (record { charge = before.tab.charge; peak = peak }) (record { charge = after.tab.charge; peak = peak' }) old new) (λ held told.
    let p = pays held in
    let n = spent_sum p.goes.spent nothing_spent in
    let same : p.goes.spent ≡ n = sym (sum-nothing p.goes.spent) in
    let is : answer held ≡ record { spent = n; answer = done state printed mark } = p.goes.meant (subst (λ o. Holds o p.goes.spent (answer held).spent held) (sym told) refl) in
    record {
      step = record { output = printed; errors = warning_line line mark; spent = n; rows = most_rows state };
      does = does_one _ old new out err (last ∙ p.goes.counted ∙ ap (λ (s : Spent). count_after before.files.fetches s.fetches) same ∙ ap (λ c. count_after c n.fetches) (sym first)) out_faults err_faults;
      goes = λ keep_going go. ap (λ r. after_reading keep_going s r line go) is;
      charge = p.costs.charge ∙ ap (λ (s : Spent). count_after before.tab.charge s.charge) same;
      rows = omega (arith, top, rows);
      peak = omega (arith, top);
    })
