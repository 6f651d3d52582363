-- What the line of `--stats` adds to a run.
use Rattle.{
  script_session.{proofs.{script_state.laws.PaidLaws.{same_peak}, cells.Common.{◌≡◌, ℕ, zero, suc, ◌+◌, ◌≤◌, Bool, true, false, List, [], ◌∷◌, ◌++◌, map, refl, sym, ◌∙◌, ap, arith, append_assoc, append-nil, zero-add, map-append, subst, Text}}, specs.{script.{Spent.{Spent, nothing_spent, spent_sum}, Reading.{Reading}, State.{State, most_rows}, Statement.{Answer, done, refused}, Run.{RunStep, RunResult, Ending, finished, fault, usage, syntax, spent_of, after_step, after_fault, after_answer, after_reading, fetched, with_line, warning_line, stats_line, told_charge, IsPeak, with_line_of, with_stats}}, script_state.{Reads.{count_after}, laws.Paid.{HasPeak}}}},
  meaning_run.specs.Result.{unfetched, without_fetches, Stated},
  script_run.{specs.{Ends.{Outside, Ends, EndsWithLine, Is}, Steps.{Tally, ComesTo, Stops, after_steps, after_turn}, declared.status.Status.{Status, TheVariants.{Done, Fault}}}, proofs.{DemoLaws.{Unfetched}, StepLaws.{spent_of-append}, RunLaws.{ends_come, ends_fault, left_by, ends_other, ends_with_line}}},
}

-- the line, where steps with this charge come before
abbrev line_step : ℕ → ℕ → RunStep
line_step peak total = record { output = []; errors = stats_line peak (told_charge total); spent = nothing_spent; rows = 0 }

abbrev pub line_after : Ending → ℕ → ℕ → List RunStep → List RunStep
line_after finished peak base steps = steps ++ line_step peak (base + (spent_of steps).charge) ∷ []
line_after ending peak base steps = steps

abbrev pub stats_after : ℕ → Bool → ℕ → RunResult → RunResult
stats_after base false peak result = result
stats_after base true peak result = record { steps = line_after result.ending peak base result.steps; ending = result.ending }

line_first : (e : Ending) (peak : ℕ) (steps : List RunStep) → with_line_of e peak steps ≡ line_after e peak 0 steps
line_first finished peak steps = ap (λ n. steps ++ line_step peak n ∷ []) (sym (zero-add (spent_of steps).charge))
line_first fault peak steps = refl
line_first usage peak steps = refl
line_first syntax peak steps = refl

pub stats_first : (stats : Bool) (peak : ℕ) (r : RunResult) → with_stats stats peak r ≡ stats_after 0 stats peak r
stats_first false peak r = refl
stats_first true peak r = λ i. record { steps = line_first r.ending peak r.steps i; ending = r.ending }

more_charge : (base : ℕ) (a b : Spent) → base + (spent_sum a b).charge ≡ base + a.charge + b.charge
more_charge base a b = omega arith

line_steps : (e : Ending) (peak base : ℕ) (steps more : List RunStep) → line_after e peak base (steps ++ more) ≡ steps ++ line_after e peak (base + (spent_of steps).charge) more
line_steps finished peak base steps more =
    append_assoc steps more _
    ∙ ap (λ n. steps ++ (more ++ line_step peak n ∷ [])) (ap (λ (s : Spent). base + s.charge) (spent_of-append steps more) ∙ more_charge base (spent_of steps) (spent_of more))
line_steps fault peak base steps more = refl
line_steps usage peak base steps more = refl
line_steps syntax peak base steps more = refl

pub stats_steps : (base : ℕ) (stats : Bool) (peak : ℕ) (steps : List RunStep) (rest : RunResult) → stats_after base stats peak (after_steps steps rest) ≡ after_steps steps (stats_after (base + (spent_of steps).charge) stats peak rest)
stats_steps base false peak steps rest = refl
stats_steps base true peak steps rest = λ i. record { steps = line_steps rest.ending peak base steps rest.steps i; ending = rest.ending }

line_one : (e : Ending) (peak base : ℕ) (step : RunStep) (more : List RunStep) → line_after e peak base (step ∷ more) ≡ step ∷ line_after e peak (base + step.spent.charge) more
line_one finished peak base step more = ap (λ n. step ∷ (more ++ line_step peak n ∷ [])) (more_charge base step.spent (spent_of more))
line_one fault peak base step more = refl
line_one usage peak base step more = refl
line_one syntax peak base step more = refl

-- a statement, and then what follows it: again a statement, and then a run
abbrev Again : Bool → State → Spent → Answer → ℕ → RunResult → Type 0
Again keep_going first n a line result = (go : State → RunResult) × (result ≡ after_answer keep_going first n a line go)

stats_answer : (base : ℕ) (stats : Bool) (peak : ℕ) (keep_going : Bool) (first : State) (n : Spent) (a : Answer) (line : ℕ) (go : State → RunResult) → Again keep_going first n a line (stats_after base stats peak (after_answer keep_going first n a line go))
stats_answer base false peak keep_going first n a line go = (go, refl)
stats_answer base true peak keep_going first n (done s printed mark) line go =
    let step : RunStep = record { output = printed; errors = warning_line line mark; spent = n; rows = most_rows s } in
    (λ s. stats_after (base + n.charge) true peak (go s), λ i. record { steps = line_one (go s).ending peak base step (go s).steps i; ending = (go s).ending })
stats_answer base true peak false first n (refused f mark) line go = (go, refl)
stats_answer base true peak true first n (refused f mark) line go = (go, refl)

-- the same after a fault or none
turn_answer : (faulted keep_going : Bool) (first : State) (n : Spent) (a : Answer) (line : ℕ) (go : State → RunResult) → Again keep_going first n a line (after_turn true faulted (after_answer keep_going first n a line go))
turn_answer false keep_going first n a line go = (go, refl)
turn_answer true keep_going first n (done s printed mark) line go = (λ s. after_fault true (go s), refl)
turn_answer true false first n (refused f mark) line go = (go, refl)
turn_answer true true first n (refused f mark) line go = (go, refl)

-- with the line or without, from any peak that the run may have
pub stated : (stats : Bool) (peak : ℕ) (means : RunResult → Type 0) (r : RunResult) → means r → IsPeak r.steps peak → Stated stats means (with_stats stats peak r)
stated stats peak means r is bounds = (peak, (r, is, bounds, refl))

-- a result that is meant, with a peak that it may have
abbrev pub SomePeaked : (RunResult → Type 0) → Type 0
SomePeaked means = (r : RunResult) × means r × ((peak : ℕ) × IsPeak r.steps peak)

pub stated_some : (stats : Bool) (means : RunResult → Type 0) → SomePeaked means → (r : RunResult) × Stated stats means r
stated_some stats means (r, is, (peak, bounds)) = (with_stats stats peak r, stated stats peak means r is bounds)

pub stated_other : (stats : Bool) (means other : RunResult → Type 0) (status : Status) (old new : Outside) → ((r : RunResult) → means r → other r) → Ends (Stated stats means) status old new → Ends (Stated stats other) status old new
stated_other stats means other status old new implies ends =
    ends_other _ _ status old new (λ r (peak, (rest, is, bounds, same)). (peak, (rest, implies rest is, bounds, same))) ends

-- a run that ends by a line of its own
own_line : (stats : Bool) (peak : ℕ) (line : Text) → with_line line syntax ≡ with_stats stats peak (with_line line syntax)
own_line false peak line = refl
own_line true peak line = refl

own_usage : (stats : Bool) (peak : ℕ) (line : Text) → with_line line usage ≡ with_stats stats peak (with_line line usage)
own_usage false peak line = refl
own_usage true peak line = refl

own_peak : (line : Text) (ending : Ending) → IsPeak (with_line line ending).steps 0
own_peak line ending = record { least = omega arith; most = omega arith }

pub ends_own_line : (stats : Bool) (means : RunResult → Type 0) (line : Text) (status : Status) (old new : Outside) → means (with_line line syntax) → Ends (Is (with_line line syntax)) status old new → Ends (Stated stats means) status old new
ends_own_line stats means line status old new is ends =
    ends_other _ _ status old new (λ r same. (0, (with_line line syntax, is, own_peak line syntax, same ∙ own_line stats 0 line))) ends

pub ends_own_usage : (stats : Bool) (means : RunResult → Type 0) (line : Text) (status : Status) (old new : Outside) → means (with_line line usage) → Ends (Is (with_line line usage)) status old new → Ends (Stated stats means) status old new
ends_own_usage stats means line status old new is ends =
    ends_other _ _ status old new (λ r same. (0, (with_line line usage, is, own_peak line usage, same ∙ own_usage stats 0 line))) ends

-- the script is fetched first, which costs nothing
pub stats_fetched : (stats : Bool) (peak : ℕ) (rest : RunResult) → with_stats stats peak (after_step fetched rest) ≡ after_step fetched (with_stats stats peak rest)
stats_fetched stats peak rest =
    let none : 0 + (spent_of (fetched ∷ [])).charge ≡ 0 = omega arith in
    stats_first stats peak (after_step fetched rest) ∙ stats_steps 0 stats peak (fetched ∷ []) rest
    ∙ ap (λ n. after_step fetched (stats_after n stats peak rest)) none ∙ ap (after_step fetched) (sym (stats_first stats peak rest))

-- a run without fetches costs the same
charge_unfetched : (steps : List RunStep) → (spent_of (map unfetched steps)).charge ≡ (spent_of steps).charge
charge_unfetched [] = refl
charge_unfetched (step ∷ steps) = ap (λ n. step.spent.charge + n) (charge_unfetched steps)

line_unfetched : (e : Ending) (peak : ℕ) (steps : List RunStep) → map unfetched (with_line_of e peak steps) ≡ with_line_of e peak (map unfetched steps)
line_unfetched finished peak steps = map-append unfetched steps _ ∙ ap (λ n. map unfetched steps ++ line_step peak n ∷ []) (sym (charge_unfetched steps))
line_unfetched fault peak steps = refl
line_unfetched usage peak steps = refl
line_unfetched syntax peak steps = refl

pub stats_unfetched : (stats : Bool) (peak : ℕ) (r : RunResult) → without_fetches (with_stats stats peak r) ≡ with_stats stats peak (without_fetches r)
stats_unfetched false peak r = refl
stats_unfetched true peak r = λ i. record { steps = line_unfetched r.ending peak r.steps i; ending = r.ending }

-- and its names stand for tables of as many rows
pub peak_unfetched : (steps : List RunStep) (peak : ℕ) → IsPeak steps peak → IsPeak (map unfetched steps) peak
peak_unfetched = same_peak unfetched (λ step. refl) (λ step. refl)

pub stated_unfetched : (stats : Bool) (means : RunResult → Type 0) (status : Status) (old new : Outside) → Ends (Unfetched (Stated stats means)) status old new → Ends (Stated stats (Unfetched means)) status old new
stated_unfetched stats means status old new ends =
    ends_other _ _ status old new
    (λ r (rest, (peak, (plain, is, bounds, same)), step). (peak, (without_fetches plain, (plain, is, refl), peak_unfetched plain.steps peak bounds, step ∙ ap without_fetches same ∙ stats_unfetched stats peak plain))) ends

-- ---- the statements of a run

-- a run that ends at a statement
pub stops_stated : (stats keep_going faulted : Bool) (whole rest : RunResult) (tally : Tally) (answer : Reading Answer) (line : ℕ) (first : State) (go : State → RunResult) (status : Status) (old mid new : Outside) → HasPeak whole → ComesTo whole (after_turn true faulted rest) tally old mid
    → rest ≡ after_reading keep_going first answer line go → Stops answer line first status mid new → Ends (Stated stats (Is whole)) status old new
stops_stated stats keep_going faulted whole rest tally answer line first go status old mid new bounds come is stops =
    let steps = come.steps in
    let peak = told_charge (spent_of whole.steps).charge in
    let base = 0 + (spent_of steps).charge in
    let turned = turn_answer faulted keep_going first answer.spent answer.answer line go in
    let told = stats_answer base stats peak keep_going first answer.spent answer.answer line turned.0 in
    let end : RunResult = after_reading keep_going first answer line told.0 in
    let same : with_stats stats peak whole ≡ after_steps steps end =
    stats_first stats peak whole ∙ ap (stats_after 0 stats peak) (come.is ∙ ap (λ r. after_steps steps (after_turn true faulted r)) is ∙ ap (after_steps steps) turned.1) ∙ stats_steps 0 stats peak steps _
    ∙ ap (after_steps steps) told.1 in
    ends_other _ _ status old new (λ r same'. (peak, (whole, refl, bounds, same' ∙ sym same))) (ends_come (after_steps steps end) end status old mid new steps refl come.does (stops keep_going told.0))

-- a run that ends with a fault, by which it has no line
abbrev pub with_fault_left : RunResult
with_fault_left = record { steps = []; ending = fault }

pub cut_left : (keep_going faulted rejected : Bool) (rest : RunResult) → rejected ≡ true → keep_going ≡ false → left_by keep_going faulted rejected rest ≡ with_fault_left
cut_left keep_going faulted rejected rest = grind arith

no_line : (base : ℕ) (stats : Bool) (peak : ℕ) → stats_after base stats peak with_fault_left ≡ with_fault_left
no_line base false peak = refl
no_line base true peak = refl

pub fault_stated : (stats : Bool) (whole : RunResult) (tally : Tally) (old new : Outside) → HasPeak whole → ComesTo whole with_fault_left tally old new → Ends (Stated stats (Is whole)) Fault old new
fault_stated stats whole tally old new bounds come =
    let steps = come.steps in
    let peak = told_charge (spent_of whole.steps).charge in
    let same : with_stats stats peak whole ≡ after_steps steps with_fault_left =
    stats_first stats peak whole ∙ ap (stats_after 0 stats peak) come.is ∙ stats_steps 0 stats peak steps with_fault_left ∙ ap (after_steps steps) (no_line _ stats peak) in
    ends_other _ _ Fault old new (λ r same'. (peak, (whole, refl, bounds, same' ∙ sym same))) (ends_come (after_steps steps with_fault_left) with_fault_left Fault old new new steps refl come.does (ends_fault new))

told_is : (n : ℕ) → told_charge n ≡ count_after 0 n
told_is zero = omega arith
told_is (suc n) = omega arith

-- a run that has done all its statements
abbrev pub all_done : RunResult
all_done = record { steps = []; ending = finished }

-- the peak of a session that has done them, where it is at most the charge
done_peak : (whole : RunResult) (tally : Tally) (old new : Outside) → ComesTo whole all_done tally old new → tally.peak ≤ tally.charge → IsPeak whole.steps tally.peak
done_peak whole tally old new come within =
    let steps = come.steps in
    let all : whole.steps ≡ steps = ap (λ (r : RunResult). r.steps) come.is ∙ append-nil steps in
    let bounds : IsPeak steps tally.peak = record { least = come.least; most = omega (arith, within, come.charge, told_is (spent_of steps).charge) } in
    subst (λ ss. IsPeak ss tally.peak) (sym all) bounds

pub done_plain : (whole : RunResult) (tally : Tally) (old new : Outside) → HasPeak whole → ComesTo whole all_done tally old new → Ends (Is all_done) Done new new → Ends (Stated false (Is whole)) Done old new
done_plain whole tally old new bounds come ends =
    ends_other _ _ Done old new (λ r same. (told_charge (spent_of whole.steps).charge, (whole, refl, bounds, same))) (ends_come whole all_done Done old new new come.steps come.is come.does ends)

-- and then its line
pub done_stated : (whole : RunResult) (tally : Tally) (status : Status) (old mid new : Outside) → ComesTo whole all_done tally old mid → tally.peak ≤ tally.charge → new.out ≡ mid.out → new.files.fetches ≡ mid.files.fetches
    → EndsWithLine (stats_line tally.peak tally.charge) Done status mid.err new.err → Ends (Stated true (Is whole)) status old new
done_stated whole tally status old mid new come within out fetches ends =
    let steps = come.steps in
    let peak = tally.peak in
    let line = stats_line peak tally.charge in
    let end : RunResult = with_line line finished in
    let zeros : 0 + (spent_of steps).charge + 0 ≡ (spent_of steps).charge = omega arith in
    let total : told_charge (0 + (spent_of steps).charge + 0) ≡ tally.charge = ap told_charge zeros ∙ told_is (spent_of steps).charge ∙ sym come.charge in
    let same : with_stats true peak whole ≡ after_steps steps end =
    stats_first true peak whole ∙ ap (stats_after 0 true peak) come.is ∙ stats_steps 0 true peak steps all_done
    ∙ ap (λ n. after_steps steps (with_line (stats_line peak n) finished)) total in
    ends_other _ _ status old new (λ r same'. (peak, (whole, refl, done_peak whole tally old mid come within, same' ∙ sym same)))
    (ends_come (after_steps steps end) end status old mid new steps refl come.does (ends_with_line mid new finished line status out fetches ends))
