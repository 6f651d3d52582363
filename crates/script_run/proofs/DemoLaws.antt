-- What a run without fetches makes of one with them.
use Rattle.{
  script_session.{proofs.cells.Common.{◌≡◌, ◌≢◌, ℕ, Bool, List, [], ◌∷◌, ◌++◌, map, refl, ap, subst, arith, ◌<◌, ◌-◌, length, Text, Contents}, specs.script.Run.{RunStep, RunResult, IsScriptResult, output_of, errors_of, spent_of, before_byte}},
  meaning_run.specs.{Result.{unfetched, without_fetches, demo_contents, demo_files, Stated}, words.Demonstration.{orders_name, demo_script}},
  outside_io.specs.{Count.{HasRisen, last_count}, Files.{FilesValue}, Sink.{SinkValue}},
  script_run.specs.{Ends.{Outside, outside, Ends, EndsAs, EndsEarly, EndsUnwritten}, declared.status.Status.{Status, TheVariants.{Input}}},
}

abbrev pub Unfetched : (RunResult → Type 0) → RunResult → Type 0
Unfetched means result = (rest : RunResult) × means rest × (result ≡ without_fetches rest)

output-unfetched : (steps : List RunStep) → output_of (map unfetched steps) ≡ output_of steps
output-unfetched [] = refl
output-unfetched (step ∷ steps) = ap (λ text. step.output ++ text) (output-unfetched steps)

errors-unfetched : (steps : List RunStep) → errors_of (map unfetched steps) ≡ errors_of steps
errors-unfetched [] = refl
errors-unfetched (step ∷ steps) = ap (λ text. step.errors ++ text) (errors-unfetched steps)

fetches-unfetched : (steps : List RunStep) → (spent_of (map unfetched steps)).fetches ≡ 0
fetches-unfetched [] = refl
fetches-unfetched (step ∷ steps) = omega (arith, fetches-unfetched steps)

before_byte-unfetched : (place : ℕ) (steps : List RunStep) → before_byte place (map unfetched steps) ≡ map unfetched (before_byte place steps)
before_byte-unfetched _ [] = refl
before_byte-unfetched place (step ∷ steps) = grind (arith, before_byte-unfetched (place - length step.errors) steps)

-- the output and the errors beside these files
abbrev pub beside : FilesValue → SinkValue → SinkValue → Outside
beside = outside (λ (f : FilesValue). f) (λ (o : SinkValue). o) (λ (e : SinkValue). e)

module _ (means : RunResult → Type 0) (files inner inner' : FilesValue) (out out' err err' : SinkValue) where
  as_unfetched : (status : Status) → EndsAs means status (beside inner out err) (beside inner' out' err') → EndsAs (Unfetched means) status (beside files out err) (beside files out' err')
  as_unfetched _ (rest, is, ends, output, errors, _) = (
    without_fetches rest,
    (rest, is, refl),
    ends,
    rw output-unfetched output,
    rw errors-unfetched errors,
    rw fetches-unfetched refl,
  )

  early_unfetched : EndsEarly means (beside inner out err) (beside inner' out' err') → EndsEarly (Unfetched means) (beside files out err) (beside files out' err')
  early_unfetched (rest, is, output, errors) = (without_fetches rest, (rest, is, refl), rw output-unfetched output, rw errors-unfetched errors)

  unwritten_unfetched : EndsUnwritten means (beside inner out err) (beside inner' out' err') → EndsUnwritten (Unfetched means) (beside files out err) (beside files out' err')
  unwritten_unfetched (rest, is, output, (text, more, whole, errors, before)) = (
    without_fetches rest,
    (rest, is, refl),
    rw output-unfetched output,
    (text, more, rw errors-unfetched whole, errors, rw (before_byte-unfetched, output-unfetched) before),
  )

  -- a run over files of its own, of which no read failed, beside files that it leaves alone
  pub ends_unfetched : (status : Status) → status ≢ Input → Ends means status (beside inner out err) (beside inner' out' err') → Ends (Unfetched means) status (beside files out err) (beside files out' err')
  ends_unfetched _ = grind (arith, as_unfetched, early_unfetched, unwritten_unfetched)

-- the names, the contents and the bytes are those of the demonstration
pub ends_demo : (stats keep_going : Bool) (orders : ℕ) (paths : List (Text × Text)) (held : Contents) (bytes : List ℕ) (status : Status) (old new : Outside) → paths ≡ (orders_name, orders_name) ∷ [] → held ≡ demo_contents orders → bytes ≡ demo_script
    → Ends (Stated stats (IsScriptResult keep_going (record { paths = paths; held = held }) bytes)) status old new → Ends (Stated stats (IsScriptResult keep_going (demo_files orders) demo_script)) status old new
ends_demo stats keep_going orders paths held bytes status old new names contents text ends =
    subst (λ p. Ends (Stated stats (IsScriptResult keep_going (record { paths = p; held = demo_contents orders }) demo_script)) status old new) names
    (subst (λ h. Ends (Stated stats (IsScriptResult keep_going (record { paths = paths; held = h }) demo_script)) status old new) contents
    (subst (λ b. Ends (Stated stats (IsScriptResult keep_going (record { paths = paths; held = held }) b)) status old new) text ends))

-- a count below its last value that stays hasn't risen
pub never_risen : (count : ℕ) → count < last_count → HasRisen count count → ⊥
never_risen = grind arith
