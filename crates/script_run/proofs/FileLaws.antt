-- What a run means by the file that its path holds.
use Rattle.{
  script_session.{proofs.{script_state.laws.PaidLaws.{script_has_peak, fetched_peak}, cells.Common.{◌≡◌, ◌≢◌, ◌≤◌, ◌<◌, ℕ, List, [], ◌∷◌, length, Option, Some, None, refl, sym, ◌∙◌, ap, Bool, arith, codes, inl, inr, ◌⊎◌, IfSome, get, Text, Contents}}, specs.{language.{Tree.{Statement}, Script.{most_bytes}}, script.{Reading.{Files}, State.{no_names}, Run.{RunResult, IsScriptResult, IsFileResult, after_step, fetched, statements_result, with_line, with_stats, too_large_line, syntax_line, not_found_line, syntax, usage}}, script_state.{Reads.{count_after}, laws.Paid.{HasPeak}}}},
  outside_io.{specs.{Count.{HasRisen}, Sink.{appended, AppendsFront}}, proofs.Appended.{appended-nil}},
  meaning_run.specs.Result.{IsPathResult, Stated},
  script_syntax.specs.Parsed.{IsTheScript, IsTheSyntaxLine},
  script_run.{specs.{Ends.{Outside, Ends, EndsByMeaning, EndsWithLine, Is}, Steps.{Does}, declared.status.Status.{Status, TheVariants.{Input, Output, Memory}}}, proofs.{StepLaws.{does_one}, RunLaws.{early_none, ends_after, ends_other, unread_first}, StatsLaws.{ends_own_line, ends_own_usage, stated, stated_other, stats_fetched}, Options.{some-weaker}, OneResult.{file_peaked}}},
}

script_means : (keep_going : Bool) (files : Files) (bytes : List ℕ) (ss : List Statement) → length bytes ≤ most_bytes → IsTheScript bytes ss → (r : RunResult) → r ≡ statements_result keep_going files no_names ss → IsScriptResult keep_going files bytes r
script_means keep_going files bytes ss within is r same = inr (inl (within, (ss, is.0, same)))

syntax_means : (keep_going : Bool) (files : Files) (bytes : List ℕ) (line : ℕ) → length bytes ≤ most_bytes → IsTheSyntaxLine bytes line → IsScriptResult keep_going files bytes (with_line (syntax_line line) syntax)
syntax_means = grind arith

large_means : (keep_going : Bool) (files : Files) (bytes : List ℕ) → most_bytes < length bytes → IsScriptResult keep_going files bytes (with_line too_large_line syntax)
large_means = grind arith

module _ (stats keep_going : Bool) (files : Files) (status : Status) (old new : Outside) where
  -- the bytes are one script, whose statements were run
  pub ends_script : (bytes : List ℕ) (ss : List Statement) → length bytes ≤ most_bytes → IsTheScript bytes ss → (HasPeak (statements_result keep_going files no_names ss) → Ends (Stated stats (Is (statements_result keep_going files no_names ss))) status old new) → Ends (Stated stats (IsScriptResult keep_going files bytes)) status old new
  ends_script bytes ss within is ends =
      let whole = statements_result keep_going files no_names ss in
      let means = script_means keep_going files bytes ss within is in
      stated_other stats (Is whole) (IsScriptResult keep_going files bytes) status old new means (ends (script_has_peak keep_going files bytes whole (means whole refl)))

  -- the bytes are no script, by this line
  pub ends_syntax : (bytes : List ℕ) (line : ℕ) → length bytes ≤ most_bytes → IsTheSyntaxLine bytes line → Ends (Is (with_line (syntax_line line) syntax)) status old new → Ends (Stated stats (IsScriptResult keep_going files bytes)) status old new
  ends_syntax bytes line within is ends = ends_own_line stats _ (syntax_line line) status old new (syntax_means keep_going files bytes line within is) ends

  -- more bytes than a script has
  pub ends_too_large : (bytes : List ℕ) → most_bytes < length bytes → Ends (Is (with_line too_large_line syntax)) status old new → Ends (Stated stats (IsScriptResult keep_going files bytes)) status old new
  ends_too_large bytes long ends = ends_own_line stats _ too_large_line status old new (large_means keep_going files bytes long) ends

-- the run means something, and nothing was written
pub ends_unbegun : (means : RunResult → Type 0) (old new : Outside) → (r : RunResult) × means r → new.out ≡ old.out → new.err ≡ old.err → Ends means Memory old new
ends_unbegun _ _ _ some out err = search early_none

module _ (stats keep_going : Bool) (path : Text) (paths : List (Text × Text)) (held : Contents) where
  fetched_means : (r : RunResult) (rest : RunResult) → Stated stats (IsFileResult keep_going (record { paths = paths; held = held }) path (get held path)) rest → r ≡ after_step fetched rest → Stated stats (IsPathResult keep_going path paths held) r
  fetched_means r rest (peak, (plain, is, bounds, same)) step =
      (peak, (after_step fetched plain, (plain, is, refl), fetched_peak plain.steps peak bounds, step ∙ ap (after_step fetched) same ∙ sym (stats_fetched stats peak plain)))

  -- the script was fetched, before a run of what it means
  pub ends_fetched : (status : Status) (old mid new : Outside) → Does (fetched ∷ []) old mid
      → Ends (Stated stats (IsFileResult keep_going (record { paths = paths; held = held }) path (get held path))) status mid new → Ends (Stated stats (IsPathResult keep_going path paths held)) status old new
  ends_fetched status old mid new does t =
      ends_other _ _ status old new (λ r (rest, is, same). fetched_means r rest is same) (ends_after _ _ _ _ _ does status t)

  -- the path of the script holds these bytes, or nothing
  pub ends_held : (bytes : List ℕ) (status : Status) (old mid new : Outside) → Does (fetched ∷ []) old mid → get held path ≡ Some bytes
      → Ends (Stated stats (IsScriptResult keep_going (record { paths = paths; held = held }) bytes)) status mid new → Ends (Stated stats (IsPathResult keep_going path paths held)) status old new
  ends_held _ status old mid new does is t = ends_fetched status old mid new does (rw is t)

  pub ends_absent : (status : Status) (old mid new : Outside) → Does (fetched ∷ []) old mid → get held path ≡ None
      → Ends (Is (with_line (not_found_line path) usage)) status mid new → Ends (Stated stats (IsPathResult keep_going path paths held)) status old new
  ends_absent status old mid new does is t =
      ends_fetched status old mid new does (ends_own_usage stats _ (not_found_line path) status mid new (rw is refl) t)

  -- the script was fetched, and could not be read
  pub ends_unread : (old new : Outside) → new.files.fetches ≡ count_after old.files.fetches 1 → new.out ≡ old.out → AppendsFront old.err new.err (codes "input failed\n")
      → (¬ (HasRisen old.err_faults new.err_faults) → new.err ≡ appended old.err (codes "input failed\n")) → Ends (Stated stats (IsPathResult keep_going path paths held)) Input old new
  ends_unread old new fetches out front whole =
      let (plain, is, (peak, bounds)) = file_peaked keep_going (record { paths = paths; held = held }) path (get held path) in
      let rest = with_stats stats peak plain in
      unread_first old new (Stated stats (IsPathResult keep_going path paths held)) (after_step fetched rest) (fetched_means _ rest (stated stats peak _ plain is bounds) refl) fetched rest.steps refl 1 (omega arith) (omega arith) fetches out front whole

-- the script was fetched, and nothing else was done
pub does_fetch : (old mid : Outside) → mid.out ≡ old.out → mid.err ≡ old.err → mid.files.fetches ≡ count_after old.files.fetches 1 → old.out_faults ≤ mid.out_faults → old.err_faults ≤ mid.err_faults → Does (fetched ∷ []) old mid
does_fetch = search (does_one, appended-nil)

-- without a read or a write that failed, a run ends by its meaning
by_meaning : (means : RunResult → Type 0) (status : Status) (old new : Outside) → Ends means status old new → (status ≡ Input → ⊥) → (status ≡ Output → ⊥) → EndsByMeaning means status old new
by_meaning = grind arith

pub complete_run : (contents : Option Contents) (means : Contents → RunResult → Type 0) (status : Status) (old new : Outside) (A B C : Type 0)
    → IfSome contents (λ held. Ends (means held) status old new) → (status ≡ Input → A) → (status ≡ Output → B ⊎ C)
    → IfSome contents (λ held. (A → ⊥) → (B → ⊥) → (C → ⊥) → EndsByMeaning (means held) status old new)
complete_run _ _ _ _ _ A B C = grind (arith, some-weaker, by_meaning)

-- a run that ends with one line didn't fail to read
pub not_unread : (line : Text) (status result : Status) (err err' : Option (List ℕ)) → status ≢ Input → EndsWithLine line status result err err' → result ≡ Input → ⊥
not_unread = grind arith
