-- A run has exactly one result for each peak.
use Rattle.{
  script_session.{proofs.{script_state.laws.PaidLaws.{script_has_peak, file_has_peak, fetched_peak}, cells.Common.{◌≡◌, ◌≤◌, ◌<◌, ◌⊎◌, ℕ, zero, suc, Bool, List, length, Option, Some, None, refl, sym, ap, ◌∙◌, arith, inl, inr, get, Text, Contents}}, specs.{language.Script.{most_bytes}, script.{Reading.{Files}, State.{no_names}, Run.{RunResult, IsScriptResult, IsFileResult, statements_result, spent_of, told_charge, after_step, fetched, with_line, with_stats, syntax_line, too_large_line, usage_line, syntax, usage}}}},
  meaning_run.specs.{Asked.{Fixed, usage_help, wrong_words, demonstration, Asked, fixed, script, asked}, Result.{help_result, without_fetches, demo_files, IsDemoResult, IsStated, IsPathResult, IsFixedWith, IsFixedResult, IsAskedWith, IsAskedResult}, words.Demonstration.{demo_script}},
  script_syntax.{specs.OneReading.{HasOneReading}, proofs.OneReading.{one_reading}},
  script_run.{specs.OneResult.{HasOneResult}, proofs.{DemoLaws.{Unfetched}, StatsLaws.{SomePeaked, stated_some, peak_unfetched}}},
}

-- one value is so, and no other
abbrev pub IsOne : {A : Type 0} → (A → Type 0) → Type 0
IsOne {A} P = (a : A) × P a × ((other : A) → P other → other ≡ a)

few_or_more : (n m : ℕ) → (n < m) ⊎ (m ≤ n)
few_or_more n zero = inr (omega arith)
few_or_more zero (suc m) = inl (omega arith)
few_or_more (suc n) (suc m) = grind (arith, few_or_more n m)

-- bytes within the limit
short_one : (keep_going : Bool) (files : Files) (bytes : List ℕ) → length bytes ≤ most_bytes → HasOneReading bytes → IsOne (IsScriptResult keep_going files bytes)
short_one keep_going files bytes within (inl (ss, is)) = (statements_result keep_going files no_names ss, grind arith, others)
  where
    others : (other : RunResult) → IsScriptResult keep_going files bytes other → other ≡ statements_result keep_going files no_names ss
    others _ (inl large) = grind arith
    others _ (inr (inl run)) = grind arith
    others _ (inr (inr wrong)) = grind arith
short_one keep_going files bytes within (inr (line, is)) = (with_line (syntax_line line) syntax, grind arith, others)
  where
    others : (other : RunResult) → IsScriptResult keep_going files bytes other → other ≡ with_line (syntax_line line) syntax
    others _ (inl large) = grind arith
    others _ (inr (inl run)) = grind arith
    others _ (inr (inr wrong)) = grind arith

-- more bytes than the limit
long_one : (keep_going : Bool) (files : Files) (bytes : List ℕ) → most_bytes < length bytes → IsOne (IsScriptResult keep_going files bytes)
long_one keep_going files bytes long = (with_line too_large_line syntax, inl (long, refl), others)
  where
    others : (other : RunResult) → IsScriptResult keep_going files bytes other → other ≡ with_line too_large_line syntax
    others _ (inl large) = large.1
    others _ (inr (inl run)) = grind arith
    others _ (inr (inr wrong)) = grind arith

pub script_one : (keep_going : Bool) (files : Files) (bytes : List ℕ) → IsOne (IsScriptResult keep_going files bytes)
script_one _ _ _ = elim (few_or_more _ _) [ inl long ↦ long_one _ _ _ long | inr within ↦ search (short_one, one_reading) ]

pub file_one : (keep_going : Bool) (files : Files) (path : Text) (bytes : Option (List ℕ)) → IsOne (IsFileResult keep_going files path bytes)
file_one _ _ _ None = grind arith
file_one _ _ _ (Some bytes) = script_one _ _ _

pub path_one : (keep_going : Bool) (path : Text) (paths : List (Text × Text)) (held : Contents) → IsOne (IsPathResult keep_going path paths held)
path_one keep_going path paths held =
    let one = file_one keep_going (record { paths = paths; held = held }) path (get held path) in
    (after_step fetched one.0, search, grind arith)

-- what has one result has one without fetches
unfetched_one : (means : RunResult → Type 0) → IsOne means → IsOne (Unfetched means)
unfetched_one means (one, is, other) =
    (without_fetches one, (one, is, refl), λ _ (rest, means, same). same ∙ ap without_fetches (other rest means))

-- with its line or without, for each peak
stated_same : (stats : Bool) (peak : ℕ) (means : RunResult → Type 0) → IsOne means → (result other : RunResult) → IsStated stats peak means result → IsStated stats peak means other → result ≡ other
stated_same stats peak means (one, is, others) _ _ (plain, meant, bounds, same) (plain', meant', bounds', same') =
    same ∙ ap (with_stats stats peak) (others plain meant ∙ sym (others plain' meant')) ∙ sym same'

fixed_same : (asks : Fixed) (peak : ℕ) (result other : RunResult) → IsFixedWith asks peak result → IsFixedWith asks peak other → result ≡ other
fixed_same usage_help peak result other is is' = is ∙ sym is'
fixed_same wrong_words peak result other is is' = is ∙ sym is'
fixed_same (demonstration flags orders) peak result other is is' = stated_same flags.stats peak _ (unfetched_one _ (script_one flags.keep_going (demo_files orders) demo_script)) result other is is'

asked_same : (asks : Asked) (held : Contents) (peak : ℕ) (result other : RunResult) → IsAskedWith asks held peak result → IsAskedWith asks held peak other → result ≡ other
asked_same (fixed asks) held peak result other is is' = fixed_same asks peak result other is is'
asked_same (script run) held peak result other is is' = stated_same run.flags.stats peak _ (path_one run.flags.keep_going run.script run.paths held) result other is is'

-- what has one result has one with a peak
pub script_peaked : (keep_going : Bool) (files : Files) (bytes : List ℕ) → SomePeaked (IsScriptResult keep_going files bytes)
script_peaked keep_going files bytes =
    let one = script_one keep_going files bytes in
    (one.0, one.1, (told_charge (spent_of one.0.steps).charge, script_has_peak keep_going files bytes one.0 one.1))

pub file_peaked : (keep_going : Bool) (files : Files) (path : Text) (bytes : Option (List ℕ)) → SomePeaked (IsFileResult keep_going files path bytes)
file_peaked keep_going files path bytes =
    let one = file_one keep_going files path bytes in
    (one.0, one.1, (told_charge (spent_of one.0.steps).charge, file_has_peak keep_going files path bytes one.0 one.1))

pub path_peaked : (keep_going : Bool) (path : Text) (paths : List (Text × Text)) (held : Contents) → SomePeaked (IsPathResult keep_going path paths held)
path_peaked keep_going path paths held =
    let (one, is, (peak, bounds)) = file_peaked keep_going (record { paths = paths; held = held }) path (get held path) in
    (after_step fetched one, (one, is, refl), (peak, fetched_peak one.steps peak bounds))

demo_peaked : (keep_going : Bool) (orders : ℕ) → SomePeaked (IsDemoResult keep_going orders)
demo_peaked keep_going orders =
    let (one, is, (peak, bounds)) = script_peaked keep_going (demo_files orders) demo_script in
    (without_fetches one, (one, is, refl), (peak, peak_unfetched one.steps peak bounds))

-- so there is a result
pub some_fixed : (asks : Fixed) → (r : RunResult) × IsFixedResult asks r
some_fixed usage_help = (help_result, (0, refl))
some_fixed wrong_words = (with_line usage_line usage, (0, refl))
some_fixed (demonstration flags orders) = stated_some flags.stats _ (demo_peaked flags.keep_going orders)

pub some_asked : (asks : Asked) (held : Contents) → (r : RunResult) × IsAskedResult asks held r
some_asked (fixed asks) held = some_fixed asks
some_asked (script run) held = stated_some run.flags.stats _ (path_peaked run.flags.keep_going run.script run.paths held)

-- all words have one result in all contents, for each peak that it may have
pub run_one : (words : List Text) (held : Contents) → HasOneResult words held
run_one words held = record { some = some_asked (asked words) held; one = asked_same (asked words) held }
