-- What a run of the words of a command line prints, and how it ends.
use Rattle.std.specs.Prelude.{◌≡◌, ℕ, Bool, List, [], ◌∷◌, map}
use Rattle.std.specs.FinMap.{get, empty, insert}
use Rattle.meaning_script.specs.cells.Text.{Text, Contents}
use Rattle.meaning_script.specs.Spent.{nothing_spent}
use Rattle.meaning_script.specs.Reading.{Files}
use Rattle.meaning_script.specs.Run.{RunStep, RunResult, finished, usage, usage_line, with_line, with_stats, IsPeak, after_step, fetched, IsScriptResult, IsFileResult}
use Rattle.meaning_words.specs.Demonstration.{orders_name, orders_file, demo_script}
use Rattle.meaning_run.specs.Asked.{Fixed, usage_help, wrong_words, demonstration, Asked, fixed, script, asked}

-- the usage line on the output
abbrev pub help_result : RunResult
help_result = record { steps = record { output = usage_line; errors = []; spent = nothing_spent; rows = 0 } ∷ []; ending = finished }

-- a run whose files are its own, so that it fetches none from outside
abbrev pub unfetched : RunStep → RunStep
unfetched step = record step { spent = record step.spent { fetches = 0 } }

abbrev pub without_fetches : RunResult → RunResult
without_fetches result = record { steps = map unfetched result.steps; ending = result.ending }

-- the one file of a demonstration with so many orders
abbrev pub demo_contents : ℕ → Contents
demo_contents orders = insert empty orders_name (orders_file orders)

abbrev pub demo_files : ℕ → Files
demo_files orders = record { paths = (orders_name, orders_name) ∷ []; held = demo_contents orders }

abbrev pub IsDemoResult : Bool → ℕ → RunResult → Type 0
IsDemoResult keep_going orders result = (rest : RunResult) × IsScriptResult keep_going (demo_files orders) demo_script rest × (result ≡ without_fetches rest)

-- With `--stats` a run without a fault has a last line with the charge and the peak, the one number that the meaning leaves open within its bounds.
abbrev pub IsStated : Bool → ℕ → (RunResult → Type 0) → RunResult → Type 0
IsStated stats peak means result = (rest : RunResult) × means rest × IsPeak rest.steps peak × (result ≡ with_stats stats peak rest)

abbrev pub Stated : Bool → (RunResult → Type 0) → RunResult → Type 0
Stated stats means result = (peak : ℕ) × IsStated stats peak means result

abbrev pub IsFixedWith : Fixed → ℕ → RunResult → Type 0
IsFixedWith usage_help peak result = result ≡ help_result
IsFixedWith wrong_words peak result = result ≡ with_line usage_line usage
IsFixedWith (demonstration flags orders) peak result = IsStated flags.stats peak (IsDemoResult flags.keep_going orders) result

-- the run of the script that its path holds, which is fetched first
abbrev pub IsPathResult : Bool → Text → List (Text × Text) → Contents → RunResult → Type 0
IsPathResult keep_going path paths held result = (rest : RunResult) × IsFileResult keep_going (record { paths = paths; held = held }) path (get held path) rest × (result ≡ after_step fetched rest)

abbrev pub IsAskedWith : Asked → Contents → ℕ → RunResult → Type 0
IsAskedWith (fixed asks) held peak result = IsFixedWith asks peak result
IsAskedWith (script run) held peak result = IsStated run.flags.stats peak (IsPathResult run.flags.keep_going run.script run.paths held) result

-- the run of these words where these files are held, with this peak
abbrev pub IsRunWith : List Text → Contents → ℕ → RunResult → Type 0
IsRunWith words held peak result = IsAskedWith (asked words) held peak result

-- with any peak
abbrev pub IsFixedResult : Fixed → RunResult → Type 0
IsFixedResult asks result = (peak : ℕ) × IsFixedWith asks peak result

abbrev pub IsAskedResult : Asked → Contents → RunResult → Type 0
IsAskedResult asks held result = (peak : ℕ) × IsAskedWith asks held peak result

abbrev pub IsRunResult : List Text → Contents → RunResult → Type 0
IsRunResult words held result = IsAskedResult (asked words) held result
