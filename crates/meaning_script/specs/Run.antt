-- What a run prints, and how it ends.
use Rattle.std.specs.Prelude.{◌≡◌, ◌⊎◌, ℕ, ◌-◌, ◌<◌, ◌≤◌, nat_lt, min, max, Bool, true, false, List, [], ◌∷◌, ◌++◌, length, Option, Some, None, codes, decimal, if◌then◌else◌}
use Rattle.std.specs.List.{flat_map}
use Rattle.meaning_method.specs.cells.Text.{Text}
use Rattle.meaning_language.specs.Tree.{Statement}
use Rattle.meaning_script.specs.Spent.{Spent, nothing_spent, one_fetch, spent_sum}
use Rattle.meaning_script.specs.Reading.{Files, Reading}
use Rattle.meaning_script.specs.State.{State, no_names, most_rows}
use Rattle.meaning_script.specs.Statement.{Answer, done, refused, statement_result}
use Rattle.meaning_language.specs.Script.{IsScript, IsSyntaxLine, most_bytes}
use Rattle.meaning_method.specs.cells.FaultText.{fault_text}

-- how a run ends: after its last statement without a fault, with one, at words that are no run or a script that isn't there, at a text that is no script
pub data Ending : Type 0 where
  finished : Ending
  fault : Ending
  usage : Ending
  syntax : Ending

-- What a step of a run prints on the output and on the errors, what it spends, and the most rows of a table with a column
-- that a name stands for after it. Where no statement was done, as where one is refused, no rows count.
pub record RunStep : Type 0 where
  pub output : Text
  pub errors : Text
  pub spent : Spent
  pub rows : ℕ

-- the steps in order, and how the run ends
pub record RunResult : Type 0 where
  pub steps : List RunStep
  pub ending : Ending

-- all that steps print, and all that they spend
abbrev pub output_of : List RunStep → Text
output_of steps = flat_map (λ step. step.output) steps

abbrev pub errors_of : List RunStep → Text
errors_of steps = flat_map (λ step. step.errors) steps

abbrev pub spent_of : List RunStep → Spent
spent_of [] = nothing_spent
spent_of (step ∷ steps) = spent_sum step.spent (spent_of steps)

-- the steps before the one of a fetch, counted from 1
abbrev pub before_fetch : ℕ → List RunStep → List RunStep
before_fetch m [] = []
before_fetch m (step ∷ steps) = if nat_lt step.spent.fetches m then step ∷ before_fetch (m - step.spent.fetches) steps else []

-- the steps before the one in whose errors a byte stands, counted from 0
abbrev pub before_byte : ℕ → List RunStep → List RunStep
before_byte place [] = []
before_byte place (step ∷ steps) = if nat_lt place (length step.errors) then [] else step ∷ before_byte (place - length step.errors) steps

-- a line of errors about a line of the script
abbrev pub line_about : ℕ → Text → Text
line_about line text = codes "line " ++ decimal line ++ codes ": " ++ text ++ codes "\n"

-- the line that warns of a setting of an object without a name
abbrev pub warning_line : ℕ → Bool → Text
warning_line line true = line_about line (codes "warning: ChainedAssignmentError")
warning_line line false = []

-- a run of one step that writes a line of errors
abbrev pub with_line : Text → Ending → RunResult
with_line line ending = record { steps = record { output = []; errors = line; spent = nothing_spent; rows = 0 } ∷ []; ending = ending }

-- a step, and then the rest
abbrev pub after_step : RunStep → RunResult → RunResult
after_step step rest = record { steps = step ∷ rest.steps; ending = rest.ending }

-- what follows a fault: nothing, or the other statements where the run keeps going; in both cases it ends with a fault
abbrev pub after_fault : Bool → RunResult → RunResult
after_fault false rest = record { steps = []; ending = fault }
after_fault true rest = record { steps = rest.steps; ending = fault }

-- The step of a statement with this answer, and then what follows it from the state that it leaves. A statement that is refused
-- leaves the state as it was, and costs nothing.
abbrev pub after_answer : Bool → State → Spent → Answer → ℕ → (State → RunResult) → RunResult
after_answer keep_going s spent (done s' printed mark) line go =
    after_step (record { output = printed; errors = warning_line line mark; spent = spent; rows = most_rows s' }) (go s')
after_answer keep_going s spent (refused f mark) line go =
    after_step (record { output = []; errors = warning_line line mark ++ line_about line (fault_text f); spent = record spent { charge = 0 }; rows = 0 })
    (after_fault keep_going (go s))

abbrev pub after_reading : Bool → State → Reading Answer → ℕ → (State → RunResult) → RunResult
after_reading keep_going s r line go = after_answer keep_going s r.spent r.answer line go

-- the statements in order, up to the first fault, or up to the last statement where the run keeps going
abbrev pub statements_result : Bool → Files → State → List Statement → RunResult
statements_result keep_going files s [] = record { steps = []; ending = finished }
statements_result keep_going files s (st ∷ rest) = after_reading keep_going s (statement_result files s st.action) st.line (λ s'. statements_result keep_going files s' rest)

-- the charge as it is told: it stops at the last number of 64 bits
abbrev pub told_charge : ℕ → ℕ
told_charge total = min total 18446744073709551615

-- The peak, how many cells were held at most after a statement, is the one number that the meaning leaves open. It is at most
-- the charge, and no less than the rows of any table with a column that a name stood for after a statement.
abbrev pub least_peak : List RunStep → ℕ
least_peak [] = 0
least_peak (step ∷ steps) = max step.rows (least_peak steps)

pub record IsPeak (steps : List RunStep) (peak : ℕ) : Type 0 where
  pub least : least_peak steps ≤ peak
  pub most : peak ≤ told_charge (spent_of steps).charge

-- the line of `--stats`
abbrev pub stats_line : ℕ → ℕ → Text
stats_line peak charge = codes "peak " ++ decimal peak ++ codes " charge " ++ decimal charge ++ codes "\n"

-- a run that ends after its last statement without a fault, and with `--stats` by this line
abbrev pub stats_step : ℕ → List RunStep → RunStep
stats_step peak steps = record { output = []; errors = stats_line peak (told_charge (spent_of steps).charge); spent = nothing_spent; rows = 0 }

abbrev pub with_line_of : Ending → ℕ → List RunStep → List RunStep
with_line_of finished peak steps = steps ++ stats_step peak steps ∷ []
with_line_of ending peak steps = steps

abbrev pub with_stats : Bool → ℕ → RunResult → RunResult
with_stats false peak result = result
with_stats true peak result = record { steps = with_line_of result.ending peak result.steps; ending = result.ending }

abbrev pub usage_line : Text
usage_line = codes "usage: pdscript [--stats] [--keep-going] [--demo N | SCRIPT] [NAME=PATH ..]\n"

abbrev pub not_found_line : Text → Text
not_found_line path = codes "script not found: " ++ path ++ codes "\n"

abbrev pub too_large_line : Text
too_large_line = codes "script too large\n"

abbrev pub syntax_line : ℕ → Text
syntax_line line = line_about line (codes "SyntaxError")

-- the run of these bytes
abbrev pub IsScriptResult : Bool → Files → List ℕ → RunResult → Type 0
IsScriptResult keep_going files bytes result =
    ((most_bytes < length bytes) × (result ≡ with_line too_large_line syntax))
    ⊎ ((length bytes ≤ most_bytes) × ((ss : List Statement) × IsScript bytes ss × (result ≡ statements_result keep_going files no_names ss)))
    ⊎ ((length bytes ≤ most_bytes) × ((line : ℕ) × IsSyntaxLine bytes line × (result ≡ with_line (syntax_line line) syntax)))

-- the run of the file that the path holds
abbrev pub IsFileResult : Bool → Files → Text → Option (List ℕ) → RunResult → Type 0
IsFileResult keep_going files path None result = result ≡ with_line (not_found_line path) usage
IsFileResult keep_going files path (Some bytes) result = IsScriptResult keep_going files bytes result

-- The first step fetches the script.
abbrev pub fetched : RunStep
fetched = record { output = []; errors = []; spent = one_fetch; rows = 0 }
