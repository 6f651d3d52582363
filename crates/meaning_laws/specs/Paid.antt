-- Tables that names stand for, of which each was paid for.
use Rattle.std.specs.Prelude.{ℕ, ◌+◌, ◌≤◌}
use Rattle.meaning_script.specs.cells.Text.{Text}
use Rattle.meaning_script.specs.language.Tree.{Action}
use Rattle.meaning_script.specs.Reading.{Files, Reading}
use Rattle.meaning_script.specs.State.{State, value_rows}
use Rattle.meaning_script.specs.Statement.{Answer, done, refused, statement_result}
use Rattle.meaning_script.specs.Run.{RunResult, IsPeak, spent_of, told_charge}

-- a table with a column that a name stands for has at most so many rows
abbrev pub IsPaid : ℕ → State → Type 0
IsPaid paid s = (n : Text) → value_rows (s.value n) ≤ paid

-- so it is in the state that a statement leaves
abbrev pub LeavesPaid : ℕ → Answer → Type 0
LeavesPaid paid (done s printed mark) = IsPaid paid s
LeavesPaid paid (refused fault mark) = Unit {0}

abbrev pub PaidIn : ℕ → Reading Answer → Type 0
PaidIn paid r = LeavesPaid (paid + r.spent.charge) r.answer

-- The tables that names stand for after a statement were paid for by what was spent before it and on it.
abbrev pub PaysForTables : Files → State → Action → Type 0
PaysForTables files s f = (paid : ℕ) → IsPaid paid s → PaidIn paid (statement_result files s f)

-- The charge is a peak: the tables that names stood for after each statement were paid for.
abbrev pub HasPeak : RunResult → Type 0
HasPeak result = IsPeak result.steps (told_charge (spent_of result.steps).charge)
