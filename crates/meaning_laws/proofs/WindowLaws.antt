-- Calls behind `rolling` and `expanding` make valid tables of valid ones.
use Rattle.{
  meaning_script.{proofs.cells.Common.{arith, ◌≡◌, ◌∙◌, refl, ℕ, ◌+◌, List, length, All, All-take, Bool, true, if◌then◌else◌, nat_lt, Result, IfOk, Text, CellValue, Kind, na_cell, Int64, FaultValue, Cumulation, cumulation_takes, present}, specs.{window.Window.{window_cells, window_answer, windows_take}, tables.{Table.{Table}, Value.{Entry, NamedGiven}}, method.Windows.{Windows, rolling, expanding, windowed, windows_of, rolling_result, expanding_result}}},
  meaning_laws.{specs.Validity.{IsValidObject, IsValidEntry}, proofs.{Words.{Keeps, Column, Cells}, ListLaws.{length_tabulate, all_tabulated, all_mapped, at_or, any_then}, ColumnLaws.{IsColumn, Held, if_made, cumulation_held}, TableLaws.{IsShaped, shaped}, MethodLaws.{each_keeps}}},
}

takes_numbers : (op : Cumulation) → cumulation_takes op Int64 ≡ true
takes_numbers = grind arith

missing_or : (test : Bool) (c : CellValue) → Held Int64 c → Held Int64 (if test then na_cell else c)
missing_or = grind arith

-- what a window comes to is a number, or missing
answer_held : (least : ℕ) (op : Cumulation) (cells : Cells) → All (Held Int64) cells → Held Int64 (window_answer least op cells)
answer_held least op cells h = missing_or (nat_lt (length (present cells)) least) _ (cumulation_held op Int64 (takes_numbers op) cells h)

window_held : (n : ℕ) (cells : Cells) (row : ℕ) → All (Held Int64) cells → All (Held Int64) (window_cells n cells row)
window_held n cells row h = all_mapped (Held Int64) _ (λ j. at_or (Held Int64) cells j na_cell refl h) _

-- windows are over numbers
numbers : (kind : Kind) (cells : Cells) → windows_take kind ≡ true → All (Held kind) cells → All (Held Int64) cells
numbers Int64 cells takes h = h
numbers _ cells takes h = cc

windowed_keeps : (w : Windows) (op : Cumulation) (rows : ℕ) (c : Column) → IsColumn rows c → IfOk (windowed w op c) (IsColumn rows)
windowed_keeps (rolling n least) op rows c h =
    if_made _ (windows_take c.kind) _ _
    (λ takes. record { filled = length_tabulate _ _ ∙ h.filled; held = all_tabulated (Held Int64) _ (λ row. answer_held least op _ (window_held n c.cells row (numbers c.kind c.cells takes h.held))) _ })
windowed_keeps (expanding least) op rows c h =
    if_made _ (windows_take c.kind) _ _
    (λ takes. record { filled = length_tabulate _ _ ∙ h.filled; held = all_tabulated (Held Int64) _ (λ row. answer_held least op _ (All-take (Held Int64) (row + 1) _ (numbers c.kind c.cells takes h.held))) _ })

windows_keep : (t : Table) (windows : Result Windows FaultValue) (name : Text) (gs : List NamedGiven) → IsShaped t → Keeps (windows_of t windows name gs)
windows_keep t windows name gs s = any_then IsValidEntry windows _ (λ w. any_then IsValidEntry _ _ (λ op. each_keeps (windowed w op) t s (windowed_keeps w op)))

pub rolling_result_keeps : (v : Entry) (args : List NamedGiven) (name : Text) (gs : List NamedGiven) → IsValidObject v → Keeps (rolling_result v args name gs)
rolling_result_keeps = grind (arith, windows_keep, shaped)

pub expanding_result_keeps : (v : Entry) (args : List NamedGiven) (name : Text) (gs : List NamedGiven) → IsValidObject v → Keeps (expanding_result v args name gs)
expanding_result_keeps = grind (arith, windows_keep, shaped)
