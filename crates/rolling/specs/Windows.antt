-- A window as contracts see it.
use Rattle.std.specs.Prelude.{◌≡◌, ◌<◌, ◌≤◌, ℕ, ℤ, List, ◌∷◌, [], ◌++◌, map, length, drop, nat_eq, Option, if◌then◌else◌}
use Rattle.cell_core.specs.declared.cell.Cell.{Cell}
use Rattle.column_core.specs.cells.Cell.{CellValue}
use Rattle.meaning_window.specs.Window.{window_cells, window_answer, last}
use Rattle.column_core.specs.Columns.{number_cell}
use Rattle.nullable_array.specs.declared.ops.Cumulation.{Cumulation}
use Rattle.nullable_array.specs.Folds.{cumulation_of}
use Rattle.nullable_array.specs.Distincts.{present_values}
use Rattle.rolling.specs.declared.running.Running.{Running}
use Rattle.rolling.specs.Answers.{answer_of}
use Rattle.rolling.specs.Running.{IsRunning}

-- its settings, and the last cells pushed, of which each holds a number or none
pub record WindowValue : Type 0 where
  pub size : ℕ
  pub min_periods : ℕ
  pub op : Cumulation
  pub recent : List (Option ℤ)

-- its settings are these
pub record HasSettings (size min_periods : ℕ) (op : Cumulation) (w : WindowValue) : Type 0 where
  pub size_is : w.size ≡ size
  pub min_periods_is : w.min_periods ≡ min_periods
  pub op_is : w.op ≡ op

-- these are the cells that were pushed, the first one first: the window still has the last of them
abbrev pub HasPushed : WindowValue → List Cell → Type 0
HasPushed w pushed = map number_cell w.recent ≡ last w.size pushed

-- the same of rows, each of them a number or none
abbrev pub HasRows : WindowValue → List (Option ℤ) → Type 0
HasRows w rows = w.recent ≡ last w.size rows

-- what the window of a row comes to, where these are the cells of all rows
abbrev pub answer_at : WindowValue → List CellValue → ℕ → CellValue
answer_at w cells row = window_answer w.min_periods (cumulation_of w.op) (window_cells w.size cells row)

-- what the window of the last of these rows comes to
abbrev pub answer_of_rows : WindowValue → List (Option ℤ) → Option ℤ
answer_of_rows w rows = answer_of w.min_periods w.op (present_values (last w.size rows))

-- the last cells with one more, of at most size
abbrev pub slid : {C : Type 0} → ℕ → List C → C → List C
slid size recent c = (if nat_eq (length recent) size then drop 1 recent else recent) ++ c ∷ []

-- what a window keeps of its last cells: room for as many as its size, how many are present, and what these come to
pub record IsWindow (size capacity : ℕ) (op : Cumulation) (recent : List (Option ℤ)) (present : ℕ) (running : Running) : Type 0 where
  pub some : 0 < size
  pub within : length recent ≤ size
  pub room : size ≤ capacity
  pub counted : present ≡ length (present_values recent)
  pub comes_to : IsRunning running op size (present_values recent)
