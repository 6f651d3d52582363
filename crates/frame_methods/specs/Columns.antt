-- Columns that are made one by one.
use Rattle.std.specs.Prelude.{◌≡◌, ℕ, List, [], ◌∷◌, map, drop, length, All, Result, Ok, Err}
use Rattle.cell_core.specs.declared.cell.Cell.{Cell}
use Rattle.column_core.specs.cells.Text.{Text}
use Rattle.column_core.specs.cells.Cell.{CellValue, IsLonger, IsGiven, AreGiven}
use Rattle.column_core.specs.cells.Fault.{FaultValue, wrong_kind, zero_divide, bad_value, cast}
use Rattle.column_core.specs.Columns.{CellColumn}
use Rattle.column_core.specs.Blocks.{CellBlock}
use Rattle.frame_store.specs.tables.Table.{ColumnOf}
use Rattle.nullable_array.specs.declared.ops.ArrayFault.{ArrayFault}
use Rattle.nullable_array.specs.declared.ops.ArrayFault.TheVariants.{KindMismatch, ZeroDivision, NotCast, NoMemory}
use Rattle.frame_store.specs.Shown.{columns_value}
use Rattle.frame_store.specs.Parts.{block_column, IsSingle, HaveRows}
use Rattle.frame_parts.specs.form.Finish.{try_all}
use Rattle.frame_labels.specs.Columns.{with_front}
use Rattle.frame_parts.specs.Makes.{column_seen}

-- Each of these cells was given, one by one: `AreGiven` of the list, but it computes on a list that is written out, so
-- that of no cell nothing is to be shown, and of one only that this one was given.
abbrev pub EachGiven : List Text → List Cell → Type 0
EachGiven texts [] = Unit {0}
EachGiven texts (c ∷ cs) = IsGiven texts c × EachGiven texts cs

-- a kernel's refusal is the fault that is meant; want of memory may come in place of any answer
abbrev pub IsFault : {T : Type 0} → ArrayFault → Result T FaultValue → Type 0
IsFault KindMismatch meant = meant ≡ Err wrong_kind
IsFault (ZeroDivision row) meant = meant ≡ Err zero_divide
IsFault (NotCast row) meant = meant ≡ Err (bad_value cast)
IsFault NoMemory meant = Unit {0}

-- the column that is made is the one that is meant, or its fault is
abbrev pub MakesColumn : List Text → Result CellColumn ArrayFault → Result (ColumnOf CellValue) FaultValue → Type 0
MakesColumn texts (Ok c) meant = meant ≡ Ok (column_seen texts c)
MakesColumn texts (Err fault) meant = IsFault fault meant

-- the list of columns that is made, each a block, is the one that is meant, or its fault is
abbrev pub MakesColumns : List Text → Result (List CellBlock) ArrayFault → Result (List (ColumnOf CellValue)) FaultValue → Type 0
MakesColumns texts (Ok blocks) meant = meant ≡ Ok (columns_value texts (map block_column blocks))
MakesColumns texts (Err fault) meant = IsFault fault meant

-- the columns before a place are made, and with what the others come to they are the whole
pub record IsFront (f : ColumnOf CellValue → Result (ColumnOf CellValue) FaultValue) (first dict : List Text) (columns : List (ColumnOf Cell)) (rows place : ℕ) (made : List CellBlock) : Type 0 where
  pub longer : IsLonger first dict
  pub given : All (λ c. AreGiven dict c.cells) (map block_column made)
  pub single : All IsSingle made
  pub filled : HaveRows rows (map block_column made)
  pub count : length made ≡ place
  pub answer : with_front (columns_value dict (map block_column made)) (try_all f (columns_value first (drop place columns))) ≡ try_all f (columns_value first columns)
