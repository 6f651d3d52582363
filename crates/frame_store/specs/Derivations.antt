-- What forms make of all rows of a table.
use Rattle.std.specs.Prelude.{◌≡◌, ◌≤◌, ℕ, List, map, length, sum, Result, Ok, Err, IfOk, All}
use Rattle.meaning_tables.specs.cells.Text.{Text}
use Rattle.meaning_tables.specs.cells.Fault.{FaultValue}
use Rattle.meaning_tables.specs.Table.{NumberedTable, column_at}
use Rattle.meaning_tables.specs.Valid.{AreHeadings, IsWhole}
use Rattle.meaning_tables.specs.Value.{Entry}
use Rattle.block_pool.specs.Pools.{cells_of}
use Rattle.frame_store.specs.Parts.{table_with, table_behind, AreColumnsOf, IsSingle}
use Rattle.frame_store.specs.Shown.{Makes}
use Rattle.frame_store.specs.declared.derivations.Derivation.{Derivation}
use Rattle.frame_store.specs.declared.derivations.Extension.{Extension}
use Rattle.frame_store.specs.declared.fault.OpFault.{OpFault}

-- the table that it makes of another one
abbrev pub derived_table : NumberedTable → Derivation → NumberedTable
derived_table t d = table_with d.shape d.axis d.headings (map (column_at t.columns) d.columns)

abbrev pub extended_table : NumberedTable → Extension → NumberedTable
extended_table t e = table_behind e.shape e.axis e.headings e.first t

-- it fits the table: the columns are among its own, with a heading for each, and it has as many rows
pub record CanDerive (t : NumberedTable) (d : Derivation) : Type 0 where
  pub rows : length d.axis.tuples ≡ length t.labels
  pub columns : AreColumnsOf t d.columns
  pub headed : length d.headings.labels ≡ length d.columns
  pub headings : AreHeadings d.shape d.headings.columns_name d.headings.labels

pub record CanExtend (t : NumberedTable) (e : Extension) : Type 0 where
  pub single : All IsSingle e.first
  pub whole : IsWhole (extended_table t e)

-- its new columns have at most so many cells
abbrev pub IsWithin : ℕ → Extension → Type 0
IsWithin cells e = sum (map cells_of e.first) ≤ cells

-- the table that something stands for, or the refusal
abbrev pub table_by : {X : Type 0} → (X → NumberedTable) → Result X OpFault → Result NumberedTable OpFault
table_by table (Ok x) = Ok (table x)
table_by table (Err fault) = Err fault

-- what is meant is made of a table, by what fits it, or the first fault is answered
abbrev pub Derives : List Text → NumberedTable → Result Derivation OpFault → Result Entry FaultValue → Type 0
Derives texts t made meant = IfOk made (CanDerive t) × Makes texts (table_by (derived_table t) made) meant

abbrev pub Extends : List Text → NumberedTable → Result Extension OpFault → Result Entry FaultValue → Type 0
Extends texts t made meant = IfOk made (CanExtend t) × Makes texts (table_by (extended_table t) made) meant
