-- What the columns are made of, by the number of the row.
use Rattle.std.specs.Prelude.{ℕ, ◌+◌, ◌-◌, ◌*◌, ◌/◌, ◌%◌, pos, ◌-ℤ◌, nat_lt, Option, Some, None, if◌then◌else◌}
use Rattle.cell_core.specs.declared.cell.Cell.{Cell}
use Rattle.cell_core.specs.declared.cell.Cell.TheVariants as cell
use Rattle.cell_core.specs.declared.cell.Kind.{Kind}
use Rattle.cell_core.specs.declared.cell.Kind.TheVariants.{Int64, Boolean}
use Rattle.column_core.specs.cells.Column.{tabulate}
use Rattle.column_core.specs.Columns.{CellColumn}
use Rattle.column_bench.specs.declared.data.Data.{Data}
use Rattle.column_bench.specs.declared.data.Data.TheVariants.{Numbers, Divisors, Truths, OtherTruths, Bits}

-- two numbers below 65,536 that jump from row to row; in 65,536 rows each stands once
abbrev pub jump_of : ℕ → ℕ
jump_of row = row % 65536 * 40503 % 65536

abbrev pub other_jump_of : ℕ → ℕ
other_jump_of row = row % 65536 * 30011 % 65536

-- one in eight is missing
abbrev pub unless_missing : {T : Type 0} → ℕ → T → T → T
unless_missing at missing value = if nat_lt at 8192 then missing else value

-- what is made of such a number: whole numbers of both signs, whole numbers from 1 to 1,000, truth values, and 0 and 1
abbrev pub number_cell : ℕ → Cell
number_cell at = cell.Int (pos at -ℤ pos 32768)

abbrev pub divisor_cell : ℕ → Cell
divisor_cell at = cell.Int (pos (at % 1000 + 1))

abbrev pub truth_cell : ℕ → Cell
truth_cell at = cell.Bool (nat_lt (at % 4096) 2048)

abbrev pub bit_cell : ℕ → Cell
bit_cell at = cell.Int (pos (at / 64 % 2))

abbrev pub data_kind : Data → Kind
data_kind Numbers = Int64
data_kind Divisors = Int64
data_kind Truths = Boolean
data_kind OtherTruths = Boolean
data_kind Bits = Int64

abbrev pub data_cell : Data → ℕ → Cell
data_cell Numbers row = unless_missing (jump_of row) cell.Na (number_cell (jump_of row))
data_cell Divisors row = unless_missing (other_jump_of row) cell.Na (divisor_cell (other_jump_of row))
data_cell Truths row = unless_missing (jump_of row) cell.Na (truth_cell (jump_of row))
data_cell OtherTruths row = unless_missing (other_jump_of row) cell.Na (truth_cell (other_jump_of row))
data_cell Bits row = unless_missing (jump_of row) cell.Na (bit_cell (jump_of row))

-- the column of so many rows
abbrev pub data_column : Data → ℕ → CellColumn
data_column source count = record { kind = data_kind source; cells = tabulate count (data_cell source) }

-- the place of an earlier row, or of the first; none in one row of eight
abbrev pub place_at : ℕ → Option ℕ
place_at row = unless_missing (other_jump_of row) None (Some (row - jump_of row))
