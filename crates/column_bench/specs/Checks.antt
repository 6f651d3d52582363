-- One number for the cells of an answer, by which answers are compared.
use Rattle.std.specs.Prelude.{ℕ, ◌+◌, ◌%◌, ℤ, pos, negsuc, ◌+ℤ◌, ◌*ℤ◌, true, false, List, length, fold, slice_get, unwrap_or}
use Rattle.std.specs.Int.{int_wrap, w64}
use Rattle.std.specs.List.{range_with_len}
use Rattle.cell_core.specs.declared.cell.Cell.{Cell}
use Rattle.cell_core.specs.declared.cell.Cell.TheVariants as cell
use Rattle.column_bench.specs.declared.work.Answer.{Answer}
use Rattle.column_bench.specs.declared.work.Answer.TheVariants.{Whole, One}

-- a missing cell counts as -3, a truth value as 0 or 1, and a text as 0
abbrev pub cell_number : Cell → ℤ
cell_number cell.Na = negsuc 2
cell_number (cell.Int z) = z
cell_number (cell.Bool true) = pos 1
cell_number (cell.Bool false) = pos 0
cell_number (cell.Text id) = pos 0

-- a cell more, times a number of its row
abbrev pub check_more : ℤ → ℕ → Cell → ℤ
check_more so_far row c = int_wrap w64 (so_far +ℤ int_wrap w64 (pos (row % 1000 + 1) *ℤ cell_number c))

abbrev pub check_below : ℕ → List Cell → ℤ
check_below count cells = fold (λ so_far row. check_more so_far row (unwrap_or (slice_get cells row) cell.Na)) (pos 0) (range_with_len 0 count)

abbrev pub answer_number : Answer → ℤ
answer_number (Whole a) = check_below (length a.cells) a.cells
answer_number (One c) = cell_number c
