use Rattle.{
  meaning_cells.proofs.Common.{◌≡◌, replicate, Na},
}
use Rattle.column_core.proofs.blocks.blank_columns.Given as goal

abbrev pub invariant-loop : goal.invariant-loop
invariant-loop l = l.made.items ≡ replicate l.counter record { kind = l.kind; cells = replicate l.rows Na }
