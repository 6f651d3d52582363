use Rattle.{
  meaning_format.proofs.cells.Common.{◌≡◌, ◌++◌, codes, slice_index},
  frame_format.specs.Layouts.{set_columns},
}
use Rattle.frame_format.proofs.frame.push_blanks.Given as goal

abbrev pub invariant-loop-column : goal.invariant-loop-column
invariant-loop-column l = l.out ≡ l.fn.out ++ set_columns l.column (slice_index l.widths) (λ column. codes "")
