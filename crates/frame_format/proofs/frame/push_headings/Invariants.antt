use Rattle.{
  meaning_format.{proofs.cells.Common.{◌≡◌, ◌++◌, slice_index}, specs.{Told.{heading_at}, Print.{shown_name}}},
  frame_format.specs.Layouts.{set_columns},
}
use Rattle.frame_format.proofs.frame.push_headings.Given as goal

abbrev pub invariant-loop-column : goal.invariant-loop-column
invariant-loop-column g l = l.out ≡ l.fn.out ++ set_columns l.column (slice_index l.widths) (λ column. shown_name (heading_at l.source column))
