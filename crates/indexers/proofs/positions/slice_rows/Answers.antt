use Rattle.{
  column_core.proofs.cells.Common.{of_z, ap, w64, to_z-of_z},
  indexers.proofs.SpanLaws.{forward_spaced, backward_spaced},
}
use Rattle.indexers.proofs.positions.slice_rows.Goals as goal

pub returns-then-step-gt0-clause-below : goal.returns-then-step-gt0-clause-below
returns-then-step-gt0-clause-below c = search (to_z-of_z, forward_spaced)

pub returns-clause-below : goal.returns-clause-below
returns-clause-below c =
    let fits = c.ranges.step in
    simp to_z-of_z (backward_spaced c.rows_through-low.result c.rows_through-high.result c.args.count c.saturating_sub.result c.steps-2.result c.args.step (λ e. c.if-step-eq0.false (ap (of_z w64) e)) (simp to_z-of_z at c.if-step-gt0.false) c.rows_through-high.ensures.within c.saturating_sub.ensures
    (simp to_z-of_z at c.steps-2.ensures))
