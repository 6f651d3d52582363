use Rattle.{column_core.proofs.cells.Common.{◌∙◌, sym, ◌++◌, arith}, reshape.{proofs.{BlockLaws.{row_more}, LaneLaws.{lanes_counted, row_is}}}}
use Rattle.reshape.proofs.lanes.stacked.Goals as goal

pub loop-row-preserved : goal.loop-row-preserved
loop-row-preserved g c =
    rw c.deref.ensures.value at c.in_ok-push_row.ensures
    ∙ (λ i. c.loop-row.invariant i ++ row_is g.T.Element.cell c.args.columns.now c.in_ok-lanes.lanes.items c.loop-row.row c.in_ok-lanes.ensures i)
    ∙ sym (row_more c.loop-row.row c.args.columns.now)

pub push_row-requires : goal.push_row-requires
push_row-requires g c =
    rw c.deref.ensures.value
    (λ k d lt. omega (arith, lanes_counted g.T.Element.cell c.args.columns.now c.in_ok-lanes.lanes.items c.args.rows c.in_ok-lanes.ensures c.requires.rows k d lt, c.loop-row-test.true))
