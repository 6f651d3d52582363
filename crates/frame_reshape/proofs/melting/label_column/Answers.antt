use Rattle.{
  frame_parts.proofs.Common.{arith, length, take_all},
  frame_reshape.{specs.Melts.{heading_cells}, proofs.MeltCells.{cell_held, one_more_label}},
}
use Rattle.frame_reshape.proofs.melting.label_column.Goals as goal

pub push_times-requires : goal.push_times-requires
push_times-requires c = λ texts. rw c.loop-k.invariant (cell_held (heading_cells c.args.on.now c.args.values.now) _ _ _ c.requires.held c.cell.ensures texts)

pub loop-k-preserved : goal.loop-k-preserved
loop-k-preserved c =
    one_more_label c.args.kind (length c.args.on.now.labels) c.rows.result c.loop-k.k (heading_cells c.args.on.now c.args.values.now) c.cell.result _ _ c.cell.ensures c.rows.ensures c.loop-k.invariant c.in_ok-push_times.ensures

pub returns : goal.returns
returns = grind (arith, take_all)
