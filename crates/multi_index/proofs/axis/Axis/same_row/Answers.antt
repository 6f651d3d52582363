use Rattle.{
  index_core.proofs.{cells.Common.{arith}, SameLaws.{holds}},
  multi_index.{specs.Axes.{HaveLevels}, proofs.SameTuples.{same_at_row}},
}
use Rattle.multi_index.proofs.axis.Axis.same_row.Goals as goal

pub returns : goal.returns
returns c =
    let alike : HaveLevels c.levels-level-end.result c.args.other.now.tuples = grind arith in
    holds (same_at_row c.args.self.now c.args.other.now _ _ c.requires.row c.requires.other c.levels-level-end.ensures.alike alike (λ level lt. c.loop-level.invariant level (omega arith)))
