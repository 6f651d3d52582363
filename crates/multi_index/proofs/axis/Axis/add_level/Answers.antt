use Rattle.{
  index_core.proofs.cells.Common.{◌∙◌, arith},
  multi_index.{specs.Levels.{new_level}, proofs.AxisLaws.{axis_with, rows_of_axis}},
}
use Rattle.multi_index.proofs.axis.Axis.add_level.Goals as goal

pub with_level-requires-clause-rows : goal.with_level-requires-clause-rows
with_level-requires-clause-rows c = c.requires ∙ rows_of_axis _ _ _ c.self.view_is

pub returns : goal.returns
returns c = (
  omega (arith, c.levels.ensures.count, c.levels.ensures.few),
  axis_with c.self.inside.levels c.self.inside.names _ c.self.view_is c.self.invariant.room c.self.invariant.whole _ _ (new_level c.args.dict.now c.args.labels.now) c.args.outer c.requires c.in_ok-levels.ensures c.names_with.ensures.names,
)
