use Rattle.{
  column_core.proofs.cells.Common.{◌∙◌, length, ap},
  merge_concat.proofs.UnitedLaws.{levels_more},
}
use Rattle.merge_concat.proofs.axes.levels_of.Goals as goal

pub loop-axis-preserved : goal.loop-axis-preserved
loop-axis-preserved c =
    let axes = c.args.axes.now in
    let here = c.levels-levels.ensures.count ∙ ap (λ a. length a.now.names) c.axis-item.is ∙ c.requires.alike _ _ c.loop-axis-test.true in
    search levels_more
