use Rattle.{
  index_core.{proofs.cells.Common.{◌≡◌, length, arith}, specs.Labels.{order_in}},
  cell_core.specs.declared.cell.Label.TheVariants.{Na},
  multi_index.{specs.Levels.{row_tuple}, proofs.{LevelTuples.{width}, ListedLaws.{stands_step, stands_short, stays}}},
}
use Rattle.multi_index.proofs.listed.compare.Goals as goal

pub returns-then-ne : goal.returns-then-ne
returns-then-ne c =
    let tuple = row_tuple c.args.levels.now c.args.row in
    let size : length tuple ≡ length c.args.levels.now = width _ _ in
    let step = stands_step (order_in c.args.dict.now) tuple c.args.bound.now c.loop-level.level _ _ (omega (arith, size)) (omega arith) c.label.ensures c.at.ensures in
    grind (arith, stays)

pub loop-level-preserved : goal.loop-level-preserved
loop-level-preserved c =
    let tuple = row_tuple c.args.levels.now c.args.row in
    let size : length tuple ≡ length c.args.levels.now = width _ _ in
    let step = stands_step (order_in c.args.dict.now) tuple c.args.bound.now c.loop-level.level _ _ (omega (arith, size)) (omega arith) c.label.ensures c.at.ensures in
    grind arith

pub returns-then-level-count : goal.returns-then-level-count
returns-then-level-count c = grind (arith, width, stands_short (order_in c.args.dict.now) Na)
