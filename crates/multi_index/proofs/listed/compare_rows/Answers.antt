use Rattle.{
  index_core.{proofs.cells.Common.{◌≡◌, length, arith}, specs.Labels.{order_in}},
  multi_index.{specs.Levels.{row_tuple}, proofs.{LevelTuples.{width}, ListedLaws.{stands_step, stays}}},
}
use Rattle.multi_index.proofs.listed.compare_rows.Goals as goal

pub returns-then-ne : goal.returns-then-ne
returns-then-ne c =
    let levels = c.args.levels.now in
    let here : length (row_tuple levels c.args.row) ≡ length levels = width _ _ in
    let there : length (row_tuple levels c.args.other) ≡ length levels = width _ _ in
    let step = stands_step (order_in c.args.dict.now) (row_tuple levels c.args.row) (row_tuple levels c.args.other) c.loop-level.level _ _ (omega (arith, here)) (omega (arith, there)) c.label.ensures c.label-in-loop-level.ensures in
    grind (arith, stays)

pub loop-level-preserved : goal.loop-level-preserved
loop-level-preserved c =
    let levels = c.args.levels.now in
    let here : length (row_tuple levels c.args.row) ≡ length levels = width _ _ in
    let there : length (row_tuple levels c.args.other) ≡ length levels = width _ _ in
    let step = stands_step (order_in c.args.dict.now) (row_tuple levels c.args.row) (row_tuple levels c.args.other) c.loop-level.level _ _ (omega (arith, here)) (omega (arith, there)) c.label.ensures c.label-in-loop-level.ensures in
    grind arith
