use Rattle.{
  index_core.{proofs.cells.Common.{◌≡◌, true, false, arith, rules, length}, specs.Labels.{same_number}},
  multi_index.{specs.Levels.{row_tuple}, proofs.{LevelTuples.{width}, ListedLaws.{leads_step}}},
}
use Rattle.multi_index.proofs.listed.leads.Goals as goal

pub returns-then-ne : goal.returns-then-ne
returns-then-ne c =
    let tuple = row_tuple c.args.levels.now c.args.row in
    let size : length tuple ≡ length c.args.levels.now = width _ _ in
    let apart : same_number c.at.result c.label.result ≡ false = search rules in
    let step = leads_step same_number c.args.leading.now tuple c.loop-level.level _ _ (omega arith) (omega (arith, size)) c.at.ensures c.label.ensures in
    grind arith

pub loop-level-preserved : goal.loop-level-preserved
loop-level-preserved c =
    let tuple = row_tuple c.args.levels.now c.args.row in
    let size : length tuple ≡ length c.args.levels.now = width _ _ in
    let same : same_number c.at.result c.label.result ≡ true = search rules in
    let step = leads_step same_number c.args.leading.now tuple c.loop-level.level _ _ (omega arith) (omega (arith, size)) c.at.ensures c.label.ensures in
    grind arith
