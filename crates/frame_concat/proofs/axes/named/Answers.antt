use Rattle.{
  frame_parts.proofs.Common.{◌≡◌, ◌<◌, ◌+◌, ◌-◌, length, arith, length-set},
  column_core.proofs.cells.Common.{append-nil, take-map},
  frame_concat.proofs.PartLaws.{level_more, given_more},
}
use Rattle.frame_concat.proofs.axes.named.Goals as goal

pub loop-level-init : goal.loop-level-init
loop-level-init c =
    let before = c.levels.result - c.args.levels in
    let none : before + 0 ≡ before = omega arith in
    grind (arith, take-map, append-nil)

pub loop-level-preserved : goal.loop-level-preserved
loop-level-preserved c =
    let names = c.loop-level.axis.names in
    let level = c.loop-level.level in
    let before = c.levels.result - c.args.levels in
    let k = before + level in
    let lt : k < length names = omega (arith, c.loop-level.invariant.count, c.levels.ensures.count, c.requires.room) in
    let next : before + (level + 1) ≡ k + 1 = omega arith in
    grind (arith, length-set, level_more, given_more)
