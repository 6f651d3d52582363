use Rattle.{
  frame_parts.proofs.Common.{arith},
  frame_reshape.proofs.LevelKeyLaws.{no_key},
}
use Rattle.frame_reshape.proofs.keys.LevelKeysKeyLevels.label.Goals as goal

pub returns-then-level-gt0 : goal.returns-then-level-gt0
returns-then-level-gt0 c = no_key c.args.self.now.axis.now c.args.self.now.level c.args.row c.args.level (omega arith)
