use Rattle.frame_reshape.proofs.LevelKeyLaws.{one_label}
use Rattle.frame_reshape.proofs.keys.LevelKeysKeyLevels.levels.Goals as goal

pub returns-clause-alike : goal.returns-clause-alike
returns-clause-alike c = one_label c.args.self.now.axis.now c.args.self.now.level
