use Rattle.script_tree.proofs.Rows.{step_of-Expanding}
use Rattle.script_tree.proofs.build.expanding_of.Goals as goal

pub returns : goal.returns
returns c = step_of-Expanding c.args.window c.args.name c.args.args
