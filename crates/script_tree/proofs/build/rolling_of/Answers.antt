use Rattle.script_tree.proofs.Rows.{step_of-Rolling}
use Rattle.script_tree.proofs.build.rolling_of.Goals as goal

pub returns : goal.returns
returns c = step_of-Rolling c.args.window c.args.name c.args.args
