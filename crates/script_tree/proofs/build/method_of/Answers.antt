use Rattle.script_tree.proofs.Rows.{step_of-Method}
use Rattle.script_tree.proofs.build.method_of.Goals as goal

pub returns : goal.returns
returns c = step_of-Method c.args.name c.args.args
