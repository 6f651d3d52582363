use Rattle.script_tree.proofs.Rows.{step_of-Text}
use Rattle.script_tree.proofs.build.text_method_of.Goals as goal

pub returns : goal.returns
returns c = step_of-Text c.args.name c.args.args
