use Rattle.script_tree.proofs.Rows.{step_of-Group}
use Rattle.script_tree.proofs.build.group_of.Goals as goal

pub returns : goal.returns
returns c = step_of-Group c.args.keys c.args.selection c.args.name c.args.args
