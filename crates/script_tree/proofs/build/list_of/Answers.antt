use Rattle.script_tree.proofs.Rows.{arg_of-Many}
use Rattle.script_tree.proofs.build.list_of.Goals as goal

pub returns : goal.returns
returns c = arg_of-Many c.args.parts
