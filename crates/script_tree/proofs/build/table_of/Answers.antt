use Rattle.script_tree.proofs.Rows.{arg_of-Table}
use Rattle.script_tree.proofs.build.table_of.Goals as goal

pub returns : goal.returns
returns c = arg_of-Table c.args.entries
