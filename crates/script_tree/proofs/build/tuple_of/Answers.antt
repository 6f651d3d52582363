use Rattle.script_tree.proofs.Rows.{arg_of-Row}
use Rattle.script_tree.proofs.build.tuple_of.Goals as goal

pub returns : goal.returns
returns c = arg_of-Row c.args.parts
