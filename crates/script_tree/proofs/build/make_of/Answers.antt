use Rattle.script_tree.proofs.Rows.{expr_of-Make}
use Rattle.script_tree.proofs.build.make_of.Goals as goal

pub returns : goal.returns
returns c = expr_of-Make c.args.name c.args.args
