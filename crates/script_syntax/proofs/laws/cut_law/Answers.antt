use Rattle.script_syntax.proofs.Cutting.{is_cut}
use Rattle.script_syntax.proofs.laws.cut_law.Goals as goal

pub returns : goal.returns
returns c = is_cut _
