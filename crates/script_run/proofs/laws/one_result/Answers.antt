use Rattle.script_run.proofs.OneResult.{run_one}
use Rattle.script_run.proofs.laws.one_result.Goals as goal

pub returns : goal.returns
returns c = run_one _
