use Rattle.frame_calls.proofs.frame_parts.Common.{arith}
use Rattle.script_state.proofs.ChargeLaws.{count_told}
use Rattle.script_state.proofs.charges.charged.Goals as goal

pub returns : goal.returns
returns c = λ cost is. count_told c.args.charge c.args.cells cost c.saturating_add.result (omega arith) is c.saturating_add.ensures
