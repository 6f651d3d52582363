use Rattle.frame_parts.proofs.Common.{arith}
use Rattle.frame_concat.proofs.calling.asked_by.Goals as goal

pub returns-clause-keys : goal.returns-clause-keys
returns-clause-keys c = λ live texts. grind (arith, c.in_ok-keys_in.ensures live texts, c.list_or_none.ensures.value live texts)
