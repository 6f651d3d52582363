use Rattle.meaning_script.proofs.cells.Common.{append_assoc}
use Rattle.script_faults.proofs.text.push_bad_value.Goals as goal

pub returns : goal.returns
returns c = simp append_assoc at (rw c.in_ok-push_str.ensures.bytes at c.push_reason.ensures)
