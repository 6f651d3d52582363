use Rattle.meaning_script.proofs.cells.Common.{append_assoc}
use Rattle.script_faults.proofs.text.push_long_row.Goals as goal

pub returns : goal.returns
returns c = simp append_assoc (simp append_assoc at (rw (c.in_ok-push_counted-2.ensures, c.in_ok-push_counted.ensures) at c.push_counted-3.ensures))
