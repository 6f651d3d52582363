use Rattle.meaning_script.proofs.cells.Common.{append_assoc}
use Rattle.script_faults.proofs.text.push_bad_merge.Goals as goal

pub returns : goal.returns
returns c = simp append_assoc (simp append_assoc at (rw (c.in_ok-push_words.ensures, c.side_word.ensures) at c.push_keyed.ensures))
