use Rattle.meaning_script.proofs.cells.Common.{rules, append_assoc}
use Rattle.script_faults.proofs.text.line_of_stats.Goals as goal

pub returns : goal.returns
returns c = search (rules, append_assoc)
