use Rattle.meaning_script.proofs.cells.Common.{◌≡◌, ◌++◌, drop, map, string_bytes, label_datum, more_labels}
use Rattle.script_faults.proofs.key.push_more_labels.Given as goal

abbrev pub invariant-loop-level : goal.invariant-loop-level
invariant-loop-level l = string_bytes l.line ++ more_labels (map (label_datum l.texts) (drop l.level l.key)) ≡ string_bytes l.fn.line ++ more_labels (map (label_datum l.texts) (drop 1 l.key))
