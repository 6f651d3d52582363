use Rattle.meaning_format.{proofs.cells.Common.{◌≡◌, drop}, specs.Print.{has_names}}
use Rattle.frame_format.proofs.measuring.has_level_names.Given as goal

abbrev pub invariant-loop-level : goal.invariant-loop-level
invariant-loop-level g l = has_names (drop l.level l.source.level_names) ≡ has_names l.source.level_names
