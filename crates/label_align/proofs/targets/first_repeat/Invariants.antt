use Rattle.label_align.specs.Targets.{NoneBefore}
use Rattle.label_align.proofs.targets.first_repeat.Given as goal

-- none repeats so far
abbrev pub invariant-loop-place : goal.invariant-loop-place
invariant-loop-place l = NoneBefore l.rows l.codes l.place
