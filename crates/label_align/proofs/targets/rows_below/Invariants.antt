use Rattle.{
  meaning_align.proofs.cells.Common.{◌≡◌, map, take},
  label_align.specs.Targets.{row_below},
}
use Rattle.label_align.proofs.targets.rows_below.Given as goal

abbrev pub invariant-loop-code : goal.invariant-loop-code
invariant-loop-code l = l.gaps.items ≡ map (row_below l.count) (take l.code-index l.codes)
