use Rattle.{
  meaning_align.proofs.cells.Common.{arith},
  label_align.proofs.OuterJoinLaws.{rows_agree},
}
use Rattle.label_align.proofs.both.is_same_row.Goals as goal

pub returns : goal.returns
returns c = rows_agree _ _ _ _ c.requires.alike c.requires.first c.requires.second (λ k lt. c.loop-level.invariant k (omega arith))
