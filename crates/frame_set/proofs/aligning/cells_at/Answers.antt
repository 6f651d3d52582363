use Rattle.{
  std.proofs.lemmas.Option.{slice_get-get_or},
  frame_set.proofs.AlignLaws.{gap_more},
}
use Rattle.frame_set.proofs.aligning.cells_at.Goals as goal

pub loop-row-preserved : goal.loop-row-preserved
loop-row-preserved c =
    gap_more _ _ _ _ _ _ _ c.loop-row-test.true (slice_get-get_or _ _ _ c.loop-row-test.true) c.cell_or_na.ensures c.loop-row.invariant c.in_ok-push.ensures.ok
