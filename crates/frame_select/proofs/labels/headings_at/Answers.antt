use Rattle.{
  std.proofs.lemmas.Option.{slice_get-get_or},
  frame_select.{specs.Selected.{heading_of}, proofs.CutLaws.{mapped_more}},
}
use Rattle.frame_select.proofs.labels.headings_at.Goals as goal

pub loop-place-preserved : goal.loop-place-preserved
loop-place-preserved c =
    mapped_more (heading_of c.args.on.now) _ _ _ _ _ _ c.loop-place-test.true (slice_get-get_or _ _ 0 c.loop-place-test.true) c.heading.ensures.value c.loop-place.invariant c.in_ok-push.ensures.items
