use Rattle.{
  json_frames.{specs.Views.{values_seen}, proofs.ColumnsLaws.{two_at, kinds_more}},
}
use Rattle.json_frames.proofs.columns.kinds_at.Goals as goal

pub returns-in-None : goal.returns-in-None
returns-in-None c = two_at (values_seen c.args.rows.now) c.loop-place.place c.args.width c.loop-place-test.true c.in-None.ensures

pub loop-place-preserved : goal.loop-place-preserved
loop-place-preserved c = kinds_more c.loop-place.kinds.items _ _ (values_seen c.args.rows.now) c.loop-place.place c.loop-place.invariant c.in_ok-push-in-Some.ensures.items c.in-Some.ensures.0 c.in-Some.ensures.1
