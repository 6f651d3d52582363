use Rattle.{
  frame_parts.proofs.Common.{◌≡◌, ◌<◌, length, arith, rules, Err, longer_twice},
  frame_ops.proofs.MeetingLaws.{kinds_here, columns_more, whole_more, whole_refused},
}
use Rattle.frame_ops.proofs.columns.columns_met.Goals as goal

pub returns-in_err-block-clause-made : goal.returns-in_err-block-clause-made
returns-in_err-block-clause-made c =
    let lt : c.loop-place.place < length c.args.on.now.columns = omega arith in
    let is : c.from_residual.result ≡ Err c.in_err-block.field-0.0 = search rules in
    rw is (whole_refused _ _ _ _ c.args.on.now _ _ c.loop-place.made _ lt c.requires.opposite c.requires.other c.requires.given c.loop-place.invariant.longer c.in_err-block.field-0.0 c.in_err-block.ensures.made c.loop-place.invariant.whole)

pub loop-place-preserved : goal.loop-place-preserved
loop-place-preserved c =
    let lt : c.loop-place.place < length c.args.on.now.columns = omega arith in
    record {
      longer = search longer_twice;
      columns = columns_more _ _ _ _ _ _ _ c.block_met.ensures.longer c.loop-place.invariant.columns c.in_ok-push.ensures.ok c.in_ok-block.ensures.single c.in_ok-block.ensures.rows c.in_ok-block.ensures.given;
      kinds = grind (arith, kinds_here);
      whole = whole_more _ _ _ _ c.args.on.now _ _ _ _
          lt c.requires.opposite c.requires.other c.requires.given c.loop-place.invariant.longer _ _ c.block_met.ensures.longer c.loop-place.invariant.columns.given c.in_ok-push.ensures.ok c.in_ok-block.ensures.made c.loop-place.invariant.whole;
    }
