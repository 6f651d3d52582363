use Rattle.{
  frame_parts.proofs.Common.{◌<◌, refl, ap, length, arith},
  frame_methods.proofs.DuplicateLaws.{marks_more},
}
use Rattle.frame_methods.proofs.duplicates.repeats.Goals as goal

pub loop-number-preserved : goal.loop-number-preserved
loop-number-preserved c =
    let lt : c.loop-number.number-index < length c.args.numbers.now = omega arith in
    record {
      kind = grind arith;
      cells = marks_more _ _ _ _ _ c.loop-number.number-index _ _ _
          lt refl c.in_ok-is_new.ensures.added c.in_ok-is_new.ensures.keys (ap (λ m. m.cells) c.in_ok-push.ensures.ok) c.loop-number.invariant.cells;
    }
