use Rattle.{
  frame_parts.proofs.Common.{◌<◌, length, arith, All-push, headings_part},
  frame_select.proofs.HeadingLaws.{heading_settled},
  frame_set.proofs.RemoveLaws.{other_met, other_passed},
}
use Rattle.frame_set.proofs.removing.other_columns.Goals as goal

pub same_heading-requires-clause-b : goal.same_heading-requires-clause-b
same_heading-requires-clause-b c =
    heading_settled c.args.dict.now c.args.on.now.headings c.loop-place.place _ c.heading.ensures.value (headings_part _ c.args.on.now c.requires.known.given)

pub loop-place-preserved-then-same_heading : goal.loop-place-preserved-then-same_heading
loop-place-preserved-then-same_heading c = record {
  others = other_passed _ _ _ c.loop-place.place _ _ (grind arith) c.heading.ensures.value c.same_heading.ensures c.loop-place.others (search) c.loop-place.invariant.others;
  inside = c.loop-place.invariant.inside;
}

pub loop-place-preserved : goal.loop-place-preserved
loop-place-preserved c =
    let inside : c.loop-place.place < length c.args.on.now.columns = grind arith in
    record {
      others = other_met _ _ _ c.loop-place.place _ _ (grind arith) c.heading.ensures.value c.same_heading.ensures c.loop-place.others _ (search) c.loop-place.invariant.others c.in_ok-push.ensures.ok;
      inside = rw c.in_ok-push.ensures.ok (All-push (λ place. place < length c.args.on.now.columns) c.loop-place.others c.loop-place.place c.loop-place.invariant.inside inside);
    }
