use Rattle.{frame_parts.proofs.Common.{◌<◌, length, arith, All-push}, frame_select.proofs.{HeadingLaws.{heading_settled}, NamedLaws.{places_met}}}
use Rattle.frame_select.proofs.labels.places_of_label.Goals as goal

pub same_heading-requires-clause-b : goal.same_heading-requires-clause-b
same_heading-requires-clause-b c = search heading_settled

pub loop-place-preserved : goal.loop-place-preserved
loop-place-preserved c =
    let inside : c.loop-place.place < length c.args.on.now.columns = grind arith in
    record {
      places = places_met _ _ _ c.loop-place.place _ _ c.loop-place.places _ _ (grind arith) c.heading.ensures.value c.same_heading.ensures (search) c.in_ok-push.ensures.ok c.loop-place.invariant.places;
      inside = rw c.in_ok-push.ensures.ok (All-push (λ place. place < length c.args.on.now.columns) c.loop-place.places c.loop-place.place c.loop-place.invariant.inside inside);
    }
