use Rattle.{
  frame_parts.proofs.Common.{◌≡◌, ◌<◌, ◌+◌, ◌-◌, None, true, false, length, drop, lookup, slice_index_or, arith, refl},
  std.specs.Option.{is_some},
  frame_select.{specs.Headings.{same_heading, HaveFirstPlaces}, proofs.HeadingLaws.{first_places_more}},
  frame_concat.proofs.PartLaws.{shared_more, shared_same},
}
use Rattle.frame_concat.proofs.parts.heading_places.Goals as goal

pub loop-place-preserved-then-is_some : goal.loop-place-preserved-then-is_some
loop-place-preserved-then-is_some c =
    let hs = c.args.headings.now in
    let p = c.loop-place.place - 1 in
    let lt : p < length hs = omega arith in
    let first : HaveFirstPlaces c.loop-place.first.entries (p + 1) (drop (p + 1) hs) = grind arith in
    let there : is_some (lookup (same_heading (slice_index_or hs p None)) c.loop-place.first.entries) ≡ true = grind arith in
    record {
      first = first_places_more hs p None _ _ _ lt refl (λ q. c.in_ok-insert.ensures.updates.0 q) first;
      repeated = shared_more hs p None _ _ lt refl first there;
    }

pub loop-place-preserved : goal.loop-place-preserved
loop-place-preserved c =
    let hs = c.args.headings.now in
    let p = c.loop-place.place - 1 in
    let lt : p < length hs = omega arith in
    let first : HaveFirstPlaces c.loop-place.first.entries (p + 1) (drop (p + 1) hs) = grind arith in
    let gone : is_some (lookup (same_heading (slice_index_or hs p None)) c.loop-place.first.entries) ≡ false = grind arith in
    let same = shared_same hs p None (slice_index_or hs p None) _ lt refl first gone in
    record {
      first = first_places_more hs p None _ _ _ lt refl (λ q. c.in_ok-insert.ensures.updates.0 q) first;
      repeated = grind (arith, same);
    }
