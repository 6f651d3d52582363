use Rattle.{
  frame_parts.proofs.Common.{◌≡◌, ◌<◌, ◌+◌, ◌-◌, true, false, length, drop, lookup, arith},
  std.specs.Option.{is_some},
  frame_select.{specs.Headings.{same_heading, HaveFirstPlaces, AreRepeated}, proofs.{HeadingLaws.{first_places_more}, NamedLaws.{repeated_more, once_more}}},
}
use Rattle.frame_select.proofs.headings.heading_places.Goals as goal

pub loop-place-preserved-in_ok-insert-2 : goal.loop-place-preserved-in_ok-insert-2
loop-place-preserved-in_ok-insert-2 c =
    let hs = c.args.on.now.headings in
    let p = c.loop-place.place - 1 in
    let lt : p < length hs = omega arith in
    let first : HaveFirstPlaces c.loop-place.first.entries (p + 1) (drop (p + 1) hs) = grind arith in
    let before : AreRepeated c.loop-place.repeated.keys (p + 1) (drop (p + 1) hs) = grind arith in
    let there : is_some (lookup (same_heading c.heading-heading.result) c.loop-place.first.entries) ≡ true = grind arith in
    record {
      first = first_places_more hs p _ _ _ _ lt c.heading-heading.ensures.value (λ q. c.in_ok-insert.ensures.updates.0 q) first;
      repeated = λ q. repeated_more hs p _ _ q _ _ _ lt c.heading-heading.ensures.value before first there c.in_ok-insert-2.ensures.keys;
    }

pub loop-place-preserved : goal.loop-place-preserved
loop-place-preserved c =
    let hs = c.args.on.now.headings in
    let p = c.loop-place.place - 1 in
    let lt : p < length hs = omega arith in
    let first : HaveFirstPlaces c.loop-place.first.entries (p + 1) (drop (p + 1) hs) = grind arith in
    let before : AreRepeated c.loop-place.repeated.keys (p + 1) (drop (p + 1) hs) = grind arith in
    let gone : is_some (lookup (same_heading c.heading-heading.result) c.loop-place.first.entries) ≡ false = grind arith in
    record {
      first = first_places_more hs p _ _ _ _ lt c.heading-heading.ensures.value (λ q. c.in_ok-insert.ensures.updates.0 q) first;
      repeated = λ q. once_more hs p _ _ q _ _ c.loop-place.repeated.keys lt c.heading-heading.ensures.value before first gone;
    }
