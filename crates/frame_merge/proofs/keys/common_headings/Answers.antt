use Rattle.{
  frame_parts.proofs.Common.{◌≡◌, ◌<◌, ◌∙◌, sym, true, false, length, arith},
  frame_select.proofs.PickedLaws.{places_inside},
  frame_merge.proofs.KeyLaws.{is_common, all_among, all_common, common_more, common_passed},
}
use Rattle.frame_merge.proofs.keys.common_headings.Goals as goal

pub loop-place-preserved-then-not-contains : goal.loop-place-preserved-then-not-contains
loop-place-preserved-then-not-contains c =
    let hs = c.args.l.now.headings in
    let lt : c.loop-place.place < length hs = omega (arith, c.requires.left.headed) in
    let among = all_among c.args.r.now _ _ _ c.requires.right c.in_ok-places_below.ensures c.columns.ensures c.in_ok-others.ensures in
    let gone : is_common c.args.r.now.headings c.heading-heading.result ≡ false = sym (among _) ∙ grind arith in
    common_passed hs _ _ _ _ lt c.heading-heading.ensures.value c.loop-place.invariant gone

pub loop-place-preserved : goal.loop-place-preserved
loop-place-preserved c =
    let hs = c.args.l.now.headings in
    let lt : c.loop-place.place < length hs = omega (arith, c.requires.left.headed) in
    let among = all_among c.args.r.now _ _ _ c.requires.right c.in_ok-places_below.ensures c.columns.ensures c.in_ok-others.ensures in
    let there : is_common c.args.r.now.headings c.heading-heading.result ≡ true = sym (among _) ∙ grind arith in
    common_more hs _ _ _ _ lt c.heading-heading.ensures.value c.loop-place.invariant _ there c.in_ok-insert.ensures.keys

pub heading_set-requires-clause-places : goal.heading_set-requires-clause-places
heading_set-requires-clause-places c = places_inside _ _ _ c.in_ok-places_below.ensures c.columns.ensures

pub returns : goal.returns
returns c = all_common c.args.l.now.headings c.args.r.now.headings _ c.loop-place.place (omega (arith, c.requires.left.headed)) c.loop-place.invariant
