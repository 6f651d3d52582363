use Rattle.{
  frame_parts.proofs.Common.{◌≡◌, ◌<◌, ◌+◌, ◌-◌, true, false, drop, length, slice_get, slice_index_or, Some, get_or_default, get_or_from_slice_get, arith},
  frame_select.specs.charge.Charge.{different_count},
  frame_select.proofs.TakeLaws.{place_inside},
  frame_set.proofs.TouchLaws.{AreMarks, marks_later, marks_again, count_later, count_again},
}
use Rattle.frame_set.proofs.touching.different_places.Goals as goal

pub loop-k-preserved-then-not-index : goal.loop-k-preserved-then-not-index
loop-k-preserved-then-not-index c =
    let k = c.loop-k.k - 1 in
    let places = c.args.places.now in
    let marks = c.loop-k.later.items in
    let place = c.at-place.result.now in
    let lt : k < length places = omega arith in
    let before : AreMarks marks c.args.count (drop (k + 1) places) = grind arith in
    let counted : c.loop-k.different ≡ different_count (drop (k + 1) places) = grind arith in
    let at : slice_get places k ≡ Some place = search in
    let inside : place < c.args.count = search place_inside in
    let mark : slice_index_or marks place false ≡ false = grind (arith, get_or_default, get_or_from_slice_get, before.count) in
    let one = count_later marks c.args.count k place places before lt at inside mark in
    record { marks = search (marks_later, place_inside); count = omega (arith, counted, one); within = grind arith }

pub loop-k-preserved : goal.loop-k-preserved
loop-k-preserved c =
    let k = c.loop-k.k - 1 in
    let places = c.args.places.now in
    let marks = c.loop-k.later.items in
    let place = c.at-place.result.now in
    let lt : k < length places = omega arith in
    let before : AreMarks marks c.args.count (drop (k + 1) places) = grind arith in
    let counted : c.loop-k.different ≡ different_count (drop (k + 1) places) = grind arith in
    let at : slice_get places k ≡ Some place = search in
    let inside : place < c.args.count = search place_inside in
    let mark : slice_index_or marks place false ≡ true = grind (arith, get_or_default, get_or_from_slice_get, before.count) in
    let one = count_again marks c.args.count k place places before lt at inside mark in
    record { marks = marks_again marks c.args.count k place places before lt at inside mark; count = omega (arith, counted, one); within = grind arith }
