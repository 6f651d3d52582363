use Rattle.{
  frame_parts.proofs.Common.{drop_more, ◌≡◌, ◌<◌, ◌+◌, ◌-◌, ◌++◌, Option, length, drop, arith, list_any, Label},
  frame_select.{specs.Headings.{same_heading}, proofs.HeadingLaws.{later_step, other_step}},
}
use Rattle.frame_select.proofs.headings.first_shared.Goals as goal

pub loop-heading-preserved : goal.loop-heading-preserved
loop-heading-preserved c = λ q. other_step _ _ _ _ _ q c.loop-heading-test.true c.loop-heading.invariant c.in_ok-insert.ensures.keys

pub loop-place-preserved-then-not-branch : goal.loop-place-preserved-then-not-branch
loop-place-preserved-then-not-branch c =
    let p = c.loop-place.place - 1 in
    let lt : p < length c.args.headings.now = omega arith in
    let later : (q : Option Label) → list_any (same_heading q) c.loop-place.later.keys ≡ list_any (same_heading q) (drop (p + 1) c.args.headings.now ++ c.args.others.now) = grind arith in
    record {
      later = λ q. later_step _ _ _ _ p _ q lt later c.in_ok-insert-2.ensures.keys;
      shared = grind (arith, drop_more);
    }

pub loop-place-preserved : goal.loop-place-preserved
loop-place-preserved c =
    let p = c.loop-place.place - 1 in
    let lt : p < length c.args.headings.now = omega arith in
    let later : (q : Option Label) → list_any (same_heading q) c.loop-place.later.keys ≡ list_any (same_heading q) (drop (p + 1) c.args.headings.now ++ c.args.others.now) = grind arith in
    record {
      later = λ q. later_step _ _ _ _ p _ q lt later c.in_ok-insert-2.ensures.keys;
      shared = grind (arith, drop_more);
    }
