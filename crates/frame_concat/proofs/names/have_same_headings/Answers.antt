use Rattle.{
  frame_parts.proofs.Common.{arith, ◌≡◌, false},
  frame_concat.proofs.PartLaws.{alike, unequal_at, equal_all},
}
use Rattle.frame_concat.proofs.names.have_same_headings.Goals as goal

pub returns-then-ne : goal.returns-then-ne
returns-then-ne c =
    let apart : alike c.args.parts.now c.first-item.result c.in-len1-up.len_at_least c.first-item.is c.other-item.result ≡ false = grind arith in
    unequal_at _ _ c.in-len1-up.len_at_least c.first-item.is _ _ c.loop-other-test.true c.other-item.is c.loop-other.invariant apart

pub returns : goal.returns
returns c = equal_all _ _ c.in-len1-up.len_at_least c.first-item.is _ c.loop-other-test.false c.loop-other.invariant
