use Rattle.{
  frame_parts.proofs.Common.{◌<◌, length, arith},
  frame_make.proofs.FrameLaws.{pair_step, keys_step, places_inside, keys_settled},
}
use Rattle.frame_make.proofs.pairs.last_places.Goals as goal

pub loop-place-preserved : goal.loop-place-preserved
loop-place-preserved c =
    let lt : c.loop-place.place < length c.args.pairs.now = omega arith in
    record {
      inside = keys_step _ _ _ _ _ _ c.loop-place.invariant.inside lt c.requires c.in_ok-insert.ensures.entries;
      pairs = λ live. pair_step _ _ _ _ _ _ c.loop-place.invariant.inside lt c.requires c.in_ok-insert.ensures.entries c.len.ensures.distinct live _ (c.loop-place.invariant.pairs live);
    }

pub returns-clause-inside : goal.returns-clause-inside
returns-clause-inside c = search places_inside

pub returns-clause-settled : goal.returns-clause-settled
returns-clause-settled c = search keys_settled
