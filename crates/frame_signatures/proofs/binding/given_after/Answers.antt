use Rattle.{
  frame_store.proofs.cells.Common.{arith, common_steps},
  frame_signatures.proofs.LiveLaws.{live_first, live_after},
}
use Rattle.frame_signatures.proofs.binding.given_after.Goals as goal

pub returns-then-goes_to-place-clause-live : goal.returns-then-goes_to-place-clause-live
returns-then-goes_to-place-clause-live c = λ live h.
    rw c.first-item.is (live_first live c.loop-rest.rest.now c.first-item.result c.in-len1-up.len_at_least (c.loop-rest.invariant.1 live h))

pub loop-rest-preserved : goal.loop-rest-preserved
loop-rest-preserved c =
    (grind (arith, common_steps), λ live h. live_after live _ c.loop-rest.rest.now (c.loop-rest.invariant.1 live h), grind (arith, common_steps))
