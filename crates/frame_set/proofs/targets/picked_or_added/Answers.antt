use Rattle.{
  frame_parts.proofs.Common.{arith},
  frame_set.proofs.TargetLaws.{as_nothing, added_settled},
}
use Rattle.frame_set.proofs.targets.picked_or_added.Goals as goal

pub returns-in-None-clause-reached : goal.returns-in-None-clause-reached
returns-in-None-clause-reached c = λ texts tuples pick many makes tells.
    as_nothing _ _ _ _ _ _ c.in-None.is
    (grind arith) makes

pub returns-in_ok-added-in-Some-clause-given : goal.returns-in_ok-added-in-Some-clause-given
returns-in_ok-added-in-Some-clause-given c = λ texts settled.
    added_settled _ _ _ _ _ c.in-Some.is c.in_ok-added-in-Some.ensures settled
