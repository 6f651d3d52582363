use Rattle.{
  frame_calls.proofs.frame_parts.Common.{settled_later},
  script_state.proofs.{Worlds.{longer_keeps, given_after}, Validity.{longer_valid}},
}
use Rattle.script_state.proofs.work.Work.key.Goals as goal

pub invariant_of-self : goal.invariant_of-self
invariant_of-self c = search (settled_later, longer_valid, given_after)

pub returns-in_err-cell-clause-kept : goal.returns-in_err-cell-clause-kept
returns-in_err-cell-clause-kept c = search longer_keeps

pub returns-clause-kept : goal.returns-clause-kept
returns-clause-kept c = search longer_keeps
