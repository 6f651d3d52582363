use Rattle.{
  std.proofs.Common.{rules},
  frame_store.proofs.{StoreLaws.{no_store}, HeldLaws.{empty_total}},
}
use Rattle.frame_store.proofs.store.Store.new.Goals as goal

pub invariant_of-result : goal.invariant_of-result
invariant_of-result c = record { kept = no_store _ _ (search rules) (search rules) }

pub returns-clause-holding : goal.returns-clause-holding
returns-clause-holding c = rw c.new.ensures empty_total
