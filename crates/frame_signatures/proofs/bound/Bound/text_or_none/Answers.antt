use Rattle.frame_store.proofs.cells.Common.{arith}
use Rattle.frame_signatures.proofs.bound.Bound.text_or_none.Goals as goal

pub returns-in-Given-clause-there : goal.returns-in-Given-clause-there
returns-in-Given-clause-there = grind arith

pub returns-in-StandIn-clause-there : goal.returns-in-StandIn-clause-there
returns-in-StandIn-clause-there = grind arith
