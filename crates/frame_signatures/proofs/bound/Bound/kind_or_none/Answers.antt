use Rattle.frame_store.proofs.cells.Common.{arith}
use Rattle.frame_signatures.proofs.bound.Bound.kind_or_none.Goals as goal

pub returns-in-Some : goal.returns-in-Some
returns-in-Some = grind arith

pub returns-in-None : goal.returns-in-None
returns-in-None = grind arith
