use Rattle.frame_signatures.proofs.bound.Bound.scalar_or_none.Goals as goal

pub returns-in-StandIn : goal.returns-in-StandIn
returns-in-StandIn c = λ live texts. cc (c.cell_for.ensures texts, c.in-StandIn.ensures.value live texts)
