use Rattle.multi_index.proofs.axis.Axis.len.Goals as goal

pub returns : goal.returns
returns c = rw (← c.self.view_is) c.len.ensures.tuples
