use Rattle.frame_signatures.proofs.bound.Bound.whole_or_none.Goals as goal

pub returns-in-Given : goal.returns-in-Given
returns-in-Given c = λ live texts. cc (c.whole_of.ensures texts, c.scalar.ensures live texts, c.in-Given.ensures.value live texts)
