use Rattle.frame_signatures.proofs.bound.Bound.truth_or_none.Goals as goal

pub returns-in-Given : goal.returns-in-Given
returns-in-Given c = λ live texts. cc (c.truth_of.ensures texts, c.scalar.ensures live texts, c.in-Given.ensures.value live texts)
