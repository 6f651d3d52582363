use Rattle.nullable_array.proofs.reductions.reduce.Goals as goal

pub returns-in-Ints-clause-given : goal.returns-in-Ints-clause-given
returns-in-Ints-clause-given c = c.reduce_numbers.ensures.given _

pub returns-in-Truths-clause-given : goal.returns-in-Truths-clause-given
returns-in-Truths-clause-given c = c.reduce_truths.ensures.given _
