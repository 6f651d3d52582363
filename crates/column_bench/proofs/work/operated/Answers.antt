use Rattle.column_bench.proofs.work.operated.Goals as goal

pub binary-requires-clause-a : goal.binary-requires-clause-a
binary-requires-clause-a c = rw c.as_ref.ensures (c.requires.left c.args.dict.now)

pub binary-requires-clause-b : goal.binary-requires-clause-b
binary-requires-clause-b c = rw c.as_ref-2.ensures (c.requires.right c.args.dict.now)
