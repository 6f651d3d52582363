use Rattle.column_bench.proofs.work.truths.Goals as goal

pub cast-requires : goal.cast-requires
cast-requires c = rw c.as_ref.ensures (c.requires c.args.dict.now)
