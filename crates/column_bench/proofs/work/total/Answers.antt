use Rattle.column_bench.proofs.work.total.Goals as goal

pub reduce-requires : goal.reduce-requires
reduce-requires c = rw c.as_ref.ensures (c.requires c.args.dict.now)
