use Rattle.column_bench.proofs.WorkLaws.{is_ready}
use Rattle.column_bench.proofs.measure.Goals as goal

pub time-requires : goal.time-requires
time-requires g c = is_ready c.args.operation c.args.count c.in_ok-work.work c.in_ok-work.ensures

pub number_of-requires : goal.number_of-requires
number_of-requires g c = is_ready c.args.operation c.args.count c.in_ok-work.work c.in_ok-work.ensures
