use Rattle.{
  std.proofs.Common.{◌≡◌, arith, codes},
  script_demo.proofs.OrderLaws.{lines_more},
}
use Rattle.script_demo.proofs.orders.orders_file.Goals as goal

pub loop-before-preserved : goal.loop-before-preserved
loop-before-preserved c =
    let same : c.from.result ≡ c.loop-before.before = omega arith in
    lines_more (codes "id,customer,qty,price\n") _ _ _ c.loop-before.invariant (rw same at c.in_ok-push_order.ensures)
