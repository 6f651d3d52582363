use Rattle.std.proofs.Common.{append_assoc}
use Rattle.script_demo.proofs.orders.push_order.Goals as goal

pub returns : goal.returns
returns c =
    rw (c.in_ok-push_str-4.ensures.bytes, c.in_ok-push_number-3.ensures, c.in_ok-push_str-3.ensures.bytes, c.in_ok-push_quantity.ensures, c.in_ok-push_str-2.ensures.bytes, c.in_ok-push_number-2.ensures, c.in_ok-push_str.ensures.bytes, c.in_ok-push_number.ensures)
    (simp append_assoc)
