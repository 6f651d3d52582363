use Rattle.{
  std.proofs.Common.{◌≡◌, ◌++◌, codes, string_bytes},
  meaning_words.specs.Demonstration.{order_lines},
}
use Rattle.script_demo.proofs.orders.orders_file.Given as goal

-- the header, and the records of the orders so far
abbrev pub invariant-loop-before : goal.invariant-loop-before
invariant-loop-before l = string_bytes l.file ≡ codes "id,customer,qty,price\n" ++ order_lines l.before
