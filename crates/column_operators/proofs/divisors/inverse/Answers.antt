use Rattle.{
  column_core.proofs.cells.Common.{pow-add, div_below, one_shl, ◌≡◌, ◌+◌, ◌*◌, ◌%◌, ◌^◌, arith},
  column_operators.proofs.QuotientLaws.{inverts},
}
use Rattle.column_operators.proofs.divisors.inverse.Goals as goal

pub overflow_cast-result : goal.overflow_cast-result
overflow_cast-result = grind (arith, one_shl, pow-add, div_below)

pub returns : goal.returns
returns c =
    let power : (1 * 2 ^ (63 + c.args.shift)) % 2 ^ 128 ≡ 2 ^ (63 + c.args.shift) = one_shl (63 + c.args.shift) 128 (omega (arith, c.requires.narrow)) in
    grind (arith, inverts)
