use Rattle.{
  column_core.proofs.cells.Common.{◌∙◌, false, ap, arith, length, with_items_is},
  factorize.proofs.{GroupLaws.{codes_below}, PlaceLaws.{codes_placed}, KeyNumberLaws.{sight_numbers, renumbered}},
}
use Rattle.factorize.proofs.numbers.number_keys.Goals as goal

pub returns-then-not-sorted-clause-codes : goal.returns-then-not-sorted-clause-codes
returns-then-not-sorted-clause-codes g c =
    sight_numbers _ _ _ c.if-not-sorted.true c.in_ok-codes.field-0.codes.items c.in_ok-codes.ensures.codes

pub recode-requires : goal.recode-requires
recode-requires g c =
    codes_placed c.in_ok-ordered.ordered (length c.in_ok-codes.field-0.firsts.items) _ _ (grind arith)
    (rw c.deref_mut.ensures.value (codes_below c.args.dict.now _ _ c.levels-levels.ensures.alike c.args.sorted false _ c.in_ok-codes.ensures.firsts c.in_ok-codes.field-0.codes.items c.in_ok-codes.ensures.codes))

pub returns-clause-codes : goal.returns-clause-codes
returns-clause-codes g c =
    with_items_is c.in_ok-codes.field-0.codes _ (omega (arith, c.recode.auto.codes, ap length c.deref_mut.ensures.value, c.in_ok-codes.field-0.codes.ok.0))
    ∙ renumbered c.args.dict.now c.args.sorted (g.R.KeyLevels.keys _) c.levels-levels.result c.levels-levels.ensures.alike _ c.in_ok-ordered.ordered c.in_ok-codes.ensures.firsts (cc (c.in_ok-ordered.ensures, c.deref.ensures.value)) c.in_ok-codes.field-0.codes.items _ c.in_ok-codes.ensures.codes
    (grind arith)
