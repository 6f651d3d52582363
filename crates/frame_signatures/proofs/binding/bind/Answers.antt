use Rattle.{
  frame_store.{proofs.cells.Common.{◌≡◌, true, arith}, specs.{Objects.{tables}, Arguments.{arguments_of}}},
  frame_signatures.proofs.RuleLaws.{filled},
}
use Rattle.meaning_call.specs.Binding as plain
use Rattle.frame_signatures.proofs.binding.bind.Goals as goal

pub invariant_of-result : goal.invariant_of-result
invariant_of-result c =
    let live = tables c.args.store.now in
    let texts = c.args.dict.now in
    let gs = arguments_of live texts c.args.args.now in
    let fitted : plain.fit c.args.parameters.now 0 gs ≡ true = grind (arith, c.all_fit.ensures, c.if-not-all_fit.false) in
    let there : plain.none_missing c.args.parameters.now gs 0 c.args.parameters.now ≡ true = grind (arith, c.if-not-none_missing.false) in
    record { filled = ∣ record { live = live; texts = texts; filled = filled c.args.parameters.now gs fitted there } ∣₁ }
