use Rattle.{
  frame_store.proofs.cells.Common.{arith},
  frame_signatures.proofs.{SureLaws.{scalar_sure, sure_told, told_there}, ToldLaws.{scalar_given}},
}
use Rattle.frame_signatures.proofs.bound.Bound.scalar.Goals as goal

pub unwrap-requires : goal.unwrap-requires
unwrap-requires c = sure_told _ scalar_sure c.args.self.now _ _ c.requires.sure (λ live texts. told_there _ _ _ (c.scalar_or_none.ensures live texts))

pub returns-clause-given : goal.returns-clause-given
returns-clause-given c = λ live texts settled. scalar_given c.args.self.now c.args.place c.unwrap.result live texts (λ l t. grind (arith, c.scalar_or_none.ensures l t)) settled
