use Rattle.{
  frame_store.proofs.cells.Common.{arith, ◌∙◌},
  frame_signatures.proofs.SureLaws.{text_sure, sure_told},
}
use Rattle.frame_signatures.proofs.bound.Bound.kind.Goals as goal

pub unwrap-requires : goal.unwrap-requires
unwrap-requires c = sure_told _ text_sure c.args.self.now _ _ c.requires (λ live texts. λ s. c.text_or_none.ensures.there live texts ∙ s)

pub returns : goal.returns
returns = grind arith
