use Rattle.{
  frame_store.proofs.cells.Common.{arith},
  cell_core.specs.declared.cell.Cell.TheVariants.{Text as TextCell},
  frame_signatures.proofs.ToldLaws.{scalar_given},
}
use Rattle.frame_signatures.proofs.bound.Bound.text_id_or_none.Goals as goal

pub returns-in-Some-Text-clause-given : goal.returns-in-Some-Text-clause-given
returns-in-Some-Text-clause-given c = λ live texts settled. scalar_given c.args.self.now c.args.place (TextCell c.in-Some-Text.id) live texts (λ l t. grind (arith, c.scalar_or_none.ensures l t)) settled
