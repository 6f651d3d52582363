use Rattle.{
  frame_parts.proofs.Common.{◌∙◌, sym, arith},
  frame_concat.proofs.BelowLaws.{pieces_fit, pieces_counted, stacked_is},
}
use Rattle.frame_concat.proofs.columns.stacked.Goals as goal

pub concat_parts-requires-clause-kind : goal.concat_parts-requires-clause-kind
concat_parts-requires-clause-kind c = pieces_fit _ c.args.parts.now _ _ c.requires.meet c.kind_sought-kind.ensures (c.deref.ensures.value ∙ c.in_ok-pieces.ensures)

pub concat_parts-requires-clause-count : goal.concat_parts-requires-clause-count
concat_parts-requires-clause-count c = c.requires.rows ∙ sym (pieces_counted _ c.args.parts.now _ (c.deref.ensures.value ∙ c.in_ok-pieces.ensures) c.requires.whole)

pub returns : goal.returns
returns c = grind (arith, stacked_is)
