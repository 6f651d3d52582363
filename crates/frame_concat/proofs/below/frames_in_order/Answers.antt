use Rattle.{
  frame_parts.proofs.Common.{◌∙◌, ap, length, subst, Makes},
  frame_concat.{specs.Asked.{asked_value}, proofs.BelowLaws.{placed_in, placed_each, ordered_made}},
}
use Rattle.frame_concat.proofs.below.frames_in_order.Goals as goal

pub table_below-requires-clause-each : goal.table_below-requires-clause-each
table_below-requires-clause-each c = placed_each _ _ (c.deref.ensures.value ∙ c.in_ok-columns.ensures)

pub table_below-requires-clause-columns : goal.table_below-requires-clause-columns
table_below-requires-clause-columns c =
    placed_in _ _ _ _ _ c.requires.known c.requires.some c.index-parts-0.is c.requires.equal (ap length c.headings-headings.ensures) (c.deref.ensures.value ∙ c.in_ok-columns.ensures)

pub returns : goal.returns
returns c =
    subst (Makes c.args.dict.now c.table_below.result)
    (ordered_made _ c.args.parts.now (asked_value c.args.dict.now c.args.asked.now) _ _ _ c.requires.some c.index-parts-0.is c.headings-headings.ensures (c.deref.ensures.value ∙ c.in_ok-columns.ensures))
    c.table_below.ensures
