use Rattle.{
  frame_parts.proofs.Common.{◌∙◌, sym, subst, MakesBy, table_value},
  frame_merge.{specs.Keys.{keys_seen}, proofs.KeyLaws.{told_common}},
}
use Rattle.frame_merge.proofs.keys.keys_told.Goals as goal

pub returns-else-len-eq0-clause-answer : goal.returns-else-len-eq0-clause-answer
returns-else-len-eq0-clause-answer c =
    let texts = c.args.dict.now in
    subst (MakesBy keys_seen texts c.keys_named-in-None.result)
    (sym (told_common texts (table_value texts c.args.l.now) (table_value texts c.args.r.now) c.args.told _ c.in-None.is c.in_ok-labels-in-None.ensures.labels (λ none. c.if-len-eq0.false (c.len.ensures ∙ none))))
    c.keys_named-in-None.ensures.answer
