use Rattle.{
  frame_parts.proofs.Common.{sym, subst, MakesBy, tables},
  frame_select.specs.{select.Set.{kind_of_value}, Selected.{as_it_is}},
  frame_set.{specs.Values.{value_in}, proofs.FillLaws.{kind_listed}},
}
use Rattle.frame_set.proofs.filling.kind_for.Goals as goal

pub returns-in-Listed : goal.returns-in-Listed
returns-in-Listed c = λ texts.
    subst (λ v. MakesBy as_it_is texts c.list_kind.result (kind_of_value (value_in (tables c.args.store.now) texts v))) (sym c.in-Listed.is)
    (kind_listed _ _ _ _ (c.list_kind.ensures.answer texts))
