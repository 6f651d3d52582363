use Rattle.{
  frame_calls.proofs.{frame_parts.Common.{◌∙◌, ap, sym, subst}, NameLaws.{has_named}},
  std.specs.Prelude.{is_some},
  script_state.specs.Faults.{IsNoAttribute},
}
use Rattle.script_state.proofs.work.Work.expect_method.Goals as goal

pub returns-in-Some-clause-known : goal.returns-in-Some-clause-known
returns-in-Some-clause-known c = λ texts. has_named _ _ ∙ ap is_some (sym (c.method_of.ensures texts) ∙ c.in-Some.is)

pub returns-in-None-clause-fault : goal.returns-in-None-clause-fault
returns-in-None-clause-fault c = λ texts.
    subst (λ b. IsNoAttribute c.no_attribute.result c.args.name.now b) (sym (has_named _ _ ∙ ap is_some (sym (c.method_of.ensures texts) ∙ c.in-None.is))) c.no_attribute.ensures
