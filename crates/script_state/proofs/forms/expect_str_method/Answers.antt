use Rattle.{
  frame_calls.proofs.frame_parts.Common.{◌∙◌, sym, subst},
  script_state.specs.Faults.{IsNoAttribute},
}
use Rattle.script_state.proofs.forms.expect_str_method.Goals as goal

pub returns-clause-fault : goal.returns-clause-fault
returns-clause-fault c = subst (λ b. IsNoAttribute c.no_attribute.result c.args.name.now b) (sym (sym c.text_exists.ensures ∙ c.if-text_exists.false)) c.no_attribute.ensures
