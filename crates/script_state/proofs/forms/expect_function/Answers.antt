use Rattle.{
  frame_calls.proofs.frame_parts.Common.{◌∙◌, ap, sym, subst},
  std.specs.Prelude.{is_some},
  script_state.specs.Faults.{IsNoAttribute},
}
use Rattle.script_state.proofs.forms.expect_function.Goals as goal

pub returns-in-None-clause-fault : goal.returns-in-None-clause-fault
returns-in-None-clause-fault c = subst (λ b. IsNoAttribute c.no_attribute.result c.args.name.now b) (ap is_some (sym c.in-None.is ∙ c.function_named.ensures)) c.no_attribute.ensures
