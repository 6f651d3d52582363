use Rattle.{
  frame_calls.proofs.frame_parts.Common.{◌∙◌, sym, subst},
  std.specs.Prelude.{codes},
  script_state.specs.Faults.{IsNoAttribute},
}
use Rattle.script_state.proofs.work.Work.expect_texts.Goals as goal

pub returns-then-has_texts-clause-known : goal.returns-then-has_texts-clause-known
returns-then-has_texts-clause-known c = λ texts. sym (c.has_texts.ensures texts) ∙ c.if-has_texts.true

pub returns-clause-fault : goal.returns-clause-fault
returns-clause-fault c = λ texts.
    subst (λ b. IsNoAttribute c.no_attribute.result (codes "str") b) (sym (sym (c.has_texts.ensures texts) ∙ c.if-has_texts.false)) c.no_attribute.ensures
