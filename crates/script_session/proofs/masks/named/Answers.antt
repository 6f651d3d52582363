use Rattle.{
  script_state.proofs.{cells.Common.{sym, ◌∙◌}, Evaluations.{names_value}},
  script_session.proofs.MaskLaws.{frame_named, others_named},
}
use Rattle.script_session.proofs.masks.named.Goals as goal

pub returns-in-None : goal.returns-in-None
returns-in-None c = λ paths seen. rw c.in-None.is (names_value _ _ _ c.named.ensures.found c.named.ensures.fault)

pub returns-then-eq : goal.returns-then-eq
returns-then-eq c = λ paths seen. rw c.in-Some.is (frame_named c.args.work.now _ _ (rw c.as_str.ensures at (sym c.eq.ensures ∙ c.if-eq.true)) (rw c.in-Some.is at c.requires))

pub returns-else-eq : goal.returns-else-eq
returns-else-eq c = λ paths seen. rw c.in-Some.is (others_named c.args.work.now _ _ _ (rw c.as_str.ensures at (sym c.eq.ensures ∙ c.if-eq.false)) c.named-in-Some.ensures.found c.named-in-Some.ensures.fault)
