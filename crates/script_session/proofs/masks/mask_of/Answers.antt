use Rattle.{script_state.proofs.cells.Common.{ap, sym, ◌∙◌}, script_state.specs.script.{Reading.{at_once}, Expression.{mask_for}}, script_session.{specs.Masks.{asked_text}, proofs.{Refusing.{refuses_kind}, MaskLaws.{mask_found, mask_refused, refuses_query, runs_short}}}}
use Rattle.script_session.proofs.masks.mask_of.Goals as goal

pub returns-in-None : goal.returns-in-None
returns-in-None c = λ paths seen. refuses_kind (λ files. ap (λ o. at_once (mask_for o)) (sym (ap asked_text (sym c.in-None.is) ∙ c.asked_text.ensures)))

pub returns-in-Ok : goal.returns-in-Ok
returns-in-Ok c = λ paths seen. mask_found _ _ _ _ (ap asked_text (sym c.in-Some.is) ∙ c.asked_text.ensures) (rw c.in-Ok.is at c.parse_query.ensures)

pub returns-in-NotQuery : goal.returns-in-NotQuery
returns-in-NotQuery c = λ paths seen. refuses_query (λ files. ap at_once (mask_refused _ _ (ap asked_text (sym c.in-Some.is) ∙ c.asked_text.ensures) (rw c.in-NotQuery.is at (rw c.in-Err.is at c.parse_query.ensures))))

pub returns-in-NoMemory : goal.returns-in-NoMemory
returns-in-NoMemory c = λ paths seen. runs_short
