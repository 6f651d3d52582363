use Rattle.{
  script_state.proofs.{cells.Common.{rules, refl, ◌∙◌, ap}, Evaluations.{apart, stops, makes}},
  script_tree.specs.View.{step_of},
  script_session.proofs.{Refusing.{refuses_kind}, Parts.{key_known}, Trees.{step_of-Access}},
}
use Rattle.script_session.proofs.target.last_step.Goals as goal

pub returns-in_err-key-in-Item : goal.returns-in_err-key-in-Item
returns-in_err-key-in-Item g c = rw c.in-Item.is (stops _ c.in_err-key-in-Item.ensures c.from_residual.ensures.1)

pub returns-in_ok-key-in-Item : goal.returns-in_ok-key-in-Item
returns-in_ok-key-in-Item g c =
    let x = c.in_ok-key-in-Item.ensures in
    rw c.in-Item.is (makes _ x (key_known _ _ x.found, tt) refl)

pub returns-in_err-first-in-Access : goal.returns-in_err-first-in-Access
returns-in_err-first-in-Access g c =
    rw (ap step_of c.in-Access.is ∙ step_of-Access _ _ _) (apart _ _ _ (stops _ c.in_err-first-in-Access.ensures c.from_residual-in_err-first-in-Access.ensures.1))

pub returns-in_ok-first-in-Access : goal.returns-in_ok-first-in-Access
returns-in_ok-first-in-Access g c =
    let x = c.in_ok-first-in-Access.ensures in
    rw (ap step_of c.in-Access.is ∙ step_of-Access _ _ _, ← c.selector_of.ensures) (apart _ _ _ (makes _ x x.found refl))

pub returns-in-Method : goal.returns-in-Method
returns-in-Method g c = refuses_kind (λ fs. search rules)
