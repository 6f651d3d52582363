use Rattle.{
  column_core.proofs.cells.Common.{◌∙◌, subst},
  rolling.{specs.{Running.{IsRunning}, declared.running.Running.{Running}}, proofs.RunningLaws.{first_came}},
}
use Rattle.rolling.proofs.running.Running.answer.Goals as goal

pub returns-in-Furthest : goal.returns-in-Furthest
returns-in-Furthest c = λ op count values is.
    let P : Running → Type 0 = λ r. IsRunning r op count values in
    c.first.ensures ∙ first_came _ op count values (subst P c.in-Furthest.is is)
