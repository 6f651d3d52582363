-- A setting and a removal change one object alone.
use Rattle.{
  script_state.{proofs.cells.Common.{arith, ◌≡◌, Bool, Option, Result, OnOk, Text, FaultValue}, specs.{tables.Table.{Table}, script.{State.{State}, Statement.{done, set_answer}}}},
  script_session.specs.{declared.fault.{Outcome.{Outcome}, StepFault.{StepFault}}, Apart.{IsSetApart, ChangesOneObject}},
}
use Rattle.script_state.specs.language.Tree as tree

pub set_apart : (s t u : State) (o : Option Text) (r : Result Table FaultValue) (p : Text) (w : Bool) → set_answer t o r ≡ done u p w → s ≡ t → IsSetApart o s u
set_apart = grind arith

-- after a sweep the state is the same
pub apart_after : (r : Result Outcome StepFault) (action : tree.Action) (s t u : State) → OnOk r (ChangesOneObject action s t) → t ≡ u → OnOk r (ChangesOneObject action s u)
apart_after = grind arith
