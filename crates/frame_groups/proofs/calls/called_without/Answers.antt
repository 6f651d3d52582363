use Rattle.{
  frame_labels.proofs.AnswerLaws.{called_by},
  frame_groups.specs.Calls.{call_of},
}
use Rattle.frame_groups.proofs.calls.called_without.Goals as goal

pub returns : goal.returns
returns c = called_by call_of _ _ _ _ _ _ c.plain_call.ensures c.without_arguments.ensures
