use Rattle.{
  frame_labels.proofs.AnswerLaws.{called_by},
  frame_methods.specs.nullable_array.Folds.{cumulation_of},
}
use Rattle.frame_windows.proofs.calls.window_call.Goals as goal

pub returns : goal.returns
returns c = called_by cumulation_of _ _ _ _ _ _ c.call_named.ensures c.without_arguments.ensures
