use Rattle.{
  frame_parts.proofs.Common.{world},
  frame_make.proofs.FrameLaws.{frame_needs, frame_given},
}
use Rattle.frame_make.proofs.given.made_frame.Goals as goal

pub frame_of-requires : goal.frame_of-requires
frame_of-requires c = frame_needs (world c.args.store.now c.args.dict.now) c.in_ok-bound.bound _ _ c.in_ok-bound.ensures _ c.list_or_none.ensures.value c.function_parameters-parameters.ensures _ c.dict-columns.ensures.value c.requires

pub returns : goal.returns
returns c = rw (← frame_given (world c.args.store.now c.args.dict.now) c.in_ok-bound.bound _ _ c.in_ok-bound.ensures _ c.list_or_none.ensures.value c.function_parameters-parameters.ensures _ c.dict-columns.ensures.value) (c.frame_of.ensures _)
