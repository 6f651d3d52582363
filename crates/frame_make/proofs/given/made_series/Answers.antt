use Rattle.{
  frame_parts.proofs.Common.{world},
  frame_make.proofs.FrameLaws.{series_needs, series_given},
}
use Rattle.frame_make.proofs.given.made_series.Goals as goal

pub series_of-requires : goal.series_of-requires
series_of-requires c =
    series_needs (world c.args.store.now c.args.dict.now) c.in_ok-bound.bound _ _ c.in_ok-bound.ensures _ c.list_or_none-index.ensures.value c.function_parameters-parameters.ensures _ c.list-values.ensures.value _ _ c.scalar_or_none.ensures c.name_of-name.ensures c.requires

pub returns-clause-answer : goal.returns-clause-answer
returns-clause-answer c =
    rw (← series_given (world c.args.store.now c.args.dict.now) c.in_ok-bound.bound _ _ c.in_ok-bound.ensures _ c.list_or_none-index.ensures.value c.function_parameters-parameters.ensures _ c.list-values.ensures.value _ _ c.scalar_or_none.ensures c.name_of-name.ensures _ (c.kind_or_none-kind.ensures _))
    c.series_of.ensures.answer
