use Rattle.{
  frame_parts.proofs.Common.{◌∙◌, ap, sym, tables, arguments_of, world},
  meaning_call.specs.Binding.{bound_of},
  csv_frames.specs.Views.{entries_seen},
  frame_make.proofs.ReadLaws.{read_bound},
}
use Rattle.meaning_method.specs.Readers as readers
use Rattle.frame_make.proofs.reading.read_frame.Goals as goal

pub returns-clause-answer : goal.returns-clause-answer
returns-clause-answer c =
    let live = tables c.args.store.now in
    let dict = c.args.dict.now in
    let gs = arguments_of live dict c.args.args.now in
    let is = c.in_ok-bound.ensures in
    rw (← read_bound c.args.bytes.now gs (world c.args.store.now dict) c.in_ok-bound.bound (entries_seen dict c.in_ok-kinds.kinds)
    (is.1 ∙ c.function_parameters.ensures) (ap (λ ps. bound_of ps gs) (sym c.function_parameters.ensures) ∙ is.0) (c.in_ok-kinds.ensures live ∙ ap readers.kinds_given (c.dict_or_none.ensures.value live dict))) c.frame_of_file.ensures.answer
