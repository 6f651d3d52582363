use Rattle.{
  frame_parts.proofs.Common.{arith, ◌∙◌, ap, sym, tables, arguments_of, world},
  meaning_call.specs.Binding.{bound_of},
  frame_make.proofs.NameLaws.{name_given},
}
use Rattle.frame_make.proofs.names.name_of.Goals as goal

pub returns-in-Some-Text : goal.returns-in-Some-Text
returns-in-Some-Text c =
    let dict = c.args.dict.now in
    let gs = arguments_of (tables c.args.store.now) dict c.args.args.now in
    let is = c.in_ok-bound.ensures in
    name_given c.args.function gs (world c.args.store.now dict) c.in_ok-bound.bound c.in-Some-Text.name
    (is.1 ∙ c.function_parameters.ensures) (ap (λ ps. bound_of ps gs) (sym c.function_parameters.ensures) ∙ is.0) (rw c.in-Some-Text.field-0-is at c.in-Some-Text.ensures)
    (grind arith)
