-- The first argument of a call as a name.
use Rattle.{
  frame_parts.proofs.Common.{arith, ◌≡◌, ap, List, [], Option, Some, None, Ok, option_map, TextId, Text, text_cell, datum, IsSettled, NamedGiven, scalar_in, arguments_of, World},
  meaning_call.specs.{declared.Function.{Function}, Signature.{function_parameters}, Binding.{bound, bound_of, argument_at, arguments_from, text_of, text_in}},
  meaning_method.specs.Readers.{name_in, name_of_bound, file_name_of},
  frame_signatures.{specs.{Bound.{given_in, Tells}, declared.bound.Bound.{Bound}}, proofs.ToldLaws.{told_settled}},
  frame_make.specs.Names.{Names},
}
use Rattle.cell_core.specs.declared.cell.Cell.TheVariants as cell

-- where arguments are bound, the name is the first
first_of : (f : Function) (gs : List NamedGiven)
    → name_of_bound (bound (arguments_from (function_parameters f) gs 0 (function_parameters f))) ≡ name_in (text_in (argument_at (function_parameters f) gs 0))
first_of = grind arith

abbrev text_or : Option Text → Text
text_or None = []
text_or (Some t) = t

pub name_given : (f : Function) (gs : List NamedGiven) (w : World) (b : Bound) (id : TextId) → b.parameters.now ≡ function_parameters f → bound_of (function_parameters f) gs ≡ bound (given_in w b)
    → Tells b 0 scalar_in (λ _ texts. option_map (datum texts) (Some (cell.Text id))) → IsSettled (arguments_of w.tables) w.texts b.args.now → Names w.texts (Ok id) (file_name_of f gs)
name_given f _ w b id is same tells settled = (
  grind arith,
  λ more. ap (λ o. text_cell (text_or (text_of o))) (told_settled b 0 scalar_in (λ _ texts. option_map (datum texts) (Some (cell.Text id))) w.tables w.texts tells settled more),
)
