use Rattle.{
  frame_calls.proofs.frame_parts.Common.{◌∙◌, ap},
  script_state.{specs.Bindings.{bindings_of}, proofs.Bindings.{value_at-bindings_of, bindings_of-remove_entry}},
}
use Rattle.script_state.proofs.names.unbind.Goals as goal

pub returns-clause-unbound : goal.returns-clause-unbound
returns-clause-unbound c = ap bindings_of c.shift_remove.ensures.entries ∙ bindings_of-remove_entry _ c.args.name.now

pub returns-clause-left : goal.returns-clause-left
returns-clause-left c = search value_at-bindings_of
