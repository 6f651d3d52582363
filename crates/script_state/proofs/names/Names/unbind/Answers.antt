use Rattle.{
  frame_calls.proofs.frame_parts.Common.{sym, ◌∙◌, ap},
  script_state.{specs.{Bindings.{uses_of}, Uses.{count_at}}, proofs.UseLaws.{counted_unbound}},
}
use Rattle.script_state.proofs.names.Names.unbind.Goals as goal

pub invariant_of-self-clause-counted : goal.invariant_of-self-clause-counted
invariant_of-self-clause-counted c = λ id.
    let s = c.args.self.now in
    counted_unbound _ c.args.name.now (count_at s.uses) s.counted c.unbind-left.result c.unbind-left.ensures.left (count_at c.take.new.self) c.take.ensures id
    ∙ ap (λ b. uses_of b id.0) (sym c.unbind-left.ensures.unbound)
