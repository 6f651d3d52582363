use Rattle.{
  frame_calls.proofs.frame_parts.Common.{arith, sym, ◌∙◌, ap},
  script_state.{specs.{Bindings.{uses_of}, Uses.{count_at}}, proofs.UseLaws.{takes_bound, counted_bound}},
}
use Rattle.script_state.proofs.names.Names.bind.Goals as goal

pub take-requires : goal.take-requires
take-requires c =
    let s = c.args.self.now in
    takes_bound _ c.args.name.now (count_at s.uses) s.counted c.args.value _
    (λ id. grind arith) c.in_ok-left.left c.in_ok-left.ensures.left

pub invariant_of-self-2-clause-counted : goal.invariant_of-self-2-clause-counted
invariant_of-self-2-clause-counted c = λ id.
    let s = c.args.self.now in
    counted_bound _ c.args.name.now (count_at s.uses) s.counted c.args.value _
    (λ id. grind arith) c.in_ok-left.left c.in_ok-left.ensures.left (count_at c.take.new.self) c.take.ensures id
    ∙ ap (λ b. uses_of b id.0) (sym c.in_ok-left.ensures.bound)
