use Rattle.{
  frame_calls.proofs.frame_parts.Common.{arith, ◌∙◌, ap, nat_eq},
  script_state.{specs.Uses.{or_none}, proofs.{Bindings.{nat_same}, UseLaws.{same_after}}},
}
use Rattle.script_state.proofs.uses.Uses.make_room_for.Goals as goal

pub returns-clause-same : goal.returns-clause-same
returns-clause-same c = λ other.
    ap or_none (c.in_ok-insert.ensures.updates.0 other)
    ∙ same_after (nat_eq c.args.id.0 other.0) _ _ (λ same. grind (arith, nat_same))
