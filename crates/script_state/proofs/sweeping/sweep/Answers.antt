use Rattle.{
  frame_calls.proofs.frame_parts.Common.{arith, ℕ, IsSome, sym, ◌∙◌, subst, tables},
  script_state.{specs.Bindings.{bindings_of, AreNoted}, proofs.Bindings.{noted_named, noted_ended, kept_ended, ended_was}},
}
use Rattle.script_state.proofs.sweeping.sweep.Goals as goal

pub loop-id-preserved-then-not-has : goal.loop-id-preserved-then-not-has
loop-id-preserved-then-not-has c =
    let bs = bindings_of c.args.names.now.values.entries in
    let unnamed = sym c.has.ensures ∙ c.if-not-has.true in
    let before = subst (λ ts. AreNoted bs ts (tables c.loop-id.store)) c.in-Some.ensures.items c.loop-id.invariant.noted in
    let was : (id : ℕ) → IsSome (tables c.end.new.store id) → IsSome (tables c.loop-id.store id) = ended_was _ _ _ c.end.ensures.tables in
    record {
      noted = search noted_ended;
      kept = search kept_ended;
      held = omega (arith, c.loop-id.invariant.held, c.end.ensures.held);
      ends = λ id there. c.loop-id.invariant.ends id (was id there);
      blocks = λ id live there apart. c.end.ensures.blocks id (was id there) there apart ∙ c.loop-id.invariant.blocks id live (was id there) apart;
    }

pub loop-id-preserved : goal.loop-id-preserved
loop-id-preserved c =
    let bs = bindings_of c.args.names.now.values.entries in
    let named = sym c.has.ensures ∙ c.if-not-has.false in
    let before = subst (λ ts. AreNoted bs ts (tables c.loop-id.store)) c.in-Some.ensures.items c.loop-id.invariant.noted in
    search noted_named
