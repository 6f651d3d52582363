use Rattle.{
  frame_calls.proofs.frame_parts.Common.{arith, refl, sym, ◌∙◌, ap, subst, Tables, tables},
  script_state.{proofs.{Bindings.{named_object, unbound_has, released_keeps, released_noted, released_named, released_settled}, States.{state_swept, state_unbound}, Validity.{released_valid}}, specs.{Bindings.{Bindings, bindings_of, unbound, released, value_at, state_over, AreLive, AreNamed}, Work.{names_in, tables_in, world_of}}},
}
use Rattle.script_state.proofs.work.Work.forget.Goals as goal

pub invariant_of-self : goal.invariant_of-self
invariant_of-self c =
    let s = c.args.self.now in
    let x = c.args.name.now in
    let e = c.unbind-left.ensures in
    let bs = unbound (names_in s) x in
    let is = c.release.ensures.tables ∙ ap (λ b. released b (tables_in s) c.unbind-left.result) e.unbound ∙ ap (released bs (tables_in s)) e.left in
    record {
      settled = rw is (released_settled _ bs _ _ s.settled);
      valid = rw (sym is) at (released_valid _ bs _ (value_at (names_in s) x) s.valid);
      live = subst (λ h. AreLive (bindings_of c.unbind-left.new.self.values.entries) h) (sym is) (grind (arith, released_keeps, named_object, unbound_has));
      given = grind (arith, unbound_has);
      noted = grind (arith, e.unbound, released_noted (names_in s) s.temps.items x (tables_in s) s.noted);
    }

pub returns-clause-state : goal.returns-clause-state
returns-clause-state c =
    let s = c.args.self.now in
    let x = c.args.name.now in
    let e = c.unbind-left.ensures in
    let bs = unbound (names_in s) x in
    let left = value_at (names_in s) x in
    let over = λ (b : Bindings) (live : Tables). state_over b (record (world_of s) { tables = live }) in
    let is = c.release.ensures.tables ∙ ap (λ b. released b (tables_in s) c.unbind-left.result) e.unbound ∙ ap (released bs (tables_in s)) e.left in
    ap (λ b. over b (tables c.release.new.store)) e.unbound
    ∙ ap (over bs) is
    ∙ state_swept bs bs (world_of s) (record (world_of s) { tables = released bs (tables_in s) left }) refl refl (released_keeps bs (tables_in s) left)
    ∙ state_unbound s.names.values.entries s.names.unique x (world_of s)

pub returns-clause-named : goal.returns-clause-named
returns-clause-named c = λ named.
    let s = c.args.self.now in
    let e = c.unbind-left.ensures in
    subst (λ h. AreNamed (bindings_of c.unbind-left.new.self.values.entries) h) (sym (c.release.ensures.tables ∙ ap (λ b. released b (tables_in s) c.unbind-left.result) e.unbound ∙ ap (released (unbound (names_in s) c.args.name.now) (tables_in s)) e.left)) (grind (arith, released_named))

pub returns-clause-tab : goal.returns-clause-tab
returns-clause-tab c = record { charge = refl; held = c.release.ensures.held }
