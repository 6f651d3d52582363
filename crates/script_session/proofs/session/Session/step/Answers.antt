use Rattle.{
  script_state.{proofs.{cells.Common.{arith, ap, sym, ◌∙◌, subst}, States.{live_are_named, named_live}}, specs.{Bindings.{KeepNamed}, Work.{names_in, tab_of, tables_in, world_of, state_in}}},
  std.{specs.FinMap.{empty}, proofs.lemmas.Result.{on_err_weaker}},
  script_tree.specs.View.{action_of},
  script_session.proofs.{Answering.{done_tab, performs_after, state_left, refused_charge, refused_kept, live_refused, lie_refused, held_refused}, Settings.{apart_after}, Within.{within_step}},
}
use Rattle.script_session.proofs.session.Session.step.Goals as goal

pub returns-clause-answers : goal.returns-clause-answers
returns-clause-answers g c =
    let w = c.perform-result.new.work in
    let u = c.sweep.new.self in
    let e = c.sweep.ensures in
    let left = c.set_charge.ensures in
    λ held. performs_after _ _ _ (tab_of w) (tab_of u) _ (state_in w) (state_in u) c.perform-result.result (c.perform-result.ensures.executes.answers held)
    (state_left w c.set_charge.new.self u c.charge_left-left.result left e.names e.texts e.kept) (sym (e.texts ∙ ap (λ x. (world_of x).texts) left))
    (done_tab c.perform-result.result c.is_ok.result w c.set_charge.new.self u c.charge-charge.result c.charge_left-left.result c.is_ok.ensures.value (cc (c.charge_left-left.ensures, c.charge.ensures)) left e.tab)

pub returns-clause-apart : goal.returns-clause-apart
returns-clause-apart g c =
    let w = c.perform-result.new.work in
    let u = c.sweep.new.self in
    let e = c.sweep.ensures in
    apart_after c.perform-result.result (action_of c.args.statement.now.action) (state_in c.args.self.now.work) (state_in w) (state_in u) c.perform-result.ensures.apart
    (state_left w c.set_charge.new.self u c.charge_left-left.result c.set_charge.ensures e.names e.texts e.kept)

pub returns-clause-same : goal.returns-clause-same
returns-clause-same g c =
    let w = c.perform-result.new.work in
    let u = c.sweep.new.self in
    let e = c.sweep.ensures in
    let kept = state_left w c.set_charge.new.self u c.charge_left-left.result c.set_charge.ensures e.names e.texts e.kept in
    on_err_weaker c.perform-result.result (λ same. sym kept ∙ same) (refused_kept c.args.self.now.work w c.perform-result.result c.perform-result.ensures.executes.names c.perform-result.ensures.executes.kept)

pub returns-clause-objects : goal.returns-clause-objects
returns-clause-objects g c =
    let s = c.args.self.now.work in
    let w = c.sweep.new.self in
    let e = c.sweep.ensures in
    let left = c.set_charge.ensures in
    live_refused c.perform-result.result (names_in s) (names_in c.perform-result.new.work) (names_in w) (world_of s) (world_of c.perform-result.new.work) (world_of w) c.perform-result.ensures.executes.names c.perform-result.ensures.executes.kept (e.names ∙ ap names_in left) (e.texts ∙ ap (λ u. (world_of u).texts) left)
    (subst (λ u. KeepNamed (names_in w) (tables_in u) (tables_in w)) left e.kept) e.named c.args.self.now.swept (named_live s.names.values.entries s.names.unique (tables_in s) s.live)

pub returns-clause-blocks : goal.returns-clause-blocks
returns-clause-blocks g c =
    lie_refused c.perform-result.result c.args.self.now.work c.perform-result.new.work c.set_charge.new.self c.sweep.new.self c.charge_left-left.result c.perform-result.ensures.executes.kept c.perform-result.ensures.executes.blocks c.set_charge.ensures c.sweep.ensures.blocks

pub returns-clause-held : goal.returns-clause-held
returns-clause-held g c =
    held_refused c.perform-result.result c.args.self.now.work c.sweep.new.self c.held-held.ensures.once c.held.ensures.once (returns-clause-objects g c) (returns-clause-blocks g c)

pub returns-clause-live : goal.returns-clause-live
returns-clause-live g c =
    let w = c.sweep.new.self in
    live_are_named w.names.values.entries w.names.unique (world_of w) w.live c.sweep.ensures.named

pub returns-clause-charge : goal.returns-clause-charge
returns-clause-charge = grind (arith, refused_charge)

pub returns-clause-peak : goal.returns-clause-peak
returns-clause-peak g c = omega (arith, c.max-self.ensures, c.held.ensures.held)

pub returns-clause-rows : goal.returns-clause-rows
returns-clause-rows g c = omega (arith, c.held.ensures.least, c.held.ensures.held)

pub returns-clause-within : goal.returns-clause-within
returns-clause-within g c =
    within_step _ _ _ _ _ _ _ _ c.perform-result.result (returns-clause-answers g c empty) (omega (arith, c.charge-charge.ensures, c.charge-charge.type_inv)) (returns-clause-peak g c)
    (returns-clause-charge g c) (returns-clause-held g c)
