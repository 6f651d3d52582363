use Rattle.{
  script_state.proofs.Validity.{object_valid, arguments_valid, stands_made, stands_refused},
  meaning_laws.{specs.method.Calls.{plain}, proofs.CallLaws.{call_result_keeps}},
}
use Rattle.{
  frame_calls.proofs.frame_parts.Common.{err_from_is_err_and, refl, sym, ◌∙◌, ap, World, world, entry_in, arguments_in},
  meaning_laws.specs.method.Charges.{call_charge},
  script_state.{specs.{Charges.{told, method_cost}, Work.{world_of}}, proofs.{Rides.{form_meant}, ChargeLaws.{form_charged, made_live, method_is}}},
}
use Rattle.script_state.proofs.work.Work.method.Goals as goal

pub invariant_of-self-in-Break-branch-2 : goal.invariant_of-self-in-Break-branch-2
invariant_of-self-in-Break-branch-2 c =
    let s = c.args.self.now in
    stands_refused s _ (call_charge (entry_in (world_of s) c.args.on) (plain c.args.name.now) (arguments_in (world_of s) c.args.args.now)) _ _ c.method_called.ensures (call_result_keeps _ (plain _) _ (object_valid _ _ _ s.valid c.requires.on.live) (arguments_valid _ _ _ s.valid c.requires.arguments.live)) c.in_err-made.was c.reserve.ensures.items

pub invariant_of-self-2 : goal.invariant_of-self-2
invariant_of-self-2 c =
    let s = c.args.self.now in
    stands_made s _ (call_charge (entry_in (world_of s) c.args.on) (plain c.args.name.now) (arguments_in (world_of s) c.args.args.now)) _ _ c.method_called.ensures (call_result_keeps _ (plain _) _ (object_valid _ _ _ s.valid c.requires.on.live) (arguments_valid _ _ _ s.valid c.requires.arguments.live)) c.in_ok-made.was c.reserve.ensures.items c.note.ensures

pub method_cells-cells-requires : goal.method_cells-cells-requires
method_cells-cells-requires c = made_live (call_charge (entry_in (world_of c.args.self.now) c.args.on) (plain c.args.name.now) (arguments_in (world_of c.args.self.now) c.args.args.now)) _ (world_of c.args.self.now) (world c.method_called.new.store c.method_called.new.dict) _ (rw c.in_ok-made.was at c.method_called.ensures)

pub returns : goal.returns
returns c =
    let old = world_of c.args.self.now in
    let new : World = world c.method_called.new.store c.method_called.new.dict in
    let made = rw c.in_ok-made.was at c.method_called.ensures in
    let v = entry_in old c.args.on in
    let gs = arguments_in old c.args.args.now in
    let e = entry_in new c.in_ok-made.made in
    let is = method_is v c.args.name.now c.args.method gs e c.requires.named (form_meant (call_charge v (plain c.args.name.now) gs) old new _ _ made) in
    record {
      names = refl;
      answers = made;
      charged = form_charged _ _ _ c.charged-self.ensures (call_charge v (plain c.args.name.now) gs) _ old new _ made
          (c.method_cells-cells.ensures new.texts ∙ (λ i. told (method_cost c.args.method (c.rows_of-rows.ensures old.texts i) (c.columns_of-columns.ensures old.texts i) e)) ∙ ap told (sym is));
    }

pub returns-in_err-made : goal.returns-in_err-made
returns-in_err-made c =
    let p = err_from_is_err_and c.from_residual-in_err-made.result c.from_residual-in_err-made.ensures.1 in
    rw (p.1, p.2) (record { names = refl; answers = rw c.in_err-made.was at c.method_called.ensures; charged = refl })
