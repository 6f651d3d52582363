use Rattle.{
  script_state.proofs.Validity.{object_valid, stands_made, stands_refused},
  meaning_laws.proofs.ReachLaws.{select_result_keeps},
}
use Rattle.{
  frame_calls.proofs.frame_parts.Common.{arith, ◌≡◌, ℕ, refl, sym, ◌∙◌, ap, Entry, Value, Subscript, World, world, entry_in},
  frame_select.specs.Selected.{way_of},
  meaning_laws.specs.charge.Charge.{select_charge},
  script_state.{specs.{Charges.{told, selection_cost}, Work.{world_of}, declared.work.Work.{Work}}, proofs.ChargeLaws.{form_charged, made_live, selection_is}},
}
use Rattle.{frame_store.specs.{World.{subscript_in}, declared.arguments.Selector.{Selector}}, frame_select.specs.Selected.{second_in}, meaning_laws.proofs.cells.Common.{option_map}}
use Rattle.script_state.proofs.work.Work.select.Goals as goal

abbrev charge : Work → Value → Selector → Subscript → Entry → ℕ
charge w on by first = select_charge (entry_in (world_of w) on) (way_of by) (subscript_in (world_of w) first)

pub invariant_of-self-in-Break-branch-2 : goal.invariant_of-self-in-Break-branch-2
invariant_of-self-in-Break-branch-2 c = stands_refused c.args.self.now _ (charge c.args.self.now c.args.on c.args.by c.args.first.now) _ _ c.select.ensures (search (select_result_keeps, object_valid)) c.in_err-made.was c.reserve.ensures.items

pub invariant_of-self-2 : goal.invariant_of-self-2
invariant_of-self-2 c = stands_made c.args.self.now _ (charge c.args.self.now c.args.on c.args.by c.args.first.now) _ _ c.select.ensures (search (select_result_keeps, object_valid)) c.in_ok-made.was c.reserve.ensures.items c.note.ensures

pub selection_cells-cells-requires : goal.selection_cells-cells-requires
selection_cells-cells-requires c = made_live (charge c.args.self.now c.args.on c.args.by c.args.first.now) _ (world_of c.args.self.now) (world c.select.new.store c.select.new.dict) _ (rw c.in_ok-made.was at c.select.ensures)

pub returns : goal.returns
returns c =
    let old = world_of c.args.self.now in
    let new : World = world c.select.new.store c.select.new.dict in
    let second : second_in old c.as_ref-second.result ≡ option_map (subscript_in old) c.args.second.now = grind arith in
    let made = rw (c.in_ok-made.was, second) at c.select.ensures in
    let v = entry_in old c.args.on in
    let first = subscript_in old c.args.first.now in
    let e = entry_in new c.in_ok-made.made in
    record {
      names = refl;
      answers = made;
      charged = form_charged _ _ _ c.charged-self.ensures (charge c.args.self.now c.args.on c.args.by c.args.first.now) _ old new _ made
          (c.selection_cells-cells.ensures new.texts ∙ ap (λ b. told (selection_cost b e)) (c.is_free_selection-free.ensures old.texts) ∙ ap told (sym (selection_is v (way_of c.args.by) first e)));
    }
