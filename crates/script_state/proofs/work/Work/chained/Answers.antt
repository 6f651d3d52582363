use Rattle.{
  script_state.proofs.Validity.{object_valid, arguments_valid, stands_made, stands_refused},
  meaning_laws.proofs.CallLaws.{call_result_keeps},
}
use Rattle.{
  frame_calls.proofs.frame_parts.Common.{err_from_is_err_and, ℕ, List, refl, sym, ◌∙◌, ap, Text, Entry, Value, Named, World, world, entry_in, arguments_in},
  frame_calls.specs.{Calls.{chain_of}, declared.between.Between.{Between}},
  meaning_laws.specs.method.Charges.{call_charge},
  script_state.{specs.{Charges.{told}, Work.{world_of}, declared.work.Work.{Work}}, proofs.ChargeLaws.{form_charged, made_live, behind_is}},
}
use Rattle.script_state.proofs.work.Work.chained.Goals as goal

abbrev charge : Work → Value → Between → Text → List Named → Entry → ℕ
charge w on between name args = call_charge (entry_in (world_of w) on) (chain_of (world_of w) between name) (arguments_in (world_of w) args)

pub invariant_of-self-in-Break-branch-2 : goal.invariant_of-self-in-Break-branch-2
invariant_of-self-in-Break-branch-2 c = stands_refused c.args.self.now _ (charge c.args.self.now c.args.on c.args.between c.args.name.now c.args.args.now) _ _ c.method_behind.ensures (search (call_result_keeps, object_valid, arguments_valid)) c.in_err-made.was c.reserve.ensures.items

pub invariant_of-self-2 : goal.invariant_of-self-2
invariant_of-self-2 c = stands_made c.args.self.now _ (charge c.args.self.now c.args.on c.args.between c.args.name.now c.args.args.now) _ _ c.method_behind.ensures (search (call_result_keeps, object_valid, arguments_valid)) c.in_ok-made.was c.reserve.ensures.items c.note.ensures

pub answer_cells-requires : goal.answer_cells-requires
answer_cells-requires c = made_live (charge c.args.self.now c.args.on c.args.between c.args.name.now c.args.args.now) _ (world_of c.args.self.now) (world c.method_behind.new.store c.method_behind.new.dict) _ (rw c.in_ok-made.was at c.method_behind.ensures)

pub returns : goal.returns
returns c =
    let old = world_of c.args.self.now in
    let new : World = world c.method_behind.new.store c.method_behind.new.dict in
    let made = rw c.in_ok-made.was at c.method_behind.ensures in
    let v = entry_in old c.args.on in
    let name = c.args.name.now in
    let gs = arguments_in old c.args.args.now in
    record {
      names = refl;
      answers = made;
      charged = form_charged _ _ _ c.charged-self.ensures (charge c.args.self.now c.args.on c.args.between name c.args.args.now) _ old new _ made
          (c.answer_cells.ensures new.texts ∙ ap told (sym (behind_is old v c.args.between name gs (entry_in new c.in_ok-made.made))));
    }

pub returns-in_err-made : goal.returns-in_err-made
returns-in_err-made c =
    let p = err_from_is_err_and c.from_residual-in_err-made.result c.from_residual-in_err-made.ensures.1 in
    rw (p.1, p.2) (record { names = refl; answers = rw c.in_err-made.was at c.method_behind.ensures; charged = refl })
