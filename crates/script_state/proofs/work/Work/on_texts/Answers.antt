use Rattle.{
  script_state.proofs.Validity.{object_valid, arguments_valid, stands_made, stands_refused},
  meaning_laws.{specs.method.Calls.{on_texts}, proofs.CallLaws.{call_result_keeps}},
}
use Rattle.{
  frame_calls.proofs.frame_parts.Common.{err_from_is_err_and, refl, World, world},
  meaning_laws.specs.charge.Charge.{answer_charge},
  script_state.{specs.Work.{world_of}, proofs.ChargeLaws.{form_charged, made_live}},
}
use Rattle.script_state.proofs.work.Work.on_texts.Goals as goal

pub invariant_of-self-in-Break-branch-2 : goal.invariant_of-self-in-Break-branch-2
invariant_of-self-in-Break-branch-2 c =
    let s = c.args.self.now in
    stands_refused s _ answer_charge _ _ (rw c.as_slice.ensures at c.method.ensures) (call_result_keeps _ (on_texts c.args.name.now) _ (object_valid _ _ _ s.valid c.requires.on.live) (arguments_valid _ _ _ s.valid c.requires.arguments.live)) c.in_err-made.was c.reserve.ensures.items

pub invariant_of-self-2 : goal.invariant_of-self-2
invariant_of-self-2 c =
    let s = c.args.self.now in
    stands_made s _ answer_charge _ _ (rw c.as_slice.ensures at c.method.ensures) (call_result_keeps _ (on_texts c.args.name.now) _ (object_valid _ _ _ s.valid c.requires.on.live) (arguments_valid _ _ _ s.valid c.requires.arguments.live)) c.in_ok-made.was c.reserve.ensures.items c.note.ensures

pub answer_cells-requires : goal.answer_cells-requires
answer_cells-requires c = made_live answer_charge _ (world_of c.args.self.now) (world c.method.new.store c.method.new.dict) _ (rw c.in_ok-made.was at c.method.ensures)

pub returns : goal.returns
returns c =
    let new : World = world c.method.new.store c.method.new.dict in
    let made = rw (c.in_ok-made.was, c.as_slice.ensures) at c.method.ensures in
    record { names = refl; answers = made; charged = form_charged _ _ _ c.charged-self.ensures answer_charge _ (world_of c.args.self.now) new _ made (c.answer_cells.ensures new.texts) }

pub returns-in_err-made : goal.returns-in_err-made
returns-in_err-made c =
    let p = err_from_is_err_and c.from_residual-in_err-made.result c.from_residual-in_err-made.ensures.1 in
    rw (p.1, p.2) (record { names = refl; answers = rw (c.in_err-made.was, c.as_slice.ensures) at c.method.ensures; charged = refl })
