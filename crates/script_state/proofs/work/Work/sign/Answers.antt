use Rattle.{
  script_state.proofs.Validity.{object_valid, stands_made, stands_refused},
  meaning_laws.proofs.InfixLaws.{sign_result_keeps},
}
use Rattle.{
  frame_calls.proofs.frame_parts.Common.{refl, World, world},
  meaning_laws.specs.charge.Charge.{answer_charge},
  script_state.{specs.Work.{world_of}, proofs.ChargeLaws.{form_charged, made_live}},
}
use Rattle.script_state.proofs.work.Work.sign.Goals as goal

pub invariant_of-self-in-Break-branch-2 : goal.invariant_of-self-in-Break-branch-2
invariant_of-self-in-Break-branch-2 c = stands_refused c.args.self.now _ answer_charge _ _ c.invert_or_negate.ensures (search (sign_result_keeps, object_valid)) c.in_err-made.was c.reserve.ensures.items

pub invariant_of-self-2 : goal.invariant_of-self-2
invariant_of-self-2 c = stands_made c.args.self.now _ answer_charge _ _ c.invert_or_negate.ensures (search (sign_result_keeps, object_valid)) c.in_ok-made.was c.reserve.ensures.items c.note.ensures

pub answer_cells-requires : goal.answer_cells-requires
answer_cells-requires c = made_live answer_charge _ (world_of c.args.self.now) (world c.invert_or_negate.new.store c.invert_or_negate.new.dict) _ (rw c.in_ok-made.was at c.invert_or_negate.ensures)

pub returns : goal.returns
returns c =
    let new : World = world c.invert_or_negate.new.store c.invert_or_negate.new.dict in
    let made = rw (c.in_ok-made.was, c.is_minus-negate.ensures) at c.invert_or_negate.ensures in
    record { names = refl; answers = made; charged = form_charged _ _ _ c.charged-self.ensures answer_charge _ (world_of c.args.self.now) new _ made (c.answer_cells.ensures new.texts) }
