use Rattle.{
  frame_calls.proofs.frame_parts.Common.{World, free, world},
  script_state.{specs.Work.{names_in, world_of}, proofs.{Worlds.{live_set, noted_set}, Validity.{object_valid, set_valid}}},
  meaning_laws.proofs.SetLaws.{removal_result_keeps},
}
use Rattle.script_state.proofs.work.Work.remove.Goals as goal

pub invariant_of-self : goal.invariant_of-self
invariant_of-self c =
    let s = c.args.self.now in
    let new : World = world c.remove.new.store s.dict in
    let sets = c.remove.ensures in
    record {
      settled = sets.2;
      valid = set_valid free _ _ _ (world_of s) new sets (search (removal_result_keeps, object_valid)) s.valid;
      live = live_set (world_of s) new _ _ free _ c.requires.on.live sets (names_in s) s.live;
      given = s.given;
      noted = noted_set (world_of s) new _ _ free _ c.requires.on.live sets (names_in s) _ s.noted;
    }
