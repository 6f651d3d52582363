use Rattle.{
  frame_calls.proofs.frame_parts.Common.{rules, arith, ◌≡◌, refl, sym, subst, IfSome, option_map, datum, tables, World, world, entry_in},
  meaning_laws.{specs.{charge.Charge.{setting_charge}, Validity.{IsHeldCell, IsValidGiven}}, proofs.SetLaws.{assign_result_keeps}},
  frame_select.specs.Selected.{second_in, way_of},
  frame_set.specs.Assigned.{moved_object, without},
  frame_store.specs.World.{subscript_in},
  script_state.{specs.Work.{names_in, world_of}, proofs.{Worlds.{live_set, noted_set, given_after}, Bindings.{swept_live}, Validity.{object_valid, argument_valid, set_valid, unnamed_spare, spent_valid, spent_keeps, spent_noted, spent_on}}},
}
use Rattle.script_state.proofs.work.Work.set.Goals as goal

pub invariant_of-self : goal.invariant_of-self
invariant_of-self c =
    let s = c.args.self.now in
    let n = c.new_value-value.ensures in
    let spare = moved_object c.new_value-value.result in
    let old = without c.assign.result spare (world_of s) in
    let new : World = world c.assign.new.store c.assign.new.dict in
    let charge = setting_charge (entry_in (world_of s) c.args.on) (way_of c.args.by) (subscript_in (world_of s) c.args.first.now) (second_in (world_of s) c.as_ref-second.result) in
    let sets = c.assign.ensures.answer in
    let fits : IfSome (option_map (datum s.dict) c.scalar.result) IsHeldCell = search (rules, c.scalar.type_inv) in
    let held = subst (λ o. IfSome o IsHeldCell) (c.scalar.ensures (tables s.store) s.dict) fits in
    let valid = subst IsValidGiven (sym (n.meant s.dict)) (argument_valid _ _ c.args.value.now s.valid c.requires.value.live held) in
    let there = spent_on _ _ spare c.assign.result n.other c.requires.on.live in
    let named = spent_keeps (names_in s) _ _ _ (unnamed_spare (names_in s) _ _ n.spare) in
    record {
      settled = sets.2;
      valid = set_valid charge _ _ _ old new sets (search (assign_result_keeps, object_valid)) (spent_valid _ _ _ _ s.valid);
      live = live_set old new _ _ charge _ there sets (names_in s) (swept_live _ _ _ named s.live);
      given = search given_after;
      noted = noted_set old new _ _ charge _ there sets (names_in s) _ (search spent_noted);
    }

pub returns-clause-sets : goal.returns-clause-sets
returns-clause-sets c =
    let s = c.args.self.now in
    let n = c.new_value-value.ensures in
    let second : second_in (world_of s) c.as_ref-second.result ≡ option_map (subscript_in (world_of s)) c.args.second.now = grind arith in
    record { names = refl; spare = moved_object c.new_value-value.result; unnamed = n.spare; sets = rw (second, n.meant s.dict) at c.assign.ensures.answer }
