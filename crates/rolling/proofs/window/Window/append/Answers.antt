use Rattle.{
  column_core.proofs.cells.Common.{◌<◌, length, arith, w64, rules},
  std.{specs.VecDeque.{deque_len, deque_capacity}, proofs.lemmas.Int.{to_z-of_z}},
  rolling.proofs.SlideLaws.{room_for_one, none_in, some_in, present_fewer},
}
use Rattle.rolling.proofs.window.Window.append.Goals as goal

pub overflow_add-self : goal.overflow_add-self
overflow_add-self c =
    let small = c.self.inside.recent.small in
    let ok = c.self.inside.recent.ok in
    omega (arith, c.self.invariant.counted, present_fewer c.self.inside.recent.items)

pub add-requires : goal.add-requires
add-requires c = room_for_one _ _ _ _ _ _ c.self.invariant (grind arith)

pub invariant_of-self : goal.invariant_of-self
invariant_of-self c =
    let few : length c.self.inside.recent.items < c.self.inside.size = grind arith in
    let ok = c.self.inside.recent.ok in
    let room : deque_len c.self.inside.recent < deque_capacity c.self.inside.recent = omega (arith, c.self.invariant.room) in
    some_in _ _ _ _ _ _ c.self.invariant few _ _ c.push_back.ensures.capacity c.in-Some.x _ _ (to_z-of_z w64 _ (search rules)) (grind (arith, c.push_back.ensures.succeeds room)) c.add.ensures

pub invariant_of-self-in_default : goal.invariant_of-self-in_default
invariant_of-self-in_default c =
    let few : length c.self.inside.recent.items < c.self.inside.size = grind arith in
    let ok = c.self.inside.recent.ok in
    let room : deque_len c.self.inside.recent < deque_capacity c.self.inside.recent = omega (arith, c.self.invariant.room) in
    none_in _ _ _ _ _ _ c.self.invariant few _ _ c.push_back.ensures.capacity (grind (arith, c.push_back.ensures.succeeds room))
