use Rattle.{
  column_core.proofs.cells.Common.{◌≡◌, ◌≤◌, not, filter},
  std.specs.VecDeque.{deque_len, deque_capacity},
  rolling.{specs.Candidates.{beats}, proofs.CandidateLaws.{AreUnbeaten}},
}
use Rattle.rolling.proofs.candidates.Candidates.push.Given as goal

-- what is popped is beaten by the value that comes in
abbrev pub invariant-loop-self : goal.invariant-loop-self
invariant-loop-self l = record {
  extreme : l.self.extreme ≡ l.initial.self.extreme;
  room : deque_capacity l.self.values ≡ deque_capacity l.initial.self.values;
  fewer : deque_len l.self.values ≤ deque_len l.initial.self.values;
  kept : filter (λ y. not (beats l.initial.self.extreme l.x y)) l.self.values.items ≡ filter (λ y. not (beats l.initial.self.extreme l.x y)) l.initial.self.values.items;
  unbeaten : AreUnbeaten (beats l.initial.self.extreme) l.initial.self.values.items → AreUnbeaten (beats l.initial.self.extreme) l.self.values.items;
}

abbrev pub decreases-loop-self : goal.decreases-loop-self
decreases-loop-self l = deque_len l.self.values
