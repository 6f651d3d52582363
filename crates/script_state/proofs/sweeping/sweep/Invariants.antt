use Rattle.{
  meaning_laws.proofs.cells.Common.{vec_len},
  frame_calls.proofs.frame_parts.Common.{tables, ℕ, IsSome, None},
  frame_store.specs.Objects.{KeepBlocks, Raises},
  script_state.specs.Bindings.{bindings_of, AreNoted, KeepNamed},
}
use Rattle.script_state.proofs.sweeping.sweep.Given as goal

abbrev pub invariant-loop-id : goal.invariant-loop-id
invariant-loop-id l = record {
  noted : AreNoted (bindings_of l.names.values.entries) l.temps.items (tables l.store);
  kept : KeepNamed (bindings_of l.names.values.entries) (tables l.fn.store) (tables l.store);
  held : Raises 0 l.fn.store l.store;
  ends : (id : ℕ) → IsSome (tables l.store id) → IsSome (tables l.fn.store id);
  blocks : KeepBlocks None l.fn.store l.store;
}

abbrev pub decreases-loop-id : goal.decreases-loop-id
decreases-loop-id l = vec_len l.temps
