use Rattle.std.proofs.Common.{ℕ, ◌<◌}
use Rattle.cell_core.specs.Keys.{IsOthers}
use Rattle.cell_core.specs.Slots.{keys_of, texts_of}
use Rattle.cell_core.proofs.slots.find.Given as goal

abbrev pub invariant-loop-attempt : goal.invariant-loop-attempt
invariant-loop-attempt l = (n : ℕ) → n < l.attempt → IsOthers (texts_of l.bytes l.slots.keys) (keys_of l.slots.keys) l.text n
