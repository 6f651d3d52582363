-- What the slots of a dictionary say.
use Rattle.std.specs.Prelude.{ℕ, List, map}
use Rattle.cell_core.specs.declared.slots.Slot.{Slot}
use Rattle.cell_core.specs.Pieces.{pieces, IsBuffer}
use Rattle.cell_core.specs.Keys.{AreKeyed}

-- the keys under which the texts are found
abbrev pub keys_of : List Slot → List ℕ
keys_of slots = map (λ s. s.key) slots

-- where the texts start
abbrev pub starts_of : List Slot → List ℕ
starts_of slots = map (λ s. s.start) slots

-- the texts in a buffer
abbrev pub texts_of : List ℕ → List Slot → List (List ℕ)
texts_of bytes slots = pieces (starts_of slots) bytes

-- the slots tell the texts of the buffer, one for each, and each is found by its key
pub record AreSlots (bytes : List ℕ) (slots : List Slot) : Type 0 where
  pub buffer : IsBuffer (starts_of slots) bytes
  pub keyed : AreKeyed (texts_of bytes slots) (keys_of slots)
