use Rattle.cell_core.proofs.SlotLaws.{no_slots}
use Rattle.cell_core.proofs.dict.TextDict.new.Goals as goal

pub invariant_of-result : goal.invariant_of-result
invariant_of-result c = no_slots _ _ c.new.ensures.bytes c.new-2.ensures.empty
