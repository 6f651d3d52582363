use Rattle.frame_parts.proofs.Common.{object_settled}
use Rattle.frame_set.proofs.touching.touched.Goals as goal

pub touched_in-requires-clause-table : goal.touched_in-requires-clause-table
touched_in-requires-clause-table c = record { known = search object_settled; levels = c.read.ensures.levels }
