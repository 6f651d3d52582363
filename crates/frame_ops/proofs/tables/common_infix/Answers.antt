use Rattle.frame_parts.proofs.Common.{columns_name_part}
use Rattle.frame_ops.proofs.tables.common_infix.Goals as goal

pub common_name-name-requires-clause-a : goal.common_name-name-requires-clause-a
common_name-name-requires-clause-a c = rw c.columns_name.ensures (columns_name_part _ _ c.requires.known_a.given)

pub common_name-name-requires-clause-b : goal.common_name-name-requires-clause-b
common_name-name-requires-clause-b c = rw c.columns_name-2.ensures (columns_name_part _ _ c.requires.known_b.given)
