use Rattle.frame_merge.proofs.KeyLaws.{kinds_of_key}
use Rattle.frame_merge.proofs.columns.left_column.Goals as goal

pub key_column-requires-clause-kinds : goal.key_column-requires-clause-kinds
key_column-requires-clause-kinds c =
    kinds_of_key _ _ _ c.requires.keys _ _ _ _ _ c.in-Some.ensures.found c.at.ensures c.column-column.ensures.column c.column-other.ensures.column
