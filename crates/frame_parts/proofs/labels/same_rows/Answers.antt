use Rattle.frame_parts.proofs.RowLaws.{rows_by_number}
use Rattle.frame_parts.proofs.labels.same_rows.Goals as goal

pub returns : goal.returns
returns c = search rows_by_number
