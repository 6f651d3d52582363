use Rattle.frame_parts.proofs.Common.{heading_label}
use Rattle.frame_parts.proofs.labels.same_heading.Goals as goal

pub same_label-requires-clause-a : goal.same_label-requires-clause-a
same_label-requires-clause-a c = search heading_label

pub same_label-requires-clause-b : goal.same_label-requires-clause-b
same_label-requires-clause-b c = search heading_label
