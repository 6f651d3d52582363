use Rattle.csv_frames.proofs.NumberedLaws.{labels_numbered}
use Rattle.csv_frames.proofs.laws.labels_are_numbered.Goals as goal

pub returns : goal.returns
returns c = labels_numbered
