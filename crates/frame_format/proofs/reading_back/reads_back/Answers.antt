use Rattle.frame_format.proofs.ReadBack.{csv_reads_back}
use Rattle.frame_format.proofs.reading_back.reads_back.Goals as goal

pub returns : goal.returns
returns c = csv_reads_back
