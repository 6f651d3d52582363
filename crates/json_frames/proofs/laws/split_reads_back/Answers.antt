use Rattle.json_frames.proofs.SplitLaws.{split_back}
use Rattle.json_frames.proofs.laws.split_reads_back.Goals as goal

pub returns : goal.returns
returns c = split_back
