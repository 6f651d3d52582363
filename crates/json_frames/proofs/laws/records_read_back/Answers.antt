use Rattle.json_frames.proofs.RecordsLaws.{records_read}
use Rattle.json_frames.proofs.laws.records_read_back.Goals as goal

pub returns : goal.returns
returns c = records_read
