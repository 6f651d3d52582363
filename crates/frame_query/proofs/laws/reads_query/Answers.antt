use Rattle.meaning_query.proofs.Law.{reads_query}
use Rattle.frame_query.proofs.laws.reads_query.Goals as goal

pub returns : goal.returns
returns c = reads_query _
