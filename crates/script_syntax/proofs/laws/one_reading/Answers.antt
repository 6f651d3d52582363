use Rattle.script_syntax.proofs.OneReading.{one_reading}
use Rattle.script_syntax.proofs.laws.one_reading.Goals as goal

pub returns : goal.returns
returns c = one_reading _
