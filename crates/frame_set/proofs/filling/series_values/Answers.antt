use Rattle.frame_set.proofs.PutCases.{own_given}
use Rattle.frame_set.proofs.filling.series_values.Goals as goal

pub returns-in-Iloc-clause-given : goal.returns-in-Iloc-clause-given
returns-in-Iloc-clause-given c = search own_given

pub returns-in-Iat-clause-given : goal.returns-in-Iat-clause-given
returns-in-Iat-clause-given c = search own_given
