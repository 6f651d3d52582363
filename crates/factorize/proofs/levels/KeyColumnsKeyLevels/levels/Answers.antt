use Rattle.factorize.proofs.LabelLaws.{columns_alike}
use Rattle.factorize.proofs.levels.KeyColumnsKeyLevels.levels.Goals as goal

pub returns-clause-alike : goal.returns-clause-alike
returns-clause-alike = search columns_alike
