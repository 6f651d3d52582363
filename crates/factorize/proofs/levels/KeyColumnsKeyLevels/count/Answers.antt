use Rattle.factorize.proofs.LabelLaws.{columns_counted}
use Rattle.factorize.proofs.levels.KeyColumnsKeyLevels.count.Goals as goal

pub returns : goal.returns
returns = search columns_counted
