use Rattle.indexers.proofs.MaskLaws.{none_of_rows}
use Rattle.indexers.proofs.masks.kept_nowhere.Goals as goal

pub returns : goal.returns
returns c = search none_of_rows
