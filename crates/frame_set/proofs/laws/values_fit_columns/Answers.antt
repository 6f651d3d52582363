use Rattle.frame_set.proofs.FitLaws.{fits_decided}
use Rattle.frame_set.proofs.laws.values_fit_columns.Goals as goal

pub returns : goal.returns
returns c = fits_decided
