use Rattle.frame_parts.proofs.Common.{◌∷◌, []}
use Rattle.frame_concat.proofs.below.series_below.Goals as goal

pub table_below-requires-clause-given : goal.table_below-requires-clause-given
table_below-requires-clause-given c = λ more i. c.name_of_all-name.ensures.given more i ∷ []
