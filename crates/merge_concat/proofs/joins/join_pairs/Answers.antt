use Rattle.merge_concat.proofs.JoinLaws.{alike_right}
use Rattle.merge_concat.proofs.joins.join_pairs.Goals as goal

pub of-rights-requires : goal.of-rights-requires
of-rights-requires c = search alike_right
