use Rattle.{
  column_core.proofs.cells.Common.{◌≡◌, ℕ, length, replicate, rules},
  asof_merge.proofs.GroupLaws.{one_group},
}
use Rattle.asof_merge.proofs.pairs.rows_of_one_group.Goals as goal

pub returns : goal.returns
returns c =
    let of_left : c.of-lefts.result.groups.now ≡ replicate {A = ℕ} (length c.args.left.now) 0 = search rules in
    let of_right : c.of-rights.result.groups.now ≡ replicate {A = ℕ} (length c.args.right.now) 0 = search rules in
    one_group c.args.direction c.args.tolerance _ _ _ _ _ _ _ _ c.of-lefts.ensures.keys c.of-rights.ensures.keys of_left of_right c.in_ok-found.ensures c.from.ensures
