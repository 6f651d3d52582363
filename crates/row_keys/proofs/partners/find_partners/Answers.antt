use Rattle.{
  multi_index.proofs.cells.Common.{◌∙◌},
  row_keys.proofs.PartnerLaws.{firsts_counted, left_is, right_is, right_below, partners_below},
}
use Rattle.row_keys.proofs.partners.find_partners.Goals as goal

pub rows_by_code-requires-clause-known : goal.rows_by_code-requires-clause-known
rows_by_code-requires-clause-known g c =
    let a = g.A.LevelRows.tuples c.args.keys.now in
    let b = g.B.LevelRows.tuples c.args.among.now in
    let coded = c.deref-codes.ensures.value ∙ c.in_ok-numbers.ensures.codes in
    let first = c.deref-firsts.ensures.value ∙ c.in_ok-numbers.ensures.firsts in
    search (right_below a b, right_is a b, firsts_counted a b)

pub invariant_of-result : goal.invariant_of-result
invariant_of-result g c =
    let a = g.A.LevelRows.tuples c.args.keys.now in
    let b = g.B.LevelRows.tuples c.args.among.now in
    let coded = c.deref-codes.ensures.value ∙ c.in_ok-numbers.ensures.codes in
    partners_below a b _ _ _ _ (firsts_counted a b _ (c.deref-firsts.ensures.value ∙ c.in_ok-numbers.ensures.firsts)) (c.in_ok-codes.ensures.items_if_clones_equal (λ x y e. e) ∙ left_is a b _ _ _ coded c.count.ensures c.split_at.ensures.front) (right_is a b _ _ _ coded c.count.ensures c.split_at.ensures.back) c.in_ok-rows.ensures
