use Rattle.{
  frame_parts.proofs.Common.{columns_given, columns_part, labels_value, arith, ◌≡◌, true, rules, length-map, same_tuples},
  frame_ops.proofs.InfixLaws.{makes_as, rows_are_meant},
}
use Rattle.frame_ops.proofs.tables.rows_infix.Goals as goal

pub table_met-requires-clause-other : goal.table_met-requires-clause-other
table_met-requires-clause-other c = columns_given _ _ (columns_part _ _ c.requires.known_b.given)

pub returns-clause-makes : goal.returns-clause-makes
returns-clause-makes c =
    let same : c.same_rows.result ≡ true = search rules in
    let rows : same_tuples (labels_value c.args.dict.now c.args.a.now.labels) (labels_value c.args.dict.now c.args.b.labels) ≡ true = grind arith in
    makes_as _ _ _ _ c.table_met.ensures.makes
    (search (rows_are_meant, length-map))
