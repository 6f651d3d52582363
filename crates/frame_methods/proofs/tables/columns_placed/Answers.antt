use Rattle.{
  frame_parts.proofs.Common.{object_settled, tables, table_at, arith, ◌≡◌},
  frame_labels.proofs.AnswerLaws.{forms_so},
}
use Rattle.frame_methods.proofs.tables.columns_placed.Goals as goal

pub columns_table-table-requires-clause-known : goal.columns_table-table-requires-clause-known
columns_table-table-requires-clause-known g c = search object_settled

pub returns : goal.returns
returns g c =
    let at : c.read.result ≡ table_at (tables c.args.store.now) c.args.on.0 = grind arith in
    forms_so _ _ _ _ _ _ (cc)
    (c.placed.ensures.answers _ _ c.columns_table-table.ensures.longer c.requires.settled c.columns_table-table.ensures.answer)
