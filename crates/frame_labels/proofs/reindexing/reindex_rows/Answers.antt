use Rattle.{
  frame_parts.proofs.Common.{tables, world},
  frame_labels.proofs.{AnswerLaws.{known_table}, ReindexLaws.{keys_given}},
}
use Rattle.frame_labels.proofs.reindexing.reindex_rows.Goals as goal

pub rows_reindexed-requires-clause-known : goal.rows_reindexed-requires-clause-known
rows_reindexed-requires-clause-known c = search (known_table (world c.args.store.now c.args.dict.now))

pub rows_reindexed-requires-clause-labels : goal.rows_reindexed-requires-clause-labels
rows_reindexed-requires-clause-labels c =
    keys_given _ _ _ _ _ (λ texts. c.in_ok-labels.ensures.labels (tables c.args.store.now) texts) c.requires.items
