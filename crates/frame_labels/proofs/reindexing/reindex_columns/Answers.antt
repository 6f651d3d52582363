use Rattle.{
  frame_parts.proofs.Common.{tables, world},
  frame_labels.proofs.{AnswerLaws.{known_table}, ReindexLaws.{keys_given}},
}
use Rattle.frame_labels.proofs.reindexing.reindex_columns.Goals as goal

pub columns_reindexed-requires-clause-known : goal.columns_reindexed-requires-clause-known
columns_reindexed-requires-clause-known c = search (known_table (world c.args.store.now c.args.dict.now))

pub columns_reindexed-requires-clause-labels : goal.columns_reindexed-requires-clause-labels
columns_reindexed-requires-clause-labels c =
    keys_given _ _ 1 _ _ (λ texts. c.in_ok-labels.ensures.labels (tables c.args.store.now) texts) c.requires.items
