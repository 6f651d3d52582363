use Rattle.{
  frame_parts.proofs.Common.{tables},
  frame_labels.proofs.ReindexLaws.{list_given},
}
use Rattle.frame_labels.proofs.reindexing.reindex.Goals as goal

pub reindex_rows-requires-clause-items : goal.reindex_rows-requires-clause-items
reindex_rows-requires-clause-items c = search (list_given (tables c.args.store.now))

pub reindex_columns-requires-clause-items : goal.reindex_columns-requires-clause-items
reindex_columns-requires-clause-items c = search (list_given (tables c.args.store.now))
