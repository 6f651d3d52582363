use Rattle.{
  frame_parts.proofs.Common.{object_settled, list_in},
  frame_signatures.proofs.ToldLaws.{told_settled},
  frame_labels.proofs.LevelMoveLaws.{option_given},
}
use Rattle.frame_methods.proofs.calling.labels_made.Goals as goal

-- labels of rows
pub reindex-requires-clause-rows : goal.reindex-requires-clause-rows
reindex-requires-clause-rows c = λ more.
    told_settled c.args.bound.now 0 list_in _ _ _ c.list_or_none-rows.ensures.value c.requires.call.given more

-- labels of rows, or of columns
pub reindex-requires-in-ReindexFrame-clause-rows : goal.reindex-requires-in-ReindexFrame-clause-rows
reindex-requires-in-ReindexFrame-clause-rows c = λ more.
    told_settled c.args.bound.now 0 list_in _ _ _ c.list_or_none-rows-in-ReindexFrame.ensures.value c.requires.call.given more

pub reindex-requires-in-ReindexFrame-clause-columns : goal.reindex-requires-in-ReindexFrame-clause-columns
reindex-requires-in-ReindexFrame-clause-columns c = λ more.
    told_settled c.args.bound.now 1 list_in _ _ _ c.list_or_none-columns.ensures.value c.requires.call.given more

-- a label of rows on one level
pub xs-requires-clause-known : goal.xs-requires-clause-known
xs-requires-clause-known c = search object_settled

pub xs-requires-clause-level : goal.xs-requires-clause-level
xs-requires-clause-level c = search option_given
