use Rattle.{
  frame_parts.proofs.Common.{◌∙◌, rules},
  frame_labels.proofs.ReindexLaws.{columns_below, columns_whole, columns_answer},
}
use Rattle.frame_labels.proofs.reindexing.columns_reindexed.Goals as goal

pub columns_or_missing-requires : goal.columns_or_missing-requires
columns_or_missing-requires c = columns_below _ c.args.on.now _ _ _ _ c.in_ok-own.ensures c.in_ok-wanted.ensures c.in_ok-places.ensures c.requires.known.whole

pub new-requires-clause-whole : goal.new-requires-clause-whole
new-requires-clause-whole c =
    rw (c.shape.ensures, c.in_ok-axis.ensures, c.axis.ensures, c.in_ok-headings.ensures, c.columns_name.ensures, c.as_slice.ensures.value, c.in_ok-labels.ensures, c.in_ok-wanted.ensures, c.in_ok-blocks.ensures.columns)
    (columns_whole _ c.args.on.now _ _ _ _ c.in_ok-own.ensures c.in_ok-wanted.ensures c.in_ok-places.ensures c.requires.known.whole c.requires.shape c.requires.level)

pub returns : goal.returns
returns c =
    columns_answer _ c.args.on.now _ _ _ _ c.in_ok-own.ensures c.in_ok-wanted.ensures c.in_ok-places.ensures _
    (c.new.ensures ∙ rw (c.shape.ensures, c.in_ok-axis.ensures, c.axis.ensures, c.in_ok-headings.ensures, c.columns_name.ensures, c.as_slice.ensures.value, c.in_ok-labels.ensures, c.in_ok-wanted.ensures, c.in_ok-blocks.ensures.columns)) (search rules) c.requires.known c.requires.labels
