use Rattle.{
  frame_parts.proofs.Common.{◌∙◌, refl, length},
  reshape.specs.Answers.{spread_value},
  frame_reshape.proofs.SpreadTableLaws.{is_spread_of, spread_refused, spread_whole, spread_made},
}
use Rattle.frame_reshape.proofs.spreading.spread_table.Goals as goal

pub returns-in-Err : goal.returns-in-Err
returns-in-Err c = λ rest labels are unstacks.
    rw c.refusal_of.ensures (spread_refused _ rest labels _ _ are c.len.ensures.distinct c.args.names.now c.args.columns_name c.args.cells.now _ (rw c.in-Err.is at unstacks))

-- what is spread
pub spread_labels-requires : goal.spread_labels-requires
spread_labels-requires c = (length c.args.cells.now.cells, length c.args.names.now, is_spread_of _ c.requires.spread.0 c.requires.spread.1 _ _ c.requires.spread.2 (spread_value c.in-Ok.spread) (rw c.in-Ok.is at c.requires.spread.3))

pub from_tuples-requires-clause-alike : goal.from_tuples-requires-clause-alike
from_tuples-requires-clause-alike c =
    (is_spread_of _ c.requires.spread.0 c.requires.spread.1 _ _ c.requires.spread.2 (spread_value c.in-Ok.spread) (rw c.in-Ok.is at c.requires.spread.3)).keys

pub spread_blocks-requires : goal.spread_blocks-requires
spread_blocks-requires c = (length c.args.names.now, is_spread_of _ c.requires.spread.0 c.requires.spread.1 _ _ c.requires.spread.2 (spread_value c.in-Ok.spread) (rw c.in-Ok.is at c.requires.spread.3))

-- the frame
pub new-requires-clause-whole : goal.new-requires-clause-whole
new-requires-clause-whole c =
    rw (c.named_axis.ensures, c.in_ok-axis.ensures, c.in_ok-headings.ensures, c.as_slice.ensures.value, c.in_ok-labels.ensures, c.in_ok-blocks.ensures.columns)
    (spread_whole c.args.names.now c.args.columns_name c.args.cells.now (spread_value c.in-Ok.spread))

pub returns : goal.returns
returns c = λ rest labels are unstacks.
    spread_made _ rest labels _ _ are c.len.ensures.distinct c.args.names.now c.args.columns_name c.args.cells.now (spread_value c.in-Ok.spread) (rw c.in-Ok.is at unstacks)
    refl c.requires.names c.requires.name c.requires.cells _
    (c.new.ensures ∙ rw (c.named_axis.ensures, c.in_ok-axis.ensures, c.in_ok-headings.ensures, c.as_slice.ensures.value, c.in_ok-labels.ensures, c.in_ok-blocks.ensures.columns))
