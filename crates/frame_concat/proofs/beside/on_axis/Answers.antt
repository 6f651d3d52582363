use Rattle.{
  frame_parts.proofs.Common.{rules},
  frame_concat.proofs.BesideLaws.{frame_is, frame_whole},
}
use Rattle.frame_concat.proofs.beside.on_axis.Goals as goal

pub new-requires-clause-whole : goal.new-requires-clause-whole
new-requires-clause-whole c =
    rw c.in_ok-headings.ensures (frame_whole _ _ c.requires.known _ c.args.axis _ _ c.in_ok-list.ensures c.deref.ensures.value _ c.named-axis.result c.named-axis.ensures _ _ c.in_ok-blocks.ensures)

pub returns : goal.returns
returns c =
    frame_is _ _ c.requires.known _ c.args.axis _ _ c.in_ok-list.ensures c.deref.ensures.value _ c.named-axis.result c.named-axis.ensures _ _ c.in_ok-blocks.ensures
    c.requires.given c.requires.levels c.levels-levels.ensures.count c.name_of_all-columns_name.ensures (search rules) _ (rw c.in_ok-headings.ensures at c.new.ensures)
