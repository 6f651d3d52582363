use Rattle.{
  frame_parts.proofs.Common.{arith, ◌∙◌},
  frame_make.proofs.FileFrameLaws.{blocks_single, frame_parts, frame_whole},
}
use Rattle.frame_make.proofs.file_frames.frame_of.Goals as goal

pub new-requires-clause-single : goal.new-requires-clause-single
new-requires-clause-single = grind (arith, blocks_single)

pub new-requires-clause-whole : goal.new-requires-clause-whole
new-requires-clause-whole c = rw (frame_parts c.args.read c.in_ok-axis.axis c.in_ok-headings.headings c.in_ok-columns.columns c.in_ok-axis.ensures c.in_ok-headings.ensures c.in_ok-columns.ensures) (frame_whole c.args.read c.requires.single c.requires.parts)

pub returns : goal.returns
returns c = c.new.ensures ∙ frame_parts c.args.read c.in_ok-axis.axis c.in_ok-headings.headings c.in_ok-columns.columns c.in_ok-axis.ensures c.in_ok-headings.ensures c.in_ok-columns.ensures
