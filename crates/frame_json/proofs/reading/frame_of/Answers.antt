use Rattle.{
  frame_parts.proofs.Common.{arith, ◌∙◌},
  frame_make.proofs.FileFrameLaws.{blocks_single},
  frame_json.proofs.FrameLaws.{frame_parts, frame_whole},
}
use Rattle.frame_json.proofs.reading.frame_of.Goals as goal

pub from_tuples-requires-clause-alike : goal.from_tuples-requires-clause-alike
from_tuples-requires-clause-alike c = c.requires.rows

pub headings_of-requires : goal.headings_of-requires
headings_of-requires c = c.requires.labels

pub new-requires-clause-single : goal.new-requires-clause-single
new-requires-clause-single = grind (arith, blocks_single)

pub new-requires-clause-whole : goal.new-requires-clause-whole
new-requires-clause-whole c = rw (frame_parts c.args.read c.in_ok-axis.axis c.in_ok-headings.headings c.in_ok-columns.columns c.in_ok-axis.ensures c.in_ok-headings.ensures c.in_ok-columns.ensures) (frame_whole c.args.read c.requires)

pub returns : goal.returns
returns c = c.new.ensures ∙ frame_parts c.args.read c.in_ok-axis.axis c.in_ok-headings.headings c.in_ok-columns.columns c.in_ok-axis.ensures c.in_ok-headings.ensures c.in_ok-columns.ensures
