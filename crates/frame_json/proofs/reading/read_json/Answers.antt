use Rattle.{
  frame_parts.proofs.Common.{arith},
  frame_json.proofs.FrameLaws.{frame_settled, frame_made, parts_fit},
}
use Rattle.frame_json.proofs.reading.read_json.Goals as goal

pub frame_of-requires : goal.frame_of-requires
frame_of-requires c = parts_fit c.json_table.new.dict c.in-Ok.read c.args.orient c.args.bytes.now c.in-Ok.ensures.answer

pub returns-in_ok-frame_of-in-Ok-clause-answer : goal.returns-in_ok-frame_of-in-Ok-clause-answer
returns-in_ok-frame_of-in-Ok-clause-answer c = (
  grind (arith, frame_made),
  frame_settled c.json_table.new.dict c.in-Ok.read c.in_ok-frame_of-in-Ok.field-0 c.in-Ok.ensures.settled c.in_ok-frame_of-in-Ok.ensures,
)
