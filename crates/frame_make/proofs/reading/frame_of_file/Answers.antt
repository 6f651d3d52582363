use Rattle.{
  frame_parts.proofs.Common.{arith},
  csv_frames.specs.Views.{entries_seen},
  frame_make.proofs.{FileFrameLaws.{frame_settled, frame_made}, ReadLaws.{rows_few, labels_single}},
}
use Rattle.frame_make.proofs.reading.frame_of_file.Goals as goal

pub frame_of-requires-clause-few : goal.frame_of-requires-clause-few
frame_of-requires-clause-few = grind (arith, rows_few)

pub frame_of-requires-clause-single : goal.frame_of-requires-clause-single
frame_of-requires-clause-single c = labels_single c.read_csv.new.dict c.in-Ok.read c.args.bytes.now (entries_seen c.args.dict.now c.args.kinds.now) c.in-Ok.ensures.answer

pub returns-in_ok-frame_of-in-Ok-clause-answer : goal.returns-in_ok-frame_of-in-Ok-clause-answer
returns-in_ok-frame_of-in-Ok-clause-answer c = (
  grind (arith, frame_made),
  frame_settled c.read_csv.new.dict c.in-Ok.read c.in_ok-frame_of-in-Ok.field-0 c.in-Ok.ensures.settled c.in_ok-frame_of-in-Ok.ensures,
)
