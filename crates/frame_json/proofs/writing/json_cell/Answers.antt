use Rattle.{
  frame_parts.proofs.Common.{arith},
  frame_json.proofs.WriteLaws.{text_made, text_refused},
}
use Rattle.frame_json.proofs.writing.json_cell.Goals as goal

pub returns-in_ok-intern-in-Ok-clause-answer : goal.returns-in_ok-intern-in-Ok-clause-answer
returns-in_ok-intern-in-Ok-clause-answer c = grind (arith, text_made c.args.dict.now c.args.on.now c.args.orient c.requires.whole c.requires.levels)

pub returns-in-Err-clause-answer : goal.returns-in-Err-clause-answer
returns-in-Err-clause-answer c =
    rw c.refusal_of.ensures
    (text_refused c.args.dict.now c.args.on.now c.args.orient c.requires.whole c.requires.levels c.in-Err.refusal c.requires.settled c.in-Err.ensures.answer c.in-Err.ensures.named)
