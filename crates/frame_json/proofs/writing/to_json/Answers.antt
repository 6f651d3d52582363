use Rattle.{
  frame_parts.proofs.Common.{◌≡◌, ap, subst, Frame, tables, table_or, object_settled},
}
use Rattle.frame_json.proofs.writing.to_json.Goals as goal

pub json_cell-requires-clause-frame : goal.json_cell-requires-clause-frame
json_cell-requires-clause-frame c = subst (λ t. t.shape ≡ Frame) (ap table_or c.read-table.ensures.table) c.requires.frame

pub json_cell-requires-clause-settled : goal.json_cell-requires-clause-settled
json_cell-requires-clause-settled c = object_settled c.args.dict.now (tables c.args.store.now) c.args.on.0 _ c.read-table.ensures.table c.requires.settled

pub returns-clause-answer : goal.returns-clause-answer
returns-clause-answer c = rw (ap table_or c.read-table.ensures.table) c.json_cell.ensures.answer
