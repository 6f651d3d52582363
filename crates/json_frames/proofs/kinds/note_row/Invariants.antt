use Rattle.{
  meaning_json.proofs.cells.Common.{◌≡◌, ◌++◌, List},
  serde_json.{specs.{Data.{object}, View.{members_view}}, proofs.Views.{Entry}},
  json_frames.specs.Kinds.{WithRow},
}
use Rattle.json_frames.proofs.kinds.note_row.Given as goal

-- the kinds of the members so far
abbrev pub invariant-loop-key : goal.invariant-loop-key
invariant-loop-key l = (done : List Entry) × (l.row.entries ≡ done ++ l.key-iterator) × WithRow l.fn.kinds (object (members_view done)) l.kinds
