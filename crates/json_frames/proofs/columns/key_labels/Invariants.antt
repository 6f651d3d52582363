use Rattle.{meaning_json.{proofs.cells.Common.{◌≡◌, ◌++◌, map, string_bytes, text, IsLonger}, specs.{tables.Settled.{IsSettled}, JsonRead.{tuples}}}, csv_frames.specs.Views.{tuples_seen}, json_frames.specs.Kinds.{keys_seen}}
use Rattle.json_frames.proofs.columns.key_labels.Given as goal

-- the labels so far, before those of the other keys
abbrev pub invariant-loop-key : goal.invariant-loop-key
invariant-loop-key l = record {
  longer : IsLonger l.fn.dict l.dict;
  settled : IsSettled tuples_seen l.dict l.tuples;
  labels : tuples_seen l.dict l.tuples ++ tuples (map text (map string_bytes l.key-iterator)) ≡ tuples (map text (keys_seen l.kinds));
}
