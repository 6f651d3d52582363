use Rattle.{
  meaning_json.{proofs.cells.Common.{◌≡◌, ◌++◌, length, map, IsLonger}, specs.{tables.Settled.{IsSettled}, JsonRead.{tuples, label_in}}},
  csv_frames.specs.Views.{tuples_seen},
  json_frames.specs.Views.{values_seen},
}
use Rattle.json_frames.proofs.columns.labels_of.Given as goal

-- the labels so far, before the others
abbrev pub invariant-loop-rest : goal.invariant-loop-rest
invariant-loop-rest l = record {
  longer : IsLonger l.fn.dict l.dict;
  settled : IsSettled tuples_seen l.dict l.tuples;
  labels : tuples_seen l.dict l.tuples ++ tuples (map label_in (values_seen l.rest)) ≡ tuples (map label_in (values_seen l.values));
}

abbrev pub decreases-loop-rest : goal.decreases-loop-rest
decreases-loop-rest l = length l.rest
