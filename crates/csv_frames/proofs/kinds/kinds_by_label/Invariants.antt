use Rattle.{
  column_core.proofs.cells.Common.{◌≡◌, drop, Text},
  meaning_csv.specs.CsvRead.{kind_listed, named_kind},
  csv_frames.specs.Views.{entries_seen, kinds_seen, kind_at},
}
use Rattle.csv_frames.proofs.kinds.kinds_by_label.Given as goal

-- the kinds so far, before the others
abbrev pub invariant-loop-k : goal.invariant-loop-k
invariant-loop-k l = (label : Text) → kind_listed (kind_at (kinds_seen l.named.entries) label) (entries_seen l.dict (drop l.k l.kinds)) label ≡ named_kind (entries_seen l.dict l.kinds) label
