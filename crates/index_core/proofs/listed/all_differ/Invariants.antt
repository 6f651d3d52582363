use Rattle.{
  meaning_pick.{proofs.cells.Common.{◌≡◌, true, drop}, specs.Labels.{all_differ}},
  index_core.{specs.Labels.{same_number}, proofs.DifferLaws.{AreKeys}},
}
use Rattle.index_core.proofs.listed.all_differ.Given as goal

-- the labels from a place on
abbrev pub invariant-loop-place : goal.invariant-loop-place
invariant-loop-place l = record {
  keys : AreKeys l.later.keys (drop l.place l.labels);
  differ : all_differ same_number (drop l.place l.labels) ≡ true;
}
