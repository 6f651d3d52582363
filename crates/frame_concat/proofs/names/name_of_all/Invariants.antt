use Rattle.{
  frame_parts.proofs.Common.{◌≡◌, map, fold, drop, IsSettled, heading_value, common_name},
  frame_concat.specs.Parts.{name_at, parts_value},
}
use Rattle.meaning_method.specs.Concat as meant
use Rattle.frame_concat.proofs.names.name_of_all.Given as goal

-- the name that the parts so far have, and what it comes to
abbrev pub invariant-loop-other : goal.invariant-loop-other
invariant-loop-other l = record {
  whole : fold common_name (heading_value l.dict l.name) (map (name_at l.which) (parts_value l.dict (drop l.other-index l.others))) ≡ meant.name_of_all (map (name_at l.which) (parts_value l.dict l.parts));
  given : IsSettled heading_value l.dict l.name;
}
