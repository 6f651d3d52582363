use Rattle.{
  meaning_json.{proofs.cells.Common.{◌≡◌, list_all}, specs.JsonRead.{is_cell, members_in}},
  serde_json.specs.View.{members_view},
}
use Rattle.json_frames.proofs.values.are_cells.Given as goal

-- the other members are cells just where all are
abbrev pub invariant-loop-value : goal.invariant-loop-value
invariant-loop-value l = list_all (λ m. is_cell m.1) (members_in (members_view l.value-iterator)) ≡ list_all (λ m. is_cell m.1) (members_in (members_view l.members.entries))
