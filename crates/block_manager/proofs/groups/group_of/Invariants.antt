use Rattle.{
  std.proofs.Common.{◌≢◌, All, take},
  block_manager.specs.Groups.{groups_seen},
}
use Rattle.block_manager.proofs.groups.group_of.Given as goal

-- none of the groups so far is of the kind
abbrev pub invariant-loop-place : goal.invariant-loop-place
invariant-loop-place l = All (λ g. g.kind ≢ l.kind) (groups_seen (take l.place l.groups.items))
