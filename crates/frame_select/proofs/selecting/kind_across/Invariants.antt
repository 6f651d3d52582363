use Rattle.{
  frame_parts.proofs.Common.{◌≡◌, drop},
  frame_select.proofs.CutLaws.{first_kind, kind_after, all_of},
}
use Rattle.frame_select.proofs.selecting.kind_across.Given as goal

-- the columns so far are of the first one's kind
abbrev pub invariant-loop-k : goal.invariant-loop-k
invariant-loop-k l = record {
  kind : l.kind ≡ kind_after l.k l.on l.columns;
  all : all_of (first_kind l.on l.columns) l.on (drop l.k l.columns) ≡ all_of (first_kind l.on l.columns) l.on l.columns;
}
