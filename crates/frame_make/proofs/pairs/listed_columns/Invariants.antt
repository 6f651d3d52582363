use Rattle.{
  frame_parts.proofs.Common.{◌≡◌, ◌<◌, ℕ, All, List, length, Text, try_all, IsSingle},
  indexmap.specs.IndexMap.{values},
  frame_make.{specs.Pairs.{lists_seen, listed_column}, proofs.FrameLaws.{columns_with}},
}
use Rattle.frame_make.proofs.pairs.listed_columns.Given as goal

-- the columns so far, before those at the other places
abbrev pub invariant-loop-place : goal.invariant-loop-place
invariant-loop-place l = record {
  single : All IsSingle l.columns;
  inside : All (λ (place : ℕ). place < length l.pairs) l.place-iterator;
  whole : (texts : List Text) → columns_with texts l.pairs l.columns l.place-iterator ≡ try_all listed_column (lists_seen texts l.pairs (values l.places));
}
