use Rattle.frame_parts.proofs.Common.{◌≡◌, length, take, map, All, Na, columns_or_missing, block_column, IsSingle}
use Rattle.frame_ops.proofs.widening.columns_or_missing.Given as goal

abbrev pub invariant-loop-k : goal.invariant-loop-k
invariant-loop-k l =
    record {
      columns : map block_column l.made ≡ columns_or_missing Na (length l.own.labels) l.own.columns l.other.columns (take l.k l.places) (take l.k l.opposites);
      single : All IsSingle l.made;
    }
