use Rattle.frame_parts.proofs.Common.{◌≡◌, take, map, All, Na, on_rows, block_column, IsSingle}
use Rattle.frame_parts.proofs.gaps.columns_on.Given as goal

abbrev pub invariant-loop-place : goal.invariant-loop-place
invariant-loop-place l =
    record {
      columns : map block_column l.made ≡ on_rows Na l.rows (take l.place l.on.columns);
      single : All IsSingle l.made;
    }
