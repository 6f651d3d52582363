use Rattle.frame_parts.proofs.Common.{◌≡◌, ◌++◌, take, All, Na, on_rows, columns_of, IsSingle}
use Rattle.frame_concat.proofs.beside.with_columns.Given as goal

-- the columns so far
abbrev pub invariant-loop-place : goal.invariant-loop-place
invariant-loop-place l = record {
  columns : columns_of l.made ≡ columns_of l.fn.blocks ++ on_rows Na l.rows (take l.place l.on.columns);
  single : All IsSingle l.made;
}
