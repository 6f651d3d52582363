use Rattle.{
  column_core.proofs.cells.Common.{◌≡◌, ◌++◌, slice_index_or, string_bytes, tabulate, place_from},
  std.specs.Str.{encode_utf8_all},
}
use Rattle.text_methods.proofs.slices.push_points.Given as goal

-- the code points of the places so far
abbrev pub invariant-loop-row : goal.invariant-loop-row
invariant-loop-row l = string_bytes l.out ≡ string_bytes l.initial.out ++ encode_utf8_all (tabulate l.row (λ k. slice_index_or l.points (place_from l.rows.start l.rows.step k) 0))
