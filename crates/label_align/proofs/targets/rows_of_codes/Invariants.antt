use Rattle.meaning_align.{proofs.cells.Common.{◌≡◌, [], map, take, slice_index_or}, specs.pick.Rows.{only_row}}
use Rattle.label_align.proofs.targets.rows_of_codes.Given as goal

-- the rows so far
abbrev pub invariant-loop-code : goal.invariant-loop-code
invariant-loop-code l = l.gaps.items ≡ map (λ code. only_row (slice_index_or l.rows code [])) (take l.code-index l.codes)
