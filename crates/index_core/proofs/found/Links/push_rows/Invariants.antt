use Rattle.{
  meaning_pick.{proofs.cells.Common.{◌≡◌, ◌++◌}, specs.Rows.{rows_where}},
  index_core.{specs.Labels.{same_number}, proofs.LinkLaws.{rest_from, HasLabel, rows_left}},
}
use Rattle.index_core.proofs.found.Links.push_rows.Given as goal

-- the rows so far, before those that are left
abbrev pub invariant-loop-rest : goal.invariant-loop-rest
invariant-loop-rest l = record {
  walked : l.rows ++ rest_from (same_number l.fn.label) l.self l.rest ≡ l.fn.rows ++ rows_where (same_number l.fn.label) 0 l.self;
  has : HasLabel l.self l.fn.label l.rest;
}

abbrev pub decreases-loop-rest : goal.decreases-loop-rest
decreases-loop-rest l = rows_left l.self l.rest
