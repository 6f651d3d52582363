use Rattle.{
  column_core.proofs.cells.Common.{arith, ◌≡◌, ◌∙◌, ap, map, na_cell, datum, gap_cell},
  factorize.specs.group.Reductions.{reduced_cells},
  group_by.{specs.Operations.{reduction_of}, proofs.CallLaws.{transform_answer, gaps_seen, taken_given}},
}
use Rattle.group_by.proofs.groups.group_transform.Goals as goal

pub returns-clause-given : goal.returns-clause-given
returns-clause-given g c = rw c.in_ok-take.ensures.cells (taken_given _ _ _ (grind arith))

pub returns-clause-answer : goal.returns-clause-answer
returns-clause-answer g c =
    let dict = c.args.dict.now in
    let op = reduction_of c.args.op in
    let groups = g.C.RowGroups.groups_of c.args.codes.now in
    let seen : map (datum dict) c.as_ref.result.cells ≡ reduced_cells op groups (map (datum dict) c.args.a.cells)
    = grind arith in
    let codes : c.codes.result.now ≡ groups.codes = grind arith in
    transform_answer op _ _ _ _ (grind arith)
    (grind arith)
    (ap (map (datum dict)) c.in_ok-take.ensures.cells ∙ gaps_seen _ _ _ ∙ (λ i. map (gap_cell na_cell (seen i)) (codes i)))
