use Rattle.{
  column_core.proofs.cells.Common.{◌∙◌, sym, map, datum},
  factorize.specs.group.Reductions.{group_kind, reduced_cells},
  group_by.{specs.Operations.{reduction_of}, proofs.NumberLaws.{numbers_value, if_ok_more}},
}
use Rattle.group_by.proofs.reduce.reduced.Goals as goal

pub returns-in-Distinct-clause-given : goal.returns-in-Distinct-clause-given
returns-in-Distinct-clause-given c = if_ok_more (λ column are. are.given _) c.distinct_counts.result c.distinct_counts.ensures

pub returns-in-Distinct-clause-made : goal.returns-in-Distinct-clause-made
returns-in-Distinct-clause-made c =
    let cells = map (datum _) _ in
    if_ok_more (λ column are. numbers_value _ _ are c.args.dict.now
    ∙ (λ i. record { kind = group_kind (reduction_of (sym c.in-Distinct.is i)) c.args.a.now.kind; cells = reduced_cells (reduction_of (sym c.in-Distinct.is i)) c.args.groups.now cells })) c.distinct_counts.result c.distinct_counts.ensures
