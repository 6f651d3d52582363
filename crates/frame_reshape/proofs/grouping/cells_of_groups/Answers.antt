use Rattle.{
  frame_parts.proofs.Common.{◌≡◌, ◌∙◌, ap, sym, subst, length, All, taken, AreGiven, IsPlaceOf},
  cell_core.specs.declared.cell.Cell.TheVariants.{Na},
  group_by.specs.Operations.{reduction_of},
  frame_reshape.proofs.GroupCells.{reduced_count, groups_meant, counts_agree, rows_in_table, place_given, taken_given},
}
use Rattle.frame_reshape.proofs.grouping.cells_of_groups.Goals as goal

pub group_reduce-requires-clause-rows : goal.group_reduce-requires-clause-rows
group_reduce-requires-clause-rows c = c.in_ok-found.ensures.codes ∙ sym c.column-values.ensures.rows

pub group_reduce-requires-clause-given : goal.group_reduce-requires-clause-given
group_reduce-requires-clause-given c = place_given _ c.args.on.now c.args.told.now.values _ c.requires.known.given c.requires.told.values c.column-values.ensures.column

pub first_rows-requires : goal.first_rows-requires
first_rows-requires c =
    let many : length c.in-Ok.reduced.cells ≡ length c.in_ok-found.found.firsts =
    reduced_count c.args.dict.now c.args.on.now c.args.told.now (reduction_of c.args.op) c.in_ok-found.found.groups c.in_ok-found.ensures.groups c.column-values.result c.column-values.ensures.column c.in-Ok.reduced c.in-Ok.ensures.answer
    ∙ sym c.in_ok-found.ensures.count in
    subst (λ n. All (IsPlaceOf n) c.in_ok-groups.groups) many c.in_ok-groups.ensures.below

pub returns-clause-answer : goal.returns-clause-answer
returns-clause-answer c =
    groups_meant c.args.dict.now c.args.on.now c.args.told.now (reduction_of c.args.op) c.in_ok-found.found.groups c.in_ok-found.ensures.groups c.column-values.result c.column-values.ensures.column c.in-Ok.reduced c.in-Ok.ensures.answer
    c.in_ok-found.found.firsts c.in_ok-found.ensures.labels c.in_ok-found.ensures.count c.in_ok-groups.groups c.in_ok-groups.ensures.groups record { rows = c.in_ok-rows.rows; cells = c.in_ok-cells.cells } c.in_ok-rows.ensures
    (c.in_ok-cells.ensures.kind ∙ ap (λ a. a.kind) c.as_ref.ensures) (c.in_ok-cells.ensures.cells ∙ ap (λ a. taken Na a.cells c.in_ok-groups.groups) c.as_ref.ensures)

pub returns-clause-rows : goal.returns-clause-rows
returns-clause-rows c =
    rows_in_table c.args.dict.now c.args.on.now c.args.told.now (reduction_of c.args.op) c.in_ok-found.found.groups c.in_ok-found.ensures.groups c.column-values.result c.column-values.ensures.column c.in-Ok.reduced c.in-Ok.ensures.answer
    c.in_ok-found.found.firsts c.in_ok-found.ensures.labels c.in_ok-found.ensures.count c.in_ok-groups.groups c.in_ok-groups.ensures.groups record { rows = c.in_ok-rows.rows; cells = c.in_ok-cells.cells } c.in_ok-rows.ensures
    (c.in_ok-cells.ensures.kind ∙ ap (λ a. a.kind) c.as_ref.ensures) (c.in_ok-cells.ensures.cells ∙ ap (λ a. taken Na a.cells c.in_ok-groups.groups) c.as_ref.ensures) c.in_ok-found.ensures.firsts

pub returns-clause-count : goal.returns-clause-count
returns-clause-count c =
    counts_agree c.args.dict.now c.args.on.now c.args.told.now (reduction_of c.args.op) c.in_ok-found.found.groups c.in_ok-found.ensures.groups c.column-values.result c.column-values.ensures.column c.in-Ok.reduced c.in-Ok.ensures.answer
    c.in_ok-found.found.firsts c.in_ok-found.ensures.labels c.in_ok-found.ensures.count c.in_ok-groups.groups c.in_ok-groups.ensures.groups record { rows = c.in_ok-rows.rows; cells = c.in_ok-cells.cells } c.in_ok-rows.ensures
    (c.in_ok-cells.ensures.kind ∙ ap (λ a. a.kind) c.as_ref.ensures) (c.in_ok-cells.ensures.cells ∙ ap (λ a. taken Na a.cells c.in_ok-groups.groups) c.as_ref.ensures)

pub returns-clause-given : goal.returns-clause-given
returns-clause-given c =
    subst (AreGiven c.args.dict.now) (sym (c.in_ok-cells.ensures.cells ∙ ap (λ a. taken Na a.cells c.in_ok-groups.groups) c.as_ref.ensures)) (taken_given c.args.dict.now c.in-Ok.reduced.cells c.in_ok-groups.groups c.in-Ok.ensures.given)
