use Rattle.{
  column_core.{proofs.cells.Common.{◌≡◌, ◌∙◌, [], ap, subst, arith, map, All, with_items_is, All-replicate, Cell, datum}, specs.Columns.{CellColumn, column_value}},
  factorize.specs.group.Reductions.{group_cell, group_kind},
  group_by.{specs.Cells.{IsCellOf}, proofs.{GatherLaws.{gathered_cells}, NumberLaws.{if_ok_more}}},
}
use Rattle.group_by.proofs.reduce.gathered.Goals as goal

pub gather_rows-requires-clause-start : goal.gather_rows-requires-clause-start
gather_rows-requires-clause-start g c =
    let P = λ (x : Cell). datum c.args.dict.now x ≡ group_cell g.G.Gather.op [] in
    subst (All P) (grind arith) (All-replicate P c.count.result _ (c.start.ensures.value _))

pub gather_rows-requires-clause-held : goal.gather_rows-requires-clause-held
gather_rows-requires-clause-held g c =
    let P = IsCellOf c.args.dict.now (group_kind g.G.Gather.op c.args.a.now.kind) in
    subst (All P) (grind arith) (All-replicate P c.count.result _ (c.start.ensures.held _ _))

pub returns-clause-made : goal.returns-clause-made
returns-clause-made g c =
    if_ok_more (λ column is. ap (λ (col : CellColumn). column_value c.args.dict.now col) is
    ∙ (λ i. record { kind = c.args.kind; cells = (ap (map (datum _)) (c.deref.ensures.value ∙ with_items_is c.in_ok-cells.cells _ (omega (arith, c.gather_rows.ensures.size, c.in_ok-cells.ensures.len, c.count.ensures))) ∙ gathered_cells _ _ c.args.groups.now _ _ c.gather_rows.ensures.size c.gather_rows.ensures.value) i }))
    c.column_of.result c.column_of.ensures
