use Rattle.{
  column_core.proofs.cells.Common.{◌∙◌, ap, arith, map, with_items_is},
  group_by.proofs.NumberLaws.{all_alike, same_numbers, counts_cells, if_ok_more},
}
use Rattle.group_by.proofs.counts.sizes.Goals as goal

pub count_rows-requires-clause-zero : goal.count_rows-requires-clause-zero
count_rows-requires-clause-zero c = all_alike 0 c.count.result _ (grind arith)

pub returns : goal.returns
returns c =
    if_ok_more (λ column are. same_numbers _ _ _ are
    (λ texts. ap (map _) (c.deref.ensures.value ∙ with_items_is c.in_ok-counts.counts _ (omega (arith, c.count_rows.ensures.size, c.in_ok-counts.ensures.len, c.count.ensures))) ∙ counts_cells _ _ _ c.count_rows.ensures.size c.count_rows.ensures.counted))
    c.column_of_counts.result c.column_of_counts.ensures
