use Rattle.{
  column_core.proofs.cells.Common.{◌∙◌, ap, arith, map, with_items_is},
  group_by.proofs.NumberLaws.{all_alike, same_numbers, counts_cells, if_ok_more},
  factorize.specs.group.Reductions.{count_cell},
}
use Rattle.group_by.proofs.distinct.distinct_counts.Goals as goal

pub count_distinct-requires-clause-zero : goal.count_distinct-requires-clause-zero
count_distinct-requires-clause-zero c = all_alike 0 c.count.result _ (grind arith)

pub returns : goal.returns
returns c =
    if_ok_more (λ column are. same_numbers _ _ _ are
    (λ texts. ap (map count_cell) (c.deref.ensures.value ∙ with_items_is c.in_ok-counts.counts c.count_distinct.new.counts (omega (arith, c.count_distinct.ensures.size, c.in_ok-counts.ensures.len, c.count.ensures))) ∙ counts_cells _ _ _ c.count_distinct.ensures.size c.in_ok-count_distinct.ensures.counted))
    c.column_of_counts.result c.column_of_counts.ensures
