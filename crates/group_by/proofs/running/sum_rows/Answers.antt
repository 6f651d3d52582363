use Rattle.{
  column_core.proofs.cells.Common.{◌≡◌, ◌∙◌, ◌<◌, ◌+◌, ap, sym, arith, length, map, take, slice_index_or, ℕ, List, None, get_or-map, map-range_with_len_more, get_or_from_slice_get, Na, na_cell, datum, unless_missing},
  factorize.specs.group.{Rows.{cells_of_group}, Reductions.{of_group, group_cell, sum}},
  group_by.proofs.{RowLaws.{taken_in}, NumberLaws.{numbers_more, same_numbers, of_one_group}},
}
use Rattle.group_by.proofs.running.sum_rows.Goals as goal

pub loop-row-preserved : goal.loop-row-preserved
loop-row-preserved c =
    let codes = c.args.groups.now.codes in
    let row = c.loop-row.row in
    let cell = c.cell-cell.result in
    let values = λ (texts : List (List ℕ)). map (datum texts) c.args.a.now.cells in
    let inside : row < length codes = omega arith in
    let here : (texts : List (List ℕ)) → slice_index_or (values texts) row na_cell ≡ datum texts cell = λ texts. grind (arith, get_or-map (datum texts) c.args.a.now.cells row cell na_cell, get_or_from_slice_get) in
    let is : slice_index_or codes row None ≡ c.code-group.result = search get_or_from_slice_get in
    let sums : (texts : List (List ℕ)) (g : ℕ) → g < c.args.groups.now.count → datum texts (slice_index_or c.add_cell.new.sums g Na) ≡ group_cell sum (cells_of_group g (take (row + 1) codes) (values texts))
    = λ texts g below. taken_in _ _ inside _ sum _ _ _ _ _ is (here texts) (c.add_cell.ensures.takes texts) g (c.loop-row.invariant.sums texts g below) in
    record {
      size = grind arith;
      held = grind arith;
      sums = sums;
      made = numbers_more _ _ _ _ _ _
          c.loop-row.invariant.made c.sum_of.ensures.held
          (λ texts. c.sum_of.ensures.value texts
          ∙ of_one_group _ _ _ _ c.code-group.ensures.below
          (λ g below. λ i. unless_missing (sym (here texts) i) (sums texts g below i))
          ∙ ap (λ o. of_group o (λ g. unless_missing (slice_index_or (values texts) row na_cell) (group_cell sum (cells_of_group g (take (row + 1) codes) (values texts))))) (sym is))
          c.in_ok-push.ensures.ok
          (λ texts. map-range_with_len_more _ 0 _ _ (omega arith));
    }

pub returns : goal.returns
returns c = same_numbers _ _ _ c.loop-row.invariant.made (λ texts. grind arith)
