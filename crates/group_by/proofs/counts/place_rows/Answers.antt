use Rattle.{
  column_core.proofs.cells.Common.{◌≡◌, ◌∙◌, ◌<◌, ap, sym, arith, length, take, slice_index_or, None, map-range_with_len_more, get_or_from_slice_get},
  factorize.specs.group.{Rows.{rows_of_group}, Reductions.{count_cell, of_group}},
  group_by.proofs.NumberLaws.{room, rows_counted, no_numbers, numbers_more, same_numbers, of_one_group},
}
use Rattle.group_by.proofs.counts.place_rows.Goals as goal

pub loop-row-init : goal.loop-row-init
loop-row-init = grind (arith, no_numbers)

pub place_of-requires : goal.place_of-requires
place_of-requires = grind arith

pub push-requires : goal.push-requires
push-requires = grind arith

pub count_one-requires-clause-below : goal.count_one-requires-clause-below
count_one-requires-clause-below = grind arith

pub count_one-requires-clause-room : goal.count_one-requires-clause-room
count_one-requires-clause-room c = room c.args.groups.now.codes c.loop-row.row _ _ (omega arith) (grind arith) c.loop-row.invariant.size c.loop-row.invariant.each

pub loop-row-preserved : goal.loop-row-preserved
loop-row-preserved c =
    let codes = c.args.groups.now.codes in
    let row = c.loop-row.row in
    let code = c.code-group.result in
    let inside : row < length codes = omega arith in
    let is : slice_index_or codes row None ≡ code = search get_or_from_slice_get in
    record {
      size = search;
      each = search rows_counted;
      made = numbers_more _ _ _ _ _ _
          c.loop-row.invariant.made c.place_of.ensures.held
          (λ texts. c.place_of.ensures.value texts
          ∙ of_one_group _ _ _ _ c.code-group.ensures.below (λ g lt. ap count_cell (c.loop-row.invariant.each g lt))
          ∙ ap (λ o. of_group o (λ g. count_cell (length (rows_of_group g (take row codes))))) (sym is))
          c.in_ok-push.ensures.ok
          (λ texts. map-range_with_len_more _ 0 _ _ (omega arith));
    }

pub returns : goal.returns
returns c = same_numbers _ _ _ c.loop-row.invariant.made (λ texts. grind arith)
