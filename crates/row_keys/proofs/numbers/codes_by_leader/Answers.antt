use Rattle.{
  multi_index.proofs.cells.Common.{nat_eq, ◌<◌, ◌+◌, length, take, arith, get_or_read, nat_tests},
  row_keys.proofs.{DistinctLaws.{led_more, code_inside}, RecodeLaws.{AreNumbers}, numbers.codes_by_leader.Goals.{then-leader-row+in_ok-push+in_ok-push-2, else-leader-row+in_ok-push-3}},
}
use Rattle.row_keys.proofs.numbers.codes_by_leader.Goals as goal

pub loop-row-preserved : goal.loop-row-preserved
loop-row-preserved c =
    let leaders = c.args.leaders.now in
    let row = c.loop-row.row in
    let lt : row < length leaders = omega arith in
    elim c.if-leader-row.branch as (λ b. AreNumbers nat_eq (take (row + 1) leaders) c.if-leader-row.codes.items c.if-leader-row.firsts.items) [
      | then-leader-row+in_ok-push+in_ok-push-2 w ↦ led_more _ c.requires _ _ _ lt c.loop-row.invariant _ _ w.len.result (grind (arith, nat_tests)) (grind arith) (grind (arith, nat_tests))
      | else-leader-row+in_ok-push-3 w ↦
          let inside = code_inside leaders c.requires row c.loop-row.codes.items c.loop-row.firsts.items lt c.loop-row.invariant w.if-leader-row.false in
          led_more _ c.requires _ _ _ lt c.loop-row.invariant _ _ w.index-code.result.now (grind (arith, nat_tests, get_or_read)) (grind arith) (grind (arith, nat_tests))
    ]
