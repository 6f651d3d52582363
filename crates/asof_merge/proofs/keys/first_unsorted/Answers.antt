use Rattle.{column_core.proofs.cells.Common.{◌≡◌, ◌<◌, sym, subst, arith, tabulate}, asof_merge.{specs.Keys.{AreInOrder}, proofs.KeyLaws.{broken_here, next_before, in_order_more, all_sorted}}}
use Rattle.asof_merge.proofs.keys.first_unsorted.Goals as goal

pub loop-row-preserved : goal.loop-row-preserved
loop-row-preserved g c =
    let count = g.S.Source.count_of c.args.rows.now in
    let row_of = g.S.Source.row_of c.args.rows.now in
    let lt : c.loop-row.row < count = omega (arith, c.count-row-end.ensures, c.loop-row-test.true) in
    record {
      before = next_before count row_of c.loop-row.row c.get-key.result lt c.get-key.ensures;
      in_order = in_order_more count row_of c.loop-row.row c.loop-row.before c.get-key.result lt c.loop-row.invariant.before c.get-key.ensures _ c.breaks_order.ensures c.if-breaks_order.false c.loop-row.invariant.in_order;
    }

pub returns-then-breaks_order-clause-first : goal.returns-then-breaks_order-clause-first
returns-then-breaks_order-clause-first g c =
    let count = g.S.Source.count_of c.args.rows.now in
    let row_of = g.S.Source.row_of c.args.rows.now in
    let lt : c.loop-row.row < count = omega (arith, c.count-row-end.ensures, c.loop-row-test.true) in
    sym (broken_here count row_of c.loop-row.row c.loop-row.before c.get-key.result lt c.loop-row.invariant.before c.get-key.ensures _ c.breaks_order.ensures c.if-breaks_order.true c.loop-row.invariant.in_order)

pub returns-clause-first : goal.returns-clause-first
returns-clause-first g c =
    let count = g.S.Source.count_of c.args.rows.now in
    let row_of = g.S.Source.row_of c.args.rows.now in
    let all : c.loop-row.row ≡ count = omega (arith, c.count-row-end.ensures, c.loop-row-test.false, c.loop-row.auto.row-end) in
    sym (all_sorted count row_of (subst (AreInOrder (tabulate count row_of)) all c.loop-row.invariant.in_order))
