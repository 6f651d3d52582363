use Rattle.frame_parts.proofs.{Common.{◌≡◌, true, false, arith, rules, holds, take_all}, CellLaws.{test_passed, test_failed, one_pushed, column_done}}
use Rattle.frame_parts.proofs.cells.column_of_kind.Goals as goal

pub returns-then-not-holds-clause-answer : goal.returns-then-not-holds-clause-answer
returns-then-not-holds-clause-answer g c = λ texts.
    let other : c.holds.result ≡ false = search rules in
    let refused = test_failed (holds c.args.kind) texts (g.C.CellList.cells _) c.loop-place.place _ _ _ c.cell-cell.ensures (c.holds.ensures texts) other (c.loop-place.invariant.held texts) in
    grind arith

pub push-requires : goal.push-requires
push-requires g c = λ texts.
    let is_so : c.holds.result ≡ true = search rules in
    grind (arith, c.holds.ensures texts)

pub loop-place-preserved : goal.loop-place-preserved
loop-place-preserved g c =
    let is_so : c.holds.result ≡ true = search rules in
    record {
      made = one_pushed c.args.kind (g.C.CellList.cells _) c.loop-place.place _ _ _ c.cell-cell.ensures c.loop-place.invariant.made c.in_ok-push.ensures.ok;
      held = λ texts. test_passed (holds c.args.kind) texts (g.C.CellList.cells _) c.loop-place.place _ _ _ c.cell-cell.ensures (c.holds.ensures texts) is_so (c.loop-place.invariant.held texts);
    }

pub returns-clause-answer : goal.returns-clause-answer
returns-clause-answer g c = λ texts. column_done texts (g.C.CellList.cells _) c.loop-place.place _ c.args.kind (omega arith) c.loop-place.invariant.made (c.loop-place.invariant.held texts)

pub returns-clause-cells : goal.returns-clause-cells
returns-clause-cells = grind (arith, take_all)
