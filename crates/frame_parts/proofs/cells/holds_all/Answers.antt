use Rattle.frame_parts.proofs.{Common.{◌≡◌, true, false, arith, rules, holds}, CellLaws.{test_passed, test_failed, tests_done}}
use Rattle.frame_parts.proofs.cells.holds_all.Goals as goal

pub returns-then-not-holds : goal.returns-then-not-holds
returns-then-not-holds g c = λ texts.
    let other : c.holds.result ≡ false = search rules in
    test_failed (holds c.args.kind) texts (g.C.CellList.cells _) c.loop-place.place _ _ _ c.cell.ensures (c.holds.ensures texts) other (c.loop-place.invariant texts)

pub loop-place-preserved : goal.loop-place-preserved
loop-place-preserved g c = λ texts.
    let is_so : c.holds.result ≡ true = search rules in
    test_passed (holds c.args.kind) texts (g.C.CellList.cells _) c.loop-place.place _ _ _ c.cell.ensures (c.holds.ensures texts) is_so (c.loop-place.invariant texts)

pub returns : goal.returns
returns g c = λ texts. tests_done (holds c.args.kind) texts (g.C.CellList.cells _) c.loop-place.place _ (omega arith) (c.loop-place.invariant texts)
