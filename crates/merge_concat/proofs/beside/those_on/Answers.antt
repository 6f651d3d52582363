use Rattle.{
  column_core.proofs.cells.Common.{◌∙◌, ◌<◌, length, arith},
  merge_concat.proofs.{UnitedLaws.{one_kept, none_kept}, beside.those_on.Goals.{then-not-is_empty+in_ok-push, else-not-is_empty}},
}
use Rattle.merge_concat.proofs.beside.those_on.Goals as goal

pub loop-row-preserved : goal.loop-row-preserved
loop-row-preserved c =
    let lt : c.loop-row.row < length c.args.tuples.now = omega (arith, c.len-row-end.ensures, c.loop-row-test.true) in
    elim c.if-not-is_empty.branch [
      | then-not-is_empty+in_ok-push w ↦ one_kept _ _ _ _ _ lt c.in_ok-partners.ensures c.rows.ensures c.loop-row.kept _ _ c.loop-row.invariant (grind arith) w.at.ensures (grind arith)
      | else-not-is_empty w ↦ w.kept-is ∙ none_kept _ _ _ _ _ lt c.in_ok-partners.ensures c.rows.ensures c.loop-row.kept c.loop-row.invariant (grind arith)
    ]
