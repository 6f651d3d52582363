use Rattle.{
  column_core.proofs.cells.Common.{◌≡◌, ℤ, ap, sym, ◌∙◌, rules, to_z, of_z, w64},
  column_bench.{specs.Checks.{check_more}, proofs.CheckLaws.{check_below_more}},
}
use Rattle.column_bench.proofs.checks.check.Goals as goal

pub loop-row-preserved : goal.loop-row-preserved
loop-row-preserved c =
    let row = c.loop-row.row in
    let cells = c.as_ref-cells.result.cells in
    let exact : to_z w64 (of_z w64 c.more-so_far.result) ≡ c.more-so_far.result = search rules in
    exact
    ∙ c.more-so_far.ensures
    ∙ ap (λ (z : ℤ). check_more z row c.cell.result) c.loop-row.invariant
    ∙ sym (check_below_more cells row c.cell.result c.cell.ensures.cell)
