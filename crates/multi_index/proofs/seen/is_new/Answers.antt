use Rattle.{
  index_core.{proofs.cells.Common.{◌≡◌, ◌∙◌, ap, sym, true, false, arith, rules, take, list_any}, specs.Labels.{same_number}},
  cell_core.specs.declared.cell.Label.TheVariants.{Na},
  multi_index.proofs.SeenLaws.{none_so_far, seen_before, new_told},
}
use Rattle.multi_index.proofs.seen.is_new.Goals as goal

pub returns-then-eq-2 : goal.returns-then-eq-2
returns-then-eq-2 c =
    let same : same_number c.label.result c.label-label.result ≡ true = search rules in
    seen_before c.args.rows.now c.loop-before.before c.label-label.result c.label.result c.label.ensures c.args.row (omega arith) c.requires same c.label-label.ensures

pub loop-before-preserved : goal.loop-before-preserved
loop-before-preserved c =
    let other : same_number c.label.result c.label-label.result ≡ false = search rules in
    none_so_far c.args.rows.now c.loop-before.before c.label-label.result c.label.result c.label.ensures (omega (arith, c.requires)) other c.loop-before.invariant

pub returns : goal.returns
returns c =
    let other : same_number c.label-label.result Na ≡ false = search rules in
    let all : c.loop-before.before ≡ c.args.row = omega arith in
    new_told c.args.rows.now c.args.row c.label-label.result c.label-label.ensures other
    (ap (λ k. list_any (same_number c.label-label.result) (take k c.args.rows.now)) (sym all) ∙ c.loop-before.invariant)
