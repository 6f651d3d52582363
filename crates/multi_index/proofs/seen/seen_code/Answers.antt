use Rattle.{index_core.{proofs.{cells.Common.{◌≡◌, ◌<◌, ◌∙◌, ap, sym, true, false, length, arith, rules, Some, get_or_from_slice_get}, NumberLaws.{label_decides}}, specs.Labels.{same_number}}, cell_core.specs.declared.cell.Label.TheVariants.{Na}, multi_index.proofs.{SeenLaws.{new_at, count_new, count_old, other_new, seen_stays}, seen.seen_code.Goals.{then-is_new+else-eq, else-is_new}}}
use Rattle.multi_index.proofs.seen.seen_code.Goals as goal

pub returns-then-eq : goal.returns-then-eq
returns-then-eq c =
    let rows = c.args.rows.now in
    let row = c.loop-row.row in
    let same : same_number c.label.result c.args.label ≡ true = search rules in
    rw c.loop-row.invariant.counted
    (new_at rows row (omega arith) (sym c.is_new.ensures ∙ c.if-is_new.true) ∙ ap Some (get_or_from_slice_get rows row c.label.result Na c.label.ensures ∙ (label_decides c.label.result c.args.label).0 same))

pub loop-row-preserved : goal.loop-row-preserved
loop-row-preserved c =
    let rows = c.args.rows.now in
    let row = c.loop-row.row in
    let lt : row < length rows = omega arith in
    elim c.if-is_new.branch [
      | then-is_new+else-eq w ↦
          let new = sym c.is_new.ensures ∙ w.if-is_new.true in
          let other : same_number w.label.result c.args.label ≡ false = search rules in
          record {
            counted = count_new rows row lt _ _ new c.loop-row.invariant.counted w.count-is;
            few = omega (arith, w.count-is, c.loop-row.invariant.few);
            before = other_new rows row lt c.args.label w.label.result w.label.ensures new other c.loop-row.invariant.before;
          }
      | else-is_new w ↦
          let old = sym c.is_new.ensures ∙ w.if-is_new.false in
          record {
            counted = count_old rows row lt _ _ old c.loop-row.invariant.counted w.count-is;
            few = omega (arith, w.count-is, c.loop-row.invariant.few);
            before = rw (seen_stays rows row lt old) c.loop-row.invariant.before;
          }
    ]
