use mir.Val.{bool_byte}
use Rattle.{
  column_core.proofs.cells.Common.{int_eq_equiv, ◌≡◌, ◌∙◌, Bool, cond, arith},
  nullable_array.proofs.{DistinctLaws.{each_value_once}, PlaceLaws.{marked_step, one_at_most}},
}
use Rattle.nullable_array.proofs.distinct_cells.count_marked.Goals as goal

byte : (b : Bool) → bool_byte b ≡ cond b 1 0
byte = grind arith

pub loop-row-preserved : goal.loop-row-preserved
loop-row-preserved g c =
    let so_far = c.loop-row.invariant in
    let row = g.A.Source.row_of _ in
    let one = c.from-count.ensures ∙ byte _ in
    let step = marked_step _ _ _ row _ _ _ _ _ c.in_ok-added.ensures c.get.ensures so_far.marked so_far.count one in
    search one_at_most

pub returns : goal.returns
returns g c = grind (arith, each_value_once, int_eq_equiv)
