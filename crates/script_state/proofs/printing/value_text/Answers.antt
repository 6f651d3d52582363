use Rattle.{
  frame_calls.proofs.frame_parts.Common.{arith, sym, ◌∙◌, tables},
  script_state.proofs.Printed.{object_text},
}
use Rattle.script_state.proofs.printing.value_text.Goals as goal

pub returns-in-Series : goal.returns-in-Series
returns-in-Series c =
    let e = c.read-table.ensures in
    let meant = object_text c.args.dict.now (tables c.args.store.now) _ _ _ _ c.in-Object.is e.table e.whole e.levels (sym c.in-Series.is ∙ c.shape.ensures) in
    grind arith

pub returns-in-Frame : goal.returns-in-Frame
returns-in-Frame c =
    let e = c.read-table.ensures in
    let meant = object_text c.args.dict.now (tables c.args.store.now) _ _ _ _ c.in-Object.is e.table e.whole e.levels (sym c.in-Frame.is ∙ c.shape.ensures) in
    grind arith
