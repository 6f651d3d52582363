use Rattle.{
  column_core.proofs.cells.Common.{◌<◌, ◌≤◌, ◌∙◌, sym, refl, arith, length},
  reshape.{specs.Slots.{slots_of}, proofs.SpreadLaws.{slots_counted, slot_at, slot_placed, still_placed, cells_placed}},
}
use Rattle.reshape.proofs.slots.place_rows.Goals as goal

pub loop-row-preserved : goal.loop-row-preserved
loop-row-preserved c =
    let slots = slots_of c.args.keys.now c.args.labels.now in
    let inside : c.loop-row.row < length slots = grind (arith, slots_counted) in
    let at = c.slot_of_row-slot.ensures.slot ∙ sym (slot_at c.args.keys.now c.args.labels.now c.loop-row.row (grind arith) c.requires.alike) in
    let size = still_placed c.loop-row.places c.place_row.new.places c.slot_of_row-slot.result c.loop-row.row _ refl c.place_row.ensures in
    λ slot lt. slot_placed slots c.loop-row.row _ inside c.loop-row.places c.loop-row.invariant refl c.slot_of_row-slot.result at c.place_row.new.places c.place_row.ensures slot (rw size at lt)

pub returns : goal.returns
returns c =
    let all : length (slots_of c.args.keys.now c.args.labels.now) ≤ c.loop-row.row = grind (arith, slots_counted) in
    rw (← c.loop-row.auto.places) (cells_placed (slots_of c.args.keys.now c.args.labels.now) c.loop-row.places c.loop-row.row _ all refl c.loop-row.invariant)
