use Rattle.{
  meaning_pick.proofs.cells.Common.{arith, ◌^◌, ◌<◌, ◌∙◌, ap, sym, w64},
  index_core.{proofs.RangeLaws.{length-range_labels, label_of_range}, specs.Views.{kept_labels}},
  std.proofs.lemmas.Int.{to_z_pos},
}
use Rattle.index_core.proofs.index.Index.label.Goals as goal

place_has_64_bits : (c : goal.In-Below) → c.args.place < 2 ^ 63
place_has_64_bits = grind (arith, length-range_labels)

pub overflow_cast-result : goal.overflow_cast-result
overflow_cast-result = search place_has_64_bits

pub returns-in-Below : goal.returns-in-Below
returns-in-Below c = cc (label_of_range _ _ _ (ap kept_labels (sym c.in-Below.is) ∙ c.self.view_is) c.requires, to_z_pos w64 c.args.place (place_has_64_bits c))
