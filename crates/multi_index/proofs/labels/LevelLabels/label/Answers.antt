use Rattle.{
  index_core.proofs.{cells.Common.{arith, ◌≡◌, ◌^◌, ◌<◌, ◌∙◌, ap, sym, w64, slice_get-get_or}, RangeLaws.{length-range_labels, label_of_range}},
  std.proofs.lemmas.Int.{to_z_pos},
  multi_index.specs.Kept.{kept_labels},
}
use Rattle.multi_index.proofs.labels.LevelLabels.label.Goals as goal

code_has_64_bits : (c : goal.In-Below) → c.args.code < 2 ^ 63
code_has_64_bits = grind (arith, length-range_labels)

pub overflow_cast-result : goal.overflow_cast-result
overflow_cast-result = search code_has_64_bits

pub returns-in-Below : goal.returns-in-Below
returns-in-Below c = cc (label_of_range _ _ _ (ap kept_labels (sym c.in-Below.is) ∙ c.self.view_is) c.requires, to_z_pos w64 c.args.code (code_has_64_bits c))

pub returns-in-Listed : goal.returns-in-Listed
returns-in-Listed c =
    let seen : c.in-Listed.labels.keys ≡ c.args.self.now = ap kept_labels (sym c.in-Listed.is) ∙ c.self.view_is in
    rw (c.as_slice.ensures.keys, seen) (slice_get-get_or c.args.self.now c.args.code _ c.requires)
