use Rattle.{
  frame_parts.proofs.Common.{length-map, arith, ◌≡◌, ◌∙◌, true, length, nat_eq, rules, within_limits},
  frame_methods.proofs.DuplicateLaws.{repeats_count, duplicated_made},
}
use Rattle.frame_methods.proofs.duplicates.duplicated.Goals as goal

pub series_table-requires : goal.series_table-requires
series_table-requires = grind (arith, length-map, nat_eq, repeats_count)

pub returns : goal.returns
returns c =
    let within : within_limits (length c.args.on.now.labels) 1 ≡ true = search rules in
    duplicated_made _ _ _ _ _ _ _ c.len.ensures.distinct c.requires.known c.requires.places
    c.in_ok-numbers.ensures c.in_ok-marks.ensures.kind (rw c.as_slice.ensures.value at c.in_ok-marks.ensures.cells) within (c.in_ok-axis.ensures ∙ c.axis.ensures) c.in_ok-series_table.ensures
