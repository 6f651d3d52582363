use Rattle.{
  frame_parts.proofs.Common.{◌≡◌, ◌<◌, length, arith, HaveLevels, headings_part},
  frame_select.proofs.PlaceLaws.{heading_settled},
  frame_ops.proofs.HeadingLaws.{other_levels, one_more_heading},
}
use Rattle.frame_ops.proofs.headings.are_headings.Goals as goal

pub returns-then-levels-ne1 : goal.returns-then-levels-ne1
returns-then-levels-ne1 c =
    let alike : HaveLevels c.levels.result c.args.series.now.labels = grind arith in
    let same : length c.args.series.now.labels ≡ length c.args.frame.now.headings = omega arith in
    search other_levels

pub same_heading-requires-clause-b : goal.same_heading-requires-clause-b
same_heading-requires-clause-b c = search (heading_settled, headings_part)

pub loop-place-preserved : goal.loop-place-preserved
loop-place-preserved c =
    let lt : c.loop-place.place < length c.args.series.now.labels = omega arith in
    let lt' : c.loop-place.place < length c.args.frame.now.headings = omega arith in
    let one : c.levels.result ≡ 1 = omega arith in
    let alike : HaveLevels c.levels.result c.args.series.now.labels = grind arith in
    grind (arith, one_more_heading)
