use Rattle.{
  meaning_format.{proofs.cells.Common.{arith, ◌≡◌}, specs.Print.{levels_width}},
  frame_format.proofs.FieldLaws.{length_measured},
}
use Rattle.frame_format.proofs.frame.frame_layout.Goals as goal

pub returns : goal.returns
returns g c =
    let t = c.args.source.now in
    let side : c.in_ok-side_by_side.side_by_side ≡ levels_width t = grind (arith, length_measured) in
    grind arith
