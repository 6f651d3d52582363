use Rattle.{
  frame_parts.proofs.Common.{◌∙◌, sym, arith},
  frame_concat.proofs.{PartLaws.{levels_as}, BelowLaws.{frames_repeated}},
}
use Rattle.frame_concat.proofs.below.frames_below.Goals as goal

pub returns-in-Some : goal.returns-in-Some
returns-in-Some c =
    let refused =
    frames_repeated _ c.len.ensures.distinct c.args.parts.now c.requires.known c.args.asked.now (sym c.have_same_headings.ensures ∙ c.if-have_same_headings.false) c.in-Some.label
    (sym c.repeated_in_any.ensures ∙ c.in-Some.is) in
    rw c.of-label.ensures (grind (arith, levels_as, refused), refused.1)
