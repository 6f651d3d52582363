use Rattle.{
  frame_parts.proofs.Common.{arith, rules},
  frame_labels.proofs.LevelMoveLaws.{section_answer},
}
use Rattle.frame_labels.proofs.cross_section.section.Goals as goal

pub returns : goal.returns
returns c =
    section_answer _ c.len.ensures.distinct c.args.on.now c.args.label _ c.in_ok-rows.rows c.requires.label c.requires.known.given (grind arith) c.in_ok-rows_without_level.field-0 (λ e. omega arith) (search rules) c.in_ok-rows_without_level.ensures
