use Rattle.frame_labels.proofs.LevelMoveLaws.{section_whole}
use Rattle.frame_labels.proofs.cross_section.rows_without_level.Goals as goal

pub new-requires-clause-whole : goal.new-requires-clause-whole
new-requires-clause-whole c =
    let t = c.args.on.now in
    rw (c.shape.ensures, c.in_ok-axis.ensures, c.in_ok-taken.ensures, c.axis.ensures, c.in_ok-headings.ensures, c.in_ok-blocks.ensures.columns, c.in_ok-columns.ensures, c.columns.ensures) (section_whole t _ _ c.requires.whole)
