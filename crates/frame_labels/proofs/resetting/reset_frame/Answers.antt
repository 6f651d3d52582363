use Rattle.{
  frame_parts.proofs.Common.{arith, ◌∙◌, ap, take, drop, rules},
  frame_labels.proofs.ResetLaws.{parts_whole, parts_made},
}
use Rattle.frame_labels.proofs.resetting.reset_frame.Goals as goal

pub returns-clause-answer : goal.returns-clause-answer
returns-clause-answer c =
    let new = c.split_at.ensures.front ∙ ap (λ n. take n c.args.labels.now) c.len-2.ensures in
    let own = c.split_at.ensures.back ∙ ap (λ n. drop n c.args.labels.now) c.len-2.ensures in (
      record {
        single = c.requires.columns.single;
        whole = rw (c.in_ok-axis.ensures, c.in_ok-headings.ensures, c.columns_name.ensures) (parts_whole _ c.args.on.now _ _ _ c.requires.known.whole c.requires.columns c.requires.count c.rows-2.ensures c.requires.some);
      },
      parts_made _ _ _ _ _ _ c.requires.given new own c.len.ensures.distinct c.in_ok-expect_unshared.ensures.none c.requires.count _ _ c.requires.known.given c.requires.columns (search rules) c.rows-2.ensures
          (grind arith),
    )
