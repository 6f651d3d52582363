use Rattle.{
  frame_parts.proofs.Common.{◌∙◌},
  frame_labels.proofs.KeyLaws.{keys_are},
  frame_merge.proofs.RowLaws.{joins_meet, joins_inside},
}
use Rattle.frame_merge.proofs.rows.rows_met.Goals as goal

pub returns : goal.returns
returns c =
    let l = c.args.l.now in
    let r = c.args.r.now in
    let lefts = keys_are l _ _ (cc (c.of-left.ensures.columns, c.deref-of_left.ensures.value, c.in_ok-lefts.ensures.columns)) _ (c.of-left.ensures.count ∙ c.rows.ensures) in
    let rights = keys_are r _ _ (cc (c.of-right.ensures.columns, c.deref-of_right.ensures.value, c.in_ok-rights.ensures.columns)) _ (c.of-right.ensures.count ∙ c.rows-2.ensures) in
    record {
      rows = rw c.met.ensures (joins_meet _ c.len.ensures.distinct l r c.requires.left.given c.requires.right.given _ _ _ _ _ lefts rights _ _ c.join_rows.ensures.pairs);
      inside = rw c.met.ensures (joins_inside l r _ _ _ _ lefts rights _ c.join_rows.ensures.law);
    }
