use Rattle.{
  frame_parts.proofs.Common.{err_from_is_err_and},
  frame_make.proofs.FrameLaws.{columns_refused, rows_refused, frame_made, frame_whole},
}
use Rattle.frame_make.proofs.frames.frame_of.Goals as goal

pub returns-in_err-columns : goal.returns-in_err-columns
returns-in_err-columns c =
    let p = err_from_is_err_and c.from_residual-in_err-columns.result c.from_residual-in_err-columns.ensures.1 in
    rw (p.1, p.2) (columns_refused _ _ _ _ c.in_ok-places.ensures _ (c.in_err-columns.ensures.columns _))

pub returns-in_err-axis : goal.returns-in_err-axis
returns-in_err-axis c =
    let p = err_from_is_err_and c.from_residual-in_err-axis.result c.from_residual-in_err-axis.ensures.1 in
    rw (p.1, p.2) (rows_refused _ _ _ _ c.in_ok-places.ensures _ c.in_ok-columns.ensures.columns _ (c.in_err-axis.ensures.labels _))

pub new-requires-clause-whole : goal.new-requires-clause-whole
new-requires-clause-whole c = frame_whole _ _ _ _ c.in_ok-places.ensures _ c.in_ok-columns.ensures.columns _ c.in_ok-axis.ensures _ c.in_ok-headings.ensures

pub returns : goal.returns
returns c = frame_made _ _ _ _ c.in_ok-places.ensures _ c.in_ok-columns.ensures.columns _ c.in_ok-axis.ensures _ c.in_ok-headings.ensures _ c.new.ensures c.requires.values c.requires.index
