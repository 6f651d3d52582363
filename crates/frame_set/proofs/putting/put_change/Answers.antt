use Rattle.{
  frame_parts.proofs.Common.{arith, err_from_is_err_and, ◌≡◌, ◌∷◌, [], ap, AreGiven, Some, with_column, block_column},
  frame_set.{specs.Assigned.{table_column, with_places}, proofs.{PutCases.{put_refused}, PutLaws.{put_meant, put_settled}}},
}
use Rattle.frame_set.proofs.putting.put_change.Goals as goal

pub returns-in_err-place-clause-change : goal.returns-in_err-place-clause-change
returns-in_err-place-clause-change c =
    let p = err_from_is_err_and c.from_residual.result c.from_residual.ensures.1 in
    rw (p.1, p.2) (put_refused c.args.dict.now c.args.on.now c.args.label _ _ _ c.requires.known.whole c.rows.ensures c.in_err-place.ensures.answer)

pub returns-in-One-clause-change : goal.returns-in-One-clause-change
returns-in-One-clause-change c =
    let texts = c.args.dict.now in
    let t = c.args.on.now in
    let column : block_column c.into_block-block.result ≡ table_column c.args.column = grind arith in
    let given : AreGiven texts (block_column c.into_block-block.result).cells = grind arith in (
      put_meant texts t (c.in-One.place ∷ []) _ c.args.label c.args.column _ c.requires.known.whole c.rows.ensures (rw c.in-One.is at c.in_ok-place.ensures.answer) (ap (with_column t c.in-One.place (Some c.args.label)) column),
      put_settled texts t (c.in-One.place ∷ []) c.args.label (block_column c.into_block-block.result) c.requires.known.given c.requires.label given,
    )

pub returns-in-Several-clause-change : goal.returns-in-Several-clause-change
returns-in-Several-clause-change c =
    let texts = c.args.dict.now in
    let t = c.args.on.now in
    let column : block_column c.into_block-block.result ≡ table_column c.args.column = grind arith in
    let given : AreGiven texts (block_column c.into_block-block.result).cells = grind arith in (
      put_meant texts t c.in-Several.places _ c.args.label c.args.column _ c.requires.known.whole c.rows.ensures (rw c.in-Several.is at c.in_ok-place.ensures.answer) (ap (with_places t c.in-Several.places c.args.label) column),
      put_settled texts t c.in-Several.places c.args.label (block_column c.into_block-block.result) c.requires.known.given c.requires.label given,
    )
