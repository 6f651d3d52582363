use Rattle.{
  column_core.proofs.cells.Common.{arith, to_z-of_z},
  std.proofs.lemmas.Int.{ints},
  index_core.proofs.pick.{KeyLaws.{placed_inside}, PositionLaws.{spaced_inside}},
  indexers.proofs.{AnswerLaws.{picks_inside}, SliceLaws.{span_picked}},
}
use Rattle.indexers.proofs.positions.iloc_places.Goals as goal

pub returns-in-Many-clause-inside : goal.returns-in-Many-clause-inside
returns-in-Many-clause-inside c = picks_inside _ _ _ c.rows_at.ensures.picked (search placed_inside)

pub returns-in_ok-spanned-in-Span-clause-inside : goal.returns-in_ok-spanned-in-Span-clause-inside
returns-in_ok-spanned-in-Span-clause-inside c = rw c.in_ok-spanned-in-Span.ensures (spaced_inside _ _ c.in_ok-rows-in-Span.ensures.below)

pub returns-in_ok-spanned-in-Span-clause-slice : goal.returns-in_ok-spanned-in-Span-clause-slice
returns-in_ok-spanned-in-Span-clause-slice c =
    rw c.in_ok-spanned-in-Span.ensures (span_picked _ _ c.in-Span.from c.in-Span.to c.in-Span.step _ _ (cc) (grind (arith, ints, to_z-of_z)) c.in_ok-rows-in-Span.ensures.rows)
