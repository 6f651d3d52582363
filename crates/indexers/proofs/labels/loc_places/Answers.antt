use Rattle.{index_core.{specs.{Labels.{same_number}, pick.{Leading.{leads}}}, proofs.pick.{InsideLaws.{keys_inside}, KeyLaws.{picked_inside}, PositionLaws.{spaced_inside}}}, indexers.proofs.AnswerLaws.{picks_inside}}
use Rattle.indexers.proofs.labels.loc_places.Goals as goal

pub returns-in-All-clause-inside : goal.returns-in-All-clause-inside
returns-in-All-clause-inside c = picks_inside _ _ _ c.all_rows.ensures.picked (search picked_inside)

pub returns-in-One-clause-inside : goal.returns-in-One-clause-inside
returns-in-One-clause-inside c = picks_inside _ _ _ c.rows_of_key.ensures.picked (search picked_inside)

pub returns-in_ok-places-in-Many-clause-inside : goal.returns-in_ok-places-in-Many-clause-inside
returns-in_ok-places-in-Many-clause-inside c = rw c.listed.ensures (keys_inside (leads same_number) _ _ _ c.in_ok-places-in-Many.ensures)

pub returns-in_ok-spanned-in-Span-clause-inside : goal.returns-in_ok-spanned-in-Span-clause-inside
returns-in_ok-spanned-in-Span-clause-inside c = rw c.in_ok-spanned-in-Span.ensures (spaced_inside _ _ c.in_ok-rows-in-Span.ensures.below)
