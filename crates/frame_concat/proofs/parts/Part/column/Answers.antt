use Rattle.{
  frame_parts.proofs.Common.{◌∙◌, ap, sym, Some},
  frame_concat.proofs.PartLaws.{column_told, column_there, no_column_there, place_inside},
}
use Rattle.frame_concat.proofs.parts.Part.column.Goals as goal

pub returns-in-Some-clause-column : goal.returns-in-Some-clause-column
returns-in-Some-clause-column c =
    sym (ap (λ x. Some x) c.column-in-Some.ensures.column) ∙ column_told _ _ _ _ _ _ c.in-Under.is c.self.view_is c.self.invariant.1 c.in-Some.ensures.value

pub returns-in-None-clause-column : goal.returns-in-None-clause-column
returns-in-None-clause-column c = column_told _ _ _ _ _ _ c.in-Under.is c.self.view_is c.self.invariant.1 c.in-None.ensures.value

pub column-requires-in-Some : goal.column-requires-in-Some
column-requires-in-Some c = place_inside _ _ _ _ _ c.self.invariant.1 c.self.invariant.3 c.in-Some.ensures.value

pub returns-then-place-columns-clause-column : goal.returns-then-place-columns-clause-column
returns-then-place-columns-clause-column c = column_there _ _ _ _ _ c.in-At.is c.self.view_is c.columns.ensures _ c.if-place-columns.true c.column.ensures.column

pub returns-else-place-columns-clause-column : goal.returns-else-place-columns-clause-column
returns-else-place-columns-clause-column c = no_column_there _ _ _ _ _ c.in-At.is c.self.view_is c.columns.ensures c.if-place-columns.false
