use Rattle.{
  frame_parts.proofs.Common.{refl, subst, err_from_is_err_and, tables, world},
  meaning_call.specs.declared.ReshapeMethod.TheVariants.{Stack, Unstack, Pivot, PivotTable, Melt},
  frame_labels.proofs.{AnswerLaws.{known_table}, LevelMoveLaws.{option_given}},
  frame_reshape.{specs.Calls.{IsReshapeCall}, proofs.CallLaws.{of_stack, of_unstack, of_pivot, of_pivot_table, of_melt, shape_fits, name_listed, pivot_answered, table_refused, table_answered}},
}
use Rattle.frame_reshape.proofs.calling.reshaped.Goals as goal

pub stack-requires-clause-known : goal.stack-requires-clause-known
stack-requires-clause-known c = known_table (world c.args.store.now c.args.dict.now) _ _ c.read-source.ensures.table c.read-source.ensures.whole c.requires.settled

pub stack-requires-clause-shape : goal.stack-requires-clause-shape
stack-requires-clause-shape c =
    of_stack _ (shape_fits (world c.args.store.now c.args.dict.now) c.args.bound.now c.args.on _ c.read-source.ensures.table _ Stack c.requires.shape c.in-Stack.is)

pub unstack-requires-clause-known : goal.unstack-requires-clause-known
unstack-requires-clause-known c = known_table (world c.args.store.now c.args.dict.now) _ _ c.read-source.ensures.table c.read-source.ensures.whole c.requires.settled

pub unstack-requires-clause-shape : goal.unstack-requires-clause-shape
unstack-requires-clause-shape c =
    of_unstack _ (shape_fits (world c.args.store.now c.args.dict.now) c.args.bound.now c.args.on _ c.read-source.ensures.table _ Unstack c.requires.shape c.in-Unstack.is)

pub pivot-requires-clause-known : goal.pivot-requires-clause-known
pivot-requires-clause-known c = known_table (world c.args.store.now c.args.dict.now) _ _ c.read-source.ensures.table c.read-source.ensures.whole c.requires.settled

pub pivot-requires-clause-shape : goal.pivot-requires-clause-shape
pivot-requires-clause-shape c =
    of_pivot _ (shape_fits (world c.args.store.now c.args.dict.now) c.args.bound.now c.args.on _ c.read-source.ensures.table _ Pivot c.requires.shape c.in-Pivot.is)

pub pivot_table-requires-clause-known : goal.pivot_table-requires-clause-known
pivot_table-requires-clause-known c = known_table (world c.args.store.now c.args.dict.now) _ _ c.read-source.ensures.table c.read-source.ensures.whole c.requires.settled

pub pivot_table-requires-clause-shape : goal.pivot_table-requires-clause-shape
pivot_table-requires-clause-shape c =
    of_pivot_table _ (shape_fits (world c.args.store.now c.args.dict.now) c.args.bound.now c.args.on _ c.read-source.ensures.table _ PivotTable c.requires.shape c.in-PivotTable.is)

pub melt-requires-clause-known : goal.melt-requires-clause-known
melt-requires-clause-known c = known_table (world c.args.store.now c.args.dict.now) _ _ c.read-source.ensures.table c.read-source.ensures.whole c.requires.settled

pub melt-requires-clause-shape : goal.melt-requires-clause-shape
melt-requires-clause-shape c =
    of_melt _ (shape_fits (world c.args.store.now c.args.dict.now) c.args.bound.now c.args.on _ c.read-source.ensures.table _ Melt c.requires.shape c.in-Melt.is)

pub unstack-requires-clause-given : goal.unstack-requires-clause-given
unstack-requires-clause-given c = option_given c.args.bound.now 0 _ (tables c.args.store.now) c.args.dict.now c.scalar_or_none-level.ensures c.requires.call.given

pub reduction_named-op-requires : goal.reduction_named-op-requires
reduction_named-op-requires c =
    let w = world c.args.store.now c.args.dict.now in
    name_listed w c.args.bound.now _ (subst (λ m. IsReshapeCall w m c.args.bound.now) c.in-PivotTable.is c.requires.call) (c.text.ensures (tables c.args.store.now))

pub returns-in_err-told-in-PivotTable-clause-answer : goal.returns-in_err-told-in-PivotTable-clause-answer
returns-in_err-told-in-PivotTable-clause-answer c =
    let w = world c.args.store.now c.args.dict.now in
    let p = err_from_is_err_and c.from_residual-in_err-told-in-PivotTable.result c.from_residual-in_err-told-in-PivotTable.ensures.1 in
    rw (p.1, p.2, c.in-PivotTable.is)
    (table_refused w c.args.bound.now c.args.on _ c.read-source.ensures.table (subst (λ m. IsReshapeCall w m c.args.bound.now) c.in-PivotTable.is c.requires.call) _ _ refl c.in_err-told-in-PivotTable.ensures.answer)

pub returns-in_ok-told-in-Pivot-clause-answer : goal.returns-in_ok-told-in-Pivot-clause-answer
returns-in_ok-told-in-Pivot-clause-answer c =
    let w = world c.args.store.now c.args.dict.now in
    rw c.in-Pivot.is
    (pivot_answered w c.args.bound.now c.args.on _ c.read-source.ensures.table (subst (λ m. IsReshapeCall w m c.args.bound.now) c.in-Pivot.is c.requires.call) _ c.in_ok-told-in-Pivot.ensures.answer _ _ c.pivot.ensures)

pub returns-in_ok-told-in-PivotTable-clause-answer : goal.returns-in_ok-told-in-PivotTable-clause-answer
returns-in_ok-told-in-PivotTable-clause-answer c =
    let w = world c.args.store.now c.args.dict.now in
    rw c.in-PivotTable.is
    (table_answered w c.args.bound.now c.args.on _ c.read-source.ensures.table (subst (λ m. IsReshapeCall w m c.args.bound.now) c.in-PivotTable.is c.requires.call) _ c.in_ok-told-in-PivotTable.ensures.answer _ _ (c.text.ensures (tables c.args.store.now)) c.reduction_named-op.ensures _ _ c.pivot_table.ensures)
