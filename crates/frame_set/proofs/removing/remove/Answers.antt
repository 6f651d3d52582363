use Rattle.{
  frame_parts.proofs.Common.{◌≡◌, rules, arith, err_from_is_err_and, Frame, entry_of, free, tables, headings_part, object_settled, IsKnownTable, IsSettled, label_datum},
  frame_store.specs.tables.Change.{without_column},
  frame_select.specs.select.Set.{removal_result},
  frame_set.{specs.Places.{columns_taken}, proofs.{RemoveLaws.{one_alone, one_removed, removal_set, several_removed}, SetLaws.{entry_label_settled, set_left}}},
}
use Rattle.frame_set.proofs.removing.remove.Goals as goal

pub label_columns-requires-clause-settled : goal.label_columns-requires-clause-settled
label_columns-requires-clause-settled c =
    headings_part _ c.read-source.result (search object_settled)

pub label_columns-requires-clause-label : goal.label_columns-requires-clause-label
label_columns-requires-clause-label c =
    search entry_label_settled

pub other_columns-requires-clause-known : goal.other_columns-requires-clause-known
other_columns-requires-clause-known c = record { whole = c.read-source.ensures.whole; given = search object_settled }

pub other_columns-requires-clause-label : goal.other_columns-requires-clause-label
other_columns-requires-clause-label c =
    search entry_label_settled

pub returns-in_err-remove_column : goal.returns-in_err-remove_column
returns-in_err-remove_column c =
    let live = tables c.args.store.now in
    let p = err_from_is_err_and c.from_residual-in_err-remove_column.result c.from_residual-in_err-remove_column.ensures.1 in
    let refused = c.in_err-remove_column.ensures in
    rw (p.1, p.2) (set_left _ _ _ _ _ free c.args.on (removal_result (entry_of live c.args.dict.now c.args.on) (entry_of live c.args.dict.now c.args.label)) c.requires.settled refused.err refused.held refused.blocks)

pub returns-in_err-replace_by_columns : goal.returns-in_err-replace_by_columns
returns-in_err-replace_by_columns c =
    let live = tables c.args.store.now in
    let p = err_from_is_err_and c.from_residual-in_err-replace_by_columns.result c.from_residual-in_err-replace_by_columns.ensures.1 in
    let refused = c.in_err-replace_by_columns.ensures in
    rw (p.1, p.2) (set_left _ _ _ _ _ free c.args.on (removal_result (entry_of live c.args.dict.now c.args.on) (entry_of live c.args.dict.now c.args.label)) c.requires.settled refused.err refused.held refused.blocks)

pub returns-then-columns : goal.returns-then-columns
returns-then-columns c =
    let texts = c.args.dict.now in
    let t = c.read-source.result in
    let known : IsKnownTable texts t = record { whole = c.read-source.ensures.whole; given = search object_settled } in
    let frame : t.shape ≡ Frame = search rules in
    let done = c.in_ok-remove_column.ensures in
    let picked = c.in_ok-columns.ensures in
    let one = one_alone c.in_ok-columns.columns.places c.at.result.now (picked.within.one c.if-columns.true) c.at.ensures in
    let made = one_removed texts t c.from-label.result c.in_ok-columns.columns picked.answer c.at.result.now known.whole known.given ((rw one at picked.within.below) 0 0 (omega arith)) one in
    removal_set texts _ _ _ _ _ _ c.in-Object-Scalar.id c.in-Object-Scalar.cell t (λ u. without_column u c.at.result.now) c.from-label.result
    c.in-Object-Scalar.is-0 c.in-Object-Scalar.is-1 c.read-source.ensures.table frame (c.from-label.ensures.1 _) c.requires.settled made.0 made.1 done.ok done.held done.blocks

pub returns : goal.returns
returns c =
    let texts = c.args.dict.now in
    let t = c.read-source.result in
    let known : IsKnownTable texts t = record { whole = c.read-source.ensures.whole; given = search object_settled } in
    let frame : t.shape ≡ Frame = search rules in
    let done = c.in_ok-replace_by_columns.ensures in
    let named : IsSettled label_datum texts c.from-label.result = search entry_label_settled in
    let made = several_removed texts t c.from-label.result c.in_ok-columns.columns c.in_ok-columns.ensures.answer c.in_ok-others.others known.whole frame known.given named c.in_ok-others.ensures.others in
    removal_set texts _ _ _ _ _ _ c.in-Object-Scalar.id c.in-Object-Scalar.cell t (λ u. columns_taken u c.in_ok-others.others) c.from-label.result
    c.in-Object-Scalar.is-0 c.in-Object-Scalar.is-1 c.read-source.ensures.table frame (c.from-label.ensures.1 _) c.requires.settled made.0 made.1 done.ok done.held done.blocks
