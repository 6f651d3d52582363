use Rattle.{meaning_json.proofs.cells.Common.{◌∷◌, ◌++◌, [], ap, sym, ◌∙◌, subst, append_assoc}, serde_json.specs.{View.{view}}, csv_frames.proofs.SettledLaws.{after, first_of}, json_frames.{specs.{Views.{values_seen}, Kinds.{HasMixed}}, proofs.RowLaws.{of_more, has_mixed}}}
use Rattle.json_frames.proofs.kinds.kinds_of.Goals as goal

pub loop-rest-preserved : goal.loop-rest-preserved
loop-rest-preserved c =
    let l = c.loop-rest in
    let done = l.invariant.0 in
    let x = c.row-item.result in
    let front = first_of l.rest.now x c.row-item.is c.in-len1-up.len_at_least in (
      done ++ view x ∷ [],
      l.invariant.1 ∙ ap (λ r. done ++ values_seen r) front ∙ sym (append_assoc done (view x ∷ []) (values_seen (after l.rest.now))),
      of_more done (view x) l.kinds c.note_value.new.kinds l.invariant.2 (c.in_ok-note_value.ensures.same c.if-branch.false),
    )

pub returns-then-branch : goal.returns-then-branch
returns-then-branch c =
    let l = c.loop-rest in
    let done = l.invariant.0 in
    let x = c.row-item.result in
    let front = first_of l.rest.now x c.row-item.is c.in-len1-up.len_at_least in
    subst HasMixed (sym (l.invariant.1 ∙ ap (λ r. done ++ values_seen r) front)) (has_mixed done (view x) (values_seen (after l.rest.now)) l.kinds l.invariant.2 (c.in_ok-note_value.ensures.other c.if-branch.true))
