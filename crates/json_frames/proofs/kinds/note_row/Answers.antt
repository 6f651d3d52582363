use Rattle.{meaning_json.proofs.cells.Common.{◌≡◌, ◌∷◌, ◌++◌, [], Option, false, true, ap, sym, ◌∙◌, subst, append_assoc, Kind}, serde_json.{specs.{Data.{object}, View.{members_view}}, proofs.Views.{Entry}}, std.specs.{Map.{keys_of}, String.{string_cmp, string_bytes}, List.Sorted.{IsStrictlySortedBy}}, json_frames.{specs.Kinds.{clash, kind_under, IsNoted, HasClash}, proofs.RowLaws.{above_done, row_more, row_clash}}}
use Rattle.json_frames.proofs.kinds.note_row.Goals as goal

pub loop-key-preserved : goal.loop-key-preserved
loop-key-preserved c =
    let l = c.loop-key in
    let done = l.invariant.0 in
    let e : Entry = (c.in-Some.key.now, c.in-Some.value.now) in
    let left = c.next.new.self in
    let all : c.args.row.now.entries ≡ done ++ e ∷ left = l.invariant.1 ∙ ap (λ es. done ++ es) c.in-Some.ensures.steps in
    let above = above_done done e left (subst (λ es. IsStrictlySortedBy string_cmp (keys_of es)) all c.iter-key-items.ensures.ordered) in
    let kind : Option Kind = c.kind_of.result in
    let noted : IsNoted l.kinds (string_bytes e.0) kind c.note.new.kinds = subst (λ k. IsNoted l.kinds k kind c.note.new.kinds) c.as_str.ensures.value c.in_ok-note.ensures.noted in
    let fits : clash (kind_under l.kinds (string_bytes e.0)) kind ≡ false = ap (λ k. clash (kind_under l.kinds k) kind) (sym c.as_str.ensures.value) ∙ sym c.in_ok-note.ensures.clash ∙ c.if-branch.false in
    (done ++ e ∷ [], all ∙ sym (append_assoc done (e ∷ []) left), row_more done e kind above c.kind_of.ensures c.args.kinds.now l.kinds l.invariant.2 c.note.new.kinds noted fits)

pub returns-then-branch-clause-other : goal.returns-then-branch-clause-other
returns-then-branch-clause-other c =
    let l = c.loop-key in
    let done = l.invariant.0 in
    let e : Entry = (c.in-Some.key.now, c.in-Some.value.now) in
    let left = c.next.new.self in
    let all : c.args.row.now.entries ≡ done ++ e ∷ left = l.invariant.1 ∙ ap (λ es. done ++ es) c.in-Some.ensures.steps in
    let above = above_done done e left (subst (λ es. IsStrictlySortedBy string_cmp (keys_of es)) all c.iter-key-items.ensures.ordered) in
    let kind : Option Kind = c.kind_of.result in
    let differs : clash (kind_under l.kinds (string_bytes e.0)) kind ≡ true = ap (λ k. clash (kind_under l.kinds k) kind) (sym c.as_str.ensures.value) ∙ sym c.in_ok-note.ensures.clash ∙ c.if-branch.true in
    λ _. subst (λ es. HasClash c.args.kinds.now (object (members_view es))) (sym all) (row_clash done e kind above c.kind_of.ensures c.args.kinds.now l.kinds l.invariant.2 left differs)
