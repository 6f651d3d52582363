use Rattle.meaning_json.proofs.cells.Common.{◌≡◌, ℕ, Bool, cond, List, take, ◌-◌, length, ap, sym, ◌∙◌, arith, Option, Some, list_any, same_text, with_text, Text}
use Rattle.json_frames.proofs.LabelLaws.{found_before, last_split}
use Rattle.json_frames.proofs.labels.first_repeated.Goals as goal
use Rattle.json_frames.proofs.labels.first_repeated.Goals.{then-branch, else-branch}

pub loop-rest-preserved : goal.loop-rest-preserved
loop-rest-preserved c =
    let rest = c.loop-rest.rest.now in
    let later : List Text = c.loop-rest.later in
    let found : Option ℕ = c.loop-rest.found in
    let n : ℕ = length (take (length rest - 1) rest) in
    let had : Bool = c.in_ok-has_or_adds.field-0 in
    let kept : c.if-branch.found ≡ cond had (Some n) found =
    elim c.if-branch.branch [
      | then-branch w ↦ (let s : c.if-branch.found ≡ Some n = cc in s ∙ ap (λ b. cond b (Some n) found) (sym w.if-branch.true))
      | else-branch w ↦ w.found-is ∙ ap (λ b. cond b (Some n) found) (sym w.if-branch.false)
    ] in
    found_before _ _ rest c.text-item.result later _ found _ had
    (last_split rest c.text-item.result (omega (arith, c.in-len1-up.len_at_least)) c.text-item.is) c.loop-rest.invariant
    (c.in_ok-has_or_adds.ensures.before ∙ ap (λ t. list_any (same_text t) later) c.as_str.ensures.value)
    (c.in_ok-has_or_adds.ensures.texts ∙ ap (with_text later) c.as_str.ensures.value)
    kept
