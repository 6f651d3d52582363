use Rattle.{
  frame_parts.proofs.Common.{◌≡◌, ◌∙◌, ap, ℕ, list_any},
  frame_select.specs.{Headings.{same_heading}, Selected.{heading_of}},
  frame_labels.proofs.{DropLaws.{column_passed, column_kept}, dropping.columns_besides.Goals.{then-not-contains+in_ok-push, else-not-contains}},
}
use Rattle.frame_labels.proofs.dropping.columns_besides.Goals as goal

pub loop-place-preserved : goal.loop-place-preserved
loop-place-preserved c =
    let there = λ (place : ℕ). list_any (same_heading (heading_of c.args.on.now place)) c.args.labels.now.keys in
    let is : c.contains.result ≡ there c.loop-place.place = c.contains.ensures ∙ ap (λ h. list_any (same_heading h) c.args.labels.now.keys) c.heading.ensures.value in
    elim c.if-not-contains.branch [
      | then-not-contains+in_ok-push w ↦ rw w.kept-is (column_kept there _ _ c.loop-place.kept _ is c.loop-place.invariant w.if-not-contains.true w.in_ok-push.ensures.ok)
      | else-not-contains w ↦ rw w.kept-is (column_passed there _ _ c.loop-place.kept c.loop-place.kept is c.loop-place.invariant w.if-not-contains.false)
    ]
