use Rattle.{
  frame_parts.proofs.Common.{◌≡◌, ◌∙◌, arith, length, subst, sym, None, ap, slice_index_or, HaveLevels},
  std.proofs.{Math.Seq.{take-length}, lemmas.Option.{slice_get-get_or}},
  frame_select.{proofs.{ReachLaws.{axis_levels}, reaching.columns_axis.Goals.{in-Some+in_ok-push, in_default}, CutLaws.{mapped_more}}, specs.Reaches.{heading_tuple}},
}
use Rattle.frame_select.proofs.reaching.columns_axis.Goals as goal

pub loop-place-preserved : goal.loop-place-preserved
loop-place-preserved c =
    elim c.match-heading.branch [
      | in-Some+in_ok-push w ↦ mapped_more (λ place. heading_tuple (slice_index_or c.args.on.now.headings place None)) _ _ _ _ _ _ c.loop-place-test.true (slice_get-get_or _ _ 0 c.loop-place-test.true)
          (w.of.ensures ∙ ap heading_tuple (sym w.in-Some.is ∙ c.heading.ensures.value)) c.loop-place.invariant (w.labels-is ∙ w.in_ok-push.ensures.ok)
      | in_default w ↦ grind arith
    ]

pub from_tuples-requires-clause-alike : goal.from_tuples-requires-clause-alike
from_tuples-requires-clause-alike c =
    let places = c.as_slice-place-items.result.now in
    let all : c.loop-place.place-index ≡ length places = omega arith in
    subst (HaveLevels 1) (sym (grind (arith, take-length)))
    (axis_levels _ places (c.requires.whole.headings.labelled c.requires.shape) (grind arith))
