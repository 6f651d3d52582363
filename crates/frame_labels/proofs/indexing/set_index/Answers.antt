use Rattle.{
  frame_parts.proofs.Common.{◌∙◌, refl, arith, rules},
  frame_labels.proofs.{NamedLaws.{others_inside}, IndexingLaws.{index_beyond, index_fits, index_made}, indexing.set_index.Goals.{then-levels-eq0-via-then-levels-eq0, then-levels-eq0-via-else-levels-eq0+then-levels-gt4, then-levels-eq0-via-else-levels-eq0+else-levels-gt4+then-not-within_limits}},
}
use Rattle.frame_labels.proofs.indexing.set_index.Goals as goal

pub headings_at-requires : goal.headings_at-requires
headings_at-requires c = grind (arith, others_inside c.args.places.now c.in_ok-kept.kept c.columns.result)

-- too many levels, or cells
pub returns-then-levels-eq0 : goal.returns-then-levels-eq0
returns-then-levels-eq0 c =
    let beyond = index_beyond c.args.dict.now c.args.on.now c.args.places.now _ _ c.in_ok-kept.ensures c.columns.ensures in
    elim c.then-levels-eq0.branch [
      | then-levels-eq0-via-then-levels-eq0 w ↦ (tt, (beyond (λ some few. absurd (omega (arith, some, c.len-levels.ensures))), λ more. refl))
      | then-levels-eq0-via-else-levels-eq0+then-levels-gt4 w ↦ (tt, (beyond (λ some few. absurd (omega (arith, few, c.len-levels.ensures, w.if-levels-gt4.true))), λ more. refl))
      | then-levels-eq0-via-else-levels-eq0+else-levels-gt4+then-not-within_limits w ↦ (tt, (beyond (λ some few. search rules), λ more. refl))
    ]

pub returns : goal.returns
returns c =
    let t = c.args.on.now in
    let labels = c.as_slice.ensures.value ∙ c.in_ok-labels.ensures in
    let kept = others_inside _ _ _ _ c.in_ok-kept.ensures c.columns.ensures in (
      rw (c.in_ok-axis.ensures, c.in_ok-headings.ensures, c.columns_name.ensures, labels) (index_fits t _ _ c.requires.known.whole c.requires.shape kept),
      index_made _ t _ _ _ c.in_ok-kept.ensures c.columns.ensures _ c.requires.known.given c.requires.shape (omega arith) (omega (arith, c.len-levels.ensures, c.if-levels-gt4.false)) (search rules)
          (rw (c.in_ok-axis.ensures, c.in_ok-headings.ensures, c.columns_name.ensures, labels)),
    )
