use Rattle.{frame_parts.proofs.Common.{◌∙◌, refl, sym, arith, Some, IsSettled, headings_value, heading_value}, frame_select.proofs.PlaceLaws.{heading_settled}, frame_merge.proofs.KeyLaws.{common_given, cell_given, label_more}}
use Rattle.frame_merge.proofs.keys.common_labels.Goals as goal

pub loop-heading-preserved : goal.loop-heading-preserved
loop-heading-preserved c =
    let texts = c.args.dict.now in
    let hs = c.as_slice-headings.result.now in
    let label = c.in-Some.label in
    let settled : IsSettled headings_value texts hs = rw (c.as_slice-headings.ensures.keys ∙ c.in_ok-common.ensures) (common_given texts _ _ c.len.ensures.distinct c.requires.left c.requires.right) in
    let here : IsSettled heading_value texts (Some label) = heading_settled texts hs c.loop-heading.heading-index (Some label) (sym c.in-Some.is) settled in
    record {
      given = cell_given texts label _ _ here (grind arith) c.loop-heading.invariant.given;
      labels = label_more texts hs _ _ c.loop-heading-test.true (sym c.in-Some.is) label _ _ _ refl (grind arith) c.loop-heading.invariant.labels;
    }
