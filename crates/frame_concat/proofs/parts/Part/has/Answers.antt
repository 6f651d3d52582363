use Rattle.{
  frame_parts.proofs.Common.{◌∙◌, ap, NumberedTable, list_any},
  frame_concat.{specs.Parts.{same_heading}, proofs.PartLaws.{has_heading}},
}
use Rattle.frame_concat.proofs.parts.Part.has.Goals as goal

pub returns : goal.returns
returns c =
    c.contains_key.ensures ∙ has_heading _ _ c.args.heading c.self.invariant.1 ∙ ap (λ (t : NumberedTable). list_any (same_heading c.args.heading) t.headings) c.self.view_is
