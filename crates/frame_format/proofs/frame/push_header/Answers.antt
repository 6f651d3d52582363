use Rattle.{
  meaning_format.{proofs.cells.Common.{arith, ◌∙◌, append_assoc}, specs.{Told.{heading_at}, Print.{shown_name}}},
  frame_format.proofs.FieldLaws.{columns_measured},
}
use Rattle.frame_format.proofs.frame.push_header.Goals as goal

pub returns : goal.returns
returns g c = let t = c.args.source.now in
    let columns = columns_measured _ _ _ (c.as_slice.ensures.value ∙ c.requires.columns) (λ column. shown_name (heading_at t column)) in
    grind (arith, append_assoc)
