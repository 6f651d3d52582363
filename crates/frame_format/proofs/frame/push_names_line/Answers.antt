use Rattle.{
  meaning_format.{proofs.cells.Common.{◌∙◌, ◌++◌, ap, codes, slice_index}, specs.Print.{spaces}},
  frame_format.{specs.Layouts.{set_columns}, proofs.FieldLaws.{both, both_at_last, at_last, sides_measured, columns_measured, length_measured}},
}
use Rattle.frame_format.proofs.frame.push_names_line.Goals as goal

pub returns : goal.returns
returns g c =
    let columns = c.as_slice-2.ensures.value ∙ c.requires.columns in
    both_at_last _ _ _ _ _ _
    (both _ _ _ _ _
    (c.in_ok-push_names.ensures ∙ ap (λ l. c.args.out.now ++ l) (sides_measured _ _ _ (c.as_slice.ensures.value ∙ c.requires.levels) (codes " ") _))
    (c.in_ok-push_spaces.ensures ∙ ap (λ n. c.push_names.new.out ++ spaces n) c.requires.filling))
    (at_last _ _ _ _ _
    (ap (λ n. set_columns n (slice_index c.as_slice-2.result.now) (λ column. codes "")) (length_measured _ _ _ columns) ∙ columns_measured _ _ _ columns (λ column. codes ""))
    c.push_blanks.ensures)
