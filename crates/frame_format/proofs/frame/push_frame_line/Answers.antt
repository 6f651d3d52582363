use Rattle.{
  meaning_format.{proofs.cells.Common.{arith, ◌∙◌}, specs.{Told.{cell_at}, Print.{shown_cell}}},
  frame_format.proofs.FieldLaws.{both, both_at_last, at_last, sides_measured, columns_measured},
}
use Rattle.frame_format.proofs.frame.push_frame_line.Goals as goal

pub returns : goal.returns
returns g c =
    both_at_last _ _ c.push_spaces.new.out _ _ _
    (grind (arith, both, sides_measured))
    (at_last _ _ _ _ _
    (columns_measured _ _ _ (c.as_slice-2.ensures.value ∙ c.requires.layout.columns) (λ column. shown_cell (cell_at c.args.source.now c.args.row column)))
    c.push_cells.ensures)
