use Rattle.{
  frame_parts.proofs.Common.{◌∙◌, sym},
  column_core.proofs.cells.Common.{IfOk-weaker},
  frame_set.proofs.ColumnLaws.{scalar_is},
}
use Rattle.frame_set.proofs.columns.scalar_column.Goals as goal

pub returns-clause-seen : goal.returns-clause-seen
returns-clause-seen c =
    IfOk-weaker c.repeat.result _ _ (λ m h texts. scalar_is _ _ _ _ _ m h (c.present_kind.ensures.kind texts ∙ sym c.unwrap_or-kind.ensures)) c.repeat.ensures
