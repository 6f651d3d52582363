use Rattle.{
  meaning_format.proofs.cells.Common.{sym},
  frame_format.proofs.ToldLaws.{columns_name_seen},
}
use Rattle.frame_format.proofs.source.Source.write_columns_name.Goals as goal

pub returns : goal.returns
returns g c = rw (← columns_name_seen _ c.self.inside.dict.now _ (sym c.self.view_is) _ c.columns_name.ensures) c.write_name.ensures
