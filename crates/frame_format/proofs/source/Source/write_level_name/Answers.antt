use Rattle.{
  meaning_format.proofs.cells.Common.{sym},
  frame_format.proofs.ToldLaws.{level_name_seen},
}
use Rattle.frame_format.proofs.source.Source.write_level_name.Goals as goal

pub returns : goal.returns
returns g c = rw (← level_name_seen _ c.self.inside.dict.now _ (sym c.self.view_is) _ _ c.requires c.level_name.ensures) c.write_name.ensures
