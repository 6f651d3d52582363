use Rattle.{
  meaning_format.proofs.cells.Common.{sym},
  frame_format.proofs.ToldLaws.{heading_seen},
}
use Rattle.frame_format.proofs.source.Source.write_heading.Goals as goal

pub returns : goal.returns
returns g c = rw (← heading_seen _ c.self.inside.dict.now _ (sym c.self.view_is) _ _ c.requires c.heading.ensures.value) c.write_heading.ensures
