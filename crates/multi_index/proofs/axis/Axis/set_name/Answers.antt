use Rattle.multi_index.proofs.NameLaws.{axis_is_named}
use Rattle.multi_index.proofs.axis.Axis.set_name.Goals as goal

pub returns : goal.returns
returns c = axis_is_named _ _ _ _ _ _ c.self.view_is c.self.invariant.room c.self.invariant.whole.few c.requires
