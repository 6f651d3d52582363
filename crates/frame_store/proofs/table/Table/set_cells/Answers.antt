use Rattle.frame_store.{specs.Views.{kept_table}, proofs.SettingLaws.{kept_is_set}}
use Rattle.frame_store.proofs.table.Table.set_cells.Goals as goal

pub returns-clause-law : goal.returns-clause-law
returns-clause-law c =
    kept_is_set (kept_table c.self.inside) c.args.self.now c.args.rows.now c.args.places.now c.args.values.now _ c.self.view_is c.self.invariant.whole c.put_values.ensures.columns c.requires.rows c.requires.places c.requires.values
