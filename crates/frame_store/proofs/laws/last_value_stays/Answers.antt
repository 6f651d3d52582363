use Rattle.{
  meaning_tables.proofs.cells.Common.{length},
  frame_store.proofs.SettingLaws.{are_set},
}
use Rattle.frame_store.proofs.laws.last_value_stays.Goals as goal

pub returns : goal.returns
returns c = λ t rows columns values whole rows_in columns_in many. are_set (length t.labels) t.columns rows columns values rows_in columns_in whole.filled many
