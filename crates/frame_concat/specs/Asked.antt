-- What `pd.concat` is told besides the axis.
use Rattle.std.specs.Prelude.{◌≡◌, ℕ, List, map, length, Option, Some, None}
use Rattle.std.specs.Option.{option_map}
use Rattle.std.specs.Global.{Vec}
use Rattle.cell_core.specs.declared.cell.Label.{Label}
use Rattle.column_core.specs.cells.Text.{Text}
use Rattle.column_core.specs.cells.Cell.{LabelValue, label_datum}
use Rattle.meaning_method.specs.Concat.{Concatenation}
use Rattle.frame_concat.specs.declared.asked.Asked.{Asked}

-- the labels of parts with their texts
abbrev pub keys_value : List Text → Option (Vec Label) → Option (List LabelValue)
keys_value texts keys = option_map (λ labels. map (label_datum texts) labels.items) keys

abbrev pub asked_value : List Text → Asked → Concatenation
asked_value texts a = record { inner = a.inner; renumbered = a.renumbered; keys = keys_value texts a.keys }

-- a label for each part, if there are labels
abbrev pub KeysFit : ℕ → Option (Vec Label) → Type 0
KeysFit count None = Unit {0}
KeysFit count (Some keys) = count ≡ length keys.items

abbrev pub AreKeysFor : ℕ → Asked → Type 0
AreKeysFor count a = KeysFit count a.keys
