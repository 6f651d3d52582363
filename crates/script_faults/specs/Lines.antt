-- Lines that grow.
use Rattle.std.specs.Prelude.{◌≡◌, ◌++◌, OnOk, Result, ⊤, string_bytes}
use Rattle.std.specs.declared.string.String.{String}
use Rattle.meaning_script.specs.cells.Text.{Text}

-- the text stands behind the line, unless memory was refused
abbrev pub Appends : {E Y : Type 0} → Result ⊤ E → String Y → String Y → Text → Type 0
Appends result old new text = OnOk result (string_bytes new ≡ string_bytes old ++ text)
