-- The name of the file that a call reads.
use Rattle.std.specs.Prelude.{◌≡◌, List, Result, Ok, Err}
use Rattle.cell_core.specs.declared.cell.Cell.TheVariants as cell
use Rattle.cell_core.specs.declared.cell.TextId.{TextId}
use Rattle.cell_core.specs.declared.code.Code.{Code}
use Rattle.column_core.specs.cells.Text.{Text}
use Rattle.column_core.specs.cells.Cell.{datum, text_of}
use Rattle.column_core.specs.cells.Fault.{FaultValue}
use Rattle.frame_store.specs.tables.Settled.{IsSettled}
use Rattle.frame_store.specs.Shown.{Refuses}

-- a text that was given its number is the name that is meant, or the refusal is
abbrev pub Names : List Text → Result TextId Code → Result Text FaultValue → Type 0
Names texts (Ok id) meant = (meant ≡ Ok (text_of texts id)) × IsSettled datum texts (cell.Text id)
Names texts (Err code) meant = Refuses texts code meant
