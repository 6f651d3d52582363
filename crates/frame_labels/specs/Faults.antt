-- The fault that names an attribute.
use Rattle.std.specs.Prelude.{◌≡◌}
use Rattle.cell_core.specs.declared.code.Code.TheVariants.{NoAttribute}
use Rattle.column_core.specs.cells.Text.{Text}
use Rattle.frame_store.specs.declared.fault.OpFault.{OpFault}
use Rattle.frame_store.specs.declared.fault.OpFault.TheVariants.{Refused, NoMemory}

-- it names the attribute, or there was no memory to do so
abbrev pub NamesNone : OpFault → Text → Type 0
NamesNone (Refused code) name = code ≡ NoAttribute name
NamesNone NoMemory name = Unit {0}
