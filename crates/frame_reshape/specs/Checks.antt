-- What is tested before a cell is taken, and a kernel's refusal as that of a form.
use Rattle.std.specs.Prelude.{ℕ, Bool, true, List, [], ◌∷◌, map}
use Rattle.std.specs.List.{list_all}
use Rattle.cell_core.specs.declared.cell.Kind.{Kind}
use Rattle.cell_core.specs.declared.code.Code.TheVariants as code
use Rattle.cell_core.specs.declared.code.Reason.TheVariants as reason
use Rattle.frame_store.specs.tables.Table.{NumberedTable, column_at, same_kind}
use Rattle.reshape.specs.declared.fault.ReshapeFault.{ReshapeFault}
use Rattle.reshape.specs.declared.fault.ReshapeFault.TheVariants as reshape
use Rattle.frame_store.specs.declared.fault.OpFault.{OpFault}
use Rattle.frame_store.specs.declared.fault.OpFault.TheVariants.{Refused, NoMemory}

-- the kinds of the columns at these places, and whether all are the first one
abbrev pub kinds_at : NumberedTable → List ℕ → List Kind
kinds_at t places = map (λ place. (column_at t.columns place).kind) places

abbrev pub are_one : List Kind → Bool
are_one [] = true
are_one (kind ∷ kinds) = list_all (same_kind kind) kinds

-- the refusal of a kernel
abbrev pub refusal : ReshapeFault → OpFault
refusal (reshape.Duplicates labels) = Refused (code.BadValue (reason.Entry labels))
refusal reshape.MixedKinds = Refused code.WrongKind
refusal reshape.TooLarge = Refused code.Limit
refusal reshape.NoMemory = NoMemory
