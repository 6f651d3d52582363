-- What a kernel or a join answers, as a part of a form.
use Rattle.std.specs.Prelude.{Result, Ok, Err}
use Rattle.cell_core.specs.declared.code.Code.TheVariants as code
use Rattle.cell_core.specs.declared.code.Reason.TheVariants as reason
use Rattle.label_align.specs.declared.fault.AlignFault.{AlignFault}
use Rattle.label_align.specs.declared.fault.AlignFault.TheVariants as align
use Rattle.column_core.specs.Blocks.{CellBlock}
use Rattle.column_core.specs.Columns.{CellColumn}
use Rattle.nullable_array.specs.declared.ops.ArrayFault.{ArrayFault}
use Rattle.nullable_array.specs.declared.ops.ArrayFault.TheVariants as array
use Rattle.frame_store.specs.declared.fault.OpFault.{OpFault}
use Rattle.frame_store.specs.declared.fault.OpFault.TheVariants as op
use Rattle.frame_store.specs.Parts.{single_block}

-- why a kernel makes no column, as the refusal of a form
abbrev pub refusal_of : ArrayFault → OpFault
refusal_of array.KindMismatch = op.Refused code.WrongKind
refusal_of (array.ZeroDivision row) = op.Refused code.ZeroDivide
refusal_of (array.NotCast row) = op.Refused (code.BadValue reason.Cast)
refusal_of array.NoMemory = op.NoMemory

-- why labels aren't joined
abbrev pub align_refusal : AlignFault → OpFault
align_refusal (align.DuplicateLabels tuple) = op.Refused (code.BadValue (reason.Repeated tuple))
align_refusal align.TooLarge = op.Refused code.Limit
align_refusal align.NoMemory = op.NoMemory

-- the column, or the refusal
abbrev pub column_result : Result CellColumn ArrayFault → Result CellColumn OpFault
column_result (Ok c) = Ok c
column_result (Err fault) = Err (refusal_of fault)

-- the column as a block, or the refusal
abbrev pub block_result : Result CellColumn ArrayFault → Result CellBlock OpFault
block_result (Ok c) = Ok (single_block record { kind = c.kind; cells = c.cells })
block_result (Err fault) = Err (refusal_of fault)
