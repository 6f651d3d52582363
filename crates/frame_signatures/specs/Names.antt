-- A name in the table of the code, as the definition has it.
use Rattle.meaning_call.specs.Signature as signature
use Rattle.frame_signatures.specs.declared.table.MethodName.{MethodName}

abbrev pub meant : MethodName → signature.MethodName
meant row = record { name = row.name.now; series = row.series; frame = row.frame }
