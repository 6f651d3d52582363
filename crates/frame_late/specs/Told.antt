-- What the arguments of a method of texts tell.
use Rattle.std.specs.Prelude.{◌≡◌, false, Option, Some, IfSome, MatchOption, Result, Ok, Err}
use Rattle.cell_core.specs.declared.code.Code.TheVariants.{WrongKind, BadValue}
use Rattle.cell_core.specs.declared.code.Reason.TheVariants.{Argument}
use Rattle.frame_labels.specs.method.StrCalls as meant
use Rattle.frame_labels.specs.method.text.TextMethod as method
use Rattle.frame_labels.specs.method.text.TextMethod.{TextMethod}
use Rattle.frame_methods.specs.Columns.{EachGiven}
use Rattle.frame_signatures.specs.Bound.{given_in}
use Rattle.frame_signatures.specs.declared.bound.Bound.{Bound}
use Rattle.frame_store.specs.Arguments.{arguments_of}
use Rattle.frame_store.specs.World.{World}
use Rattle.frame_store.specs.declared.fault.OpFault.{OpFault}
use Rattle.frame_store.specs.declared.fault.OpFault.TheVariants.{Refused}
use Rattle.frame_store.specs.tables.Settled.{IsSettled}
use Rattle.meaning_call.specs.declared.StrMethod.{StrMethod}
use Rattle.text_methods.specs.Answers.{method_of}
use Rattle.text_methods.specs.declared.ops.TextOp.{TextOp}
use Rattle.frame_late.specs.StrOps.{held_cells}
use Rattle.frame_late.specs.declared.columns.OnTexts.{OnTexts}

-- where the texts of arguments were given, the pattern is one of them
abbrev pub IsKnownOp : World → Bound → Option TextOp → Type 0
IsKnownOp w bound op = IsSettled (arguments_of w.tables) w.texts bound.args.now → IfSome op (λ op. EachGiven w.texts (held_cells op))

-- the arguments tell no method, or one whose arguments aren't taken
abbrev pub IsUntold : OpFault → Option TextMethod → Type 0
IsUntold fault told = MatchOption told (fault ≡ Refused WrongKind) (λ t. (fault ≡ Refused (BadValue Argument)) × (method.takes t ≡ false))

-- the method is what the arguments tell, and it is taken; or that is why there is none
abbrev pub IsTold : World → StrMethod → Bound → Result OnTexts OpFault → Type 0
IsTold w m bound (Ok o) = (meant.told m (given_in w bound) ≡ Some (method_of w.texts o.op)) × IsKnownOp w bound (Some o.op)
IsTold w m bound (Err fault) = IsUntold fault (meant.told m (given_in w bound))
