-- What a refusal says of an expression.
use Rattle.std.specs.Prelude.{◌≡◌, Bool, false, Option, None, Result, Ok, Err}
use Rattle.cell_core.specs.declared.code.Code.TheVariants.{NoName, NoAttribute, NoFile}
use Rattle.meaning_laws.specs.cells.Text.{Text}
use Rattle.frame_store.specs.declared.arguments.Value.{Value}
use Rattle.frame_store.specs.declared.fault.OpFault.{OpFault}
use Rattle.frame_store.specs.declared.fault.OpFault.TheVariants.{Refused as OpRefused, NoMemory as OpNoMemory}
use Rattle.script_state.specs.declared.fault.EvalFault.{EvalFault}
use Rattle.script_state.specs.declared.fault.EvalFault.TheVariants.{Refused as EvalRefused, Input as EvalInput, NoMemory as EvalNoMemory}

-- the fault of a form as one of an evaluation
abbrev pub eval_fault : OpFault → EvalFault
eval_fault (OpRefused c) = EvalRefused c
eval_fault OpNoMemory = EvalNoMemory

-- what a form answers, as an evaluation answers it
abbrev pub evaluated : Result Value OpFault → Result Value EvalFault
evaluated (Ok v) = Ok v
evaluated (Err f) = Err (eval_fault f)

-- the name has no value, or memory was refused
abbrev pub IsNoName : EvalFault → Text → Option Value → Type 0
IsNoName (EvalRefused c) n v = (v ≡ None) × (c ≡ NoName n)
IsNoName EvalInput n v = ⊥
IsNoName EvalNoMemory n v = Unit {0}

-- there is no such method or function, or memory was refused
abbrev pub IsNoAttribute : EvalFault → Text → Bool → Type 0
IsNoAttribute (EvalRefused c) n known = (known ≡ false) × (c ≡ NoAttribute n)
IsNoAttribute EvalInput n known = ⊥
IsNoAttribute EvalNoMemory n known = Unit {0}

-- the name has no file, or memory was refused
abbrev pub IsNoFile : EvalFault → Text → Type 0
IsNoFile (EvalRefused c) n = c ≡ NoFile n
IsNoFile EvalInput n = ⊥
IsNoFile EvalNoMemory n = Unit {0}
