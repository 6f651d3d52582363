-- Calls of methods.
use Rattle.std.specs.Prelude.{◌≡◌, ℕ, true, List, Result, Ok, Err}
use Rattle.cell_core.specs.declared.grid.Shape.{Shape}
use Rattle.column_core.specs.cells.Fault.{FaultValue}
use Rattle.frame_store.specs.tables.Settled.{IsSettled}
use Rattle.frame_store.specs.tables.Table.{Table}
use Rattle.frame_store.specs.tables.Value.{Entry, NamedGiven}
use Rattle.meaning_call.specs.declared.Method.{Method}
use Rattle.meaning_call.specs.Signature.{parameters_of, fits_shape}
use Rattle.meaning_call.specs.Binding.{bound, bound_of, on_bound}
use Rattle.frame_labels.specs.method.Charges.{method_charge}
use Rattle.frame_labels.specs.method.Methods.{answer_for}
use Rattle.frame_store.specs.declared.fault.OpFault.{OpFault}
use Rattle.frame_store.specs.declared.fault.OpFault.TheVariants.{Refused, NoMemory}
use Rattle.frame_store.specs.Shown.{Refuses}
use Rattle.frame_store.specs.Arguments.{arguments_of, object_value}
use Rattle.frame_store.specs.World.{World, arguments_in, FormsFor}
use Rattle.frame_store.specs.declared.arguments.Named.{Named}
use Rattle.frame_store.specs.declared.arguments.Value.{Value}
use Rattle.frame_store.specs.declared.object.ObjId.{ObjId}
use Rattle.frame_signatures.specs.Bound.{given_in}
use Rattle.frame_signatures.specs.declared.bound.Bound.{Bound}

-- what a method that is answered here gives of a table
abbrev pub own_call : Method → Table → List NamedGiven → Result Entry FaultValue
own_call m t gs = on_bound (bound_of (parameters_of m) gs) (λ given. answer_for m given t)

-- the arguments are bound as the method's own, the shape has it, and their texts were given
pub record IsCall (w : World) (m : Method) (b : Bound) (shape : Shape) : Type 0 where
  pub parameters : b.parameters.now ≡ parameters_of m
  pub binds : bound_of (parameters_of m) (arguments_in w b.args.now) ≡ bound (given_in w b)
  pub shaped : fits_shape m shape ≡ true
  pub given : IsSettled (arguments_of w.tables) w.texts b.args.now

-- what the method answers for its arguments, and what that costs
abbrev pub answer_in : World → Method → Bound → Table → Result Entry FaultValue
answer_in w m b t = answer_for m (given_in w b) t

abbrev pub charge_in : World → Method → Bound → Table → Entry → ℕ
charge_in w m b t answer = method_charge m (arguments_in w b.args.now) t answer

-- The arguments are bound as the method's own, and the method's answer for them is that of the call; or the first fault is.
abbrev pub Binds : World → Method → List NamedGiven → Result Bound OpFault → Table → Type 0
Binds w m gs (Ok b) t = (own_call m t gs ≡ answer_in w m b t) × (arguments_in w b.args.now ≡ gs) × IsCall w m b t.shape
Binds w m gs (Err (Refused code)) t = Refuses w.texts code (own_call m t gs)
Binds w m gs (Err NoMemory) t = Unit {0}

-- a method of an object, with bound arguments and with those of a call
abbrev pub FormsBound : Method → ObjId → Bound → Result Value OpFault → World → World → Type 0
FormsBound m on b r old new =
    let t = object_value old.tables old.texts on in
    FormsFor (charge_in old m b t) r (answer_in old m b t) old new

abbrev pub FormsCall : Method → ObjId → List Named → Result Value OpFault → World → World → Type 0
FormsCall m on args r old new =
    let t = object_value old.tables old.texts on in
    let gs = arguments_in old args in
    FormsFor (method_charge m gs t) r (own_call m t gs) old new
