-- What calls cost and answer, by the method that a name means and by what stands before the name.
use Rattle.{
  frame_methods.proofs.frame_parts.Common.{◌≡◌, refl, sym, subst, List, Option, Some, Result, Text, FaultValue, Table, table_value, table_at, Entry, NamedGiven, Value, Object, ObjId, OpFault, World, Forms, entry_in},
  meaning_call.specs.{declared.Method.{Method}, Signature.{method_named}},
  frame_store.specs.{World.{FormsFor}, tables.{Cost.{answer_charge}, Value.{table}}},
  frame_labels.specs.method.{Calls.{call_result, plain_result, table_call}, Charges.{call_charge, method_charge, named_charge}},
  frame_labels.proofs.AnswerLaws.{charged_so},
  frame_calls.specs.{Calls.{chain_of}, declared.between.Between.{Between}},
}
use Rattle.frame_labels.specs.method.Calls as calls
use Rattle.frame_calls.specs.declared.between.Between.TheVariants as between

module _ (name : Text) (gs : List NamedGiven) (t : Table) (r : Result Value OpFault) (old new : World) where
  -- the method of an arm
  pub method_is : (m m' : Method) → m ≡ m' → FormsFor (method_charge m' gs t) r (table_call (Some m') name gs t) old new → FormsFor (method_charge m gs t) r (table_call (Some m) name gs t) old new
  method_is m m' is forms = subst (λ (k : Method). FormsFor (method_charge k gs t) r (table_call (Some k) name gs t) old new) (sym is) forms

  -- the one that the table has under a name
  pub method_found : (m : Method) → method_named t.shape name ≡ Some m → FormsFor (method_charge m gs t) r (table_call (Some m) name gs t) old new
      → FormsFor (call_charge (table t) (calls.plain name) gs) r (plain_result (table t) name gs) old new
  method_found m is forms = subst (λ (o : Option Method). FormsFor (named_charge o gs t) r (table_call o name gs t) old new) (sym is) forms

-- a method of an object that a value is
pub object_found : (w new : World) (on : Value) (id : ObjId) (name : Text) (gs : List NamedGiven) (r : Result Value OpFault) (m : Method) → on ≡ Object id → method_named (table_at w.tables id.0).shape name ≡ Some m
    → FormsFor (method_charge m gs (table_value w.texts (table_at w.tables id.0))) r (table_call (Some m) name gs (table_value w.texts (table_at w.tables id.0))) w new
    → FormsFor (call_charge (entry_in w on) (calls.plain name) gs) r (plain_result (entry_in w on) name gs) w new
object_found w new on id name gs r m is named forms =
    subst (λ (v : Value). FormsFor (call_charge (entry_in w v) (calls.plain name) gs) r (plain_result (entry_in w v) name gs) w new) (sym is)
    (method_found name gs (table_value w.texts (table_at w.tables id.0)) r w new m named forms)

-- a call behind `groupby`, `rolling` or `expanding` costs the answer's cells
module _ (w : World) (v : Entry) (name : Text) (gs : List NamedGiven) where
  behind_costs : (b : Between) → answer_charge ≡ call_charge v (chain_of w b name) gs
  behind_costs (between.Groupby by brackets) = refl
  behind_costs (between.Rolling args) = refl
  behind_costs (between.Expanding args) = refl

  pub behind_so : (b : Between) (r : Result Value OpFault) (meant : Result Entry FaultValue) (old new : World) → meant ≡ call_result v (chain_of w b name) gs → Forms r meant old new
      → FormsFor (call_charge v (chain_of w b name) gs) r (call_result v (chain_of w b name) gs) old new
  behind_so b r meant old new is forms = charged_so answer_charge (call_charge v (chain_of w b name) gs) r meant (call_result v (chain_of w b name) gs) old new (behind_costs b) is forms
