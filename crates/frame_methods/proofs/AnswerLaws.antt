-- The answer of a call, by its method.
use Rattle.{
  frame_parts.proofs.Common.{arith, ◌≡◌, ◌∙◌, ap, sym, subst, length-map, ℕ, Bool, false, List, [], ◌∷◌, length, if◌then◌else◌, unwrap_or, Option, Some, Result, Text, FaultValue, NumberedTable, Table, table_value, heading_value, tuple_value, Entry, Given, NamedGiven, table_at, table_or, Makes, Value, OpFault, World, FormsFor, arguments_in},
  frame_store.specs.{Derivations.{Derives, Extends}, declared.derivations.{Derivation.{Derivation}, Extension.{Extension}}},
  std.specs.Prelude.{◌*◌, ◌≤◌},
  meaning_call.specs.{declared.{Method.{Method}, Parameter.{Parameter}}, Signature.{parameters_of}, Binding.{argument_at, arguments_from, bound, bound_of, truth_in}},
  frame_labels.{specs.method.{Charges.{drops_labels, method_charge}, Methods.{answer_for}}, proofs.AnswerLaws.{charged_so}},
  frame_signatures.specs.{Bound.{given_in, stands_at}, declared.bound.Bound.{Bound}},
  frame_methods.specs.Calls.{own_call, answer_in, charge_in},
}
use Rattle.meaning_call.specs.declared.Method.TheVariants as method
use Rattle.meaning_call.specs.declared.LevelMethod.TheVariants as level_method

-- the answer of a method that is known, by its own parameters
abbrev pub answer_of : World → Method → Bound → Table → Result Entry FaultValue
answer_of w m b t = answer_for m (arguments_from (parameters_of m) (arguments_in w b.args.now) 0 (parameters_of m)) t

-- by what stands at the places of its parameters
pub answer_by : (w : World) (m m' : Method) (b : Bound) (t : Table) (go : (ℕ → Given) → Result Entry FaultValue) → m ≡ m' → b.parameters.now ≡ parameters_of m
    → go (argument_at (parameters_of m') (arguments_in w b.args.now)) ≡ answer_of w m' b t → go (stands_at w.tables w.texts b) ≡ answer_in w m b t
answer_by = grind arith

-- a table that is made of an object's, by another wording
pub makes_by : (w : World) (m m' : Method) (b : Bound) (source : NumberedTable) (id : ℕ) (r : Result NumberedTable OpFault) (go : (ℕ → Given) → Table → Result Entry FaultValue) (meant : Result Entry FaultValue) → w.tables id ≡ Some source → m ≡ m'
    → b.parameters.now ≡ parameters_of m → ((v : Table) → go (argument_at (parameters_of m') (arguments_in w b.args.now)) v ≡ answer_of w m' b v) → meant ≡ go (stands_at w.tables w.texts b) (table_value w.texts source)
    → Makes w.texts r meant → Makes w.texts r (answer_in w m b (table_value w.texts (table_at w.tables id)))
makes_by = grind (arith, answer_by)

-- what is made of the table of an object that is read
pub derives_on : (texts : List Text) (object : Option NumberedTable) (source : NumberedTable) (r : Result Derivation OpFault) (meant : Result Entry FaultValue) → object ≡ Some source → Derives texts source r meant → Derives texts (table_or object) r meant
derives_on texts _ _ r meant is derives = subst (λ t. Derives texts t r meant) (sym (ap table_or is)) derives

pub extends_on : (texts : List Text) (object : Option NumberedTable) (source : NumberedTable) (r : Result Extension OpFault) (meant : Result Entry FaultValue) → object ≡ Some source → Extends texts source r meant → Extends texts (table_or object) r meant
extends_on texts _ _ r meant is extends = subst (λ t. Extends texts t r meant) (sym (ap table_or is)) extends

-- a call, by its arguments and by those that are bound
pub forms_called : (w new : World) (m : Method) (b : Bound) (t : Table) (gs : List NamedGiven) (r : Result Value OpFault) → own_call m t gs ≡ answer_in w m b t → arguments_in w b.args.now ≡ gs → FormsFor (charge_in w m b t) r (answer_in w m b t) w new
    → FormsFor (method_charge m gs t) r (own_call m t gs) w new
forms_called w new m b t gs r is same forms =
    charged_so (charge_in w m b t) (method_charge m gs t) r (answer_in w m b t) (own_call m t gs) w new (ap (λ (hs : List NamedGiven). method_charge m hs t) same) (sym is) forms

-- `reset_index` that drops no labels costs them
module _ (w : World) (m : Method) (b : Bound) (source : NumberedTable) (id : ℕ) (drop : Bool) (at : w.tables id ≡ Some source) (is : m ≡ method.Levels level_method.ResetIndex) where
  abbrev own : List Parameter
  own = parameters_of (method.Levels level_method.ResetIndex)

  abbrev given : List NamedGiven
  given = arguments_in w b.args.now

  pub reset_costs : (answer : Entry) → b.parameters.now ≡ parameters_of m → bound_of (parameters_of m) given ≡ bound (given_in w b) → Some drop ≡ truth_in (stands_at w.tables w.texts b 0) → drop ≡ false
      → length source.labels * length source.level_names ≤ charge_in w m b (table_value w.texts (table_at w.tables id)) answer
  reset_costs answer parameters binds told kept =
      let t = table_at w.tables id in
      let here : b.parameters.now ≡ own = parameters ∙ ap parameters_of is in
      let bound_here : bound_of own given ≡ bound (argument_at own given 0 ∷ []) = ap (λ (k : Method). bound_of (parameters_of k) given) (sym is) ∙ binds ∙ ap (λ (ps : List Parameter). bound (arguments_from ps given 0 ps)) here in
      let told_here : truth_in (argument_at own given 0) ≡ Some drop = sym (told ∙ ap (λ (ps : List Parameter). truth_in (argument_at ps given 0)) here) in
      let none : drops_labels (bound_of own given) ≡ false = ap drops_labels bound_here ∙ ap (λ (o : Option Bool). unwrap_or o false) told_here ∙ kept in
      let charge : charge_in w m b (table_value w.texts t) answer ≡ length (table_value w.texts t).labels * length (table_value w.texts t).level_names =
      ap (λ (k : Method). method_charge k given (table_value w.texts t) answer) is
      ∙ ap (λ (d : Bool). if d then 0 else length (table_value w.texts t).labels * length (table_value w.texts t).level_names) none in
      let same : t ≡ source = ap table_or at in
      let rows : length (table_value w.texts t).labels ≡ length source.labels = length-map t.labels (tuple_value w.texts) ∙ ap (λ (u : NumberedTable). length u.labels) same in
      let levels : length (table_value w.texts t).level_names ≡ length source.level_names = length-map t.level_names (heading_value w.texts) ∙ ap (λ (u : NumberedTable). length u.level_names) same in
      rw (charge, rows, levels) (omega arith)
