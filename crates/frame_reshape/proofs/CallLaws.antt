-- Calls of methods of another shape, and what they are told.
use Rattle.{frame_parts.proofs.Common.{arith, ◌≡◌, ◌∙◌, ap, refl, sym, subst, ℕ, Bool, true, false, nat_eq, List, [], ◌∷◌, slice_get, list_any, if◌then◌else◌, Option, Some, None, Result, Ok, Err, Frame, Series, Shape, Text, FaultValue, then_value, NumberedTable, Table, table_value, Entry, Given, NamedGiven, on, Makes, MakesBy, refused_on, Named, ObjId, OpFault, object_value, arguments_in, World, AreKnownArguments, table_or}, column_core.{proofs.cells.Common.{same_text, is_some, inl, inr, nat_tests}, specs.cells.Cell.{text_cell}}, std.specs.Option.{option_and_then}, frame_store.specs.Arguments.{shape_at}, meaning_call.{specs.{declared.{Accepted.{Accepted}, Parameter.{Parameter}, ReshapeMethod.{ReshapeMethod}, ReshapeMethod.TheVariants.{Stack, Unstack, Pivot, PivotTable, Melt}, Method.TheVariants.{Reshape}}, Signature.{parameters_of, method_names, fits_shape, among, needed}, Binding.{takes, lists, given_at, goes_to, counted, are_listed, argument_at, arguments_from, or_stand_in, text_in, aggregation_names}}, proofs.ShapeLaws.{of_frame, of_series}}, frame_signatures.{specs.{Bound.{given_in, stands_at, accepted_at, IsBound}, Filled.{sure_accepted}, declared.bound.Bound.{Bound}}, proofs.RuleLaws.{filled}}, frame_labels.specs.{Named.{stands_in}, method.{Groups.{reduction_named}, Reshape.{pivoted_in, pivot_of, pivot_result, pivot_table_of, pivot_table_result, reshaped}}}, group_by.specs.{declared.ops.GroupOp.{GroupOp}, Operations.{reduction_of}}, frame_reshape.specs.{Calls.{IsReshapeCall}, Pivots.{pivoted_value, pivoted_seen}, declared.{told.Pivoted.{Pivoted}}}}
use Rattle.factorize.specs.group.Reductions.{GroupReduction}
use Rattle.meaning_call.specs.declared.Choices.TheVariants as listed
use Rattle.meaning_call.specs.declared.Accepted.TheVariants as accepted
use Rattle.meaning_call.specs.declared.ParameterName.TheVariants as name
use Rattle.frame_store.specs.tables.Value as value

never : ◌≡◌ {A = Bool} false true → ⊥
never is = cc

reduction_there : (t : Text) → list_any (same_text t) aggregation_names ≡ true → is_some (reduction_named t) ≡ true
reduction_there = grind arith

-- the call of bound arguments
pub is_call : (w : World) (m : ReshapeMethod) (ps : List Parameter) (args : List Named) (b : Bound) → ps ≡ parameters_of (Reshape m) → AreKnownArguments w args → IsBound w ps args (Ok b) → IsReshapeCall w m b
is_call = grind (arith, filled)

-- the shape that a method is of
pub of_stack : (s : Shape) → fits_shape (Reshape Stack) s ≡ true → s ≡ Frame
unfolding method_names
of_stack s fits = of_frame (Reshape Stack) s refl fits

pub of_unstack : (s : Shape) → fits_shape (Reshape Unstack) s ≡ true → s ≡ Series
unfolding method_names
of_unstack s fits = of_series (Reshape Unstack) s refl fits

pub of_pivot : (s : Shape) → fits_shape (Reshape Pivot) s ≡ true → s ≡ Frame
unfolding method_names
of_pivot s fits = of_frame (Reshape Pivot) s refl fits

pub of_pivot_table : (s : Shape) → fits_shape (Reshape PivotTable) s ≡ true → s ≡ Frame
unfolding method_names
of_pivot_table s fits = of_frame (Reshape PivotTable) s refl fits

pub of_melt : (s : Shape) → fits_shape (Reshape Melt) s ≡ true → s ≡ Frame
unfolding method_names
of_melt s fits = of_frame (Reshape Melt) s refl fits

-- an argument that is given is listed
listed_given : (ps : List Parameter) (k : ℕ) (gs : List NamedGiven) (place : ℕ) (p : Parameter) (a : Given) → are_listed ps k gs ≡ true → slice_get ps place ≡ Some p → given_at ps k gs place ≡ Some a → lists p.listed a ≡ true
listed_given ps k [] place p a all there given = cc
listed_given ps k (g ∷ gs) place p a all there given = by (nat_eq (goes_to ps k g.name) place) refl given (λ rest is. listed_given ps (counted k g.name) gs place p a rest there is)
  where
    by : (b : Bool) → nat_eq (goes_to ps k g.name) place ≡ b → (if b then Some g.value else given_at ps (counted k g.name) gs place) ≡ Some a → (are_listed ps (counted k g.name) gs ≡ true → given_at ps (counted k g.name) gs place ≡ Some a → lists p.listed a ≡ true) → lists p.listed a ≡ true
    by true here is later = grind (arith, nat_tests)
    by false other is later = later (grind arith) is

pub listed_at : (ps : List Parameter) (gs : List NamedGiven) (place : ℕ) (p : Parameter) → are_listed ps 0 gs ≡ true → slice_get ps place ≡ Some p → lists p.listed value.nothing ≡ true → argument_at ps [] place ≡ value.nothing → lists p.listed (argument_at ps gs place) ≡ true
listed_at ps gs place p all there none stands = by (given_at ps 0 gs place) refl
  where
    by : (o : Option Given) → given_at ps 0 gs place ≡ o → lists p.listed (or_stand_in o (slice_get ps place)) ≡ true
    by (Some a) given = listed_given ps 0 gs place p a all there given
    by None given = rw stands none

text_among : (g : Given) (t : Text) → Some t ≡ text_in g → lists listed.Aggregations g ≡ true → list_any (same_text t) aggregation_names ≡ true
text_among (value.one (value.cell (text_cell u))) t is all = cc
text_among g t is all = grind arith

text_taken : (g : Given) → takes (among listed.Aggregations (needed name.Aggfunc accepted.Text)) g ≡ true → is_some (text_in g) ≡ true
text_taken (value.one (value.cell (text_cell u))) taken = refl
text_taken g taken = grind arith

-- another wording of what is meant
makes_so : (texts : List Text) (made : Result NumberedTable OpFault) (said meant : Result Entry FaultValue) → said ≡ meant → Makes texts made meant → Makes texts made said
makes_so texts made said meant is makes = subst (λ r. Makes texts made r) (sym is) makes

-- what the arguments of a call are
module _ (w : World) (b : Bound) where
  abbrev told : List NamedGiven
  told = arguments_in w b.args.now

  sure_at : (m : ReshapeMethod) (place : ℕ) (a : Accepted) → IsReshapeCall w m b → sure_accepted (slice_get (parameters_of (Reshape m)) place) ≡ Some a → accepted_at b place ≡ Some a
  sure_at m place a h is = ap (λ ps. sure_accepted (slice_get ps place)) h.parameters ∙ is

  pub name_listed : (t : Text) → IsReshapeCall w PivotTable b → Some t ≡ text_in (stands_at w.tables w.texts b 3) → list_any (same_text t) aggregation_names ≡ true
  name_listed t h is =
      text_among _ t is (subst (λ ps. lists listed.Aggregations (argument_at ps told 3) ≡ true) (sym h.parameters) (listed_at (parameters_of (Reshape PivotTable)) told 3 _ h.listed refl refl refl))

  name_taken : IsReshapeCall w PivotTable b → is_some (text_in (stands_in w b 3)) ≡ true
  name_taken h = elim (h.filled 3 _ refl) [
    | inl taken ↦ text_taken _ taken
    | inr omitted ↦ absurd (never omitted.0)
  ]

  pivot_told : (t : Table) → IsReshapeCall w Pivot b → reshaped Pivot (given_in w b) t ≡ pivot_result t (stands_in w b 0) (stands_in w b 1) (stands_in w b 2)
  pivot_told t h = subst (λ ps. reshaped Pivot (arguments_from ps told 0 ps) t ≡ pivot_result t (argument_at ps told 0) (argument_at ps told 1) (argument_at ps told 2)) (sym h.parameters) refl

  table_told : (t : Table) → IsReshapeCall w PivotTable b
      → reshaped PivotTable (given_in w b) t ≡ on (option_and_then reduction_named (text_in (stands_in w b 3))) (pivot_table_result t (stands_in w b 0) (stands_in w b 1) (stands_in w b 2))
  table_told t h =
      subst (λ ps. reshaped PivotTable (arguments_from ps told 0 ps) t ≡ on (option_and_then reduction_named (text_in (argument_at ps told 3))) (pivot_table_result t (argument_at ps told 0) (argument_at ps told 1) (argument_at ps told 2))) (sym h.parameters) refl

  -- of an object that is read
  module _ (id : ObjId) (t : NumberedTable) (at : w.tables id.0 ≡ Some t) where
    abbrev T : Table
    T = object_value w.tables w.texts id

    -- it is of the shape that the method is of
    pub shape_fits : (m n : ReshapeMethod) → fits_shape (Reshape m) (shape_at w.tables id) ≡ true → m ≡ n → fits_shape (Reshape n) t.shape ≡ true
    shape_fits m n fits is = subst (λ k. fits_shape (Reshape k) t.shape ≡ true) is (subst (λ o. fits_shape (Reshape m) (table_or o).shape ≡ true) at fits)

    read_is : T ≡ table_value w.texts t
    read_is = ap (λ o. table_value w.texts (table_or o)) at

    pub pivot_answered : IsReshapeCall w Pivot b → (p : Pivoted) → pivoted_in T (stands_in w b 1) (stands_in w b 0) (stands_in w b 2) ≡ Ok (pivoted_value p) → (texts : List Text) (made : Result NumberedTable OpFault) → Makes texts made (pivot_of (table_value w.texts t) (pivoted_value p))
        → Makes texts made (reshaped Pivot (given_in w b) T)
    pivot_answered h p found texts made makes =
        makes_so texts made _ _ (pivot_told T h ∙ ap (λ r. then_value r (pivot_of T)) found ∙ ap (λ u. pivot_of u (pivoted_value p)) read_is) makes

    -- the reduction that is named
    reduced_told : IsReshapeCall w PivotTable b → (name : Text) (op : GroupReduction) → Some name ≡ text_in (stands_in w b 3) → Some op ≡ reduction_named name
        → reshaped PivotTable (given_in w b) T ≡ pivot_table_result T (stands_in w b 0) (stands_in w b 1) (stands_in w b 2) op
    reduced_told h name op named is =
        table_told T h ∙ (λ i. on (option_and_then reduction_named (sym named i)) (pivot_table_result T (stands_in w b 0) (stands_in w b 1) (stands_in w b 2)))
        ∙ (λ i. on (sym is i) (pivot_table_result T (stands_in w b 0) (stands_in w b 1) (stands_in w b 2)))

    pub table_refused : IsReshapeCall w PivotTable b → (made : Result Pivoted OpFault) (fault : OpFault) → made ≡ Err fault → MakesBy pivoted_seen w.texts made (pivoted_in T (stands_in w b 1) (stands_in w b 2) (stands_in w b 0)) → Makes w.texts (Err fault) (reshaped PivotTable (given_in w b) T)
    table_refused h made fault is makes = by _ refl
      where
        named : (t : Text) → Some t ≡ text_in (stands_in w b 3) → (o : Option GroupReduction) → o ≡ reduction_named t → Makes w.texts (Err fault) (reshaped PivotTable (given_in w b) T)
        named t there None none = absurd (never (cc (reduction_there t (name_listed t h there))))
        named t there (Some op) is_op = makes_so w.texts (Err fault) _ _ (reduced_told h t op there is_op) (refused_on pivoted_seen w.texts _ (pivot_table_of T op) made fault is makes)

        by : (o : Option Text) → o ≡ text_in (stands_in w b 3) → Makes w.texts (Err fault) (reshaped PivotTable (given_in w b) T)
        by None none = absurd (never (cc (name_taken h)))
        by (Some t) there = named t there _ refl

    pub table_answered : IsReshapeCall w PivotTable b → (p : Pivoted) → pivoted_in T (stands_in w b 1) (stands_in w b 2) (stands_in w b 0) ≡ Ok (pivoted_value p) → (name : Text) (op : GroupOp) → Some name ≡ text_in (stands_in w b 3) → Some (reduction_of op) ≡ reduction_named name
        → (texts : List Text) (made : Result NumberedTable OpFault) → Makes texts made (pivot_table_of (table_value w.texts t) (reduction_of op) (pivoted_value p)) → Makes texts made (reshaped PivotTable (given_in w b) T)
    table_answered h p found name op named is texts made makes =
        makes_so texts made _ _ (reduced_told h name (reduction_of op) named is ∙ ap (λ r. then_value r (pivot_table_of T (reduction_of op))) found ∙ ap (λ u. pivot_table_of u (reduction_of op) (pivoted_value p)) read_is) makes
