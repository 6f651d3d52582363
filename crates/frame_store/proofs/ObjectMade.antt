-- The object that is made of a table.
use Rattle.{
  meaning_tables.{proofs.cells.Common.{◌≡◌, ◌∙◌, refl, ap, subst, List, arith, ℕ, Some, None, Result, Ok, Err, nat_tests, IsLonger, Text, FaultValue}, specs.{Settled.{IsSettled}, Table.{NumberedTable, cell_count}, Cost.{answer_charge, cost_of}, Value.{Entry}}},
  frame_store.{specs.{declared.{arguments.Value.{Value, TheVariants.{Object}}, object.ObjId.{ObjId}, fault.OpFault.{OpFault, TheVariants.{NoMemory}}}, Objects.{Tables, with_object}, Shown.{shown, Makes, FormAnswers}, Derivations.{table_by}}, proofs.{Settling.{settled_later, seen_later, shown_with, settled_with}, FormLaws.{answer_cost}}},
}

-- objects that stay are seen as before, and stay settled
pub kept_settled : (earlier texts : List Text) (tables tables' : Tables) → IsLonger earlier texts → IsSettled shown earlier tables → tables' ≡ tables → IsSettled shown texts tables'
kept_settled earlier texts tables tables' longer settled same = rw same (settled_later shown earlier texts tables longer settled)

-- a refusal
pub refused : (earlier texts : List Text) (tables tables' : Tables) (made : Result NumberedTable OpFault) (result : Result Value OpFault) (fault : OpFault) (meant : Result Entry FaultValue)
    → made ≡ Err fault → result ≡ Err fault → IsLonger earlier texts → IsSettled shown earlier tables → tables' ≡ tables → Makes texts made meant → FormAnswers texts result meant (shown earlier tables) (shown texts tables')
refused earlier texts tables tables' made result fault meant was is longer settled same makes = rw (is, same) (grind (arith, seen_later shown earlier texts tables longer settled))

-- want of memory
pub out_of_memory : (earlier texts : List Text) (tables tables' : Tables) (result : Result Value OpFault) (meant : Result Entry FaultValue)
    → result ≡ Err NoMemory → IsLonger earlier texts → IsSettled shown earlier tables → tables' ≡ tables → FormAnswers texts result meant (shown earlier tables) (shown texts tables')
out_of_memory earlier texts tables _ _ _ is longer settled = grind (arith, seen_later shown earlier texts tables longer settled)

-- the new object
pub added : (earlier texts : List Text) (tables tables' : Tables) (made : Result NumberedTable OpFault) (id : ObjId) (t : NumberedTable) (meant : Result Entry FaultValue)
    → made ≡ Ok t → tables id.0 ≡ None → tables' ≡ with_object tables id.0 (Some t) → IsLonger earlier texts → IsSettled shown earlier tables → Makes texts made meant
    → FormAnswers texts (Ok (Object id)) meant (shown earlier tables) (shown texts tables')
added earlier texts tables tables' made id t meant was fresh put longer settled makes = grind (arith, nat_tests, shown_with earlier texts tables tables' id.0 t longer settled put)

-- the new object of a plan, by the table that it stands for
pub carried : {X : Type 0} (table : X → NumberedTable) (earlier texts : List Text) (tables tables' : Tables) (made : Result X OpFault) (plan : X) (id : ObjId) (t : NumberedTable) (meant : Result Entry FaultValue)
    → made ≡ Ok plan → table plan ≡ t → tables id.0 ≡ None → tables' ≡ with_object tables id.0 (Some t) → IsLonger earlier texts → IsSettled shown earlier tables → Makes texts (table_by table made) meant
    → FormAnswers texts (Ok (Object id)) meant (shown earlier tables) (shown texts tables') × IsLonger earlier texts × IsSettled shown texts tables'
carried table earlier texts tables tables' made plan id t meant was is fresh put longer settled makes =
    let there : Makes texts (Ok t) meant = subst (λ r. Makes texts r meant) (ap (table_by table) was ∙ ap Ok is) makes in (
      added earlier texts tables tables' (Ok t) id t meant refl fresh put longer settled there,
      longer,
      settled_with texts tables tables' id.0 t (settled_later shown earlier texts tables longer settled) there.1 put,
    )

-- what the new object costs: the cells of its table, or as much as each answer
pub made_cost : (texts : List Text) (made : Result NumberedTable OpFault) (t : NumberedTable) (meant : Result Entry FaultValue) → made ≡ Ok t → Makes texts made meant → cost_of answer_charge meant ≡ cell_count t
made_cost texts made t meant was makes = answer_cost texts t meant (subst (λ r. Makes texts r meant) was makes).0

pub carried_cost : {X : Type 0} (table : X → NumberedTable) (texts : List Text) (made : Result X OpFault) (plan : X) (meant : Result Entry FaultValue) (cells : ℕ) → made ≡ Ok plan → Makes texts (table_by table made) meant
    → cost_of (λ (answer : Entry). cells) meant ≡ cells
carried_cost table texts made plan meant cells was makes =
    let there : Makes texts (Ok (table plan)) meant = subst (λ r. Makes texts r meant) (ap (table_by table) was) makes in
    ap (cost_of (λ (answer : Entry). cells)) there.0
