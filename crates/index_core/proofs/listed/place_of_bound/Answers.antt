use Rattle.{
  meaning_pick.proofs.{cells.Common.{arith, Bool, ◌∙◌, ap, sym, is_eq, Label}, RowLaws.{rows_more_no}},
  index_core.{specs.Labels.{order_in}, proofs.{BoundLaws.{first_time, second_time}, listed.place_of_bound.Goals.{then-is_eq+else-is_some, else-is_eq}}},
}
use Rattle.index_core.proofs.listed.place_of_bound.Goals as goal

pub loop-place-preserved : goal.loop-place-preserved
loop-place-preserved c =
    let p : Label → Bool = λ label. is_eq (order_in c.args.dict.now label c.args.bound) in
    elim c.if-is_eq.branch [
      | then-is_eq+else-is_some w ↦ record {
        so_far = rw w.found-is (first_time p _ c.loop-place.place _ _ c.loop-place-test.true c.loop-place.invariant.so_far (grind arith) (ap is_eq (sym c.compare.ensures) ∙ sym c.is_eq.ensures ∙ w.if-is_eq.true));
        inside = grind arith;
      }
      | else-is_eq w ↦ grind (arith, rows_more_no)
    ]

pub returns-then-is_some-clause-place : goal.returns-then-is_some-clause-place
returns-then-is_some-clause-place c =
    second_time _ _ c.loop-place.place _ _ _ c.loop-place-test.true c.loop-place.invariant.so_far (grind arith)
    (ap is_eq (sym c.compare.ensures) ∙ sym c.is_eq.ensures ∙ c.if-is_eq.true)
