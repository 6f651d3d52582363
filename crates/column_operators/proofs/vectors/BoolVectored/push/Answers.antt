use Rattle.{column_core.proofs.cells.Common.{◌∙◌, ◌++◌, ℕ, Bool, ap, sym, map, not, arith}, std.{proofs.{lemmas.List.{take-map, length-map}}, specs.Prelude.{nat_eq}}, column_operators.{specs.Vectors.{IsTruth}, proofs.VectorLaws.{are_pushed, truth_back}}}
use Rattle.column_operators.proofs.vectors.BoolVectored.push.Goals as goal

pub returns : goal.returns
returns c =
    let so_far = c.loop-lane.invariant in
    let is_set : ℕ → Bool = λ n. not (nat_eq n 0) in
    are_pushed (IsTruth c.args.vector) _ _ (map is_set c.args.vector) c.loop-lane.lane (length-map c.args.vector is_set ∙ c.fits-vector.0) (omega (arith, c.loop-lane-test.false))
    (so_far.pushed ∙ ap (λ xs. c.args.values.now.items ++ xs) (sym (take-map is_set c.loop-lane.lane c.args.vector))) so_far.counted so_far.room (truth_back c.args.vector)
