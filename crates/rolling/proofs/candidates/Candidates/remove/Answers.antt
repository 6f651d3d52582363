use Rattle.{
  column_core.proofs.cells.Common.{◌∙◌, sym, w64, false≢true},
  std.proofs.lemmas.Int.{to_z-of_z},
  rolling.proofs.CandidateLaws.{beats_weak, unbeaten_leave, unbeaten_stay, first_told},
}
use Rattle.rolling.proofs.candidates.Candidates.remove.Goals as goal

pub returns-then-eq-clause-values : goal.returns-then-eq-clause-values
returns-then-eq-clause-values c = λ values is. c.pop_front.ensures.rest ∙ unbeaten_leave _ (beats_weak _) _ values _ is (sym c.first.ensures ∙ (first_told _ _ _ _ (to_z-of_z w64 _ c.ranges.x) c.eq.ensures).0 c.if-eq.true)

pub returns-else-eq-clause-values : goal.returns-else-eq-clause-values
returns-else-eq-clause-values c = λ values is. unbeaten_stay _ (beats_weak _) _ values _ is (λ h. false≢true (sym c.if-eq.false ∙ (first_told _ _ _ _ (to_z-of_z w64 _ c.ranges.x) c.eq.ensures).1 (c.first.ensures ∙ h)))
