use Rattle.{
  frame_parts.proofs.Common.{arith, refl},
  frame_methods.proofs.NameLaws.{named_settled},
}
use Rattle.frame_methods.proofs.renaming.rename_series.Goals as goal

pub renamed-requires-clause-labels : goal.renamed-requires-clause-labels
renamed-requires-clause-labels c =
    named_settled _ (λ h. h) _ _ _ c.requires.name (λ ts. refl)
    (grind arith)
