use Rattle.{
  meaning_pick.proofs.cells.Common.{refl, rules, w64, FitsSigned, to_z-of_z},
  index_core.proofs.NumberLaws.{all_pass, none_passes},
}
use Rattle.index_core.proofs.ranges.end_at.Goals as goal

pub returns-in-Bool : goal.returns-in-Bool
returns-in-Bool c = search (all_pass, c.in-Bool.is, c.args.n)

pub returns-in-Int : goal.returns-in-Int
returns-in-Int c = let fits : FitsSigned w64 c.in-Int.number = search rules in rw c.in-Int.is (simp to_z-of_z at c.end_with.ensures)

pub returns-in-Text : goal.returns-in-Text
returns-in-Text c = rw c.in-Text.is (λ texts. none_passes _ _ (λ k. refl))

pub returns-in-Na : goal.returns-in-Na
returns-in-Na c = rw c.in-Na.is (λ texts. none_passes _ _ (λ k. refl))
