use Rattle.{
  frame_parts.proofs.Common.{arith, refl, sym, true, false, nat_tests},
  column_operators.specs.Tasks.{operator_of},
  frame_ops.proofs.{InfixLaws.{makes_as}, WideLaws.{by_tests, by_labels, spread_may}},
}
use Rattle.frame_ops.proofs.tables.across_unequal.Goals as goal

pub returns-then-not-takes_each-clause-makes : goal.returns-then-not-takes_each-clause-makes
returns-then-not-takes_each-clause-makes c = (by_tests c.args.dict.now c.args.frame.now c.args.series.now _ c.args.left false _ (grind arith) refl, λ more. refl)

pub returns-then-levels-ne1-clause-makes : goal.returns-then-levels-ne1-clause-makes
returns-then-levels-ne1-clause-makes c = (by_tests c.args.dict.now c.args.frame.now c.args.series.now _ c.args.left true false (grind arith) (grind (arith, nat_tests)), λ more. refl)

pub returns-then-not-branch-clause-makes : goal.returns-then-not-branch-clause-makes
returns-then-not-branch-clause-makes c = (
  by_labels _ _ _ _ _ false _ (grind arith) (grind arith) c.len.ensures.distinct c.requires.known_frame.given c.requires.known_series.given (grind arith) refl,
  λ more. refl,
)

pub returns-then-compares-clause-makes : goal.returns-then-compares-clause-makes
returns-then-compares-clause-makes c = (
  by_labels _ _ _ _ _ true true (grind arith) (grind arith) c.len.ensures.distinct c.requires.known_frame.given c.requires.known_series.given (grind arith) (grind arith),
  λ more. refl,
)

pub joined_across-requires-clause-may : goal.joined_across-requires-clause-may
joined_across-requires-clause-may c =
    spread_may c.args.dict.now c.args.frame.now c.args.series.now (operator_of c.args.op) c.args.left c.requires.known_frame.whole c.requires.known_series.whole c.requires.series
    (grind arith) (grind arith) c.len.ensures.distinct c.requires.known_frame.given c.requires.known_series.given (grind arith) (grind arith)

pub returns-clause-makes : goal.returns-clause-makes
returns-clause-makes c =
    makes_as _ _ _ _ c.joined_across.ensures.makes
    (sym (by_labels _ _ _ _ _ true false (grind arith) (grind arith) c.len.ensures.distinct c.requires.known_frame.given c.requires.known_series.given (grind arith) (grind arith)))
