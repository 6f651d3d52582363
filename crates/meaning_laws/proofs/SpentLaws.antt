-- Laws of what is spent.
use Rattle.meaning_script.{proofs.cells.Common.{◌≡◌, arith}, specs.Spent.{Spent, nothing_spent, spent_sum, IsAtMost}}

pub sum-assoc : (a b c : Spent) → spent_sum (spent_sum a b) c ≡ spent_sum a (spent_sum b c)
sum-assoc = grind arith

pub nothing-sum : (a : Spent) → spent_sum nothing_spent a ≡ a
nothing-sum = grind arith

pub sum-nothing : (a : Spent) → spent_sum a nothing_spent ≡ a
sum-nothing = grind arith

pub nothing-at_most : (a : Spent) → IsAtMost nothing_spent a
nothing-at_most = grind arith

-- the first of both
pub at_most-sum : (a b : Spent) → IsAtMost a (spent_sum a b)
at_most-sum = grind arith

-- the same before both
pub at_most-after : (a b c : Spent) → IsAtMost b c → IsAtMost (spent_sum a b) (spent_sum a c)
at_most-after = grind arith

pub at_most-trans : {a b c : Spent} → IsAtMost a b → IsAtMost b c → IsAtMost a c
at_most-trans = grind arith
