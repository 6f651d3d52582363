-- What a join answers for what is meant.
use Rattle.std.specs.Prelude.{◌≡◌, List, ◌++◌, map, Result, Ok, Err}
use Rattle.cell_core.specs.declared.cell.Label.{Label}
use Rattle.column_core.specs.cells.FaultOf.{side_of}
use Rattle.meaning_join.specs.Pairs.{Pair, JoinRefusal, not_one_to_one, too_large}
use Rattle.merge_concat.specs.declared.fault.MergeFault.{MergeFault}
use Rattle.merge_concat.specs.declared.fault.MergeFault.TheVariants.{NotOneToOne, DuplicateLabels, MixedKinds, TooLarge, NoMemory}
use Rattle.merge_concat.specs.declared.pairs.Pairs.{Pairs}
use Rattle.merge_concat.specs.declared.pairs.PairLists.{PairLists}

-- the rows of both sides, pair by pair
pub record ArePairs (made : Pairs) (pairs : List Pair) : Type 0 where
  pub left : made.left ≡ map (λ p. p.left) pairs
  pub right : made.right ≡ map (λ p. p.right) pairs

-- the pairs that are meant are made
pub record IsJoined (made : Pairs) (meant : Result (List Pair) (JoinRefusal (List Label))) : Type 0 where
  pub pairs : List Pair
  pub are : meant ≡ Ok pairs
  pub seen : ArePairs made pairs

-- what is answered is what is meant, or the fault is; want of memory may come in place of any answer
abbrev pub JoinsBy : Result Pairs MergeFault → Result (List Pair) (JoinRefusal (List Label)) → Type 0
JoinsBy (Ok made) meant = IsJoined made meant
JoinsBy (Err (NotOneToOne side key)) meant = meant ≡ Err (not_one_to_one (record { side = side_of side; key = key }))
JoinsBy (Err (DuplicateLabels key)) meant = ⊥
JoinsBy (Err MixedKinds) meant = ⊥
JoinsBy (Err TooLarge) meant = meant ≡ Err too_large
JoinsBy (Err NoMemory) meant = Unit {0}

-- the same of lists that are made
pub record AreListed (made : PairLists) (pairs : List Pair) : Type 0 where
  pub left : made.left.items ≡ map (λ p. p.left) pairs
  pub right : made.right.items ≡ map (λ p. p.right) pairs

-- the lists have more pairs
pub record HasMore (old new : PairLists) (pairs : List Pair) : Type 0 where
  pub left : new.left.items ≡ old.left.items ++ map (λ p. p.left) pairs
  pub right : new.right.items ≡ old.right.items ++ map (λ p. p.right) pairs
