-- In which order the pairs of a join stand: a law of the pairs of rows.
use Rattle.std.specs.Prelude.{◌≡◌, ◌<◌, ◌⊎◌, ℕ, Bool, true, false, List, AllPairs, slice_index_or, Option, Some, None}
use Rattle.meaning_join.specs.declared.How.{How}
use Rattle.meaning_join.specs.declared.How.TheVariants.{Inner, Left, Right, Outer}
use Rattle.meaning_join.specs.Pairs.{Pair, pair, exchanged}
use Rattle.merge_concat.specs.declared.pairs.Pairs.{Pairs}
use Rattle.merge_concat.specs.Pairs.{ArePairs}

-- both rows are there, and the one is the earlier one
abbrev pub IsEarlier : Option ℕ → Option ℕ → Type 0
IsEarlier (Some i) (Some j) = i < j
IsEarlier (Some i) None = ⊥
IsEarlier None b = ⊥

-- the one pair has the earlier left row, or the same one and the earlier right row
abbrev pub IsEarlierPair : Pair → Pair → Type 0
IsEarlierPair p q = IsEarlier p.left q.left ⊎ ((p.left ≡ q.left) × IsEarlier p.right q.right)

-- the key of the rows of a pair
abbrev pub key_at : {K : Type 0} → List K → List K → K → Option ℕ → Option ℕ → K
key_at left right none (Some i) b = slice_index_or left i none
key_at left right none None (Some j) = slice_index_or right j none
key_at left right none None None = none

abbrev pub key_of : {K : Type 0} → List K → List K → K → Pair → K
key_of left right none p = key_at left right none p.left p.right

-- the one pair has no greater key; of one key, it is the earlier one
pub record IsEarlierByKey {K : Type 0} (same less : K → K → Bool) (key : Pair → K) (p q : Pair) : Type 0 where
  pub not_greater : less (key q) (key p) ≡ false
  pub of_one_key : same (key p) (key q) ≡ true → IsEarlierPair p q

-- the one pair may stand before the other: by left row, then right row; with the sides exchanged where the right side's
-- rows stay; and by key first where both sides' stay
abbrev pub StandsBefore : {K : Type 0} → (K → K → Bool) → (K → K → Bool) → (Pair → K) → How → Pair → Pair → Type 0
StandsBefore same less key Inner p q = IsEarlierPair p q
StandsBefore same less key Left p q = IsEarlierPair p q
StandsBefore same less key Right p q = IsEarlierPair (exchanged p) (exchanged q)
StandsBefore same less key Outer p q = IsEarlierByKey same less key p q

-- the pairs that are made stand in order
pub record IsOrderedJoin {K : Type 0} (same less : K → K → Bool) (how : How) (left right : List K) (made : Pairs) : Type 0 where
  pub pairs : List Pair
  pub seen : ArePairs made pairs
  pub ordered : (none : K) → AllPairs (StandsBefore same less (key_of left right none) how) pairs
