-- What a join is: a law of the pairs of rows.
use Rattle.std.specs.Prelude.{◌≡◌, ◌<◌, ◌&&◌, ℕ, nat_eq, Bool, true, false, not, if◌then◌else◌, List, All, map, filter, length, slice_index_or, Option, Some, None}
use Rattle.std.specs.List.{list_any}
use Rattle.column_core.specs.Moves.{IsPlaceOf}
use Rattle.meaning_join.specs.declared.How.{How}
use Rattle.meaning_join.specs.declared.How.TheVariants.{Inner, Left, Right, Outer}
use Rattle.meaning_join.specs.Pairs.{Pair, pair, exchanged}
use Rattle.merge_concat.specs.declared.pairs.Pairs.{Pairs}
use Rattle.merge_concat.specs.Pairs.{ArePairs}

-- whether rows of the left side that meet none stay
abbrev pub keeps_left : How → Bool
keeps_left Inner = false
keeps_left Left = true
keeps_left Right = false
keeps_left Outer = true

-- and rows of the right side
abbrev pub keeps_right : How → Bool
keeps_right Inner = false
keeps_right Left = false
keeps_right Right = true
keeps_right Outer = true

abbrev pub same_row : Option ℕ → Option ℕ → Bool
same_row None None = true
same_row (Some i) (Some j) = nat_eq i j
same_row a b = false

abbrev pub same_pair : Pair → Pair → Bool
same_pair p q = same_row p.left q.left && same_row p.right q.right

-- how often a pair stands among pairs
abbrev pub how_often : Pair → List Pair → ℕ
how_often p pairs = length (filter (same_pair p) pairs)

abbrev pub once_if : Bool → ℕ
once_if b = if b then 1 else 0

-- two rows stand together just where their keys are equal, and once; a row whose key the other side hasn't stands
-- alone where the rows of its side stay, and once; and nothing else stands
pub record IsJoin {K : Type 0} (same : K → K → Bool) (how : How) (left right : List K) (pairs : List Pair) : Type 0 where
  pub together : (i j : ℕ) (k : K) → i < length left → j < length right
      → how_often (pair (Some i) (Some j)) pairs ≡ once_if (same (slice_index_or left i k) (slice_index_or right j k))
  pub left_alone : (i : ℕ) (k : K) → i < length left
      → how_often (pair (Some i) None) pairs ≡ once_if (keeps_left how && not (list_any (same (slice_index_or left i k)) right))
  pub right_alone : (j : ℕ) (k : K) → j < length right
      → how_often (pair None (Some j)) pairs ≡ once_if (keeps_right how && not (list_any (same (slice_index_or right j k)) left))
  pub no_gaps : how_often (pair None None) pairs ≡ 0
  pub left_rows : All (λ p. IsPlaceOf (length left) p.left) pairs
  pub right_rows : All (λ p. IsPlaceOf (length right) p.right) pairs

-- which rows stay, where the sides are exchanged
abbrev pub turned : How → How
turned Inner = Inner
turned Left = Right
turned Right = Left
turned Outer = Outer

-- pairs that differ in their order alone: each stands as often
abbrev pub AreAlike : List Pair → List Pair → Type 0
AreAlike ps qs = (p : Pair) → how_often p ps ≡ how_often p qs

-- law: a join has one answer, but for the order of its rows
abbrev pub JoinsAreAlike : {K : Type 0} → (K → K → Bool) → Type 0
JoinsAreAlike {K} same = (how : How) (left right : List K) (ps qs : List Pair) → IsJoin same how left right ps → IsJoin same how left right qs → AreAlike ps qs

-- law, where equality is symmetric: with its sides exchanged a join is a join of the exchanged sides; an inner or outer
-- one is so again, and a left one is a right one
abbrev pub SidesExchange : {K : Type 0} → (K → K → Bool) → Type 0
SidesExchange {K} same = (how : How) (left right : List K) (pairs : List Pair) → IsJoin same how left right pairs → IsJoin same (turned how) right left (map exchanged pairs)

-- law, where equality is symmetric: exchanging the sides of a join changes the order of its rows alone
abbrev pub ExchangeChangesOrder : {K : Type 0} → (K → K → Bool) → Type 0
ExchangeChangesOrder {K} same = (how : How) (left right : List K) (ps qs : List Pair) → IsJoin same how left right ps → IsJoin same (turned how) right left qs → AreAlike (map exchanged ps) qs

-- the pairs that are made are a join
pub record IsJoinOf {K : Type 0} (same : K → K → Bool) (how : How) (left right : List K) (made : Pairs) : Type 0 where
  pub pairs : List Pair
  pub seen : ArePairs made pairs
  pub join : IsJoin same how left right pairs
