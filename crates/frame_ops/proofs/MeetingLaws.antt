-- What columns meet, and the columns that are made of it one after the other.
use Rattle.{
  frame_parts.{proofs.Common.{and_parts, nat_tests, get_or_from_slice_get, length-map, map-append, list_all-map, All-push, All-replicate, arith, ◌≡◌, ℕ, zero, suc, Bool, true, List, [], length, map, replicate, ◌+◌, ◌++◌, ◌∷◌, ◌<◌, refl, Some, Result, if◌then◌else◌, ap, Ok, Err, false, drop, nat_eq, sym, subst, add-one, append_assoc, All, drop-cons, slice_get, list_all, Kind, Cell, Na, IsLonger, AreGiven, IsGiven, Text, datum, holds, CellValue, Binary, wrong_kind, bad_value, levels, limit, then_value, FaultValue, Answers, ArrayFault, CellColumn, CellBlock, ColumnOf, NumberedTable, column_at, column_value, Table, IsSettled, value_of_column, within_limits, try_all, with_columns, Meeting, meets, met, on_levels, with_scalar, beside, spread, HaveRows, IsSingle, block_column, columns_value, OpFault, settled_later, seen_later, cells_settled, cells_given, column_settled, columns_settled, MakesBy, block_value, blocks_value, AreColumns}, specs.form.Infix.{infix_table, swapped, across, turned, same_count, has_one}},
  column_core.{proofs.cells.Common.{length_push, scalar_binary, scalar_column}, specs.Columns.{column_value as cells_value}},
  frame_ops.specs.{declared.other.Other.{Other, TheVariants.{Across, Scalar, Beside}}, Pairs.{turned_pair, repeated, pair_at, series_cell, kind_beside, kinds_meet, meeting_value, column_meant, Pair, pairs_from, meetings_value, columns_meant, IsOpposite, IsGivenOther}},
}
use Rattle.frame_store.specs.tables.Value as value

pub map-replicate : {X Y : Type 0} (f : X → Y) (n : ℕ) (x : X) → map f (replicate n x) ≡ replicate n (f x)
map-replicate f zero x = refl
map-replicate f (suc n) x = cc (map-replicate f n x)

-- a cell in each row is the scalar beside the column
pub repeated_value : (texts : List Text) (a : ColumnOf Cell) (kind : Kind) (c : Cell) → kind ≡ kind_beside a.kind c
    → value_of_column (column_value texts (repeated kind (length a.cells) c)) ≡ scalar_column (value_of_column (column_value texts a)) (datum texts c)
repeated_value = grind (arith, map-replicate, length-map)

pub beside_scalar : (old new : List Text) (op : Binary) (at : ColumnOf Cell) (a : CellColumn) (kind : Kind) (c : Cell) (left : Bool) (result : Result CellColumn ArrayFault)
    → at ≡ record { kind = a.kind; cells = a.cells } → kind ≡ kind_beside at.kind c → Answers new result (scalar_binary op (cells_value old a) (datum old c) left)
    → Answers new result (column_meant op (meeting_value old (turned_pair left at (repeated kind (length at.cells) c))))
beside_scalar = grind (arith, repeated_value)

-- a column beside the cell of a Series at its place
pub across_scalar : (old new : List Text) (op : Binary) (at : ColumnOf Cell) (a b : CellColumn) (s : NumberedTable) (place : ℕ) (c : Cell) (left : Bool) (result : Result CellColumn ArrayFault)
    → at ≡ record { kind = a.kind; cells = a.cells } → column_at s.columns 0 ≡ record { kind = b.kind; cells = b.cells } → slice_get b.cells place ≡ Some c → holds b.kind (datum [] c) ≡ true
    → kinds_meet op (pair_at (Across s left) place at) ≡ true → Answers new result (scalar_binary op (cells_value old a) (datum old c) left)
    → Answers new result (column_meant op (meeting_value old (pair_at (Across s left) place at)))
across_scalar _ _ op at a b s place c left result is is' there held meet answer =
    let kind : Kind = (column_at s.columns 0).kind in
    let cell_is : series_cell s place ≡ c = grind (arith, get_or_from_slice_get) in
    let same : kind ≡ kind_beside at.kind c = grind arith in
    rw cell_is (beside_scalar _ _ op at a kind c left result is same answer)

-- The columns that are meant, by the tests.
pub length-pairs : (other : Other) (place : ℕ) (cs : List (ColumnOf Cell)) → length (pairs_from other place cs) ≡ length cs
length-pairs _ _ [] = refl
length-pairs other _ (c ∷ cs) = ap suc (length-pairs other _ cs)

-- the test of the kinds needs no text
pub kinds_seen : (op : Binary) (texts : List Text) (pairs : List Pair) → list_all (meets op) (meetings_value texts pairs) ≡ list_all (kinds_meet op) pairs
kinds_seen = search list_all-map

pub columns_seen : (op : Binary) (texts : List Text) (rows : ℕ) (fit : Bool) (other : Other) (cs : List (ColumnOf Cell)) → columns_meant op rows fit (meetings_value texts (pairs_from other 0 cs))
    ≡ (if list_all (kinds_meet op) (pairs_from other 0 cs) then (if fit then (if within_limits rows (length cs) then try_all (met op) (meetings_value texts (pairs_from other 0 cs)) else Err limit) else Err (bad_value levels)) else Err wrong_kind)
columns_seen = search (kinds_seen, length-map, length-pairs)

-- the table of the columns that are meant
pub table_meant : (op : Binary) (t : Table) (rows : ℕ) (fit : Bool) (meetings : List Meeting) → length t.labels ≡ rows
    → then_value (columns_meant op rows fit meetings) (λ columns. Ok (value.table (with_columns t columns))) ≡ on_levels (list_all (meets op) meetings) fit (infix_table op t meetings)
table_meant = grind arith

-- What columns meet, as it is meant.
-- a scalar
pub scalar_meetings : (texts : List Text) (c : Cell) (left : Bool) (place : ℕ) (cs : List (ColumnOf Cell)) → meetings_value texts (pairs_from (Scalar c left) place cs) ≡ turned left (map (with_scalar (datum texts c)) (columns_value texts cs))
scalar_meetings _ _ false _ [] = refl
scalar_meetings _ _ true _ [] = refl
scalar_meetings texts c false place (a ∷ as') = search (repeated_value, scalar_meetings texts c false (suc place) as')
scalar_meetings texts c true place (a ∷ as') = search (repeated_value, scalar_meetings texts c true (suc place) as')

-- another table
beside_from : (texts : List Text) (t : NumberedTable) (place : ℕ) (cs : List (ColumnOf Cell)) → length cs + place ≡ length t.columns
    → meetings_value texts (pairs_from (Beside t) place cs) ≡ beside (columns_value texts cs) (columns_value texts (drop place t.columns))
beside_from _ t _ [] _ = refl
beside_from texts t place (a ∷ as') same =
    let less : length as' + suc place ≡ length t.columns = omega arith in
    grind (arith, drop-cons, beside_from texts t (suc place) as' less)

pub beside_meetings : (texts : List Text) (t : NumberedTable) (cs : List (ColumnOf Cell)) → length t.columns ≡ length cs → meetings_value texts (pairs_from (Beside t) 0 cs) ≡ beside (columns_value texts cs) (columns_value texts t.columns)
beside_meetings = grind (arith, beside_from)

-- a Series across
spread_value : (texts : List Text) (kind : Kind) (count n : ℕ) (c : Cell) → n ≡ count → value_of_column (column_value texts (repeated kind n c)) ≡ spread kind count (datum texts c)
spread_value = grind (arith, map-replicate)

across_from : (texts : List Text) (s : NumberedTable) (place count : ℕ) (cs : List (ColumnOf Cell)) → HaveRows count cs → length cs + place ≡ length (column_at s.columns 0).cells
    → meetings_value texts (pairs_from (Across s false) place cs) ≡ across count (column_at s.columns 0).kind (columns_value texts cs) (map (datum texts) (drop place (column_at s.columns 0).cells))
across_from _ s _ _ [] _ _ = refl
across_from texts s place count (a ∷ as') rows same =
    let cells = (column_at s.columns 0).cells in
    let lt : place < length cells = omega arith in
    let less : length as' + suc place ≡ length cells = omega arith in
    cc (spread_value texts (column_at s.columns 0).kind count (length a.cells) (series_cell s place) (rows 0 a (omega arith)), across_from texts s (suc place) count as' (λ k d inside. rows (suc k) d (omega arith)) less, drop-cons cells place Na lt)

across_turned : (texts : List Text) (s : NumberedTable) (place : ℕ) (cs : List (ColumnOf Cell)) → meetings_value texts (pairs_from (Across s true) place cs) ≡ map swapped (meetings_value texts (pairs_from (Across s false) place cs))
across_turned _ s _ [] = refl
across_turned texts s place (a ∷ as') = cc (across_turned texts s (suc place) as')

pub across_meetings : (texts : List Text) (s : NumberedTable) (left : Bool) (count : ℕ) (cs : List (ColumnOf Cell)) → HaveRows count cs → length (column_at s.columns 0).cells ≡ length cs
    → meetings_value texts (pairs_from (Across s left) 0 cs) ≡ turned left (across count (column_at s.columns 0).kind (columns_value texts cs) (map (datum texts) (column_at s.columns 0).cells))
across_meetings = grind (arith, across_from, across_turned)

-- levels of one number

pub levels_same : {A B C D : Type 0} (f : A → C) (g : B → D) (xs : List A) (ys : List B) → nat_eq (length xs) (length ys) ≡ same_count (map f xs) (map g ys)
levels_same _ _ [] [] = refl
levels_same f g (x ∷ xs) (y ∷ ys) = grind (arith, nat_tests, levels_same f g xs ys)
levels_same _ _ xs ys = grind (arith, nat_tests)

pub levels_one : {A C : Type 0} (f : A → C) (xs : List A) → nat_eq (length xs) 1 ≡ has_one (map f xs)
levels_one = grind (arith, nat_tests, length-map)

-- Columns that are made one after the other.
pub columns_later : (old new : List Text) (cs : List (ColumnOf Cell)) → IsLonger old new → All (λ c. AreGiven old c.cells) cs → All (λ c. AreGiven new c.cells) cs
columns_later = search (cells_given, settled_later, cells_settled)

-- two columns that meet are seen alike through more texts

turned_settled : (texts : List Text) (left : Bool) (a b : ColumnOf Cell) → AreGiven texts a.cells → AreGiven texts b.cells → IsSettled meeting_value texts (turned_pair left a b)
turned_settled _ true a b f g = λ more j. (value_of_column (column_settled _ b g more j), value_of_column (column_settled _ a f more j))
turned_settled _ false a b f g = λ more j. (value_of_column (column_settled _ a f more j), value_of_column (column_settled _ b g more j))

repeated_given : (texts : List Text) (kind : Kind) (n : ℕ) (c : Cell) → IsGiven texts c → AreGiven texts (repeated kind n c).cells
repeated_given texts _ n c given = All-replicate (IsGiven texts) n c given

met_settled : (texts : List Text) (on : NumberedTable) (other : Other) (place : ℕ) (a : ColumnOf Cell) → place < length on.columns → IsOpposite on other → IsGivenOther texts other → AreGiven texts a.cells
    → IsSettled meeting_value texts (pair_at other place a)
met_settled _ _ (Scalar c left) _ a lt opposite given here = search (turned_settled, repeated_given)
met_settled _ _ (Beside t) place a lt opposite given here =
    let inside : place < length t.columns = omega (arith, opposite.0) in
    turned_settled _ false a _ here (given place _ inside)
met_settled _ _ (Across s left) place a lt opposite given here =
    let inside : place < length (column_at s.columns 0).cells = omega (arith, opposite.1) in
    search (turned_settled, repeated_given)

-- the pairs from a place on
pub pairs_here : (other : Other) (place : ℕ) (cs : List (ColumnOf Cell)) → place < length cs → pairs_from other place (drop place cs) ≡ pair_at other place (column_at cs place) ∷ pairs_from other (place + 1) (drop (place + 1) cs)
pairs_here = grind (arith, drop-cons, add-one)

pub kinds_here : (p : Pair → Bool) (other : Other) (place : ℕ) (cs : List (ColumnOf Cell)) → place < length cs → list_all p (pairs_from other place (drop place cs)) ≡ true
    → (p (pair_at other place (column_at cs place)) ≡ true) × (list_all p (pairs_from other (place + 1) (drop (place + 1) cs)) ≡ true)
kinds_here = grind (arith, and_parts, pairs_here)

-- the blocks, with one more
blocks_more : (mid new : List Text) (made made' : List CellBlock) (block : CellBlock) → IsLonger mid new → All (λ c. AreGiven mid c.cells) (map block_column made) → made' ≡ made ++ block ∷ []
    → blocks_value new made' ≡ blocks_value mid made ++ block_value new block ∷ []
blocks_more = grind (arith, map-append, seen_later, columns_settled)

-- columns with one more
pub columns_more : (mid new : List Text) (rows columns : ℕ) (made made' : List CellBlock) (block : CellBlock) → IsLonger mid new → AreColumns mid rows columns made → made' ≡ made ++ block ∷ []
    → IsSingle block → length (block_column block).cells ≡ rows → AreGiven new (block_column block).cells → AreColumns new rows (columns + 1) made'
columns_more _ new rows columns made _ block longer before pushed single here given =
    subst (AreColumns new rows (columns + 1)) (sym pushed)
    (record {
      single = All-push IsSingle made _ before.single single;
      count = grind (arith, length_push);
      filled = rw (map-append block_column made (block ∷ [])) (All-push (λ c. length c.cells ≡ rows) (map _ made) _ before.filled here);
      given = rw (map-append block_column made (block ∷ [])) (All-push (λ c. AreGiven new c.cells) (map _ made) _ (columns_later _ _ _ longer before.given) given);
    })

module _ (f : Meeting → Result (ColumnOf CellValue) FaultValue) (old mid new : List Text) (on : NumberedTable) (other : Other) (place : ℕ) (made : List CellBlock) (whole : Result (List (ColumnOf CellValue)) FaultValue) where
  abbrev pair : Pair
  pair = pair_at other place (column_at on.columns place)

  abbrev later : List Meeting
  later = meetings_value old (pairs_from other (place + 1) (drop (place + 1) on.columns))

  -- what the columns so far and the others come to
  abbrev pub IsWholeSoFar : Type 0
  IsWholeSoFar = then_value (try_all f (meetings_value old (pairs_from other place (drop place on.columns)))) (λ rest. Ok (blocks_value mid made ++ rest)) ≡ whole

  module _ (lt : place < length on.columns) (opposite : IsOpposite on other) (beside : IsGivenOther old other) (given : All (λ c. AreGiven old c.cells) on.columns) (longer : IsLonger old mid) where
    met_as_before : f (meeting_value old pair) ≡ f (meeting_value mid pair)
    met_as_before = ap f (sym (seen_later meeting_value old mid _ longer (search met_settled)))

    pub whole_more : (made' : List CellBlock) (block : CellBlock) → IsLonger mid new → All (λ c. AreGiven mid c.cells) (map block_column made) → made' ≡ made ++ block ∷ [] → f (meeting_value mid pair) ≡ Ok (block_value new block) → IsWholeSoFar
        → then_value (try_all f later) (λ rest. Ok (blocks_value new made' ++ rest)) ≡ whole
    whole_more made' block further kept pushed is before = grind (arith, append_assoc, pairs_here, blocks_more mid new made made' block further kept pushed, met_as_before)

    pub whole_refused : (fault : OpFault) → MakesBy block_value new (Err fault) (f (meeting_value mid pair)) → IsWholeSoFar → MakesBy blocks_value new (Err fault) whole
    whole_refused = grind (arith, met_as_before, pairs_here)
