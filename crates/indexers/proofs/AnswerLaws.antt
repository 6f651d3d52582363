-- Answers and refusals that are handed on.
use Rattle.{
  column_core.proofs.cells.Common.{◌≡◌, ◌∙◌, sym, arith, ℕ, ◌<◌, true, false, List, [], ◌∷◌, All, Some, Result, Ok, Err, length, refl, map, slice_index_or, get_or-map, IfOk, slice_get, pointwise, Label},
  index_core.{specs.{Labels.{same_number}, pick.{Faults.{PickFault, not_there}, Keys.{Pick}, Labels.{unless_none, rows_of_key}, Leading.{leads}, Rows.{rows_where, are_some}}}, proofs.pick.RowLaws.{some_there, rows_where-same}},
  multi_index.{specs.Axes.{HaveLevels, single_tuples}, proofs.{PickLaws.{rows_seen}, TupleLaws.{only_label_is}}},
  indexers.specs.{declared.keys.{Picked.{Picked}, KeyFault.{KeyFault}}, Picks.{PicksBy, pick_of, as_it_is}},
}

-- what is picked lies within the axis where what is meant does
pub picks_inside : (result : Result Picked KeyFault) (meant : Result Pick (PickFault (List Label))) (count : ℕ) → PicksBy pick_of result meant → ((pick : Pick) → meant ≡ Ok pick → All (λ row. row < count) pick.rows)
    → IfOk result (λ picked. All (λ row. row < count) picked.places)
picks_inside (Ok picked) _ _ is inside = inside (pick_of picked) is
picks_inside (Err e) _ _ _ _ = tt

pub rows_inside : (result : Result (List ℕ) KeyFault) (meant : Result (List ℕ) (PickFault (List Label))) (count : ℕ) → PicksBy as_it_is result meant → ((rows : List ℕ) → meant ≡ Ok rows → All (λ row. row < count) rows)
    → IfOk result (All (λ row. row < count))
rows_inside = grind arith

-- a refusal that is handed on
pub handed_on : {A B C D : Type 0} (view : A → B) (view' : C → D) (e : KeyFault) (meant : Result B (PickFault (List Label))) (meant' : Result D (PickFault (List Label))) → ((f : PickFault (List Label)) → meant ≡ Err f → meant' ≡ Err f)
    → PicksBy view (Err e) meant → PicksBy view' (Err e) meant'
handed_on = grind arith

-- the rows of a label of an axis, by the labels of its only level
pub label_found : (labels : List Label) (tuples : List (List Label)) (key : List Label) (l : Label) → single_tuples labels ≡ tuples → length key ≡ 1 → slice_get key 0 ≡ Some l → are_some (rows_where (same_number l) 0 labels) ≡ true
    → rows_of_key (leads same_number) tuples key ≡ Ok (rows_where (same_number l) 0 labels)
label_found labels tuples key l seen one at some = cc (rows_seen labels tuples key l seen one at, some_there l (rows_where (same_number l) 0 labels) some)

none_there : {K : Type 0} (key : K) (rows : List ℕ) → are_some rows ≡ false → unless_none key rows ≡ Err (not_there key)
none_there = grind arith

pub label_missing : (labels : List Label) (tuples : List (List Label)) (key : List Label) (l : Label) → single_tuples labels ≡ tuples → length key ≡ 1 → slice_get key 0 ≡ Some l → are_some (rows_where (same_number l) 0 labels) ≡ false
    → rows_of_key (leads same_number) tuples key ≡ Err (not_there key)
label_missing labels tuples key l seen one at none = cc (rows_seen labels tuples key l seen one at, none_there l (rows_where (same_number l) 0 labels) none, only_label_is key l one at)

-- the rows of a whole tuple
leads_whole : (key tuple : List Label) → length key ≡ length tuple → leads same_number key tuple ≡ pointwise same_number key tuple
leads_whole [] [] _ = refl
leads_whole (k ∷ key) (l ∷ tuple) same = cc (leads_whole key tuple (omega arith))
leads_whole _ _ same = search

pub rows_whole : (n : ℕ) (tuples : List (List Label)) (key : List Label) → HaveLevels n tuples → length key ≡ n → rows_where (leads same_number key) 0 tuples ≡ rows_where (pointwise same_number key) 0 tuples
rows_whole n _ key alike size = rows_where-same _ _ _ (λ t long. leads_whole key t (size ∙ sym long)) 0 _ alike

-- the rows of a key among those of all
pub row_found : (f : List Label → List ℕ) (keys : List (List Label)) (found : List (List ℕ)) (rows : List ℕ) (k : ℕ) → k < length keys → rows ≡ slice_index_or found k [] → found ≡ map f keys → rows ≡ f (slice_index_or keys k [])
row_found = grind (arith, get_or-map)
