-- Lists of labels that may meet more rows than a table may have, and what a selection of so many answers.
use Rattle.{
  frame_parts.proofs.Common.{Bool, Table, ◌≡◌, ◌∙◌, refl, ap, arith, ◌<◌, ◌^◌, ℕ, false, List, length, Option, Some, None, Result, Ok, Err, length-map, nat_tests, Label, AreDistinct, Text, FaultValue, limit, IsSettled, tuple_value, NumberedTable, tuples_settled, OpFault, Refused, NoMemory, MakesBy},
  indexers.{specs.{Lists.{rows_of_list, list_within}, Picks.{PicksBy, pick_of, as_it_is}, declared.keys.{Picked.{Picked}, KeyFault.{KeyFault}}, pick.{Faults.{then_pick, pick_seen}, Keys.{Pick, each_key, listed_pick}}}, proofs.{AnswerLaws.{handed_on}, ListLaws.{some_within, none_within, refused_within}}},
  meaning_charge.specs.select.{Keys.{found_pick, found_labels, reach_of, Reach}, Select.{shown_as}},
  frame_select.{specs.{Reaches.{label_key_value, tuples_value, pick_value, refusal_of, listed_reach, FindsBy, IsPicked, IsReached}, Plans.{PlansBy}}, proofs.ReachLaws.{labels_found, picked_is}},
}
use Rattle.indexers.specs.declared.keys.LocKey.TheVariants as key
use Rattle.cell_core.specs.declared.code.Code.TheVariants.{Limit}

-- a refusal is one of what is found
refused_so : (texts : List Text) (why : OpFault) (meant : Result Pick FaultValue) → MakesBy pick_value texts (Err why) meant → FindsBy texts (Err why) meant
refused_so _ (Refused code) _ h = h
refused_so _ NoMemory _ _ = tt

module _ (texts : List Text) (levels : ℕ) (tuples labels : List (List Label)) (distinct : AreDistinct texts) (given : IsSettled tuples_value texts tuples) (settled : IsSettled label_key_value texts (key.Many labels)) where
  abbrev found : Result Pick FaultValue
  found = found_labels levels (tuples_value texts tuples) (each_key (tuples_value texts labels))

  found_so : (rows : List ℕ) → rows_of_list tuples labels ≡ Ok rows → found ≡ Ok (listed_pick rows)
  found_so rows is =
      ap found_pick
      (picked_is texts distinct levels tuples (key.Many labels) (tuples_settled texts tuples given) settled
      ∙ ap (λ r. pick_seen (tuple_value texts) (then_pick r (λ rows. Ok (listed_pick rows)))) is)

  module _ (most : ℕ) where
    pub listed_found : (rows : List ℕ) → list_within most tuples labels ≡ Ok (Some rows) → found ≡ Ok (listed_pick rows)
    listed_found rows is = found_so rows (some_within most (rows_of_list tuples labels) rows is)

    pub listed_beyond : list_within most tuples labels ≡ Ok None → (rows : List ℕ) × (most < length rows) × (found ≡ Ok (listed_pick rows))
    listed_beyond is = let beyond = none_within most (rows_of_list tuples labels) is in (beyond.0, beyond.1, found_so beyond.0 beyond.2)

    pub listed_refused : (fault : KeyFault) → PicksBy as_it_is (Err fault) (list_within most tuples labels) → FindsBy texts (Err (refusal_of fault)) found
    listed_refused fault picks =
        refused_so _ _ _
        (labels_found texts levels tuples (key.Many labels) (Err fault) (Err (refusal_of fault)) distinct given settled refl
        (handed_on as_it_is pick_of fault (list_within most tuples labels) _ (λ f is. ap (λ r. then_pick r (λ rows. Ok (listed_pick rows))) (refused_within most (rows_of_list tuples labels) f is)) picks))

-- rows and columns are reached together
pub reached_both : (rows : Option Picked) (columns : Picked) (m n : Result Pick FaultValue) → IsPicked rows m → n ≡ Ok (pick_of columns) → IsReached rows columns (reach_of m n)
reached_both (Some picked) columns m n is is' = cc
reached_both None columns m n beyond is' = let is = beyond.2 in (beyond.0, beyond.1, cc)

-- a plan of so many rows is refused as what it reaches is
pub planned_beyond : (texts : List Text) (t : NumberedTable) (reach : Result Reach FaultValue) (columns : Picked) (why : OpFault) → IsReached None columns reach
    → ((rows : List ℕ) → 2 ^ 26 < length rows → PlansBy texts t (Err why) (Ok (listed_reach rows columns))) → PlansBy texts t (Err why) reach
planned_beyond _ _ _ _ (Refused code) beyond plans = rw beyond.2 (plans beyond.0 beyond.1)
planned_beyond _ _ _ _ NoMemory _ _ = tt

-- so many rows are beyond the limits
many_limited : (single : Bool) (u : Table) → 2 ^ 26 < length u.labels → shown_as false single u ≡ Err limit
many_limited = grind (arith, nat_tests)

pub beyond_rows : (texts : List Text) (t : NumberedTable) (columns : Picked) (rows : List ℕ) → 2 ^ 26 < length rows → PlansBy texts t (Err (Refused Limit)) (Ok (listed_reach rows columns))
beyond_rows texts t columns rows many = grind (arith, many_limited, length-map)
