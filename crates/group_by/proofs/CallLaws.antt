-- What the calls on groups answer, as columns.
use Rattle.{
  column_core.{proofs.cells.Common.{arith, ◌≡◌, ap, refl, sym, ℕ, true, false, List, [], ◌∷◌, map, length, slice_index_or, Option, Ok, cases_lt, get_or_past, All-map, Cell, Na, Kind, na_cell, datum, IsGiven, AreGiven, tabulate, gap_cell, taken, cumulation_takes}, specs.Columns.{CellColumn, column_value}},
  std.proofs.Math.ListN.{get_or-map},
  cell_core.specs.{declared.cell.Kind.TheVariants.{Text as string}, contracts.cell.KindPartialEq.TheImpl.{eq-value}},
  factorize.specs.group.{Rows.{GroupsValue}, Reductions.{GroupReduction, group_takes, group_kind, reduced_cells, running_cell, transform_groups, cumsum_groups}},
  group_by.{specs.Counted.{AreNumbers}, proofs.NumberLaws.{numbers_value}},
}
use Rattle.column_core.specs.cells.Cumulate as cumulation

-- all kinds but texts are summed
kind_summed : (k : Kind) → eq-value.it k string ≡ false → cumulation_takes cumulation.sum k ≡ true
kind_summed = grind arith

pub cumsum_answer : (texts : List (List ℕ)) (groups groups' : GroupsValue) (a made : CellColumn) → groups' ≡ groups → eq-value.it a.kind string ≡ false
    → AreNumbers made (λ ts. tabulate (length groups'.codes) (running_cell groups'.codes (map (datum ts) a.cells))) → cumsum_groups groups (column_value texts a) ≡ Ok (column_value texts made)
cumsum_answer texts groups groups' a made same other are = rw (← same, kind_summed a.kind other) (ap Ok (sym (numbers_value _ _ are texts)))

pub transform_answer : (op : GroupReduction) (texts : List (List ℕ)) (groups : GroupsValue) (a made : CellColumn) → group_takes op a.kind ≡ true → made.kind ≡ group_kind op a.kind
    → map (datum texts) made.cells ≡ map (gap_cell na_cell (reduced_cells op groups (map (datum texts) a.cells))) groups.codes → transform_groups op groups (column_value texts a) ≡ Ok (column_value texts made)
transform_answer _ _ _ a _ takes kinds cells = search

-- cells that are taken, with their texts
gap_seen : (texts : List (List ℕ)) (cells : List Cell) (gap : Option ℕ) → datum texts (gap_cell Na cells gap) ≡ gap_cell na_cell (map (datum texts) cells) gap
gap_seen texts cells gap = grind (arith, get_or-map (datum texts) cells)

pub gaps_seen : (texts : List (List ℕ)) (cells : List Cell) (gaps : List (Option ℕ)) → map (datum texts) (taken Na cells gaps) ≡ map (gap_cell na_cell (map (datum texts) cells)) gaps
gaps_seen _ _ [] = refl
gaps_seen texts cells (gap ∷ gaps) = search (gap_seen, gaps_seen texts cells gaps)

gap_given : (texts : List (List ℕ)) (cells : List Cell) → AreGiven texts cells → (gap : Option ℕ) → IsGiven texts (gap_cell Na cells gap)
gap_given = grind (arith, cases_lt, get_or_past)

pub taken_given : (texts : List (List ℕ)) (cells : List Cell) (gaps : List (Option ℕ)) → AreGiven texts cells → AreGiven texts (taken Na cells gaps)
taken_given texts cells gaps given = All-map (IsGiven texts) (gap_cell Na cells) gaps (λ k d lt. gap_given _ _ given (slice_index_or gaps k d))
