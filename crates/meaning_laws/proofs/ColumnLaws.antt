-- Columns of so many rows whose kinds hold their cells.
use Rattle.{
  meaning_script.{proofs.cells.Common.{arith, ◌≡◌, ℕ, ℤ, length, refl, ap, suc, ◌-◌, pos, negsuc, List, [], ◌∷◌, ◌++◌, length-map, length-replicate, All-replicate, All-nil, All-cons, All-head, All-tail, All-filter, All-append, lt-ltb, Bool, true, if◌then◌else◌, replicate, Option, Some, None, Result, Ok, Err, IfOk, All, fold, IfSome, int_wrap, CellValue, Kind, Int64, Boolean, na_cell, holds, ColumnValue, ColumnFault, column_of, column_if, shifted_row, shifted, Cumulation, cumulation_cell, cumulation_takes, running, unless_missing, scalar_kind, scalar_column, operator_cell, invert_cell, Binary, FaultValue, then_value, cast_cell, present, reduction_cell}, specs.{cells.{Cell.{has_64_bits}, Operator.{inverted as inverted_value, operator_kind}, Reduce.{Reduction, sum, min, max, any, all, count}}, form.{Finish.{value_of_column, made_column}, Infix.{Meeting, met, inverted_column}, Set.{list_column}, Make.{cast_to}}, method.Methods.{mapped, filled, filled_column, shifted_column, cast_as, cumulated}}},
  std.{proofs.lemmas.Int.{SFits-int_wrap}, specs.Int.{w64, RustNames.{FitsSigned}}},
  meaning_laws.{proofs.{Words.{Column, Cells}, ListLaws.{all_pass, all_made, then_keeps, all_mapped, each_keeps, pairs_keep, length_tabulate, where_keeps, both_true, at_or, all_tabulated}}, specs.Validity.{IsHeldCell}},
}
use Rattle.meaning_script.specs.cells.Cumulate as cumulation

-- cells that a kind holds
-- a cell that a column's kind holds
abbrev pub Held : Kind → CellValue → Type 0
Held kind c = holds kind c ≡ true

pub na_held : (kind : Kind) → Held kind na_cell
na_held kind = refl

pub held_cell : (kind : Kind) (c : CellValue) → Held kind c → IsHeldCell c
held_cell = grind arith

-- a cell that is missing or of the kind's own sort, a whole number of any size
abbrev pub OfKind : Kind → CellValue → Type 0
OfKind kind c = scalar_kind kind c ≡ kind

module _ (kind : Kind) (c : CellValue) where
  pub scalar_of_kind : OfKind (scalar_kind kind c) c
  scalar_of_kind = grind arith

fits_bits : (z : ℤ) → FitsSigned w64 z → has_64_bits z ≡ true
fits_bits = grind (arith, lt-ltb)

-- a number that wraps has 64 bits
pub wrap_fits : (z : ℤ) → has_64_bits (int_wrap w64 z) ≡ true
wrap_fits z = fits_bits _ (SFits-int_wrap _ z)

-- operators

pub invert_held : (c : CellValue) → Held Boolean (invert_cell c)
invert_held = grind arith

-- the kind of an operator's answer holds what it makes of two cells
pub operator_held : (op : Binary) (k l m : Kind) → operator_kind op k l ≡ Some m → (a b : CellValue) → OfKind k a → IfSome (operator_cell op a b) (Held m)
operator_held = grind (arith, wrap_fits)

-- a kind holds what is cast to it
pub cast_held : (kind : Kind) (c : CellValue) → IsHeldCell c → IfSome (cast_cell kind c) (Held kind)
cast_held = grind (arith, both_true)

-- reductions

pub fold_keeps : {A B : Type 0} (P : B → Type 0) (Q : A → Type 0) (f : B → A → B) → ((b : B) (a : A) → P b → Q a → P (f b a)) → (b : B) → P b → (xs : List A) → All Q xs → P (fold f b xs)
fold_keeps P Q f so b h [] k = h
fold_keeps P Q f so b h (x ∷ xs) k = fold_keeps P Q f so (f b x) (so b x h (All-head Q x xs k)) xs (All-tail Q x xs k)

one_of : (kind : Kind) (test : Bool) (a b : CellValue) → Held kind a → Held kind b → Held kind (if test then b else a)
one_of = grind arith

-- the kind of what a reduction makes of cells of a kind
abbrev pub reduced_kind : Reduction → Kind → Kind
reduced_kind sum kind = Int64
reduced_kind min kind = kind
reduced_kind max kind = kind
reduced_kind any kind = Boolean
reduced_kind all kind = Boolean
reduced_kind count kind = Int64

pub reduction_held : (op : Reduction) (kind : Kind) (cells : Cells) → All (Held kind) cells → Held (reduced_kind op kind) (reduction_cell op cells)
reduction_held sum kind cells h = fold_keeps (λ z. has_64_bits z ≡ true) (Held kind) _ (λ z c _ _. wrap_fits _) (pos 0) refl (present cells) (All-filter _ (Held kind) _ h)
reduction_held min kind cells h = fold_keeps (Held kind) (Held kind) _ (grind (arith, one_of)) na_cell refl (present cells) (All-filter _ (Held kind) _ h)
reduction_held max kind cells h = fold_keeps (Held kind) (Held kind) _ (grind (arith, one_of)) na_cell refl (present cells) (All-filter _ (Held kind) _ h)
reduction_held any kind cells h = refl
reduction_held all kind cells h = refl
reduction_held count kind cells h = fold_keeps (λ z. has_64_bits z ≡ true) (Held kind) _ (λ z c _ _. wrap_fits _) (pos 0) refl (present cells) (All-filter _ (Held kind) _ h)

-- cumulations

pub unless_held : (kind : Kind) (c answer : CellValue) → Held kind answer → Held kind (unless_missing c answer)
unless_held = grind arith

pub length_running : (f : Cells → CellValue) (before cells : Cells) → length (running f before cells) ≡ length cells
length_running f before [] = refl
length_running f before (c ∷ cs) = ap suc (length_running f _ cs)

running_held : (kind made : Kind) (f : Cells → CellValue) → ((cells : Cells) → All (Held kind) cells → Held made (f cells)) → (before cells : Cells) → All (Held kind) before → All (Held kind) cells
    → All (Held made) (running f before cells)
running_held kind made f so before [] h k = All-nil (Held made)
running_held kind made f so before (c ∷ cs) h k =
    let now = All-append (Held kind) before (c ∷ []) h (search (All-cons, All-nil, All-head)) in
    grind (arith, unless_held, running_held kind made f so (before ++ c ∷ []) cs now (All-tail (Held kind) c cs k))

pub cumulation_held : (op : Cumulation) (kind : Kind) → cumulation_takes op kind ≡ true → (cells : Cells) → All (Held kind) cells → Held Int64 (cumulation_cell op cells)
cumulation_held cumulation.sum kind takes cells h = reduction_held sum _ _ h
cumulation_held cumulation.min Int64 takes cells h = reduction_held min Int64 _ h
cumulation_held cumulation.max Int64 takes cells h = reduction_held max Int64 _ h
cumulation_held op kind takes cells h = cc

pub cumulated_held : (op : Cumulation) (kind : Kind) (cells : Cells) → cumulation_takes op kind ≡ true → All (Held kind) cells → All (Held Int64) (running (cumulation_cell op) [] cells)
cumulated_held op kind cells takes h = running_held _ Int64 (cumulation_cell op) (cumulation_held op _ takes) [] _ (All-nil (Held kind)) h

-- shifts

module _ (kind : Kind) (cells : Cells) where
  shifted_row_held : All (Held kind) cells → (periods : ℤ) (row : ℕ) → Held kind (shifted_row na_cell cells periods row)
  shifted_row_held h (pos n) row =
      let held = at_or (Held kind) cells (row - n) na_cell refl h in
      grind arith
  shifted_row_held h (negsuc n) row = at_or (Held kind) _ _ _ refl h

  pub shifted_held : (periods : ℤ) → All (Held kind) cells → All (Held kind) (shifted na_cell cells periods)
  shifted_held = search (all_tabulated, shifted_row_held)

-- columns
-- so many cells, which the kind holds
pub record IsColumnOf (rows : ℕ) (kind : Kind) (cells : Cells) : Type 0 where
  pub filled : length cells ≡ rows
  pub held : All (Held kind) cells

abbrev pub IsColumn : ℕ → Column → Type 0
IsColumn rows c = IsColumnOf rows c.kind c.cells

-- so many cells of the kind, numbers of any size
pub record IsSide (rows : ℕ) (c : ColumnValue) : Type 0 where
  pub filled : length c.cells ≡ rows
  pub fits : All (OfKind c.kind) c.cells

pub side : (rows : ℕ) (kind : Kind) (cells : Cells) → IsColumnOf rows kind cells → IsSide rows record { kind = kind; cells = cells }
side = grind arith

-- two columns that meet
pub record IsMeeting (rows : ℕ) (m : Meeting) : Type 0 where
  pub first : IsSide rows m.0
  pub second : IsSide rows m.1

abbrev AreRows : ℕ → Kind → Cells → Type 0
AreRows rows kind cells = (length cells ≡ rows) × All (Held kind) cells

made_keeps : (rows : ℕ) (kind : Kind) (refuse : ℕ → ColumnFault) (made : Result Cells ℕ) → IfOk made (AreRows rows kind) → IfOk (made_column (column_of kind refuse made)) (IsColumn rows)
made_keeps = grind arith

made_if_keeps : (rows : ℕ) (kind : Option Kind) (refuse : ℕ → ColumnFault) (made : Result Cells ℕ) → ((k : Kind) → kind ≡ Some k → IfOk made (AreRows rows k))
    → IfOk (made_column (column_if kind refuse made)) (IsColumn rows)
made_if_keeps = grind (arith, made_keeps)

-- a column that a test lets be made
pub if_made : (rows : ℕ) (b : Bool) (made : ColumnValue) (fault : ColumnFault) → (b ≡ true → IsColumnOf rows made.kind made.cells) → IfOk (made_column (if b then Ok made else Err fault)) (IsColumn rows)
if_made = grind arith

-- an operator's column
pub met_keeps : (op : Binary) (rows : ℕ) (m : Meeting) → IsMeeting rows m → IfOk (met op m) (IsColumn rows)
met_keeps op rows m h =
    made_if_keeps _ _ _ _
    (λ kind is. pairs_keep _ (OfKind m.1.kind) _ _ (λ a b first _. operator_held op _ _ _ is a b first) 0 _ _ _ h.first.filled h.second.filled h.first.fits h.second.fits)

-- a scalar beside a column
pub scalar_meets : (c : CellValue) (rows : ℕ) (a : Column) → IsColumn rows a → IsMeeting rows (value_of_column a, scalar_column (value_of_column a) c)
scalar_meets c rows a h = record {
  first = search side;
  second = record {
    filled = search length-replicate;
    fits = All-replicate (OfKind (scalar_kind a.kind c)) (length a.cells) c (scalar_of_kind _ c);
  };
}

pub cast_keeps : (kind : Kind) (rows : ℕ) (c : Column) → IsColumn rows c → IfOk (cast_as kind c) (IsColumn rows)
cast_keeps kind rows c h =
    made_keeps _ _ _ _
    (rw h.filled at (each_keeps _ (Held kind) _ (λ a held. cast_held kind a (held_cell c.kind a held)) 0 c.cells h.held))

pub cast_to_keeps : (kind : Option Kind) (rows : ℕ) (c : Column) → IsColumn rows c → IfOk (cast_to kind c) (IsColumn rows)
cast_to_keeps None rows c h = h
cast_to_keeps (Some kind) rows c h = cast_keeps kind rows c h

invert_keeps : (rows : ℕ) (kind : Kind) (cells : Cells) → IsColumnOf rows kind cells → IfOk (made_column (inverted_value kind cells)) (IsColumn rows)
invert_keeps rows Boolean cells h = search (length-map, all_mapped, invert_held)
invert_keeps rows _ cells h = tt

pub inverted_keeps : (rows : ℕ) (c : Column) → IsColumn rows c → IfOk (inverted_column c) (IsColumn rows)
inverted_keeps = search invert_keeps

pub mapped_keeps : (kind : Kind) (f : CellValue → CellValue) → ((c : CellValue) → Held kind (f c)) → (rows : ℕ) (c : Column) → IsColumn rows c → IfOk (mapped kind f c) (IsColumn rows)
mapped_keeps kind f so rows c h = search (length-map, all_mapped)

filled_held : (kind : Kind) (value c : CellValue) → Held kind value → Held kind c → Held kind (filled value c)
filled_held = grind arith

pub filled_keeps : (value : CellValue) (rows : ℕ) (c : Column) → IsColumn rows c → IfOk (filled_column value c) (IsColumn rows)
filled_keeps value rows c h = search (where_keeps, length-map, all_made, filled_held)

pub shifted_keeps : (periods : ℤ) (rows : ℕ) (c : Column) → IsColumn rows c → IfOk (shifted_column periods c) (IsColumn rows)
shifted_keeps periods rows c h = search (length_tabulate, shifted_held)

pub cumulated_keeps : (op : Cumulation) (rows : ℕ) (c : Column) → IsColumn rows c → IfOk (cumulated op c) (IsColumn rows)
cumulated_keeps op rows c h = if_made _ _ _ _ (λ e. search (length_running, cumulated_held))

pub columns_meet : (rows : ℕ) (a b : Column) → IsColumn rows a → IsColumn rows b → IsMeeting rows (value_of_column a, value_of_column b)
columns_meet = search side

pub column_then_keeps : (rows : ℕ) (r : Result Column FaultValue) (go : Column → Result Column FaultValue) → IfOk r (IsColumn rows) → ((c : Column) → IsColumn rows c → IfOk (go c) (IsColumn rows)) → IfOk (then_value r go) (IsColumn rows)
column_then_keeps = search then_keeps

-- what a method makes of each column, by itself, by operators or one after the other
pub ruleset column_answers = (mapped_keeps, filled_keeps, cast_keeps, shifted_keeps, cumulated_keeps, column_then_keeps, met_keeps, scalar_meets, columns_meet)

-- the column of a list
pub list_keeps : (cells : Cells) → IfOk (list_column cells) (IsColumn (length cells))
list_keeps = grind (arith, all_pass)

-- a cell in each row
pub spread_column : (kind : Kind) (rows : ℕ) (c : CellValue) → Held kind c → IsColumnOf rows kind (replicate rows c)
spread_column kind rows c h = record { filled = length-replicate rows c; held = All-replicate (Held kind) rows c h }
