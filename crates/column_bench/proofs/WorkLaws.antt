-- What the operations are made on is such that they take it.
use Rattle.{
  column_core.{proofs.cells.Common.{◌≡◌, ℕ, ◌-◌, ◌<◌, nat_lt, Bool, true, false, cond, List, length, sym, subst, ◌∙◌, arith, Option, Some, None, slice_index_or, All-map, length-map-range_with_len, get_or-map-range_with_len, range_with_len, Na, IsGiven, tabulate}, specs.Moves.{IsPlaceOf}},
  column_bench.specs.{declared.{data.Data.{Data, TheVariants.{Numbers, Divisors, Truths, OtherTruths, Bits}}, operation.Operation.{Operation, TheVariants.{Add, FloorDiv, Lt, And, Sum, Cumsum, Shift, Take, Cast}}, work.Work.{Work}}, Data.{jump_of, other_jump_of, data_cell, data_column, place_at, number_cell, divisor_cell, truth_cell, bit_cell}, Operation.{work_of}, Work.{NeedNoTexts, ArePaired, IsReady}},
}

-- a property of what is missing and of a value
either : {T : Type 0} (P : T → Type 0) (is_missing : Bool) (missing value : T) → P missing → P value → P (cond is_missing missing value)
either P true missing value m v = m
either P false missing value m v = v

cell_given : (texts : List (List ℕ)) (source : Data) (row : ℕ) → IsGiven texts (data_cell source row)
cell_given texts Numbers row = either (IsGiven texts) (nat_lt (jump_of row) 8192) Na (number_cell (jump_of row)) tt tt
cell_given texts Divisors row = either (IsGiven texts) (nat_lt (other_jump_of row) 8192) Na (divisor_cell (other_jump_of row)) tt tt
cell_given texts Truths row = either (IsGiven texts) (nat_lt (jump_of row) 8192) Na (truth_cell (jump_of row)) tt tt
cell_given texts OtherTruths row = either (IsGiven texts) (nat_lt (other_jump_of row) 8192) Na (truth_cell (other_jump_of row)) tt tt
cell_given texts Bits row = either (IsGiven texts) (nat_lt (jump_of row) 8192) Na (bit_cell (jump_of row)) tt tt

data_given : (source : Data) (count : ℕ) → NeedNoTexts (data_column source count).cells
data_given source count = λ texts. All-map (IsGiven texts) (data_cell source) (range_with_len 0 count) (λ k d below. cell_given texts source (slice_index_or (range_with_len 0 count) k d))

rows_of : (source : Data) (count : ℕ) → length (data_column source count).cells ≡ count
rows_of source count = length-map-range_with_len (data_cell source) 0 count

paired : (a b : Data) (count : ℕ) → ArePaired (data_column a count).cells (data_column b count).cells
paired a b count = record {
  same = rows_of a count ∙ sym (rows_of b count);
  left = data_given a count;
  right = data_given b count;
}

placed : (n k : ℕ) → k < n → IsPlaceOf n (place_at k)
placed n k below =
    let within : k - jump_of k < n = omega arith in
    either (IsPlaceOf n) (nat_lt (other_jump_of k) 8192) None (Some (k - jump_of k)) tt within

all_placed : (source : Data) (count : ℕ) → (k : ℕ) (d : Option ℕ) → k < length (tabulate count place_at) → IsPlaceOf (length (data_column source count).cells) (slice_index_or (tabulate count place_at) k d)
all_placed source count k d lt =
    let below : k < count = omega (arith, length-map-range_with_len place_at 0 count, lt) in
    let at : slice_index_or (tabulate count place_at) k d ≡ place_at k = get_or-map-range_with_len place_at 0 count k k d below (omega arith) in
    rw (at, rows_of source count) (placed count k below)

ready : (operation : Operation) (count : ℕ) → IsReady (work_of operation count)
ready Add count = paired Numbers Divisors count
ready FloorDiv count = paired Numbers Divisors count
ready Lt count = paired Numbers Divisors count
ready And count = paired Truths OtherTruths count
ready Sum count = data_given Numbers count
ready Cumsum count = data_given Numbers count
ready Shift count = data_given Numbers count
ready Take count = all_placed Numbers count
ready Cast count = data_given Bits count

pub is_ready : (operation : Operation) (count : ℕ) (work : Work) → work ≡ work_of operation count → IsReady work
is_ready operation count work e = subst IsReady (sym e) (ready operation count)
