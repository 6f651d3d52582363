-- The tests of frames of other columns, and which frames whose columns are joined are beyond the limits.
use Rattle.{frame_parts.{proofs.Common.{◌≡◌, ℕ, suc, true, false, List, [], ◌∷◌, ◌∙◌, length, refl, ap, sym, arith, Result, Err, Ok, if◌then◌else◌, nat_eq, Option, ColumnOf, list_all, meets, beside, na_cell, tuple_value, heading_value, Text, LabelValue, Binary, FaultValue, bad_value, not_aligned, limit, Joined, NumberedTable, Table, table_value, Entry, labels_value, columns_or_missing, common_name, on_levels, compares, length-map, within_limits, unless_repeated, column_labels, then_value, OpFault, nat_tests}, specs.form.{Infix.{on_columns, common_infix, wide_infix, frames_fit, joined_rows, joined_frames}, Finish.{first_repeated}}}, std.{proofs.Common.{max}, specs.Prelude.{⊤, OnOk}}, frame_ops.{specs.{Joining.{joined_value}, Fitting.{MayWiden, unequal_after}}, proofs.{MeetingLaws.{levels_same}, CountLaws.{rows_beyond}, FrameFitLaws.{wide_meets}}}}

-- The tests of frames of other columns.
module _ (op : Binary) (texts : List Text) (a b : NumberedTable) where
  abbrev v : Table
  v = table_value texts a

  abbrev w : Table
  w = table_value texts b

  pub unequal_tests : (rest : Result Entry FaultValue) → unequal_after op v w rest
      ≡ on_levels (frames_fit op v w) (nat_eq (length a.level_names) (length b.level_names))
      (if compares op then Err (bad_value not_aligned) else unless_repeated (first_repeated v.headings) (unless_repeated (first_repeated w.headings) rest))
  unequal_tests = grind (arith, levels_same)

  -- which pass
  pub may_widen : frames_fit op v w ≡ true → length a.level_names ≡ length b.level_names → compares op ≡ false → MayWiden op v w
  may_widen fit same apart = record { fit = fit; levels = sym (levels_same (heading_value texts) (heading_value texts) a.level_names b.level_names) ∙ (grind (arith, nat_tests)); apart = apart }

pub on_any : (r : Result ⊤ OpFault) (P : Type 0) → P → OnOk r P
on_any (Ok done) P here = here
on_any (Err fault) P here = tt

length-wide : {C : Type 0} (na : C) (count : ℕ) (own other : List (ColumnOf C)) (ps os : List (Option ℕ)) → length os ≡ length ps → length (columns_or_missing na count own other ps os) ≡ length ps
length-wide na count own other (p ∷ ps) (o ∷ os) same = ap suc (length-wide na count own other ps os (omega (arith, same)))
length-wide _ _ _ _ [] os same = refl
length-wide _ _ _ _ (p ∷ ps) [] same = search

-- Frames under joined labels of columns.
module _ (op : Binary) (texts : List Text) (f g : NumberedTable) (joined : Joined) where
  abbrev left : Table
  left = table_value texts f

  abbrev right : Table
  right = table_value texts g

  abbrev keys : List (List LabelValue)
  keys = labels_value texts joined.axis.tuples

  abbrev on_left : Table
  on_left = on_columns left right keys joined.left joined.right

  abbrev on_right : Table
  on_right = on_columns right left keys joined.right joined.left

  module _ (is : joined_rows (column_labels left) (column_labels right) ≡ Ok (joined_value texts joined)) where
    pub wide_common : joined_frames op left right ≡ common_infix op on_left on_right
    wide_common = ap (λ r. then_value r (wide_infix op left right)) is

    module _ (headed : length f.headings ≡ length f.columns) (headed' : length g.headings ≡ length g.columns) (may : MayWiden op left right) (count : ℕ) (counted : length joined.left ≡ count) (many : length joined.right ≡ length joined.left) where
      pub wide_beyond : within_limits (max (length f.labels) (length g.labels)) count ≡ false → joined_frames op left right ≡ Err limit
      wide_beyond beyond =
          let m = length left.labels in
          let n = length right.labels in
          let wide_left : length on_left.columns ≡ length joined.left = length-wide na_cell m left.columns right.columns joined.left joined.right many in
          let wide_right : length on_right.columns ≡ length joined.right = length-wide na_cell n right.columns left.columns joined.right joined.left (sym many) in
          let heads : length left.headings ≡ length left.columns = grind (arith, length-map) in
          let heads' : length right.headings ≡ length right.columns = grind (arith, length-map) in
          let kinds : list_all (meets op) (beside on_left.columns on_right.columns) ≡ true = wide_meets op left right may.fit heads heads' (joined_value texts joined) is m n in
          let cells : within_limits (max m n) (length on_left.columns) ≡ false = cc (wide_left, length-map f.labels (tuple_value texts), length-map g.labels (tuple_value texts)) in
          wide_common ∙ rows_beyond op on_left on_right (record on_left { columns_name = common_name on_left.columns_name on_right.columns_name }) (wide_right ∙ many ∙ sym wide_left) kinds may.apart refl cells may.levels
