-- The names that most proofs cite, passed on from one place. Declares nothing.
pub use Rattle.{
  std.{proofs.{Common.{All, Bool, Err, FitsSigned, List, None, Ok, OnOk, Option, Result, Some, [], add-one, add-zero, ap, append_assoc, arith, below_more, cond, decimal, drop, encode_utf8, eqb, false, filter, find, fold, get_or, if◌then◌else◌, inl, inr, is_some, leb, length, length-append, map, max, min, mod-eq_of_lt, nat_eq, nat_le, nat_lt, negsuc, not, of_calls, of_z, option_map, pos, refl, replicate, rules, set, slice_index, slice_index_or, slice_range, string_bytes, subst, suc, sum_by, sym, take, to_z, true, unwrap_or, vec_len, w64, zero, zero-add, ℕ, ℤ, ⊎_elim, ◌%◌, ◌&&◌, ◌*ℤ◌, ◌*◌, ◌++◌, ◌+ℤ◌, ◌+◌, ◌-ℤ◌, ◌-◌, ◌/◌, ◌<◌, ◌==◌, ◌^◌, ◌||◌, ◌↔◌, ◌∙◌, ◌∷◌, ◌≡◌, ◌≢◌, ◌≤◌, ◌⊎◌}, Math.{Bool.{beq}, ListN.{get_or-append}, Nat.{pow-le-pow_right}, Seq.{drop-append_seam, drop-cons, drop-length, get_or-append_seam, take-append_seam}}, lemmas.{Bool.{and_parts, cases_Bool, cases_eq, cases_lt, cond_both, eq-eqb, eqb-false, eqb-true, false≢true, le-ltb, leb-true, lt-ltb, ltb-false, ltb-true, ne_eqb, Decides.{eqb_tells, leb_tells, nat_tests, same_from_decides}}, Cmp.{int_eq_equiv, tied_itself}, Fmt.{decimal_injective}, Fn.{always_returns_same}, Grind.{common_steps}, Int.{to_z-of_z}, List.{append-nil, drop-drop, drop-map, drop_all, drop_more, ext_get_or, get_or-drop, get_or-map, get_or-set_other, get_or-set_same, get_or-take, get_or_append_left, get_or_default, get_or_past, get_or_push, get_or_read, length-drop, length-map, length-replicate, length-set, length-take, length-take-le, length_push, map-append, map-id, map-set, map_more, map_push, nil_from_length, same_lists, set-get_or, take-append-drop, take-map, take-replicate, take_all, take_at, take_more, take_more_set, take_rest, with_items_is, Concat.{flat_map-append, length-flat_map}, Edits.{length-remove, length-swap}, Elements.{All-append, All-cons, All-drop, All-filter, All-head, All-map, All-more, All-nil, All-push, All-replicate, All-same, All-set, All-tail, All-take, filter-append, filter_more, filter_passes, recursion_from_All}, Folds.{flat_map-map, fold-map, list_all-append, list_all-map, list_all_at, list_all_more, list_any-append, list_any_at, list_any_none, position_or_len_push}, FromFn.{fill_by_all, get_or-map-range_with_len, get_or-range_with_len, length-map-range_with_len, length-range_with_len, map-range_with_len_more}, Kept.{AllPairs-cons, AllPairs-filter}, Quantifiers.{all_pairs_push, all_pairs_remove}, Sorted.{ranks_by}, Sums.{AllPass-from_list_all, passes_at_first, position_or_len_is, prefix_len-le-length, prefix_len_passes, sum_by-cons, sum_by_more}}, Map.Keys.{apart_from_distinct}, Nat.{div-add-mod', div-mul-add, div_below, leading_length, mul-le, one_shl, pow-add}, Option.{get_or_from_slice_get, same_Some, slice_get-get_or, slice_get_within}, Result.{IfOk-weaker, err_from_is_err_and, on_ok_weaker}, Simd.{map-map}, Slice.Eq.{bytes_eq-Decides}, Str.{IsUtf8-append, IsUtf8-from_ascii, IsUtf8-nil, inside_one, Parse.{IsNumeralModel, numerals_by_value}}}}, specs.{Bool.{Decides}, Borrow.{Bor}, Cmp.{IsEquivalence, IsStrictWeakOrder, IsTotalOrder, nat_eq_equiv, Lexicographic.{as_long, lists_equiv, lists_total, pointwise, pointwise_decides, slice_cmp}}, FinMap.{get, insert, slice_cmp-IsAntisymmetric}, Global.{Vec}, Int.{cast_signed, div_ceil, int_wrap, Count.{count_leading_zeros}}, List.{AllByRecursion, IsDistinct, flat_map, join_by, list_all, list_any, position_from, position_or_len, prefix_len, range_with_len, sum, zip, Sorted.{IsPermutation, IsSorted}}, Map.{keys_of, lookup}, Option.{option_copied}, Ordering.{bool_cmp, int_cmp, int_eq, is_eq, is_gt, is_lt, nat_cmp, ordering_then}, Prelude.{AllPairs, IfErr, IfNone, IfOk, IfSome, IsErrAnd, IsSome, IsTrue, MatchOption, codes, filter_map, int_lt, option_and_then, position, remove, reverse, slice_get, slice_set, swap, unsigned_abs, vec_capacity, ⊤}, Str.{IsAscii, IsUtf8, Iter.{chars_rest}, Parse.{digits_value}}, String.{string_eq}, declared.{cmp.Ordering.{Ordering, TheVariants.{Equal, Greater, Less}}, string.String.{String}}}},
  cell_core.{proofs.LabelLaws.{label_total, value_decides}, specs.{Grids.{AreRowsBelow, GridValue, place_from}, Texts.{AreDistinct, IsGivenLabel, number_of, with_text}, Values.{label_cmp}, contracts.cell.LabelEq.TheImpl.Laws.{laws-law}, declared.{cell.{Cell.{Cell, TheVariants.{Int, Na}}, Kind.{Kind, TheVariants.{Boolean, Int64}}, Label.{Label}, TextId.{TextId}}, code.Code.{Code, TheVariants.{Limit, NoKey, WrongKind}}, grid.{Rows.{Rows}, Shape.{Shape, TheVariants.{Frame, Series}}}, words.Words.{Words}}}},
  meaning_cells.specs.{Block.{with_cell}, Cast.{after_spaces, cast_cell, cast_column, number_of_truth}, Cell.{AreGiven, CellValue, IsGiven, IsLonger, LabelValue, datum, holds, int, int_cell, label_datum, na, na_cell, text, text_cell, text_of, truth_cell}, Column.{ColumnFault, ColumnValue, column_if, column_of, gap_cell, shifted, shifted_row, tabulate, taken, then_rows, try_each, try_pairs, zero_division}, Cumulate.{Cumulation, cumulate_column, cumulation_cell, cumulation_takes, running, unless_missing}, Fault.{FaultValue, Side, bad_value, levels, limit, not_aligned, then_value, wrong_kind}, FaultOf.{fault_of}, FaultText.{fault_text, more_labels, quoted_bytes}, Operator.{cell_label, invert_cell, operator_cell, scalar_binary, scalar_column, scalar_kind}, Reduce.{distinct, distinct_count, is_present, number_in, present, reduction_cell, same_cell}, Symbol.{Accessor, Binary, add, loc}, Text.{Contents, Text, same_text}},
}
