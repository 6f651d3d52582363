-- The names that most proofs of forms cite, passed on from one place. Declares nothing.
pub use Rattle.{
  std.{proofs.{Common.{All, Bool, Err, List, None, Ok, Option, Result, Some, [], add-one, ap, append-nil, append_assoc, arith, cond, drop, false, filter, fold, get_or, if◌then◌else◌, length, map, nat_eq, nat_lt, negsuc, not, of_z, pos, refl, replicate, rules, set, slice_index_or, slice_set, string_bytes, subst, suc, sym, take, to_z, true, unwrap_or, zero, ℕ, ℤ, ◌%◌, ◌&&◌, ◌++◌, ◌+◌, ◌-◌, ◌/◌, ◌<◌, ◌^◌, ◌||◌, ◌↔◌, ◌∙◌, ◌∷◌, ◌≡◌, ◌≤◌}, Math.{ListN.{get_or-map}, Seq.{drop-cons, drop-length}}, lemmas.{Bool.{and_parts, Decides.{nat_tests}}, Int.{to_z-of_z}, List.{drop_more, get_or-set_other, get_or-set_same, get_or_default, get_or_push, length-append, length-map, length-replicate, length-set, map-append, map-set, map_more, map_push, take_all, take_more, take_more_set, Elements.{All-append, All-cons, All-filter, All-head, All-map, All-nil, All-push, All-replicate, All-same, All-tail, filter-append}, Folds.{list_all-map, list_any-append, list_any_at, list_any_none}, FromFn.{fill_by_all, get_or-map-range_with_len, get_or-range_with_len, length-map-range_with_len, length-range_with_len, map-range_with_len_more}, Sums.{AllPass-from_list_all}}, Option.{get_or_from_slice_get, same_Some, slice_get-get_or, slice_get_within}, Result.{err_from_is_err_and}, Simd.{map-map}}}, specs.{Bool.{Decides}, Borrow.{Bor}, Cmp.Lexicographic.{pointwise}, Int.{cast_signed, int_wrap, w64}, List.{AllByRecursion, IsDistinct, flat_map, list_all, list_any, position_or_len, range_with_len}, Map.{keys_of, lookup}, Option.{option_map}, Prelude.{AllPairs, IfErr, IfOk, IfSome, IsSome, codes, filter_map, reverse, slice_get, slice_index, ⊤, ◌≢◌}, String.{string_eq}, declared.string.String.{String}}},
  cell_core.specs.{Texts.{AreDistinct}, Values.{label_of}, declared.{cell.{Cell.{Cell, TheVariants.{Na}}, Kind.{Kind, TheVariants.{Boolean, Int64}}, Label.{Label}, TextId.{TextId}}, code.Code.{Code, TheVariants.{Limit, NoKey, WrongKind}}, grid.{Rows.{Rows}, Shape.{Shape, TheVariants.{Frame, Series}}}}},
  column_core.{specs.{cells.{Cell.{AreGiven, CellValue, IsGiven, IsLonger, LabelValue, datum, holds, int, label_datum, na, na_cell, text_cell, truth_cell}, Column.{ColumnValue, tabulate, taken}, Fault.{FaultValue, bad_value, levels, limit, not_aligned, then_value, wrong_kind}, FaultOf.{fault_of}, Operator.{cell_label}, Reduce.{distinct, same_cell}, Symbol.{Accessor, Binary, loc}, Text.{Contents, Text}}, Blocks.{CellBlock}, Columns.{CellColumn}, Moves.{IsPlaceOf}}, proofs.MoveLaws.{get_or-tabulate}},
  nullable_array.specs.{Answers.{Answers}, declared.ops.ArrayFault.{ArrayFault}},
  multi_index.{proofs.SideLaws.{label_there}, specs.Axes.{AxisValue, HaveLevels, nameless_axis, range_axis, single_tuples, taken_axis}},
  frame_store.{proofs.{tables.KindLaws.{kind_itself}, ColumnLaws.{map-put_at, map-remove}, FormLaws.{answer_cost, cells_with_texts, charged_within, cost_within, forms_within, free_forms, free_sets, holds_within, sets_within}, Settling.{cell_given, cell_settled, cells_given, cells_settled, column_settled, columns_given, columns_name_part, columns_part, columns_settled, headings_part, labels_part, level_names_part, longer_self, longer_twice, object_settled, seen_later, settled_by, settled_later, settled_with, table_settled}}, specs.{tables.{Change.{put_at, with_column, with_labels, with_values, with_values_from}, Settled.{IsSettled}, Table.{ColumnOf, NumberedTable, Table, column_at, column_value, heading_value, no_column, row_of, table_value, tuple_value}, Valid.{AreHeadings, IsWhole}, Cost.{answer_charge, cost_of, free}, Value.{Entry, Given, GivenList, GivenSub, NamedGiven, cell, dict_in, list_in, many, more_given, no_given, object_in, one, scalar_in, table}}, Arguments.{AreLive, AreLiveItems, IsLive, IsLiveArgument, IsLiveItem, argument_of, arguments_of, entries_of, entry_of, item_of, items_of, items_row, object_value, subscript_of}, Grids.{grid_of}, Objects.{Holding, Tables, changing, holding_of, table_at, table_or, tables, with_object}, Parts.{AreColumnsOf, HaveRows, HeadingList, IsSingle, axis_of, block_column, columns_of, headings_of, single_block, table_column, table_of, table_with}, Shown.{FormAnswers, Makes, Refuses, Shown, cells_value, columns_value, headings_value, labels_value, shown, table_in, with_shown}, Stores.{charged}, World.{AreKnownArguments, Forms, FormsFor, Holds, IsKnownArgument, IsKnownSubscript, IsKnownTable, IsKnownValue, IsSettledWorld, Keeps, SetsFor, World, argument_in, arguments_in, entry_in, objects_of, world}, declared.{arguments.{Argument.{Argument, Many, One}, Item.{Item, Row', Row_of-Item, end_of-Item, more_of-Item}, Named.{Named}, Subscript.{Subscript, TheVariants.{Key}}, Value.{Value, TheVariants.{Object, Scalar}}}, fault.OpFault.{OpFault, TheVariants.{NoMemory, Refused}}, object.ObjId.{ObjId}, store.Store.{Store}}}},
  meaning_form.{proofs.align.{OrderLaws.{all_distinct, all_flat}, SeenLaws.{distinct_map, first_map}}, specs.{align.{Faults.{met_rows}, Joins.{most_rows}, Targets.{first_repeated, first_where, reindexed}}, Finish.{column_labels, column_of_value, default_labels, limited, limited_table, made_column, missing_column, same_heading, same_kind, try_all, unless_repeated, value_of_column, with_columns, within_limits}, Given.{same_label}, Infix.{Meeting, are_headings, beside, columns_or_missing, common_name, compares, labels_fit, meets, met, on_levels, on_rows, same_tuple, same_tuples, spread, tuple_heading, with_scalar}, Make.{on, pairs_in, pairs_onto, with_pair}, Select.{cells_of, heading_at, labels_of, place_of_label}, Set.{first_kind, list_column}}},
  label_align.specs.{Answers.{AlignsBy, as_it_is}, Joined.{lists_seen}, Tuples.{tuple_less}, declared.joined.Joined.{Joined}},
  frame_parts.{proofs.{GapLaws.{block_on, on_rows_given, on_rows_seen, rows_below, rows_counted, rows_met, rows_refused, single_on}, LabelLaws.{default_seen, heading_label, same_by_number, value_decides}, RowLaws.{settled_tuples, tuple_by_number, tuples_settled}, TableMade.{made_is_meant, made_is_settled, refused_on}}, specs.Makes.{AreColumns, IsKindOf, MakesBy, block_value, blocks_value, column_listed, column_seen, held_column}},
}
