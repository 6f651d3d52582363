-- New tables, and what is tested before they are made.
use Rattle.{
  frame_parts.proofs.Common.{◌≡◌, refl, arith, ℕ, Bool, true, false, List, map, length, All, IsSome, AreHeadings, Option, None, Result, Ok, Err, AreDistinct, Limit, Label, LabelValue, Frame, Text, AreGiven, FaultValue, CellBlock, AxisValue, IsSettled, NumberedTable, Table, table_value, heading_value, Entry, table, within_limits, blocks_value, OpFault, Refused, NoMemory, HeadingList, block_column, table_of, headings_value, Makes, table_settled, columns_settled},
  frame_parts.specs.form.Finish.{first_shared, unless_repeated},
  frame_select.{specs.{select.Select.{shown_as}, Headings.{NamesRepeated, shared_heading}}, proofs.{HeadingLaws.{shared_seen}, RefusalLaws.{shared_settled}}},
  frame_labels.proofs.TableLaws.{limited_within},
  frame_groups.specs.Tables.{shape_if, name_if, headings_if, shown_if, HasHeadings, MayShow, NamesShared, IsAxis},
}

-- so many rows and columns, within the limits or beyond them
module _ (texts : List Text) (labels : List (Option Label)) (rows : ℕ) (single : Bool) (t : Table) (h : HasHeadings texts labels rows t) where
  pub within_shows : within_limits rows (length labels) ≡ true → shown_as false single t ≡ Ok (table (shown_if single t))
  within_shows = grind (arith, limited_within)

  pub beyond_shows : within_limits rows (length labels) ≡ false → MayShow {X = HeadingList} texts (Err (Refused Limit)) single t
  beyond_shows = grind arith

-- headings of a Series, or of a frame
pub headings_fit : (single : Bool) (name : Option Label) (labels : List (Option Label)) → (single ≡ true → length labels ≡ 1) → (single ≡ false → All IsSome labels) → AreHeadings (shape_if single) (name_if single name) labels
headings_fit true _ _ one some = record { single = λ e. one refl; nameless = λ e. refl; labelled = λ e. cc }
headings_fit false _ _ one some = record { single = λ e. cc; nameless = λ e. cc; labelled = λ e. some refl }

-- labels of which one is shared, or none
module _ (texts : List Text) (hs others : List (Option Label)) (distinct : AreDistinct texts) (settled : IsSettled headings_value texts hs) (given : IsSettled headings_value texts others) where
  pub none_shared : shared_heading hs others ≡ None → first_shared (headings_value texts hs) (headings_value texts others) ≡ None
  none_shared is = grind (arith, shared_seen)

  pub one_shared : (why : OpFault) → NamesRepeated why (shared_heading hs others) → NamesShared texts why (first_shared (headings_value texts hs) (headings_value texts others))
  one_shared (Refused code) named = λ rest. (grind (arith, shared_seen), search shared_settled)
  one_shared NoMemory _ = tt

-- the table that was made is the one that is meant
abbrev pub made_table : Bool → AxisValue → Option Label → List (Option Label) → List CellBlock → NumberedTable
made_table single axis name labels blocks = table_of (shape_if single) axis (headings_if single name labels) blocks

pub record IsMade (texts : List Text) (t : Table) (axis : AxisValue) (name : Option Label) (labels : List (Option Label)) (blocks : List CellBlock) : Type 0 where
  pub frame : t.shape ≡ Frame
  pub named : t.columns_name ≡ heading_value texts name
  pub axis_is : IsAxis texts t.labels t.level_names axis
  pub headings : t.headings ≡ headings_value texts labels
  pub columns : blocks_value texts blocks ≡ t.columns
  pub name_given : IsSettled heading_value texts name
  pub labels_given : IsSettled headings_value texts labels
  pub blocks_given : All (λ c. AreGiven texts c.cells) (map block_column blocks)

made_value : (texts : List Text) (single : Bool) (t : Table) (axis : AxisValue) (name : Option Label) (labels : List (Option Label)) (blocks : List CellBlock) → IsMade texts t axis name labels blocks → shown_if single t ≡ table_value texts (made_table single axis name labels blocks)
made_value = grind arith

name_settled : (texts : List Text) (single : Bool) (name : Option Label) → IsSettled heading_value texts name → IsSettled heading_value texts (name_if single name)
name_settled _ true _ _ = λ more. refl
name_settled _ false _ settled = settled

made_settled : (texts : List Text) (single : Bool) (t : Table) (axis : AxisValue) (name : Option Label) (labels : List (Option Label)) (blocks : List CellBlock) → IsMade texts t axis name labels blocks → IsSettled table_value texts (made_table single axis name labels blocks)
made_settled _ _ t _ _ _ _ m = search (table_settled, name_settled, columns_settled)

pub made_is : (texts : List Text) (single : Bool) (t : Table) (meant : Result Entry FaultValue) (axis : AxisValue) (name : Option Label) (labels : List (Option Label)) (blocks : List CellBlock) (headings : HeadingList) (made : NumberedTable) → IsMade texts t axis name labels blocks
    → meant ≡ shown_as false single t → shown_as false single t ≡ Ok (table (shown_if single t)) → headings ≡ headings_if single name labels → made ≡ table_of (shape_if single) axis headings blocks → Makes texts (Ok made) meant
made_is texts single t _ axis name labels blocks _ made m is shows headed tabled =
    let whole : made ≡ made_table single axis name labels blocks = cc in (
      grind (arith, made_value),
      rw whole (made_settled _ _ t _ _ _ _ m),
    )

-- why no table is made
pub refused_is : (texts : List Text) (single : Bool) (t : Table) (meant : Result Entry FaultValue) (why : OpFault) → meant ≡ shown_as false single t → MayShow {X = HeadingList} texts (Err why) single t → Makes texts (Err why) meant
refused_is = grind arith

-- or of which one is shared
pub stands_again : (texts : List Text) (shared : Option LabelValue) (rest meant : Result Entry FaultValue) (why : OpFault) → meant ≡ unless_repeated shared rest → NamesShared texts why shared → Makes texts (Err why) meant
stands_again _ _ _ _ (Refused code) is named = rw is (named _)
stands_again _ _ _ _ NoMemory is named = tt

pub unshared_is : (shared : Option LabelValue) (rest meant : Result Entry FaultValue) → meant ≡ unless_repeated shared rest → shared ≡ None → meant ≡ rest
unshared_is = grind arith
