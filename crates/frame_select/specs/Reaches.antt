-- Keys and what they pick, as they are meant.
use Rattle.std.specs.Prelude.{◌≡◌, ℕ, ℤ, ◌<◌, ◌^◌, nat_eq, Bool, true, false, List, [], ◌∷◌, length, map, slice_index_or, Option, Some, None, IfSome, option_map, Result, Ok, Err, All, if◌then◌else◌}
use Rattle.std.specs.Option.{is_some}
use Rattle.cell_core.specs.declared.cell.Label.{Label}
use Rattle.cell_core.specs.declared.grid.Shape.{Shape}
use Rattle.cell_core.specs.declared.grid.Shape.TheVariants.{Series, Frame}
use Rattle.cell_core.specs.declared.code.Code.TheVariants as code
use Rattle.cell_core.specs.declared.code.Reason.TheVariants as reason
use Rattle.column_core.specs.cells.Text.{Text}
use Rattle.column_core.specs.cells.Cell.{CellValue, LabelValue}
use Rattle.column_core.specs.cells.Fault.{FaultValue, wrong_kind}
use Rattle.column_core.specs.cells.Symbol.{Accessor, loc, iloc, at, iat}
use Rattle.frame_store.specs.tables.Table.{NumberedTable, Table, tuple_value}
use Rattle.frame_store.specs.tables.Value.{GivenList, GivenSub, row, key_given, span_given, object_in, tuple_in}
use Rattle.frame_parts.specs.form.Given.{each, is_scalar, is_tuple_of}
use Rattle.frame_parts.specs.form.Select.{labels_of}
use Rattle.column_core.specs.cells.Operator.{cell_label}
use Rattle.multi_index.specs.Axes.{AxisValue, HaveLevels}
use Rattle.indexers.specs.pick.Keys.{LabelKey, all_rows, one_key, each_key, between, PlaceKey, Pick, listed_pick}
use Rattle.meaning_charge.specs.select.Keys.{Reach}
use Rattle.frame_store.specs.declared.arguments.Selector.{Selector}
use Rattle.frame_store.specs.declared.arguments.Selector.TheVariants as selector
use Rattle.frame_store.specs.declared.fault.OpFault.{OpFault}
use Rattle.frame_store.specs.declared.fault.OpFault.TheVariants as op
use Rattle.indexers.specs.declared.keys.LocKey.{LocKey}
use Rattle.indexers.specs.declared.keys.LocKey.TheVariants as key
use Rattle.indexers.specs.declared.keys.PosKey.{PosKey}
use Rattle.indexers.specs.declared.keys.Picked.{Picked}
use Rattle.indexers.specs.declared.keys.KeyFault.{KeyFault}
use Rattle.indexers.specs.declared.keys.KeyFault.TheVariants as fault
use Rattle.indexers.specs.Keys.{place_key}
use Rattle.indexers.specs.Picks.{pick_of, IsSpanned}
use Rattle.frame_store.specs.Shown.{Refuses}
use Rattle.frame_store.specs.World.{IsKnownTable}
use Rattle.frame_select.specs.Selected.{scalars_in}
use Rattle.frame_select.specs.declared.reaching.Reach.{Reach as CodeReach}

-- a key by label, whose texts are the texts themselves
abbrev pub label_key_value : List Text → LocKey → LabelKey (List LabelValue)
label_key_value texts key.All = all_rows
label_key_value texts (key.One k) = one_key (tuple_value texts k)
label_key_value texts (key.Many ks) = each_key (map (tuple_value texts) ks)
label_key_value texts (key.Span lower upper) = between (option_map (tuple_value texts) lower) (option_map (tuple_value texts) upper)

abbrev pub bound_value : List Text → Option (List Label) → Option (List LabelValue)
bound_value texts bound = option_map (tuple_value texts) bound

abbrev pub tuples_value : List Text → List (List Label) → List (List LabelValue)
tuples_value texts tuples = map (tuple_value texts) tuples

-- the labels of scalars alone
abbrev pub labels_in : GivenList → Option (List LabelValue)
labels_in parts = option_map (map cell_label) (scalars_in parts)

-- a scalar on one level
abbrev pub label_alone : ℕ → CellValue → Result (List LabelValue) FaultValue
label_alone levels c = if nat_eq levels 1 then Ok (cell_label c ∷ []) else Err wrong_kind

-- a tuple of scalars alone, and one with a label for each of so many levels
abbrev pub scalar_tuple : GivenList → Result (List LabelValue) FaultValue
scalar_tuple parts = if each is_scalar parts then Ok (labels_of parts) else Err wrong_kind

abbrev pub full_tuple : ℕ → GivenList → Result (List LabelValue) FaultValue
full_tuple levels parts = if is_tuple_of levels (row parts) then Ok (labels_of parts) else Err wrong_kind

-- a whole number, or what the lack of one is
abbrev pub whole_or_fault : Option ℤ → Result ℤ FaultValue
whole_or_fault None = Err wrong_kind
whole_or_fault (Some z) = Ok z

-- a key by position, which has no texts
abbrev pub place_key_value : List Text → PosKey → PlaceKey
place_key_value texts k = place_key k

-- the accessor that a selector is; of a Series, brackets alone are `loc`
abbrev pub accessor_of : Selector → Accessor
accessor_of selector.Plain = loc
accessor_of selector.Loc = loc
accessor_of selector.Iloc = iloc
accessor_of selector.At = at
accessor_of selector.Iat = iat

-- what is picked
abbrev pub pick_value : List Text → Picked → Pick
pick_value texts picked = pick_of picked

-- what is picked is what is meant, or that is a list of more rows than a table may have
abbrev pub IsPicked : Option Picked → Result Pick FaultValue → Type 0
IsPicked (Some picked) meant = meant ≡ Ok (pick_of picked)
IsPicked None meant = (rows : List ℕ) × (2 ^ 26 < length rows) × (meant ≡ Ok (listed_pick rows))

-- rows are found so, or the first fault is answered. Want of memory may come in place of any answer
abbrev pub FindsBy : List Text → Result (Option Picked) OpFault → Result Pick FaultValue → Type 0
FindsBy texts (Ok found) meant = IsPicked found meant
FindsBy texts (Err (op.Refused why)) meant = Refuses texts why meant
FindsBy texts (Err op.NoMemory) meant = Unit {0}

-- rows that are picked, or a list of them, and columns
abbrev pub picked_reach : Picked → Picked → Reach
picked_reach rows columns = record { rows = pick_of rows; columns = pick_of columns }

abbrev pub listed_reach : List ℕ → Picked → Reach
listed_reach rows columns = record { rows = listed_pick rows; columns = pick_of columns }

-- the same of rows and columns
abbrev pub IsReached : Option Picked → Picked → Result Reach FaultValue → Type 0
IsReached (Some rows) columns meant = meant ≡ Ok (picked_reach rows columns)
IsReached None columns meant = (rows : List ℕ) × (2 ^ 26 < length rows) × (meant ≡ Ok (listed_reach rows columns))

abbrev pub ReachesBy : List Text → Result CodeReach OpFault → Result Reach FaultValue → Type 0
ReachesBy texts (Ok reach) meant = IsReached reach.rows reach.columns meant
ReachesBy texts (Err (op.Refused why)) meant = Refuses texts why meant
ReachesBy texts (Err op.NoMemory) meant = Unit {0}

-- places among so many, which the span lists too where there is one; a single one is one, and neither loses a level
pub record PicksBelow (count : ℕ) (picked : Picked) : Type 0 where
  pub below : All (λ place. place < count) picked.places
  pub spanned : IsSpanned count picked
  pub one : picked.single ≡ true → length picked.places ≡ 1
  pub whole : picked.single ≡ true → picked.dropped ≡ 0
  pub kept : is_some picked.span ≡ true → picked.dropped ≡ 0

-- rows and columns of a table, of whose levels one is left; a Series has a single column
pub record ReachesWithin (t : NumberedTable) (reach : CodeReach) : Type 0 where
  pub rows : IfSome reach.rows (PicksBelow (length t.labels))
  pub left : IfSome reach.rows (λ picked. picked.dropped < length t.level_names)
  pub columns : PicksBelow (length t.columns) reach.columns
  pub frame : reach.columns.single ≡ false → t.shape ≡ Frame

-- a table whose parts fit, with a label for each level of each row, and whose texts were given their numbers
pub record CanSelect (texts : List Text) (t : NumberedTable) : Type 0 where
  pub known : IsKnownTable texts t
  pub levels : HaveLevels (length t.level_names) t.labels

abbrev pub is_series : Shape → Bool
is_series Series = true
is_series Frame = false

-- a tuple as a key
abbrev pub is_row : GivenSub → Bool
is_row (key_given g) = is_some (tuple_in g)
is_row (span_given from to by) = false

-- the object that a key is
abbrev pub object_key : GivenSub → Option Table
object_key (key_given g) = object_in g
object_key (span_given from to by) = None

-- the labels of the columns at these places, one to each row
abbrev pub heading_tuple : Option Label → List Label
heading_tuple None = []
heading_tuple (Some l) = l ∷ []

abbrev pub columns_axis : NumberedTable → List ℕ → AxisValue
columns_axis t places = record { tuples = map (λ place. heading_tuple (slice_index_or t.headings place None)) places; names = t.columns_name ∷ [] }

-- why a key picks nothing, as the refusal of a form
abbrev pub refusal_of : KeyFault → OpFault
refusal_of (fault.NotThere k) = op.Refused (code.NoKey k)
refusal_of (fault.BoundNotUnique k) = op.Refused (code.NoKey k)
refusal_of (fault.OutOfRange position count) = op.Refused (code.OutOfRange position count)
refusal_of (fault.NoMaskLabel k) = op.Refused (code.NoMaskLabel k)
refusal_of fault.StepZero = op.Refused (code.BadValue reason.Argument)
refusal_of fault.NoMemory = op.NoMemory

abbrev pub found_result : {A : Type 0} → Result A KeyFault → Result A OpFault
found_result (Ok a) = Ok a
found_result (Err why) = Err (refusal_of why)
