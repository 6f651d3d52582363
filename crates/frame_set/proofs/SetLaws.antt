-- What settings make of the table of an object.
use Rattle.{column_core.proofs.cells.Common.{cond_both, option_map}, frame_parts.proofs.Common.{nat_tests, ◌≡◌, ℕ, ◌+◌, ◌≤◌, List, ◌++◌, refl, subst, arith, nat_eq, Option, Some, None, Result, Ok, Err, Cell, Label, Code, Text, datum, label_datum, cell_label, FaultValue, then_value, fault_of, loc, IsSettled, NumberedTable, Table, table_value, Given, GivenSub, MakesBy, Value, Object, Scalar, Subscript, ObjId, OpFault, Refused, NoMemory, Tables, with_object, table_at, table_or, entry_of, subscript_of, shown, Holding, World, SetsFor, Holds, cost_of, table, longer_self, settled_with}, frame_store.{specs.Objects.{LieStill}, proofs.Settling.{shown_with}}, frame_select.specs.{charge.Charge.{setting_charge, touched_in}, select.{Set.{added_label, assign_result, table_set}, Select.{Way}}}, frame_set.{specs.{declared.changes.Setting.{Setting}, Assigned.{without}, Changes.{cells_after, columns_after, ended, table_after, IsSettingOf, RefusesBy, SetsBy}}, proofs.CostLaws.{setting_within, still_without}}}

-- an object has got another table

abbrev pub in_world : List Text → Tables → Holding → World
in_world texts tables holding = record { tables = tables; texts = texts; holding = holding }

pub set_made : (texts : List Text) (tables tables' : Tables) (holding holding' : Holding) (charge : Table → ℕ) (on : ObjId) (t : NumberedTable) (meant : Result Table FaultValue) → IsSettled shown texts tables → IsSettled table_value texts t → tables' ≡ with_object tables on.0 (Some t)
    → meant ≡ Ok (table_value texts t) → Holds (cost_of charge meant) (Some on.0) (in_world texts tables holding) (in_world texts tables' holding') → SetsFor charge (Ok tt) (Object on) meant (in_world texts tables holding) (in_world texts tables' holding')
set_made _ _ _ _ _ _ _ t _ settled given put is held = (grind (arith, shown_with, nat_tests, longer_self), longer_self _, search settled_with, held)

-- or it hasn't
pub set_left : (texts : List Text) (tables tables' : Tables) (holding holding' : Holding) (charge : Table → ℕ) (on : Value) (meant : Result Table FaultValue) → IsSettled shown texts tables → tables' ≡ tables
    → holding'.cells ≤ holding.cells + 0 → LieStill None tables tables' holding.blocks holding'.blocks → SetsFor charge (Err NoMemory) on meant (in_world texts tables holding) (in_world texts tables' holding')
set_left texts _ _ _ _ _ on meant settled same held still = (
  rw same refl,
  longer_self _,
  rw same settled,
  record { cells = held; blocks = λ id live there apart. still id live there (λ none. cc) },
)

-- a part that is refused, and another name for what is meant
pub part_refused : {X Y : Type 0} (view : List Text → X → Y) (texts : List Text) (meant : Result Y FaultValue) (go : Y → Result Table FaultValue) (fault : OpFault) → MakesBy view texts (Err fault) meant
    → RefusesBy texts fault (then_value meant go)
part_refused = grind arith

-- the label that a settled scalar is

pub entry_label_settled : (live : Tables) (texts : List Text) (v : Value) (c : Cell) (label : Label) → v ≡ Scalar c → ((texts : List Text) → label_datum texts label ≡ cell_label (datum texts c)) → IsSettled (entry_of live) texts v → IsSettled label_datum texts label
entry_label_settled _ texts v c _ is seen settled more = cc (seen (texts ++ more), seen texts, settled more)

-- a setting is carried out, with which an object may end
pub ended_settled : (texts : List Text) (ends : Option ObjId) (tables : Tables) → IsSettled shown texts tables → IsSettled shown texts (ended ends tables)
ended_settled _ None _ settled = settled
ended_settled texts (Some id) _ settled = λ more j other. cond_both (nat_eq id.0 other) None _ (λ t. option_map (table_value (texts ++ more)) t ≡ option_map (table_value texts) t) (λ _. refl) (λ _ j. settled more j other) j

pub assign_set : (texts : List Text) (live live' : Tables) (holding holding' : Holding) (on : Value) (id : ObjId) (t : NumberedTable) (setting : Setting) (ends : Option ObjId) (way : Way) (first : GivenSub) (second : Option GivenSub) (g : Given) → on ≡ Object id → live id.0 ≡ Some t → IsSettled shown texts live
    → SetsBy live texts t (Ok setting) (table_set way (table_value texts t) first second g) → live' ≡ with_object (ended ends live) id.0 (Some (table_after live (table_at live id.0) setting))
    → IsSettingOf live ends t setting → columns_after setting ≤ touched_in t.shape way (table_value texts t) first second
    → holding'.cells ≤ holding.cells + cells_after (table_at live id.0) setting → LieStill (Some id.0) live live' holding.blocks holding'.blocks
    → SetsFor (setting_charge (entry_of live texts on) way first second) (Ok tt) on (assign_result (entry_of live texts on) way first second g) (without (Ok tt) ends (in_world texts live holding)) (in_world texts live' holding')
assign_set texts live live' holding holding' _ id t setting ends way first second g on_is there settled sets put fits touched held still =
    let least : cells_after t setting ≤ cost_of (setting_charge (table (table_value texts t)) way first second) (table_set way (table_value texts t) first second g) =
    rw sets.0 (setting_within texts live ends t setting way first second fits touched) in
    let raised : holding'.cells ≤ holding.cells + cells_after t setting = rw there at held in
    let done = subst (λ (o : Option NumberedTable). live' ≡ with_object (ended ends live) id.0 (Some (table_after live (table_or o) setting))) there put in
    rw (on_is, there) (set_made _ _ _ _ _ (setting_charge (table (table_value texts t)) way first second) id _ _ (ended_settled _ _ _ settled) sets.1 done sets.0 record { cells = omega arith; blocks = still_without ends live live' _ _ _ still })

-- the label that a settled scalar key is

pub key_label_settled : (live : Tables) (texts : List Text) (key : Subscript) (label : Label) → ((live : Tables) (texts : List Text) → Some (label_datum texts label) ≡ added_label loc (subscript_of live texts key)) → IsSettled (subscript_of live) texts key
    → IsSettled label_datum texts label
key_label_settled live texts _ _ is settled more = grind (arith, is live (texts ++ more), settled more, is live texts)

-- a refusal by a code
pub refused_by : (texts : List Text) (meant : Result Table FaultValue) (code : Code) (fault : OpFault) → fault ≡ Refused code → meant ≡ Err (fault_of texts code) → IsSettled fault_of texts code → RefusesBy texts fault meant
refused_by = grind arith
