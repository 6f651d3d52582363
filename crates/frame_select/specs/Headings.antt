-- Headings that are told apart by the numbers of their texts.
use Rattle.std.specs.Prelude.{◌≡◌, ℕ, nat_lt, Bool, List, [], ◌∷◌, ◌++◌, length, Option, Some, None, if◌then◌else◌}
use Rattle.std.specs.Option.{option_eq}
use Rattle.std.specs.List.{list_any, position_from}
use Rattle.std.specs.Map.{lookup}
use Rattle.cell_core.specs.declared.cell.Label.{Label}
use Rattle.cell_core.specs.contracts.cell.LabelPartialEq.TheImpl.{eq-value}
use Rattle.cell_core.specs.declared.code.Code.TheVariants.{BadValue}
use Rattle.cell_core.specs.declared.code.Reason.TheVariants.{Repeated}
use Rattle.indexers.specs.pick.Rows.{rows_where}
use Rattle.frame_store.specs.declared.fault.OpFault.{OpFault}
use Rattle.frame_store.specs.declared.fault.OpFault.TheVariants.{Refused, NoMemory}

-- equal labels, where equal texts have one number
abbrev pub same_number : Label → Label → Bool
same_number a b = eq-value.it a b

abbrev pub same_heading : Option Label → Option Label → Bool
same_heading a b = option_eq same_number a b

-- the first of these headings that stands again, at a later place or among others
abbrev pub shared_heading : List (Option Label) → List (Option Label) → Option Label
shared_heading [] others = None
shared_heading (h ∷ hs) others = if list_any (same_heading h) (hs ++ others) then h else shared_heading hs others

-- it names the label that stands again, or there was no memory to do so
abbrev pub NamesRepeated : OpFault → Option Label → Type 0
NamesRepeated (Refused code) found = (l : Label) × (found ≡ Some l) × (code ≡ BadValue (Repeated (l ∷ [])))
NamesRepeated NoMemory found = Unit {0}

-- each heading has an entry with the first place at which it stands, where the list begins at a place
abbrev pub HaveFirstPlaces : List (Option Label × ℕ) → ℕ → List (Option Label) → Type 0
HaveFirstPlaces entries from headings = (h : Option Label) → lookup (same_heading h) entries ≡ position_from (same_heading h) from headings

-- a heading is listed where several columns have it
abbrev pub AreRepeated : List (Option Label) → ℕ → List (Option Label) → Type 0
AreRepeated listed from headings = (h : Option Label) → list_any (same_heading h) listed ≡ nat_lt 1 (length (rows_where (same_heading h) from headings))

-- the first label that several columns have: one so far, or else this one where several have it
abbrev pub first_several : Option Label → Bool → Label → Option Label
first_several (Some first) several label = Some first
first_several None several label = if several then Some label else None
