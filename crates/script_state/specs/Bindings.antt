-- Names, and the state that they and their values make.
use Rattle.std.specs.Prelude.{◌≡◌, ℕ, suc, Bool, true, false, not, ◌&&◌, List, [], ◌∷◌, ◌++◌, map, Option, Some, None, IsSome, if◌then◌else◌, nat_eq, option_map, string_bytes}
use Rattle.std.specs.declared.string.String.{String}
use Rattle.cell_core.specs.declared.cell.Cell.{Cell}
use Rattle.meaning_laws.specs.cells.Text.{Text, same_text}
use Rattle.meaning_laws.specs.cells.Cell.{datum}
use Rattle.meaning_laws.specs.tables.Settled.{IsSettled}
use Rattle.frame_store.specs.Objects.{Tables, with_object}
use Rattle.frame_store.specs.declared.object.ObjId.{ObjId}
use Rattle.frame_store.specs.declared.arguments.Value.{Value}
use Rattle.frame_store.specs.declared.arguments.Value.TheVariants.{Object, Scalar}
use Rattle.meaning_laws.specs.script.State.{State}
use Rattle.frame_store.specs.World.{World, entry_in}

-- the value of each name, in the order in which the names were first bound
abbrev pub Bindings : Type 0
Bindings = List (Text × Value)

abbrev pub bindings_of : {Y : Type 0} → List (String Y × Value) → Bindings
bindings_of entries = map (λ e. (string_bytes e.0, e.1)) entries

-- the value of a name
abbrev pub value_at : Bindings → Text → Option Value
value_at [] n = None
value_at (b ∷ bs) n = if same_text n b.0 then Some b.1 else value_at bs n

-- the names after one gets a value: it keeps its place, or goes last
abbrev pub bound : Bindings → Text → Value → Bindings
bound [] x v = (x, v) ∷ []
bound (b ∷ bs) x v = if same_text x b.0 then (b.0, v) ∷ bs else b ∷ bound bs x v

-- the names without this one
abbrev pub unbound : Bindings → Text → Bindings
unbound [] x = []
unbound (b ∷ bs) x = if same_text x b.0 then bs else b ∷ unbound bs x

abbrev pub is_object : Value → ℕ → Bool
is_object (Object o) id = nat_eq o.0 id
is_object (Scalar c) id = false

-- whether a name stands for the object
abbrev pub is_named : Bindings → ℕ → Bool
is_named [] id = false
is_named (b ∷ bs) id = if is_object b.1 id then true else is_named bs id

-- a name stands for the value, and none for the object
abbrev pub is_spare : Bindings → Value → ObjId → Bool
is_spare bs (Object on) id = is_named bs on.0 && not (is_named bs id.0)
is_spare bs (Scalar c) id = false

-- how many names stand for the object
abbrev pub uses_of : Bindings → ℕ → ℕ
uses_of [] id = 0
uses_of (b ∷ bs) id = if is_object b.1 id then suc (uses_of bs id) else uses_of bs id

-- both stand for an object, and it is one
abbrev pub one_object : Option Value → Option Value → Bool
one_object (Some v) (Some (Object id)) = is_object v id.0
one_object v w = false

abbrev pub state_over : Bindings → World → State
state_over bs w =
    record {
      names = map (λ b. b.0) bs;
      value = λ n. option_map (entry_in w) (value_at bs n);
      paired = λ a b. one_object (value_at bs a) (value_at bs b);
    }

abbrev pub contains : List ObjId → ℕ → Bool
contains [] id = false
contains (t ∷ ts) id = if nat_eq t.0 id then true else contains ts id

-- each object that a name stands for is live
abbrev pub AreLive : Bindings → Tables → Type 0
AreLive bs tables = (n : Text) (id : ObjId) → value_at bs n ≡ Some (Object id) → IsSome (tables id.0)

-- each text that a name stands for was given its number
abbrev pub AreGiven : Bindings → List Text → Type 0
AreGiven bs texts = (n : Text) (c : Cell) → value_at bs n ≡ Some (Scalar c) → IsSettled datum texts c

-- a name stands for each live object, or it is noted
abbrev pub AreNoted : Bindings → List ObjId → Tables → Type 0
AreNoted bs ts tables = (id : ℕ) → IsSome (tables id) → (if is_named bs id then true else contains ts id) ≡ true

-- a name stands for each live object
abbrev pub AreNamed : Bindings → Tables → Type 0
AreNamed bs tables = (id : ℕ) → IsSome (tables id) → is_named bs id ≡ true

-- the objects of names are as they were
abbrev pub KeepNamed : Bindings → Tables → Tables → Type 0
KeepNamed bs old new = (id : ℕ) → is_named bs id ≡ true → new id ≡ old id

-- the value of the name, or a value that no name stands for
abbrev pub IsOf : Bindings → Option Text → Value → Type 0
IsOf bs (Some n) v = value_at bs n ≡ Some v
IsOf bs None (Scalar c) = Unit {0}
IsOf bs None (Object id) = is_named bs id.0 ≡ false

-- the list with an object that was made
abbrev pub noted : List ObjId → Value → List ObjId
noted ts (Object id) = ts ++ id ∷ []
noted ts (Scalar c) = ts

-- the list with the object that a name stood for
abbrev pub noted_old : List ObjId → Option Value → List ObjId
noted_old ts None = ts
noted_old ts (Some v) = noted ts v

-- the objects after a name has left its value: an object without a name ends
abbrev pub released : Bindings → Tables → Option Value → Tables
released bs tables None = tables
released bs tables (Some (Scalar c)) = tables
released bs tables (Some (Object id)) = if is_named bs id.0 then tables else with_object tables id.0 None
