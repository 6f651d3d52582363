-- How many names stand for each object, as it is counted.
use Rattle.std.specs.Prelude.{◌≡◌, ◌<◌, ℕ, suc, Bool, Option, Some, None, IsSome, nat_eq, if◌then◌else◌}
use Rattle.indexmap.specs.IndexMap.{get}
use Rattle.frame_store.specs.declared.object.ObjId.{ObjId}
use Rattle.frame_store.specs.declared.arguments.Value.{Value}
use Rattle.frame_store.specs.declared.arguments.Value.TheVariants.{Object, Scalar}
use Rattle.script_state.specs.Bindings.{Bindings, uses_of, is_object}
use Rattle.script_state.specs.declared.uses.Uses.{Uses}

abbrev pub same_id : ObjId → ObjId → Bool
same_id a b = nat_eq a.0 b.0

abbrev pub or_none : Option ℕ → ℕ
or_none None = 0
or_none (Some n) = n

-- the count of an object
abbrev pub count_at : Uses → ObjId → ℕ
count_at uses id = or_none (get same_id uses.counts id)

-- each object has as many names as are counted
abbrev pub AreCounted : Bindings → Uses → Type 0
AreCounted bs uses = (id : ObjId) → count_at uses id ≡ uses_of bs id.0

-- one more, where the value is the object
abbrev pub with_one : Value → ℕ → ℕ → ℕ
with_one v id n = if is_object v id then suc n else n

abbrev pub with_left : Option Value → ℕ → ℕ → ℕ
with_left None id n = n
with_left (Some v) id n = with_one v id n

-- the object has a count, which can rise
abbrev pub HasRoomFor : Uses → ObjId → Type 0
HasRoomFor uses id = IsSome (get same_id uses.counts id) × (count_at uses id < 18446744073709551615)

abbrev pub HasRoom : Uses → Value → Type 0
HasRoom uses (Object id) = HasRoomFor uses id
HasRoom uses (Scalar c) = Unit {0}

-- the count can fall
abbrev pub CanTake : Option Value → (ObjId → ℕ) → Type 0
CanTake None count = Unit {0}
CanTake (Some (Object id)) count = 0 < count id
CanTake (Some (Scalar c)) count = Unit {0}
