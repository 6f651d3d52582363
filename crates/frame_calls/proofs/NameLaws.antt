-- What a name means in a call.
use Rattle.{
  std.specs.Prelude.{is_some},
  frame_methods.proofs.frame_parts.Common.{◌≡◌, Text, Entry, refl},
  frame_store.specs.tables.Value.{cell, table},
  frame_labels.specs.method.Calls.{has_method},
  frame_calls.specs.Calls.{method_in},
}

-- a value has the methods that it has under some name
pub has_named : (v : Entry) (name : Text) → has_method v name ≡ is_some (method_in v name)
has_named (cell c) name = refl
has_named (table t) name = refl
