-- Calls behind windows, by the name that stands before them.
use Rattle.{
  frame_methods.proofs.frame_parts.Common.{◌≡◌, refl, List, Text, Entry, NamedGiven, World, arguments_in, Named},
  std.specs.Borrow.{Bor},
  frame_store.specs.tables.Value.{cell, table},
  frame_labels.specs.method.Windows.{rolling_result, expanding_result},
  frame_windows.specs.{Windows.{windowed_result}, declared.windows.WindowsTold.TheVariants.{Rolling, Expanding}},
}

module _ (w : World) (args : Bor (List Named)) (name : Text) (gs : List NamedGiven) where
  pub rolling_told : (v : Entry) → windowed_result w v (Rolling args) name gs ≡ rolling_result v (arguments_in w args.now) name gs
  rolling_told (cell c) = refl
  rolling_told (table t) = refl

  pub expanding_told : (v : Entry) → windowed_result w v (Expanding args) name gs ≡ expanding_result v (arguments_in w args.now) name gs
  expanding_told (cell c) = refl
  expanding_told (table t) = refl
