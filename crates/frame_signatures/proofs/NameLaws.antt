-- The rows of the code are the names of the definition.
use Rattle.{
  frame_store.proofs.cells.Common.{arith, ◌≡◌, refl, Bool, List, [], ◌∷◌, Option, map, find, option_map, option_and_then, option_copied, Shape, Text, same_text},
  std.proofs.Common.{Bor},
  meaning_call.specs.Signature.{method_names, method_at, method_named},
  frame_signatures.specs.{Names.{meant}, declared.table.MethodName.{MethodName}},
}
use Rattle.meaning_call.specs.Signature as signature

find_meant : (p : signature.MethodName → Bool) (rows : List MethodName) → find p (map meant rows) ≡ option_map meant (find (λ row. p (meant row)) rows)
find_meant p [] = refl
find_meant p (row ∷ rows) = grind (arith, find_meant p rows)

pub method_of_row : (s : Shape) (t : Text) (rows : List MethodName) (row : Option (Bor MethodName)) → option_copied row ≡ find (λ row. same_text row.name.now t) rows → map meant rows ≡ method_names → method_named s t ≡ option_and_then (method_at s) (option_map meant (option_copied row))
method_of_row = grind (arith, find_meant)
