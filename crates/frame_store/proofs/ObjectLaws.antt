-- The tables of objects.
use Rattle.{
  meaning_tables.{proofs.cells.Common.{◌≡◌, arith, Some, IsSome, nat_tests, Result, IfOk}, specs.Table.{NumberedTable}},
  frame_store.specs.{declared.object.ObjId.{ObjId}, Objects.{Tables, with_object}},
}

-- an object that has got a table is live
pub added_is_live : {E : Type 0} (r : Result ObjId E) (old new : Tables) (t : NumberedTable) → IfOk r (λ id. new ≡ with_object old id.0 (Some t)) → IfOk r (λ id. IsSome (new id.0))
added_is_live = grind (arith, nat_tests)
