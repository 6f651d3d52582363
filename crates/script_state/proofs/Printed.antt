-- The printed text and the length of an object are those of its table.
use Rattle.{
  meaning_laws.{proofs.cells.Common.{mod-eq_of_lt, w64, int_cell}, specs.{format.{Told.{told}, Print.{text_of_shape}}, script.Statement.{entry_text}, form.Select.{length_result}}},
  frame_calls.proofs.frame_parts.Common.{arith, ◌≡◌, List, length, Some, ℕ, ℤ, pos, Ok, ◌<◌, to_z, of_z, length-map, cast_signed, Shape, Text, NumberedTable, IsWhole, cell, HaveLevels, Tables, grid_of, entry_of, ObjId, Value, Object},
  std.{specs.Int.{int_wrap}, proofs.lemmas.Int.{of_z-to_z}},
  frame_format.proofs.{ToldLaws.{shape_told}, WholeLaws.{told_whole}},
}

pub object_text : (texts : List Text) (tables : Tables) (v : Value) (id : ObjId) (t : NumberedTable) (shape : Shape) → v ≡ Object id → tables id.0 ≡ Some t → IsWhole t → HaveLevels (length t.level_names) t.labels → shape ≡ t.shape
    → text_of_shape shape (told texts (grid_of t)) ≡ entry_text (entry_of tables texts v)
object_text = grind (arith, told_whole, shape_told)

-- The number of rows as a whole number of 64 bits.
wrapped : (n : ℕ) → n < 18446744073709551616 → int_wrap w64 (pos n) ≡ cast_signed w64 n
unfolding int_wrap
wrapped = search mod-eq_of_lt

pub length_answer : (texts : List Text) (tables : Tables) (on : Value) (id : ObjId) (t : NumberedTable) (n : ℕ) (z : ℤ) → on ≡ Object id → tables id.0 ≡ Some t → n ≡ length t.labels → n < 18446744073709551616 → z ≡ cast_signed w64 n
    → length_result (entry_of tables texts on) ≡ Ok (cell (int_cell (to_z w64 (of_z w64 z))))
length_answer = grind (arith, length-map, wrapped, of_z-to_z)
