-- The JSON text of a frame, and why there is none.
use Rattle.{frame_parts.proofs.Common.{◌≡◌, ◌∙◌, sym, refl, List, length, Option, Some, None, Ok, Err, arith, get_or_from_slice_get, slice_get, Text, datum, FaultValue, wrong_kind, fault_of, cell, HaveLevels, IsSettled, NumberedTable, table_value, IsWhole, grid_of, MakesBy, settled_by}, cell_core.specs.declared.cell.TextId.{TextId}, frame_format.proofs.WholeLaws.{told_whole}, meaning_json_calls.specs.{json.{format.Told.{told}, declared.Orient.{Orient}, JsonWrite.{TextRefusalValue, json_text_of}}, JsonCalls.{fault_of_text, to_json_result}}, json_frames.specs.{Answers.{WritesAs, NamesGiven, text_refusal_of}, declared.writing.TextRefusal.{TextRefusal}}, frame_json.specs.Frames.{cell_entry, text_refusal}}
use Rattle.cell_core.specs.declared.cell.Cell.TheVariants as cells
use Rattle.json_frames.specs.declared.writing.TextRefusal.TheVariants as written
use Rattle.cell_core.specs.declared.code.Code.TheVariants as code
use Rattle.cell_core.specs.declared.code.Reason.TheVariants as reason

module _ (texts : List Text) (t : NumberedTable) (orient : Orient) (whole : IsWhole t) (levels : HaveLevels (length t.level_names) t.labels) where
  seen : (texts : List Text) → told texts (grid_of t) ≡ table_value texts t
  seen texts = told_whole texts t whole.headed whole.filled levels

  pub text_made : (later : List Text) (id : TextId) (words : Text) → WritesAs texts (Ok words) (json_text_of orient (told texts (grid_of t))) → slice_get later id.0 ≡ Some words
      → to_json_result orient (table_value texts t) ≡ Ok (cell (datum later (cells.Text id)))
  text_made later id words = grind (arith, get_or_from_slice_get, seen texts)

  table_told : IsSettled table_value texts t → IsSettled told texts (grid_of t)
  table_told settled = λ more. seen _ ∙ settled more ∙ sym (seen texts)

  abbrev fault_named : Option TextRefusalValue → FaultValue
  fault_named None = wrong_kind
  fault_named (Some refusal) = fault_of_text refusal

  pub text_refused : (refusal : TextRefusal) → IsSettled table_value texts t → WritesAs texts (Err refusal) (json_text_of orient (told texts (grid_of t))) → NamesGiven texts (grid_of t) refusal
      → MakesBy cell_entry texts (Err (text_refusal refusal)) (to_json_result orient (table_value texts t))
  text_refused (written.Repeated label) settled is named =
      (grind (arith, seen texts), settled_by text_refusal_of fault_of fault_named texts (written.Repeated label) (code.BadValue (reason.Repeated label)) (λ texts. refl) (named (table_told settled)))
  text_refused written.ManyLevels settled is named = (grind (arith, seen texts), λ more. refl)
  text_refused written.NoMemory settled is named = tt
