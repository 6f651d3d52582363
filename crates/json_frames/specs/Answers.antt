-- What the calls answer, beside what is meant.
use Rattle.std.specs.Prelude.{◌≡◌, List, Option, Some, None, IfSome, Result, Ok, Err}
use Rattle.cell_core.specs.declared.words.Words.{Words}
use Rattle.cell_core.specs.Grids.{GridValue}
use Rattle.meaning_json.specs.cells.Text.{Text}
use Rattle.meaning_json.specs.tables.Settled.{IsSettled}
use Rattle.meaning_json.specs.tables.Table.{tuple_value}
use Rattle.meaning_json.specs.format.Told.{told}
use Rattle.meaning_json.specs.JsonWrite.{TextRefusalValue, repeated, many_levels}
use Rattle.json_frames.specs.declared.writing.TextRefusal.{TextRefusal}
use Rattle.json_frames.specs.declared.writing.TextRefusal.TheVariants.{Repeated, ManyLevels, NoMemory}

-- what a refusal says of a frame, but for want of memory
abbrev pub text_refusal_of : List Text → TextRefusal → Option TextRefusalValue
text_refusal_of texts (Repeated label) = Some (repeated (tuple_value texts label))
text_refusal_of texts ManyLevels = Some many_levels
text_refusal_of texts NoMemory = None

-- The text is the one that is meant, or its refusal is. Want of memory may come in place of any answer.
abbrev pub WritesAs : List Text → Result Words TextRefusal → Result Text TextRefusalValue → Type 0
WritesAs texts (Ok words) meant = meant ≡ Ok words
WritesAs texts (Err refusal) meant = IfSome (text_refusal_of texts refusal) (λ why. meant ≡ Err why)

-- where each text of the frame was given its number, so was that of a label which a refusal names
abbrev pub NamesGiven : List Text → GridValue → TextRefusal → Type 0
NamesGiven texts g refusal = IsSettled told texts g → IsSettled text_refusal_of texts refusal
