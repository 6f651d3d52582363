-- The method that is a query.
use Rattle.std.specs.Prelude.{Bool, false, ◌&&◌, codes}
use Rattle.meaning_form.specs.cells.Text.{Text, same_text}
use Rattle.meaning_form.specs.tables.Value.{Entry, cell, table}
use Rattle.meaning_form.specs.Given.{is_frame}

-- `query` of a frame
abbrev pub is_query : Entry → Text → Bool
is_query (cell c) n = false
is_query (table t) n = is_frame t.shape && same_text n (codes "query")
