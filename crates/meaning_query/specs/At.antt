-- Readers of what stands in queries of at most a depth.
use Rattle.std.specs.Prelude.{ℕ}
use Rattle.meaning_language.specs.Tree.{Expr}
use Rattle.meaning_query.specs.Reading as reading
use Rattle.meaning_query.specs.Reading.{Reader, Joint, Form, query_at}

module _ (room : ℕ) where
  abbrev pub enclosed : Reader Form
  enclosed = reading.enclosed room (query_at room)

  abbrev pub place : Reader Form
  place = reading.place room (query_at room)

  abbrev pub prefixed : ℕ → Reader Form
  prefixed = reading.prefixed room (query_at room)

  abbrev pub joined : Joint → Expr → Reader Form
  joined = reading.joined room (query_at room)

  abbrev pub joints : ℕ → ℕ → Form → Reader Form
  joints = reading.joints room (query_at room)

  abbrev pub query_with : ℕ → Reader Form
  query_with = reading.query_with room (query_at room)
