-- A function that reads queries of at most a depth.
use Rattle.std.specs.Prelude.{ℕ, ◌<◌, List, Result}
use Rattle.std.specs.Borrow.{Bor}
use Rattle.std.specs.Fn.{Shared}
use Rattle.std.specs.declared.alloc.Global.{Global}
use Rattle.query_tokens.specs.declared.token.QueryToken.{QueryToken}
use Rattle.query_tokens.specs.View.{query_tokens_of}
use Rattle.meaning_query.specs.Reading.{query_at}
use Rattle.frame_query.specs.declared.fault.QueryFault.{QueryFault}
use Rattle.frame_query.specs.declared.form.Form.{Form}
use Rattle.frame_query.specs.Found.{Finds}

-- a form that is read of tokens, with the tokens that are left
abbrev pub Read : Type 0
Read = Result (Form × Bor (List QueryToken)) QueryFault

-- it may be called at any tokens, and reads the queries of at least a level that are no deeper than the room
pub record Nests {Q : Type 0} (reads : Shared Q (Global × (Bor (List QueryToken) × (ℕ × (ℕ × Unit {0})))) Read) (query : Q) (room : ℕ) : Type 0 where
  pub small : room < 32
  pub callable : (alloc : Global) (ts : Bor (List QueryToken)) (least : ℕ) → reads.pre query (alloc, (ts, (room, (least, tt))))
  pub finds : (alloc : Global) (ts : Bor (List QueryToken)) (least : ℕ) (r : Read) → reads.post query (alloc, (ts, (room, (least, tt)))) r
      → Finds room r (query_at room least (query_tokens_of ts.now))
