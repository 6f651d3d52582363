use Rattle.{
  script_tokens.{proofs.cells.Common.{arith, ◌≡◌, subst, Some, None}, specs.{language.Script.{IsBlank}, View.{tokens_of}}},
  script_tree.specs.View.{action_of},
  script_syntax.{specs.Reading.{action_read}, proofs.PieceLaws.{blank_is_none, no_statement, one_statement, filled_of, lexes_of}},
}
use Rattle.script_syntax.proofs.pieces.read_piece.Goals as goal

pub returns-then-is_blank : goal.returns-then-is_blank
returns-then-is_blank c =
    let blank : IsBlank c.args.piece.now = grind arith in
    (grind arith, blank, search blank_is_none)

pub returns-in-Ok-statement : goal.returns-in-Ok-statement
returns-in-Ok-statement c =
    let lexes = lexes_of _ _ _ _ _ _ c.in-Some.is c.in_ok-tokens.ensures.found c.in-Ok.ensures.cases.0 in
    let read = subst (λ ts. action_read (tokens_of ts) ≡ Some (action_of c.in-Ok-statement.action)) c.deref.ensures.value c.in-Ok-statement.ensures in
    one_statement _ _ _ c.in-Ok.ensures.cases.1
    (search filled_of) lexes read

pub returns-in-Err-Syntax : goal.returns-in-Err-Syntax
returns-in-Err-Syntax c =
    let lexes = lexes_of _ _ _ _ _ _ c.in-Some.is c.in_ok-tokens.ensures.found c.in-Ok.ensures.cases.0 in
    let none = subst (λ ts. action_read (tokens_of ts) ≡ None) c.deref.ensures.value (grind arith) in
    search (filled_of, no_statement)
