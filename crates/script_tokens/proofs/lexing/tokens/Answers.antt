use Rattle.{
  meaning_language.proofs.cells.Common.{arith, ◌≡◌, length, rules},
  script_tokens.{specs.View.{token_of, tokens_of}, proofs.LexLaws.{lexed_stops, lexed_pushed, lexed_shorter, lexed_end, Lexes-unique, IsUtf8-after_lexed}},
}
use Rattle.script_tokens.proofs.lexing.tokens.Goals as goal

pub returns-in_default-clause-found : goal.returns-in_default-clause-found
returns-in_default-clause-found = grind (arith, lexed_stops)

pub lexing-smaller : goal.lexing-smaller
lexing-smaller = grind (arith, lexed_shorter)

pub lexing-preserved : goal.lexing-preserved
lexing-preserved c =
    let is = rw c.in-Some.is at c.in_ok-token.ensures in
    record {
      so_far = lexed_pushed _ _ _ _ _ _ _ c.lexing.invariant.so_far
          is c.in_ok-push.ensures.items c.skip-rest.ensures;
      utf8 = IsUtf8-after_lexed c.lexing.rest.now c.in-Some.after.now _ (token_of c.in-Some.token) c.lexing.invariant.utf8 is c.skip-rest.ensures;
    }

pub returns-clause-found : goal.returns-clause-found
returns-clause-found = grind (arith, lexed_end)

pub returns-clause-only : goal.returns-clause-only
returns-clause-only c =
    let none : length c.lexing.rest.now ≡ 0 = search rules in
    λ ts is. Lexes-unique (tokens_of c.lexing.tokens.items) ts c.args.piece.now (search lexed_end) is
