use Rattle.{
  meaning_query.{proofs.language.cells.Common.{ap, arith, ◌≡◌, ◌∙◌, length, rules}, specs.language.Token.{skip}},
  query_tokens.{specs.View.{query_token_of, query_tokens_of}, proofs.LexLaws.{lexed_none, lexed_stops, lexed_pushed, lexed_shorter, lexed_end, LexesQuery-unique, IsUtf8-after_lexed}},
  script_tokens.proofs.LexLaws.{IsUtf8-skip},
}
use Rattle.query_tokens.proofs.lexing.query_tokens.Goals as goal

pub returns-in_default-clause-found : goal.returns-in_default-clause-found
returns-in_default-clause-found = grind (arith, lexed_stops)

pub lexing-smaller : goal.lexing-smaller
lexing-smaller = grind (arith, lexed_shorter)

pub lexing-preserved : goal.lexing-preserved
lexing-preserved c =
    let is = rw c.in-Some.is at c.in_ok-token.ensures in
    record {
      so_far = lexed_pushed _ _ _ _ _ _ _ c.lexing.invariant.so_far
          is c.in_ok-push.ensures.items c.skip-rest-in-lexing.ensures;
      utf8 = IsUtf8-after_lexed c.lexing.rest.now c.in-Some.after.now _ (query_token_of c.in-Some.token) c.lexing.invariant.utf8 is c.skip-rest-in-lexing.ensures;
    }

pub returns-clause-found : goal.returns-clause-found
returns-clause-found = grind (arith, lexed_end)

pub returns-clause-only : goal.returns-clause-only
returns-clause-only c =
    let none : length c.lexing.rest.now ≡ 0 = search rules in
    λ ts is. LexesQuery-unique (query_tokens_of c.lexing.tokens.items) ts (skip c.args.text.now) (search lexed_end) is

pub lexing-init : goal.lexing-init
lexing-init c =
    let skipped = c.skip-rest.ensures ∙ ap skip c.as_bytes.ensures.value in
    record {
      so_far = rw c.new-tokens.ensures.items (lexed_none (skip c.args.text.now) c.skip-rest.result.now skipped);
      utf8 = rw c.skip-rest.ensures (IsUtf8-skip c.as_bytes.result.now c.as_bytes.ensures.utf8);
    }
