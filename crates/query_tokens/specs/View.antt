-- What the code's values stand for.
use Rattle.std.specs.Prelude.{List, map}
use Rattle.meaning_query.specs.QueryToken as spec
use Rattle.script_tokens.specs.View.{token_of}
use Rattle.query_tokens.specs.declared.token.QueryToken.{QueryToken}
use Rattle.query_tokens.specs.declared.token.QueryToken.TheVariants as token

abbrev pub query_token_of : QueryToken → spec.QueryToken
query_token_of (token.Plain t) = spec.plain (token_of t)
query_token_of token.AtSign = spec.at_sign
query_token_of (token.Quoted name) = spec.quoted name.now

abbrev pub query_tokens_of : List QueryToken → List spec.QueryToken
query_tokens_of ts = map query_token_of ts
