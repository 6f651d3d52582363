-- The language of queries: what its texts spell, and the mask that each stands for.
use Rattle.std.specs.Prelude.{◌≡◌, ℕ, suc, ◌≤◌, ◌⊎◌, Bool, true, false, List, [], ◌∷◌, ◌++◌, map, None, codes}
use Rattle.std.specs.List.{list_any}
use Rattle.meaning_language.specs.cells.Text.{Text, same_text}
use Rattle.meaning_language.specs.Token.{Token, word, int, op, mark, comma, open_paren, close_paren, open_bracket, close_bracket, skip}
use Rattle.meaning_language.specs.Tree as tree
use Rattle.meaning_language.specs.Tree.{Binary, add, sub, mul, floor_div, mod_, eq, ne, lt, le, gt, ge, and, or, xor, Expr, Literal, Parts, bare}
use Rattle.meaning_language.specs.Depth.{depth}
use Rattle.meaning_language.specs.Grammar.{reserved_words, SpellsLiteral, most_depth}
use Rattle.meaning_query.specs.QueryToken.{QueryToken, plain, at_sign, quoted, LexesQuery}

pub data Query : Type 0 where
  column : Text → Query
  script_name : Text → Query
  constant : Literal → Query
  minus : Query → Query
  negated : Query → Query
  binary : Binary → Query → Query → Query
  is_in : Query → List Literal → Query
  is_not_in : Query → List Literal → Query
  paren : Query → Query

-- ---- the mask

-- in a mask the frame has the empty name, which no script gives
abbrev pub frame_name : Text
frame_name = []

-- the constants of a list
abbrev pub listed : List Literal → Parts bare
listed [] = tree.no_parts
listed (v ∷ vs) = tree.more_parts tt (tree.expr (tree.literal v)) (listed vs)

-- `x.isin([..])`
abbrev pub is_listed : Expr → List Literal → Expr
is_listed x vs = tree.after x (tree.method (codes "isin") (tree.more_parts None (tree.many (listed vs)) tree.no_parts))

-- the expression that a query stands for
abbrev pub mask_of : Query → Expr
mask_of (column c) = tree.after (tree.name frame_name) (tree.item (tree.expr (tree.literal (tree.text c))))
mask_of (script_name n) = tree.name n
mask_of (constant v) = tree.literal v
mask_of (minus x) = tree.unary tree.minus (mask_of x)
mask_of (negated x) = tree.unary tree.invert (mask_of x)
mask_of (binary o x y) = tree.binary o (mask_of x) (mask_of y)
mask_of (is_in x vs) = is_listed (mask_of x) vs
mask_of (is_not_in x vs) = tree.unary tree.invert (is_listed (mask_of x) vs)
mask_of (paren x) = tree.paren (mask_of x)

-- ---- the grammar

-- the words that are no names in a query
abbrev pub query_words : List Text
query_words = codes "and" ∷ codes "or" ∷ codes "not" ∷ codes "in" ∷ reserved_words

abbrev pub IsQueryName : Text → Type 0
IsQueryName n = list_any (same_text n) query_words ≡ false

-- `pd.NA` is no constant of a query
abbrev pub IsConstant : Literal → Type 0
IsConstant tree.na = ⊥
IsConstant v = Unit {0}

-- a constant, as a script spells it; a minus sign before a whole number is part of it
abbrev pub SpellsConstant : Literal → List QueryToken → List QueryToken → Type 0
SpellsConstant v ts us = IsConstant v × (front : List Token) × SpellsLiteral v front [] × (ts ≡ map plain front ++ us)

-- the constants behind the first of a list, each after a comma, and the bracket that closes them
abbrev pub SpellsMore : List Literal → List QueryToken → List QueryToken → Type 0
SpellsMore [] ts us = ts ≡ plain (mark close_bracket) ∷ us
SpellsMore (v ∷ vs) ts us = (ws xs : List QueryToken) × (ts ≡ plain (mark comma) ∷ ws) × SpellsConstant v ws xs × SpellsMore vs xs us

abbrev pub SpellsItems : List Literal → List QueryToken → List QueryToken → Type 0
SpellsItems [] ts us = ts ≡ plain (mark close_bracket) ∷ us
SpellsItems (v ∷ vs) ts us = (ws : List QueryToken) × SpellsConstant v ts ws × SpellsMore vs ws us

-- a list in its brackets, with no comma at its end
abbrev pub SpellsList : List Literal → List QueryToken → List QueryToken → Type 0
SpellsList vs ts us = (ws : List QueryToken) × (ts ≡ plain (mark open_bracket) ∷ ws) × SpellsItems vs ws us

-- an operator between two operands; `or` and `and` are words here, and the exclusive one has no spelling
abbrev pub SpellsOperator : Binary → List QueryToken → List QueryToken → Type 0
SpellsOperator or ts us = ts ≡ plain (word (codes "or")) ∷ us
SpellsOperator and ts us = ts ≡ plain (word (codes "and")) ∷ us
SpellsOperator xor ts us = ⊥
SpellsOperator o ts us = ts ≡ plain (op o) ∷ us

-- how tightly an operator binds: `or` least. `not` binds at level 2, `in` as a comparison does at 3, and a sign at 6.
abbrev pub query_level : Binary → ℕ
query_level or = 0
query_level xor = 0
query_level and = 1
query_level add = 4
query_level sub = 4
query_level mul = 5
query_level floor_div = 5
query_level mod_ = 5
query_level comparison = 3

-- the least level of its left side: all but comparisons group to the left, and comparisons don't group
abbrev pub query_left_level : Binary → ℕ
query_left_level or = 0
query_left_level xor = 0
query_left_level and = 1
query_left_level add = 4
query_left_level sub = 4
query_left_level mul = 5
query_left_level floor_div = 5
query_left_level mod_ = 5
query_left_level comparison = 4

abbrev pub begins_number : List QueryToken → Bool
begins_number (plain (int n) ∷ ts) = true
begins_number ts = false

-- The number is the least level at which the query may stand.
abbrev pub SpellsQuery : Query → ℕ → List QueryToken → List QueryToken → Type 0
SpellsQuery (column c) l ts us = ((ts ≡ plain (word c) ∷ us) × IsQueryName c) ⊎ (ts ≡ quoted c ∷ us)
SpellsQuery (script_name n) l ts us = (ts ≡ at_sign ∷ plain (word n) ∷ us) × IsQueryName n
SpellsQuery (constant v) l ts us = SpellsConstant v ts us
SpellsQuery (minus x) l ts us = (l ≤ 6) × (vs : List QueryToken) × (ts ≡ plain (op sub) ∷ vs) × (begins_number vs ≡ false) × SpellsQuery x 6 vs us
SpellsQuery (negated x) l ts us = (l ≤ 2) × (vs : List QueryToken) × (ts ≡ plain (word (codes "not")) ∷ vs) × SpellsQuery x 2 vs us
SpellsQuery (binary o x y) l ts us =
    (l ≤ query_level o) × (vs ws : List QueryToken) × SpellsQuery x (query_left_level o) ts vs × SpellsOperator o vs ws × SpellsQuery y (suc (query_level o)) ws us
SpellsQuery (is_in x items) l ts us =
    (l ≤ 3) × (vs : List QueryToken) × SpellsQuery x 4 ts (plain (word (codes "in")) ∷ vs) × SpellsList items vs us
SpellsQuery (is_not_in x items) l ts us =
    (l ≤ 3) × (vs : List QueryToken) × SpellsQuery x 4 ts (plain (word (codes "not")) ∷ plain (word (codes "in")) ∷ vs) × SpellsList items vs us
SpellsQuery (paren x) l ts us = (vs : List QueryToken) × (ts ≡ plain (mark open_paren) ∷ vs) × SpellsQuery x 0 vs (plain (mark close_paren) ∷ us)

-- the text is a query, and stands for this mask; a mask is no deeper than a form of a script
abbrev pub IsQuery : Text → Expr → Type 0
IsQuery text x =
    (q : Query) × (ts : List QueryToken) × LexesQuery ts (skip text) × SpellsQuery q 0 ts [] × (x ≡ mask_of q) × (depth x ≤ most_depth)
