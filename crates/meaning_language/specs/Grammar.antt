-- The grammar: between two lists of tokens, the first of which holds the second at its end, stands a part of a statement.
use Rattle.std.specs.Prelude.{◌≡◌, ℕ, suc, ◌<◌, ◌≤◌, ◌^◌, ◌⊎◌, ℤ, pos, neg_ℤ, Bool, true, false, List, [], ◌∷◌, Some, None, codes}
use Rattle.std.specs.List.{list_any}
use Rattle.meaning_cells.specs.Text.{Text, same_text}
use Rattle.meaning_language.specs.Token.{Token, word, int, text, op, mark, Mark, equals, dot, comma, colon, tilde, open_paren, close_paren, open_bracket, close_bracket, open_brace, close_brace}
use Rattle.meaning_language.specs.Tree as tree
use Rattle.meaning_language.specs.Tree.{Binary, add, sub, mul, floor_div, mod_, and, or, xor, Accessor, loc, iloc, at, iat, Expr, Step, Sub, OptionalSub, OptionalArg, OptionalExpr, Tagging, bare, named, keyed, Tag, Arg, Parts, Action, name, literal, unary, binary, after, len, make, paren, item, access, method, text_method, group, rolling, expanding, key, span, no_sub, some_sub, no_arg, some_arg, no_expr, some_expr, expr, many, row, table, nothing, no_parts, more_parts, import_pandas, bind, put, drop_name, drop_column, print}
use Rattle.meaning_language.specs.Depth.{depth, arg_depth}

-- the words that are no names
abbrev pub reserved_words : List Text
reserved_words =
    codes "True" ∷ codes "False" ∷ codes "None" ∷ codes "del" ∷ codes "import" ∷ codes "as" ∷ codes "print" ∷ codes "len" ∷ codes "pd" ∷ []

-- the names that stand after a dot only in forms of their own
abbrev pub form_words : List Text
form_words = codes "loc" ∷ codes "iloc" ∷ codes "at" ∷ codes "iat" ∷ codes "groupby" ∷ codes "rolling" ∷ codes "expanding" ∷ codes "str" ∷ []

abbrev pub IsName : Text → Type 0
IsName n = list_any (same_text n) reserved_words ≡ false

-- a name that may stand after a dot before parentheses
abbrev pub IsMethodName : Text → Type 0
IsMethodName n = IsName n × (list_any (same_text n) form_words ≡ false)

-- a name that may stand after `str` and a dot before parentheses
abbrev pub IsTextMethodName : Text → Type 0
IsTextMethodName n = IsMethodName n ⊎ (n ≡ codes "len")

abbrev pub accessor_word : Accessor → Text
accessor_word loc = codes "loc"
accessor_word iloc = codes "iloc"
accessor_word at = codes "at"
accessor_word iat = codes "iat"

-- how tightly an operator binds: comparisons least. A sign binds at level 6 and a step at level 7.
abbrev pub level : Binary → ℕ
level or = 1
level xor = 2
level and = 3
level add = 4
level sub = 4
level mul = 5
level floor_div = 5
level mod_ = 5
level comparison = 0

-- the least level of its left side: all but comparisons group to the left, and comparisons don't group
abbrev pub left_level : Binary → ℕ
left_level or = 1
left_level xor = 2
left_level and = 3
left_level add = 4
left_level sub = 4
left_level mul = 5
left_level floor_div = 5
left_level mod_ = 5
left_level comparison = 1

-- a whole number, with its sign: from -2^63 to 2^63 - 1
abbrev pub SpellsNumber : ℤ → List Token → List Token → Type 0
SpellsNumber z ts us =
    ((n : ℕ) × (z ≡ pos n) × (n < 2 ^ 63) × (ts ≡ int n ∷ us))
    ⊎ ((n : ℕ) × (z ≡ neg_ℤ (pos n)) × (n ≤ 2 ^ 63) × (ts ≡ op sub ∷ int n ∷ us))

abbrev pub begins_int : List Token → Bool
begins_int (int n ∷ ts) = true
begins_int ts = false

abbrev pub begins_paren : List Token → Bool
begins_paren (mark open_paren ∷ ts) = true
begins_paren ts = false

abbrev pub begins_minus : List Token → Bool
begins_minus (op sub ∷ ts) = true
begins_minus ts = false

-- `pd.NA` with parentheses calls a function of that name
abbrev pub SpellsLiteral : tree.Literal → List Token → List Token → Type 0
SpellsLiteral (tree.int z) ts us = SpellsNumber z ts us
SpellsLiteral (tree.truth true) ts us = ts ≡ word (codes "True") ∷ us
SpellsLiteral (tree.truth false) ts us = ts ≡ word (codes "False") ∷ us
SpellsLiteral (tree.text s) ts us = ts ≡ text s ∷ us
SpellsLiteral tree.na ts us = (ts ≡ word (codes "pd") ∷ mark dot ∷ word (codes "NA") ∷ us) × (begins_paren us ≡ false)

-- what may stand in a list or a tuple, and as an end of a slice
abbrev pub IsItem : Arg → Type 0
IsItem (expr x) = Unit {0}
IsItem (row parts) = Unit {0}
IsItem a = ⊥

-- what may be a part: in a list or a tuple an item, in a call or a dict any argument
abbrev pub IsPart : Tagging → Arg → Type 0
IsPart bare a = IsItem a
IsPart by a = Unit {0}

-- what stands before a part: the name of an argument and its `=`, where one is given, or a key and its colon
abbrev pub SpellsTag : (by : Tagging) → Tag by → List Token → List Token → Type 0
SpellsTag bare tag ts us = ts ≡ us
SpellsTag named None ts us = ts ≡ us
SpellsTag named (Some n) ts us = (ts ≡ word n ∷ mark equals ∷ us) × IsName n
SpellsTag keyed k ts us = SpellsLiteral k ts (mark colon ∷ us)

-- an argument without a name stands before all with one
abbrev pub MayFollow : (by : Tagging) → Tag by → Tag by → Type 0
MayFollow named (Some m) None = ⊥
MayFollow by last tag = Unit {0}

-- the comma behind a part and before the rest; behind the last part it may be absent
abbrev pub SpellsComma : {by : Tagging} → Tag by → Parts by → List Token → List Token → Type 0
SpellsComma last no_parts ts us = (ts ≡ us) ⊎ (ts ≡ mark comma ∷ us)
SpellsComma {by} last (more_parts tag a rest) ts us = (ts ≡ mark comma ∷ us) × MayFollow by last tag

-- The first number is the least level at which the expression may stand.
abbrev mutual
  pub SpellsExpr : Expr → ℕ → List Token → List Token → Type 0
  SpellsExpr (name n) l ts us = (ts ≡ word n ∷ us) × IsName n
  SpellsExpr (literal v) l ts us = SpellsLiteral v ts us
  SpellsExpr (unary tree.minus x) l ts us = (l ≤ 6) × (vs : List Token) × (ts ≡ op sub ∷ vs) × (begins_int vs ≡ false) × SpellsExpr x 6 vs us
  SpellsExpr (unary tree.invert x) l ts us = (l ≤ 6) × (vs : List Token) × (ts ≡ mark tilde ∷ vs) × SpellsExpr x 6 vs us
  SpellsExpr (binary o x y) l ts us = (l ≤ level o) × (vs : List Token) × SpellsExpr x (left_level o) ts (op o ∷ vs) × SpellsExpr y (suc (level o)) vs us
  SpellsExpr (after x s) l ts us = (vs : List Token) × SpellsExpr x 7 ts vs × SpellsStep s vs us
  SpellsExpr (len x) l ts us = (vs : List Token) × (ts ≡ word (codes "len") ∷ mark open_paren ∷ vs) × SpellsExpr x 0 vs (mark close_paren ∷ us)
  SpellsExpr (make n args) l ts us = (vs : List Token) × (ts ≡ word (codes "pd") ∷ mark dot ∷ word n ∷ mark open_paren ∷ vs) × IsMethodName n × SpellsParts args close_paren vs us
  SpellsExpr (paren x) l ts us = (vs : List Token) × (ts ≡ mark open_paren ∷ vs) × SpellsExpr x 0 vs (mark close_paren ∷ us)

  pub SpellsStep : Step → List Token → List Token → Type 0
  SpellsStep (item a) ts us = (vs : List Token) × (ts ≡ mark open_bracket ∷ vs) × SpellsArg a vs (mark close_bracket ∷ us)
  SpellsStep (access by s t) ts us = (vs : List Token) × (ts ≡ mark dot ∷ word (accessor_word by) ∷ mark open_bracket ∷ vs) × (ws : List Token) × SpellsSub s vs ws × SpellsSecond t ws us
  SpellsStep (method n args) ts us = (vs : List Token) × (ts ≡ mark dot ∷ word n ∷ mark open_paren ∷ vs) × IsMethodName n × SpellsParts args close_paren vs us
  SpellsStep (text_method n args) ts us =
      (vs : List Token) × (ts ≡ mark dot ∷ word (codes "str") ∷ mark dot ∷ word n ∷ mark open_paren ∷ vs) × IsTextMethodName n × SpellsParts args close_paren vs us
  SpellsStep (group args by n more) ts us =
      (vs ws xs : List Token) × (ts ≡ mark dot ∷ word (codes "groupby") ∷ mark open_paren ∷ vs) × SpellsParts args close_paren vs ws × SpellsBrackets by ws xs
      × (ys : List Token) × (xs ≡ mark dot ∷ word n ∷ mark open_paren ∷ ys) × IsMethodName n × SpellsParts more close_paren ys us
  SpellsStep (rolling args n more) ts us =
      (vs ws : List Token) × (ts ≡ mark dot ∷ word (codes "rolling") ∷ mark open_paren ∷ vs) × SpellsParts args close_paren vs ws
      × (xs : List Token) × (ws ≡ mark dot ∷ word n ∷ mark open_paren ∷ xs) × IsMethodName n × SpellsParts more close_paren xs us
  SpellsStep (expanding args n more) ts us =
      (vs ws : List Token) × (ts ≡ mark dot ∷ word (codes "expanding") ∷ mark open_paren ∷ vs) × SpellsParts args close_paren vs ws
      × (xs : List Token) × (ws ≡ mark dot ∷ word n ∷ mark open_paren ∷ xs) × IsMethodName n × SpellsParts more close_paren xs us

  -- a second subscript, if there is one, and the bracket that closes them
  pub SpellsSecond : OptionalSub → List Token → List Token → Type 0
  SpellsSecond no_sub ts us = ts ≡ mark close_bracket ∷ us
  SpellsSecond (some_sub s) ts us = (vs : List Token) × (ts ≡ mark comma ∷ vs) × SpellsSub s vs (mark close_bracket ∷ us)

  -- the brackets after `groupby(..)`, if there are any
  pub SpellsBrackets : OptionalArg → List Token → List Token → Type 0
  SpellsBrackets no_arg ts us = ts ≡ us
  SpellsBrackets (some_arg a) ts us = (vs : List Token) × (ts ≡ mark open_bracket ∷ vs) × SpellsArg a vs (mark close_bracket ∷ us)

  pub SpellsSub : Sub → List Token → List Token → Type 0
  SpellsSub (key a) ts us = SpellsArg a ts us
  SpellsSub (span from to by) ts us = (vs ws : List Token) × SpellsBound from ts (mark colon ∷ vs) × SpellsBound to vs ws × SpellsStride by ws us

  pub SpellsBound : OptionalArg → List Token → List Token → Type 0
  SpellsBound no_arg ts us = ts ≡ us
  SpellsBound (some_arg a) ts us = IsItem a × SpellsArg a ts us

  pub SpellsStride : OptionalExpr → List Token → List Token → Type 0
  SpellsStride no_expr ts us = (ts ≡ us) ⊎ (ts ≡ mark colon ∷ us)
  SpellsStride (some_expr x) ts us = (vs : List Token) × (ts ≡ mark colon ∷ vs) × SpellsExpr x 0 vs us

  pub SpellsArg : Arg → List Token → List Token → Type 0
  SpellsArg (expr x) ts us = SpellsExpr x 0 ts us
  SpellsArg (many parts) ts us = (vs : List Token) × (ts ≡ mark open_bracket ∷ vs) × SpellsParts parts close_bracket vs us
  SpellsArg (row parts) ts us = (vs : List Token) × (ts ≡ mark open_paren ∷ vs) × SpellsRow parts vs us
  SpellsArg (table pairs) ts us = (vs : List Token) × (ts ≡ mark open_brace ∷ vs) × SpellsParts pairs close_brace vs us
  SpellsArg nothing ts us = ts ≡ word (codes "None") ∷ us

  -- a tuple has an item, with a comma behind it
  pub SpellsRow : Parts bare → List Token → List Token → Type 0
  SpellsRow no_parts ts us = ⊥
  SpellsRow (more_parts tag a rest) ts us = (vs : List Token) × IsItem a × SpellsArg a ts (mark comma ∷ vs) × SpellsParts rest close_paren vs us

  -- parts with their commas, and the bracket that closes them
  pub SpellsParts : {by : Tagging} → Parts by → Mark → List Token → List Token → Type 0
  SpellsParts no_parts close ts us = ts ≡ mark close ∷ us
  SpellsParts {by} (more_parts tag a rest) close ts us =
      (vs ws xs : List Token) × SpellsTag by tag ts vs × IsPart by a × SpellsArg a vs ws × SpellsComma tag rest ws xs × SpellsParts rest close xs us

-- the last step of a setting's target
abbrev pub IsTarget : Step → Type 0
IsTarget (item a) = Unit {0}
IsTarget (access by s t) = Unit {0}
IsTarget s = ⊥

-- what ends a printing: the parenthesis, before which `end` may be given
abbrev pub SpellsEnd : Text → List Token → Type 0
SpellsEnd end ts =
    ((ts ≡ mark close_paren ∷ []) × (end ≡ codes "\n"))
    ⊎ (ts ≡ mark comma ∷ word (codes "end") ∷ mark equals ∷ text end ∷ mark close_paren ∷ [])

-- the tokens of a statement
abbrev pub SpellsAction : Action → List Token → Type 0
SpellsAction import_pandas ts = ts ≡ word (codes "import") ∷ word (codes "pandas") ∷ word (codes "as") ∷ word (codes "pd") ∷ []
SpellsAction (bind n x) ts = (vs : List Token) × (ts ≡ word n ∷ mark equals ∷ vs) × IsName n × SpellsExpr x 0 vs []
SpellsAction (put x s a) ts =
    (vs : List Token) × (begins_minus ts ≡ false) × IsTarget s × SpellsExpr (after x s) 7 ts (mark equals ∷ vs) × SpellsArg a vs []
SpellsAction (drop_name n) ts = (ts ≡ word (codes "del") ∷ word n ∷ []) × IsName n
SpellsAction (drop_column n x) ts = (vs : List Token) × (ts ≡ word (codes "del") ∷ word n ∷ mark open_bracket ∷ vs) × IsName n × SpellsExpr x 0 vs (mark close_bracket ∷ [])
SpellsAction (print x end) ts = (vs ws : List Token) × (ts ≡ word (codes "print") ∷ mark open_paren ∷ vs) × SpellsExpr x 0 vs ws × SpellsEnd end ws

abbrev pub most_depth : ℕ
most_depth = 32

-- No form in it is deeper than the limit. A setting's target, its object with its last step, is one form.
abbrev pub IsShallow : Action → Type 0
IsShallow import_pandas = Unit {0}
IsShallow (bind n x) = depth x ≤ most_depth
IsShallow (put x s a) = (depth (after x s) ≤ most_depth) × (arg_depth a ≤ most_depth)
IsShallow (drop_name n) = Unit {0}
IsShallow (drop_column n x) = depth x ≤ most_depth
IsShallow (print x end) = depth x ≤ most_depth
