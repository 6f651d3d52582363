-- What functions of the parser find, as their readers give it.
use Rattle.std.specs.Prelude.{◌≡◌, ℕ, ◌<◌, ◌≤◌, List, [], ◌∷◌, Option, Some, None, Result, Ok, Err}
use Rattle.std.specs.Borrow.{Bor}
use Rattle.script_tokens.specs.cells.Text.{Text}
use Rattle.script_tokens.specs.language.Tree as tree
use Rattle.script_tokens.specs.language.Token as spec
use Rattle.script_tokens.specs.language.Depth.{depth, arg_depth, parts_depth}
use Rattle.script_tree.specs.declared.literal.Unary.{Unary}
use Rattle.script_tree.specs.declared.literal.Literal.{Literal}
use Rattle.script_syntax.specs.declared.front.Call.{Call}
use Rattle.script_syntax.specs.declared.front.Call.TheVariants as call
use Rattle.script_tokens.specs.declared.token.Binary.{Binary}
use Rattle.script_tokens.specs.declared.token.Token.{Token}
use Rattle.script_syntax.specs.declared.refusal.Refusal.{Refusal}
use Rattle.script_syntax.specs.declared.refusal.Refusal.TheVariants as refusal
use Rattle.script_tree.specs.View.{unary_of, literal_of, expr_of, named_parts_of}
use Rattle.script_tree.specs.declared.tree.Expr.{Expr}
use Rattle.script_tree.specs.declared.parts.Args.{Args}
use Rattle.script_syntax.specs.Reading as reading
use Rattle.script_tokens.specs.View.{binary_of, tokens_of}

-- the tokens that are left, if there are any such
abbrev pub rest_of : Option (Bor (List Token)) → Option (List spec.Token)
rest_of None = None
rest_of (Some r) = Some (tokens_of r.now)

-- a word, and the tokens after it
abbrev pub word_of : Option (Bor Text × Bor (List Token)) → Option (Text × List spec.Token)
word_of None = None
word_of (Some w) = Some ((w.0).now, tokens_of (w.1).now)

abbrev pub operator_of : Option (Binary × Bor (List Token)) → Option (tree.Binary × List spec.Token)
operator_of None = None
operator_of (Some o) = Some (binary_of o.0, tokens_of (o.1).now)

abbrev pub sign_of : Option (Unary × Bor (List Token)) → Option (tree.Unary × List spec.Token)
sign_of None = None
sign_of (Some o) = Some (unary_of o.0, tokens_of (o.1).now)

abbrev pub literal_found : Option (Literal × Bor (List Token)) → Option (tree.Literal × List spec.Token)
literal_found None = None
literal_found (Some v) = Some (literal_of v.0, tokens_of (v.1).now)

abbrev pub call_of : Call → reading.Call
call_of call.Method = reading.plain
call_of call.Group = reading.grouped
call_of call.Rolling = reading.rolled
call_of call.Expanding = reading.expanded

-- the name and the arguments of a call
abbrev pub named_call_of : Text × Args → Text × tree.Parts tree.named
named_call_of c = (c.0, tree.parts (named_parts_of c.1))

abbrev pub named_call_depth : Text × tree.Parts tree.named → ℕ
named_call_depth c = parts_depth c.1

abbrev pub part_depth : {T : Type 0} → T × tree.Arg → ℕ
part_depth p = arg_depth p.1

-- parts, and then these
abbrev pub before_parts : {by : tree.Tagging} → List (tree.Tag by × tree.Arg) → tree.Parts by → tree.Parts by
before_parts [] rest = rest
before_parts (p ∷ front) rest = tree.more_parts p.0 p.1 (before_parts front rest)

-- what a reader gives, after parts that were read before
unfoldable pub after_parts : {by : tree.Tagging} → List (tree.Tag by × tree.Arg) → Option (tree.Parts by × List spec.Token) → Option (tree.Parts by × List spec.Token)
after_parts front None = None
after_parts front (Some p) = Some (before_parts front p.0, p.1)

-- The reader gives nothing, unless memory ran out.
abbrev pub Fails : {Y : Type 0} → Refusal → Option Y → Type 0
Fails refusal.NoMemory read = Unit {0}
Fails refusal.Syntax read = read ≡ None

-- What was found is what the reader gives, unless memory ran out.
abbrev pub Gives : {X Y : Type 0} → (X → Y) → Result X Refusal → Option Y → Type 0
Gives view (Ok x) read = read ≡ Some (view x)
Gives view (Err r) read = Fails r read

-- What was found is what the reader gives, unless memory ran out, with its depth, which is at most `room`.
abbrev pub Finds : {X Y : Type 0} → (X → Y) → (Y → ℕ) → ℕ → Result (X × ℕ × Bor (List Token)) Refusal → Option (Y × List spec.Token) → Type 0
Finds view deep room (Ok x) read = (read ≡ Some (view x.0, tokens_of (x.2).now)) × (x.1 ≡ deep (view x.0)) × (x.1 ≤ room)
Finds view deep room (Err r) read = Fails r read

-- The expression was built, unless memory ran out, or is deeper than `room`.
abbrev pub IsBuilt : ℕ → Result (Expr × ℕ) Refusal → tree.Expr → Type 0
IsBuilt room (Ok x) whole = (whole ≡ expr_of x.0) × (x.1 ≡ depth whole) × (x.1 ≤ room)
IsBuilt room (Err refusal.NoMemory) whole = Unit {0}
IsBuilt room (Err refusal.Syntax) whole = room < depth whole
