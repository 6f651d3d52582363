-- What functions of the reader find, as the readers of the meaning give it.
use Rattle.std.specs.Prelude.{◌≡◌, ℕ, ◌≤◌, List, Option, Some, None, Result, Ok, Err}
use Rattle.std.specs.Borrow.{Bor}
use Rattle.script_tokens.specs.cells.Text.{Text}
use Rattle.script_tokens.specs.language.Tree as tree
use Rattle.script_tokens.specs.language.Depth.{depth, parts_depth}
use Rattle.script_tokens.specs.View.{binary_of}
use Rattle.script_tree.specs.View.{expr_of, literal_of, parts_of}
use Rattle.script_tree.specs.declared.literal.Literal.{Literal}
use Rattle.script_tree.specs.declared.parts.ArgList.{ArgList}
use Rattle.query_tokens.specs.declared.token.QueryToken.{QueryToken}
use Rattle.query_tokens.specs.View.{query_tokens_of}
use Rattle.meaning_query.specs.QueryToken as spec
use Rattle.meaning_query.specs.Reading as reading
use Rattle.frame_query.specs.declared.fault.QueryFault.{QueryFault}
use Rattle.frame_query.specs.declared.fault.QueryFault.TheVariants as fault
use Rattle.frame_query.specs.declared.form.Form.{Form}
use Rattle.frame_query.specs.declared.front.Joint.{Joint}
use Rattle.frame_query.specs.declared.front.Joint.TheVariants as joint

-- the tokens that are left, if there are any such
abbrev pub rest_of : Option (Bor (List QueryToken)) → Option (List spec.QueryToken)
rest_of None = None
rest_of (Some r) = Some (query_tokens_of r.now)

-- a word, and the tokens after it
abbrev pub word_of : Option (Bor Text × Bor (List QueryToken)) → Option (Text × List spec.QueryToken)
word_of None = None
word_of (Some w) = Some ((w.0).now, query_tokens_of (w.1).now)

abbrev pub joint_of : Joint → reading.Joint
joint_of (joint.Operator o) = reading.operator (binary_of o)
joint_of joint.Inside = reading.inside
joint_of joint.Outside = reading.outside

abbrev pub joint_found : Option (Joint × Bor (List QueryToken)) → Option (reading.Joint × List spec.QueryToken)
joint_found None = None
joint_found (Some j) = Some (joint_of j.0, query_tokens_of (j.1).now)

abbrev pub literal_found : Option (Literal × Bor (List QueryToken)) → Option (tree.Literal × List spec.QueryToken)
literal_found None = None
literal_found (Some v) = Some (literal_of v.0, query_tokens_of (v.1).now)

-- The reader gives nothing, unless memory ran out.
abbrev pub Fails : {Y : Type 0} → QueryFault → Option Y → Type 0
Fails fault.NoMemory read = Unit {0}
Fails fault.NotQuery read = read ≡ None

-- What was found is what the reader gives, unless memory ran out.
abbrev pub Gives : {X Y : Type 0} → (X → Y) → Result X QueryFault → Option Y → Type 0
Gives view (Ok x) read = read ≡ Some (view x)
Gives view (Err e) read = Fails e read

abbrev pub form_of : Form → reading.Form
form_of f = (expr_of f.mask, f.level)

abbrev pub items_depth : List reading.Item → ℕ
items_depth items = parts_depth {by = tree.bare} (tree.parts items)

-- What was found is what the reader gives, unless memory ran out, with the depth of its parts.
abbrev pub FindsList : Result (ArgList × ℕ × Bor (List QueryToken)) QueryFault → Option (List reading.Item × List spec.QueryToken) → Type 0
FindsList (Ok x) read = (read ≡ Some (parts_of x.0, query_tokens_of (x.2).now)) × (x.1 ≡ items_depth (parts_of x.0)) × (x.1 ≤ 1)
FindsList (Err e) read = Fails e read

-- The form has its mask's depth, which is at most `room`.
abbrev pub IsWithin : ℕ → Form → Type 0
IsWithin room f = (f.depth ≡ depth (expr_of f.mask)) × (f.depth ≤ room)

-- What was found is what the reader gives, unless memory ran out, with its depth, which is at most `room`.
abbrev pub Finds : ℕ → Result (Form × Bor (List QueryToken)) QueryFault → Option (reading.Form × List spec.QueryToken) → Type 0
Finds room (Ok x) read = (read ≡ Some (form_of x.0, query_tokens_of (x.1).now)) × IsWithin room x.0
Finds room (Err e) read = Fails e read
