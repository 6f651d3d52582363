-- What an expression gives in a state and with files, or its first fault. The order of evaluation is the nesting of `then_read`.
use Rattle.std.specs.Prelude.{Bool, true, false, List, [], ◌∷◌, is_some, Option, Some, None, Result, Ok, Err, codes, if◌then◌else◌}
use Rattle.meaning_method.specs.cells.Text.{Text, same_text}
use Rattle.meaning_method.specs.cells.Cell.{CellValue, na_cell, int_cell, truth_cell, text_cell}
use Rattle.meaning_method.specs.cells.Operator.{cell_label}
use Rattle.meaning_method.specs.cells.Fault.{FaultValue, no_name, no_attribute, wrong_kind, bad_query, then_value}
use Rattle.meaning_language.specs.Tree as tree
use Rattle.meaning_language.specs.Tree.{Expr, Step, Sub, OptionalSub, OptionalArg, OptionalExpr, Arg, Parts, bare, named, keyed}
use Rattle.meaning_method.specs.tables.Value.{Entry, cell, table, Given, GivenList, GivenPairs, GivenSub, NamedGiven, nothing, one, row, many, entries, no_given, more_given, no_entries, more_entries, key_given, span_given}
use Rattle.meaning_method.specs.call.declared.Function.TheVariants.{ReadCsv}
use Rattle.meaning_method.specs.call.Binding.{text_in}
use Rattle.meaning_method.specs.call.Signature.{function_named}
use Rattle.meaning_method.specs.form.Make.{on}
use Rattle.meaning_method.specs.form.Infix.{infix_result, sign_result}
use Rattle.meaning_method.specs.form.Select.{length_result}
use Rattle.meaning_method.specs.select.Select.{Way, plain, through, select_result}
use Rattle.meaning_method.specs.Calls as calls
use Rattle.meaning_method.specs.Calls.{has_method, has_attribute, call_result}
use Rattle.meaning_method.specs.StrCalls.{has_str_method}
use Rattle.meaning_method.specs.Functions.{function_result}
use Rattle.meaning_method.specs.Readers.{reads_file, file_name_of, read_result}
use Rattle.meaning_charge.specs.Charge.{answer_charge, select_charge}
use Rattle.meaning_method.specs.Charges.{call_charge}
use Rattle.meaning_query.specs.Method.{is_query}
use Rattle.meaning_query.specs.Query.{frame_name}
use Rattle.meaning_query.specs.Reading.{query_expr}
use Rattle.meaning_script.specs.State.{State, with_new}
use Rattle.meaning_script.specs.Reading.{Files, Reads, at_once, gives, costing, then_read, of_file}

abbrev pub cell_of : tree.Literal → CellValue
cell_of (tree.int z) = int_cell z
cell_of (tree.truth b) = truth_cell b
cell_of (tree.text t) = text_cell t
cell_of tree.na = na_cell

-- the name that an expression is, in parentheses or not
abbrev pub named_by : Expr → Option Text
named_by (tree.name n) = Some n
named_by (tree.paren x) = named_by x
named_by x = None

abbrev pub value_of_name : Text → Option Entry → Result Entry FaultValue
value_of_name n None = Err (no_name n)
value_of_name n (Some v) = Ok v

abbrev pub is_minus : tree.Unary → Bool
is_minus tree.minus = true
is_minus tree.invert = false

-- what a selection and a call give, and cost
abbrev pub selected : Entry → Way → GivenSub → Option GivenSub → Reads Entry
selected v way first second = costing (select_charge v way first) (select_result v way first second)

abbrev pub called : Entry → calls.ChainValue → List NamedGiven → Reads Entry
called v chain gs = costing (call_charge v chain gs) (call_result v chain gs)

-- what follows where the name exists
abbrev pub where_named : Bool → Text → Reads Entry → Reads Entry
where_named true n rest = rest
where_named false n rest = at_once (Err (no_attribute n))

-- what a query gives in a state, asked of a frame with these arguments
abbrev pub Asked : Type 0
Asked = State → Entry → List NamedGiven → Reads Entry

-- a call of a function of `pd`; one that reads a file is asked for its name first
abbrev pub made : Files → Text → List NamedGiven → Reads Entry
made files f gs =
    if reads_file (function_named f)
    then then_read (at_once (file_name_of ReadCsv gs)) (λ name. of_file files name (λ bytes. costing answer_charge (read_result bytes gs)))
    else costing answer_charge (function_result None f gs)

abbrev mutual
  pub value_by : Asked → Files → State → Expr → Reads Entry
  value_by ask files s (tree.name n) = at_once (value_of_name n (s.value n))
  value_by ask files s (tree.literal v) = gives (cell (cell_of v))
  value_by ask files s (tree.unary o x) = then_read (value_by ask files s x) (λ v. costing answer_charge (sign_result (is_minus o) v))
  value_by ask files s (tree.binary o x y) = then_read (value_by ask files s x) (λ v. then_read (value_by ask files s y) (λ w. costing answer_charge (infix_result o v w)))
  value_by ask files s (tree.after x step) = then_read (value_by ask files s x) (λ v. stepped_by ask files s v step)
  value_by ask files s (tree.len x) = then_read (value_by ask files s x) (λ v. at_once (length_result v))
  value_by ask files s (tree.make f args) = where_named (is_some (function_named f)) f (then_read (arguments_by ask files s args) (made files f))
  value_by ask files s (tree.paren x) = value_by ask files s x

  -- a step after an object that was evaluated: the name is tested first, then arguments and subscripts are evaluated
  pub stepped_by : Asked → Files → State → Entry → Step → Reads Entry
  stepped_by ask files s v (tree.item a) = then_read (given_by ask files s a) (λ g. selected v plain (key_given g) None)
  stepped_by ask files s v (tree.access by first second) = then_read (sub_by ask files s first) (λ g. then_read (second_by ask files s second) (λ h. selected v (through by) g h))
  stepped_by ask files s v (tree.method n args) =
      if is_query v n
      then then_read (arguments_by ask files s args) (ask s v)
      else where_named (has_method v n) n (then_read (arguments_by ask files s args) (called v (calls.plain n)))
  stepped_by ask files s v (tree.text_method n args) =
      where_named (has_attribute v (codes "str")) (codes "str")
      (where_named (has_str_method n) n (then_read (arguments_by ask files s args) (called v (calls.on_texts n))))
  stepped_by ask files s v (tree.group args by n more) =
      where_named (has_method v (codes "groupby")) (codes "groupby")
      (then_read (arguments_by ask files s args) (λ g. then_read (brackets_by ask files s by) (λ h. then_read (arguments_by ask files s more) (called v (calls.grouped g h n)))))
  stepped_by ask files s v (tree.rolling args n more) =
      where_named (has_method v (codes "rolling")) (codes "rolling")
      (then_read (arguments_by ask files s args) (λ g. then_read (arguments_by ask files s more) (called v (calls.rolling g n))))
  stepped_by ask files s v (tree.expanding args n more) =
      where_named (has_method v (codes "expanding")) (codes "expanding")
      (then_read (arguments_by ask files s args) (λ g. then_read (arguments_by ask files s more) (called v (calls.expanding g n))))

  pub sub_by : Asked → Files → State → Sub → Reads GivenSub
  sub_by ask files s (tree.key a) = then_read (given_by ask files s a) (λ g. gives (key_given g))
  sub_by ask files s (tree.span from to by) =
      then_read (bound_by ask files s from) (λ g. then_read (bound_by ask files s to) (λ h. then_read (stride_by ask files s by) (λ k. gives (span_given g h k))))

  pub second_by : Asked → Files → State → OptionalSub → Reads (Option GivenSub)
  second_by ask files s tree.no_sub = gives None
  second_by ask files s (tree.some_sub sub) = then_read (sub_by ask files s sub) (λ g. gives (Some g))

  -- what stands in brackets behind `groupby`
  pub brackets_by : Asked → Files → State → OptionalArg → Reads (Option Given)
  brackets_by ask files s tree.no_arg = gives None
  brackets_by ask files s (tree.some_arg a) = then_read (given_by ask files s a) (λ g. gives (Some g))

  pub bound_by : Asked → Files → State → OptionalArg → Reads Given
  bound_by ask files s tree.no_arg = gives nothing
  bound_by ask files s (tree.some_arg a) = given_by ask files s a

  pub stride_by : Asked → Files → State → OptionalExpr → Reads Given
  stride_by ask files s tree.no_expr = gives nothing
  stride_by ask files s (tree.some_expr x) = then_read (value_by ask files s x) (λ v. gives (one v))

  pub given_by : Asked → Files → State → Arg → Reads Given
  given_by ask files s (tree.expr x) = then_read (value_by ask files s x) (λ v. gives (one v))
  given_by ask files s (tree.many parts) = then_read (parts_by ask files s parts) (λ parts. gives (many parts))
  given_by ask files s (tree.row parts) = then_read (parts_by ask files s parts) (λ parts. gives (row parts))
  given_by ask files s (tree.table pairs) = then_read (pairs_by ask files s pairs) (λ es. gives (entries es))
  given_by ask files s tree.nothing = gives nothing

  -- a part of a list or a tuple is an expression or a tuple; no text spells another
  pub part_by : Asked → Files → State → Arg → Reads Given
  part_by ask files s (tree.expr x) = then_read (value_by ask files s x) (λ v. gives (one v))
  part_by ask files s (tree.row parts) = then_read (parts_by ask files s parts) (λ parts. gives (row parts))
  part_by ask files s a = at_once (Err wrong_kind)

  pub parts_by : Asked → Files → State → Parts bare → Reads GivenList
  parts_by ask files s tree.no_parts = gives no_given
  parts_by ask files s (tree.more_parts tag a rest) = then_read (part_by ask files s a) (λ g. then_read (parts_by ask files s rest) (λ gs. gives (more_given g gs)))

  pub pairs_by : Asked → Files → State → Parts keyed → Reads GivenPairs
  pairs_by ask files s tree.no_parts = gives no_entries
  pairs_by ask files s (tree.more_parts k a rest) = then_read (given_by ask files s a) (λ g. then_read (pairs_by ask files s rest) (λ es. gives (more_entries (cell_label (cell_of k)) g es)))

  pub arguments_by : Asked → Files → State → Parts named → Reads (List NamedGiven)
  arguments_by ask files s tree.no_parts = gives []
  arguments_by ask files s (tree.more_parts n a rest) = then_read (given_by ask files s a) (λ g. then_read (arguments_by ask files s rest) (λ gs. gives (record { name = n; value = g } ∷ gs)))

-- ---- queries

-- the text of a query, its one argument
abbrev pub names_query : Option Text → Bool
names_query None = true
names_query (Some n) = same_text n (codes "expr")

abbrev pub query_text : List NamedGiven → Result Text FaultValue
query_text (g ∷ []) = if names_query g.name then on (text_in g.value) Ok else Err wrong_kind
query_text gs = Err wrong_kind

-- the mask that a text stands for
abbrev pub mask_in : Option Expr → Result Expr FaultValue
mask_in None = Err bad_query
mask_in (Some x) = Ok x

abbrev pub mask_for : Result Text FaultValue → Result Expr FaultValue
mask_for r = then_value r (λ text. mask_in (query_expr text))

-- the rows of the frame that a mask chooses, which must be an object
abbrev pub chosen : Entry → Entry → Reads Entry
chosen v (cell c) = at_once (Err wrong_kind)
chosen v (table m) = selected v plain (key_given (one (table m))) None

-- a mask has no query in it
abbrev pub no_query : Asked
no_query s v gs = at_once (Err (no_attribute (codes "query")))

-- The mask is evaluated where the frame has the empty name.
abbrev pub queried : Files → Asked
queried files s v gs = then_read (at_once (mask_for (query_text gs))) (λ mask. then_read (value_by no_query files (with_new s frame_name v) mask) (chosen v))

-- ---- expressions of a script, which may ask queries

abbrev pub value_of : Files → State → Expr → Reads Entry
value_of files s x = value_by (queried files) files s x

abbrev pub given_of : Files → State → Arg → Reads Given
given_of files s a = given_by (queried files) files s a

abbrev pub sub_of : Files → State → Sub → Reads GivenSub
sub_of files s sub = sub_by (queried files) files s sub

abbrev pub second_of : Files → State → OptionalSub → Reads (Option GivenSub)
second_of files s sub = second_by (queried files) files s sub

-- the last step of a setting's target: what stands before its brackets, and in them
pub record Target : Type 0 where
  pub way : Way
  pub first : GivenSub
  pub second : Option GivenSub

abbrev pub target_of : Files → State → Step → Reads Target
target_of files s (tree.item a) = then_read (given_of files s a) (λ g. gives record { way = plain; first = key_given g; second = None })
target_of files s (tree.access by first second) = then_read (sub_of files s first) (λ g. then_read (second_of files s second) (λ h. gives record { way = through by; first = g; second = h }))
target_of files s step = at_once (Err wrong_kind)
