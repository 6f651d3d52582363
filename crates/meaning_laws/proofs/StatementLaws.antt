-- A statement leaves a valid state of a valid one.
use Rattle.{
  meaning_script.{proofs.cells.Common.{arith, ℕ, List, All-nil, All-cons, Bool, if◌then◌else◌, codes, is_some, Option, Some, None, IfSome, Result, Ok, Err, IfOk, All, Text, Contents, FaultValue}, specs.{query.{Method.{is_query}, Query.{frame_name}}, charge.Charge.{answer_charge}, language.Tree.{Expr, Step, Arg, Parts, bare, named, Action}, tables.{Table.{Table}, Valid.{IsValid}, Value.{Entry, cell, table, NamedGiven}}, call.Signature.{function_named}, method.{Calls.{has_method, has_attribute}, StrCalls.{has_str_method}, Concat.{tables_of}, Readers.{read_result}}, State.{State, with_new, without_name}, Reading.{Files, Reading, Reads, at_once, costing, then_read, of_bytes, of_path}, Expression.{target_of, value_of_name, where_named, made, value_of, stepped_by, sub_of, second_of, brackets_by, given_of, part_by, parts_by, pairs_by, arguments_by, queried, value_by, no_query, mask_for, query_text, chosen as chosen_rows}, Statement.{Answer, then_answer, with_value, set_answer, statement_result}}},
  meaning_laws.{specs.Validity.{IsValidObject, IsValidEntry, IsValidGiven, IsValidArgument, AreValidArguments, IsValidState, LeavesValid, HasHeldLiterals, IsHeldArgument, IsHeldAction}, proofs.{Words.{Keeps}, InfixLaws.{infix_result_keeps, sign_result_keeps}, ReachLaws.{select_result_keeps, length_result_keeps}, SetLaws.{assign_result_keeps, removal_result_keeps}, GroupLaws.{grouped_result_keeps}, WindowLaws.{rolling_result_keeps, expanding_result_keeps}, CsvLaws.{read_result_keeps}, ArgumentLaws.{more_valid}, CallLaws.{call_result_keeps, function_result_keeps}}},
}
use Rattle.meaning_script.specs.language.Tree as tree
use Rattle.meaning_script.specs.method.Calls as calls

abbrev Any : {A : Type 0} → A → Type 0
Any a = Unit {0}

object : (v : Entry) → IsValidEntry v → IsValidObject v
object = grind arith

-- a value goes on, and a fault stops
read_keeps : {A B : Type 0} (P : A → Type 0) (Q : B → Type 0) (r : Reads A) (go : A → Reads B) → IfOk r.answer P → ((a : A) → P a → IfOk (go a).answer Q) → IfOk (then_read r go).answer Q
read_keeps P Q = grind arith

after_any : {A B : Type 0} (Q : B → Type 0) (r : Reads A) (go : A → Reads B) → ((a : A) → IfOk (go a).answer Q) → IfOk (then_read r go).answer Q
after_any = grind arith

named_keeps : (known : Bool) (n : Text) (rest : Reads Entry) → Keeps rest.answer → IfOk (where_named known n rest).answer IsValidEntry
named_keeps = grind arith

-- calls of the functions of `pd`

bytes_keep : (name : Text) (bytes : Option (List ℕ)) (gs : List NamedGiven) → Keeps (of_bytes name bytes (λ bytes. costing answer_charge (read_result bytes gs))).answer
bytes_keep name None gs = tt
bytes_keep name (Some bytes) gs = read_result_keeps bytes gs

path_keeps : (held : Contents) (name : Text) (path : Option Text) (gs : List NamedGiven) → IfOk (of_path held name path (λ bytes. costing answer_charge (read_result bytes gs))).answer IsValidEntry
path_keeps = grind (arith, bytes_keep)

made_keeps : (files : Files) (f : Text) (gs : List NamedGiven) → AreValidArguments gs → IfOk (made files f gs).answer IsValidEntry
made_keeps files f gs h =
    let called = function_result_keeps None f gs h in
    grind (arith, path_keeps)

-- queries: a frame's rows, which are chosen by what a mask gives

chosen_keeps : (v m : Entry) → IsValidObject v → Keeps (chosen_rows v m).answer
chosen_keeps v (cell c) h = tt
chosen_keeps v (table m) h = select_result_keeps v _ _ _ h

queried_keeps : (files : Files) (s : State) (v : Entry) (gs : List NamedGiven) → IsValidObject v → Keeps (queried files s v gs).answer
queried_keeps files s v gs h =
    after_any IsValidEntry (at_once (mask_for (query_text gs))) _ (λ mask. after_any IsValidEntry (value_by no_query files (with_new s frame_name v) mask) _ (λ m. chosen_keeps v m h))

either_keeps : (b : Bool) (x y : Reads Entry) → Keeps x.answer → Keeps y.answer → IfOk (if b then x else y).answer IsValidEntry
either_keeps = grind arith

-- expressions

name_keeps : (n : Text) (o : Option Entry) → IfSome o IsValidEntry → Keeps (value_of_name n o)
name_keeps = grind arith

-- the value of an expression: a table is valid, and a column can hold a scalar where it can hold the literals
record IsValueOf (x : Expr) (v : Entry) : Type 0 where
  valid : IsValidObject v
  held : HasHeldLiterals x → IsValidEntry v

abbrev Gives : Expr → Reads Entry → Type 0
Gives x r = IfOk r.answer (IsValueOf x)

gives_valid : (x : Expr) (r : Reads Entry) → Keeps r.answer → Gives x r
gives_valid = grind arith

module _ (files : Files) (s : State) (valid : IsValidState s) where
  mutual
    value_valid : (x : Expr) → Gives x (value_of files s x)
    value_valid (tree.name n) = grind (arith, name_keeps, gives_valid, valid n)
    value_valid (tree.literal v) = record { valid = tt; held = λ h. h }
    value_valid (tree.unary o x) =
        gives_valid (tree.unary o x) (value_of files s (tree.unary o x))
        (read_keeps (IsValueOf x) IsValidEntry (value_of files s x) _ (value_valid x) (λ v k. sign_result_keeps _ v k.valid))
    value_valid (tree.binary o x y) =
        gives_valid (tree.binary o x y) (value_of files s (tree.binary o x y))
        (read_keeps (IsValueOf x) IsValidEntry (value_of files s x) _ (value_valid x)
        (λ v k. read_keeps (IsValueOf y) IsValidEntry (value_of files s y) _ (value_valid y) (λ w l. infix_result_keeps o v w k.valid l.valid)))
    value_valid (tree.after x step) =
        gives_valid (tree.after x step) (value_of files s (tree.after x step))
        (read_keeps (IsValueOf x) IsValidEntry (value_of files s x) _ (value_valid x) (λ v k. step_keeps v step k.valid))
    value_valid (tree.len x) = gives_valid (tree.len x) (value_of files s (tree.len x)) (after_any IsValidEntry (value_of files s x) _ length_result_keeps)
    value_valid (tree.make f args) =
        gives_valid (tree.make f args) (value_of files s (tree.make f args))
        (named_keeps (is_some (function_named f)) f _ (read_keeps AreValidArguments IsValidEntry (arguments_by (queried files) files s args) _ (arguments_valid args) (λ gs k. made_keeps files f gs k)))
    value_valid (tree.paren x) = parens (value_of files s x).answer (value_valid x)
      where
        parens : (o : Result Entry FaultValue) → IfOk o (IsValueOf x) → IfOk o (IsValueOf (tree.paren x))
        parens (Ok v) h = record { valid = h.valid; held = h.held }
        parens (Err fault) h = tt

    step_keeps : (v : Entry) (step : Step) → IsValidObject v → IfOk (stepped_by (queried files) files s v step).answer IsValidEntry
    step_keeps v (tree.item a) h = after_any IsValidEntry (given_of files s a) _ (λ g. select_result_keeps v _ _ _ h)
    step_keeps v (tree.access by first second) h =
        after_any IsValidEntry (sub_of files s first) _ (λ g. after_any IsValidEntry (second_of files s second) _ (λ k. select_result_keeps v _ _ _ h))
    step_keeps v (tree.method n args) h =
        either_keeps (is_query v n) _ _ (after_any IsValidEntry (arguments_by (queried files) files s args) _ (λ gs. queried_keeps files s v gs h))
        (named_keeps (has_method v n) n _ (read_keeps AreValidArguments IsValidEntry (arguments_by (queried files) files s args) _ (arguments_valid args) (λ gs k. call_result_keeps v (calls.plain n) gs h k)))
    step_keeps v (tree.text_method n args) h =
        named_keeps (has_attribute v (codes "str")) (codes "str") _
        (named_keeps (has_str_method n) n _ (read_keeps AreValidArguments IsValidEntry (arguments_by (queried files) files s args) _ (arguments_valid args) (λ gs k. call_result_keeps v (calls.on_texts n) gs h k)))
    step_keeps v (tree.group args by n more) h =
        named_keeps (has_method v (codes "groupby")) (codes "groupby") _
        (after_any IsValidEntry (arguments_by (queried files) files s args) _ (λ g. after_any IsValidEntry (brackets_by (queried files) files s by) _ (λ k. after_any IsValidEntry (arguments_by (queried files) files s more) _ (λ gs. grouped_result_keeps v g k n gs h))))
    step_keeps v (tree.rolling args n more) h =
        named_keeps (has_method v (codes "rolling")) (codes "rolling") _
        (after_any IsValidEntry (arguments_by (queried files) files s args) _ (λ g. after_any IsValidEntry (arguments_by (queried files) files s more) _ (λ gs. rolling_result_keeps v g n gs h)))
    step_keeps v (tree.expanding args n more) h =
        named_keeps (has_method v (codes "expanding")) (codes "expanding") _
        (after_any IsValidEntry (arguments_by (queried files) files s args) _ (λ g. after_any IsValidEntry (arguments_by (queried files) files s more) _ (λ gs. expanding_result_keeps v g n gs h)))

    argument_valid : (a : Arg) → IfOk (given_of files s a).answer IsValidArgument
    argument_valid (tree.expr x) = read_keeps (IsValueOf x) IsValidArgument (value_of files s x) _ (value_valid x) (λ v k. k.valid)
    argument_valid (tree.many parts) = read_keeps (λ gs. All IsValid (tables_of gs)) IsValidArgument (parts_by (queried files) files s parts) _ (parts_valid parts) (λ gs k. k)
    argument_valid (tree.row parts) = after_any IsValidArgument (parts_by (queried files) files s parts) _ (λ gs. tt)
    argument_valid (tree.table pairs) = after_any IsValidArgument (pairs_by (queried files) files s pairs) _ (λ es. tt)
    argument_valid tree.nothing = tt

    part_valid : (a : Arg) → IfOk (part_by (queried files) files s a).answer IsValidArgument
    part_valid (tree.expr x) = read_keeps (IsValueOf x) IsValidArgument (value_of files s x) _ (value_valid x) (λ v k. k.valid)
    part_valid (tree.row parts) = after_any IsValidArgument (parts_by (queried files) files s parts) _ (λ gs. tt)
    part_valid (tree.many parts) = tt
    part_valid (tree.table pairs) = tt
    part_valid tree.nothing = tt

    parts_valid : (parts : Parts bare) → IfOk (parts_by (queried files) files s parts).answer (λ gs. All IsValid (tables_of gs))
    parts_valid tree.no_parts = All-nil IsValid
    parts_valid (tree.more_parts tag a rest) =
        read_keeps IsValidArgument (λ gs. All IsValid (tables_of gs)) (part_by (queried files) files s a) _ (part_valid a)
        (λ g h. read_keeps (λ gs. All IsValid (tables_of gs)) (λ gs. All IsValid (tables_of gs)) (parts_by (queried files) files s rest) _ (parts_valid rest) (λ gs k. more_valid g gs h k))

    arguments_valid : (args : Parts named) → IfOk (arguments_by (queried files) files s args).answer AreValidArguments
    arguments_valid tree.no_parts = All-nil (λ (g : NamedGiven). IsValidArgument g.value)
    arguments_valid (tree.more_parts n a rest) =
        read_keeps IsValidArgument AreValidArguments (given_of files s a) _ (argument_valid a)
        (λ g h. read_keeps AreValidArguments AreValidArguments (arguments_by (queried files) files s rest) _ (arguments_valid rest)
        (λ gs k. All-cons (λ (g : NamedGiven). IsValidArgument g.value) record { name = n; value = g } gs h k))

-- what an expression gives in a valid state
held_entry : (x : Expr) (r : Result Entry FaultValue) → HasHeldLiterals x → IfOk r (IsValueOf x) → IfOk r IsValidEntry
held_entry x (Ok v) h k = k.held h
held_entry x (Err fault) h k = tt

pub value_of_keeps : (files : Files) (s : State) → IsValidState s → (x : Expr) → HasHeldLiterals x → IfOk (value_of files s x).answer IsValidEntry
value_of_keeps files s valid x h = held_entry x (value_of files s x).answer h (value_valid files s valid x)

given_keeps : (files : Files) (s : State) → IsValidState s → (a : Arg) → IsHeldArgument a → IfOk (given_of files s a).answer IsValidGiven
given_keeps files s valid (tree.expr x) h = read_keeps IsValidEntry IsValidGiven (value_of files s x) _ (value_of_keeps files s valid x h) (λ v k. k)
given_keeps files s valid (tree.many parts) h = after_any IsValidGiven (parts_by (queried files) files s parts) _ (λ gs. tt)
given_keeps files s valid (tree.row parts) h = after_any IsValidGiven (parts_by (queried files) files s parts) _ (λ gs. tt)
given_keeps files s valid (tree.table pairs) h = after_any IsValidGiven (pairs_by (queried files) files s pairs) _ (λ es. tt)
given_keeps files s valid tree.nothing h = tt

-- states

chosen : (b : Bool) (o p : Option Entry) → IfSome o IsValidEntry → IfSome p IsValidEntry → IfSome (if b then o else p) IsValidEntry
chosen = grind arith

bound_valid : (s : State) (x : Text) (o : Option Text) (v : Entry) → IsValidState s → IsValidEntry v → IsValidState (with_value s x o v)
bound_valid = grind arith

set_valid : (s : State) (o : Option Text) (r : Result Table FaultValue) → IsValidState s → IfOk r IsValid → LeavesValid (set_answer s o r)
set_valid = grind (arith, chosen)

pub without_valid : (s : State) (x : Text) → IsValidState s → IsValidState (without_name s x)
without_valid = search chosen

-- statements

answer_keeps : {A : Type 0} (P : A → Type 0) (r : Reads A) (go : A → Reading Answer) → IfOk r.answer P → ((a : A) → P a → LeavesValid (go a).answer) → LeavesValid (then_answer r go).answer
answer_keeps P = grind arith

any_ok : {A : Type 0} (r : Result A FaultValue) → IfOk r Any
any_ok (Ok a) = tt
any_ok (Err fault) = tt

-- The names stand for valid tables after a statement if they do before it.
pub statement_keeps : (files : Files) (s : State) (f : Action) → IsValidState s → IsHeldAction f → LeavesValid (statement_result files s f).answer
statement_keeps files s tree.import_pandas valid h = valid
statement_keeps files s (tree.bind x e) valid h = answer_keeps _ (value_of files s e) _ (value_of_keeps files s valid e h) (λ v k. bound_valid s x _ v valid k)
statement_keeps files s (tree.put x step a) valid h =
    answer_keeps _ (given_of files s a) _ (given_keeps files s valid a h.1)
    (λ g k. answer_keeps IsValidEntry (value_of files s x) _ (value_of_keeps files s valid x h.0)
    (λ v l. answer_keeps Any (target_of files s step) _ (any_ok _)
    (λ target _. set_valid s _ _ valid (search (assign_result_keeps, object)))))
statement_keeps files s (tree.drop_name n) valid h = answer_keeps Any (at_once (value_of_name n (s.value n))) _ (any_ok _) (λ v _. without_valid s n valid)
statement_keeps files s (tree.drop_column n x) valid h =
    answer_keeps IsValidEntry (at_once (value_of_name n (s.value n))) _ (name_keeps n (s.value n) (valid n))
    (λ v k. answer_keeps Any (value_of files s x) _ (any_ok _) (λ key _. set_valid s (Some n) _ valid (search (removal_result_keeps, object))))
statement_keeps files s (tree.print x end) valid h = answer_keeps Any (value_of files s x) _ (any_ok _) (λ v _. valid)
