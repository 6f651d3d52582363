-- The tables that names stand for were paid for.
use Rattle.{
  meaning_script.{proofs.cells.Common.{arith, ◌≡◌, refl, sym, subst, ℕ, ◌+◌, ◌≤◌, ◌^◌, nat_le, nat_tests, List, [], ◌∷◌, ◌++◌, length, map, max, Bool, true, false, ◌&&◌, ◌||◌, if◌then◌else◌, codes, is_some, get, Option, Some, None, IfSome, Result, Ok, Err, IfOk, All-head, All-tail, inl, inr, Text, same_text, Contents, FaultValue}, specs.{query.{Method.{is_query}, Query.{frame_name}}, charge.Charge.{answer_charge, select_charge, setting_charge}, language.Tree.{Expr, Step, Action, Statement}, tables.{Table.{Table}, Valid.{within_limits}, Value.{Entry, cell, table, one, NamedGiven, key_given}}, method.{Charges.{call_charge}, Calls.{has_method, has_attribute, call_result}, StrCalls.{has_str_method}, Functions.{function_result}, Readers.{reads_file, file_name_of, read_result}}, call.{declared.Function.TheVariants.{ReadCsv}, Signature.{function_named}}, form.Select.{length_result}, select.{Select.{plain, through, select_result}, Set.{removal_result}}, Spent.{Spent, spent_for}, State.{State, with_new, no_names, without_name, value_rows, entry_rows, held_rows, most_rows_of, most_rows}, Reading.{Files, Reading, Reads, at_once, costing, after, goes_on, then_read, of_bytes, path_of_name, of_path}, Expression.{named_by, value_of_name, where_named, made, value_of, stepped_by, sub_of, second_of, brackets_by, given_of, arguments_by, target_of, queried, value_by, no_query, mask_for, query_text, chosen as chosen_rows}, Statement.{Answer, done, refused, then_answer, with_value, with_set, set_answer, assigned, statement_result}, Run.{Ending, usage, syntax, RunStep, RunResult, least_peak, spent_of, told_charge, IsPeak, after_fault, after_answer, fetched, statements_result, with_line, too_large_line, syntax_line, not_found_line, IsScriptResult, IsFileResult}}},
  meaning_laws.{specs.{Validity.{IsValidObject, IsValidEntry, IsValidState, LeavesValid, HasHeldLiterals, IsHeldAction}, Paid.{IsPaid, LeavesPaid, PaidIn, PaysForTables, HasPeak}}, proofs.{LiteralLaws.{AreHeld, script_held}, PaidForms.{Within, under_rows, costs_cells, select_within, assign_within, removal_within}, PaidCalls.{call_within}, StatementLaws.{value_of_keeps, statement_keeps}}},
}
use Rattle.meaning_script.specs.language.Tree as tree
use Rattle.meaning_script.specs.method.Calls as calls

-- a value was paid for by so much, and by what is spent on the way to it
abbrev PaysFor : ℕ → Reads Entry → Type 0
PaysFor paid r = IfOk r.answer (Within (paid + r.spent.charge))

summed : (paid before more : ℕ) (o : Result Entry FaultValue) → IfOk o (Within (paid + before + more)) → IfOk o (Within (paid + (before + more)))
summed paid before more (Ok v) h = omega arith
summed paid before more (Err fault) h = tt

-- what follows on a way pays for its value, whatever was spent on the way
after_any : {A : Type 0} (least paid : ℕ) (r : Reads A) (go : A → Reads Entry) → least ≤ paid → ((a : A) (later : ℕ) → least ≤ later → PaysFor later (go a)) → PaysFor paid (then_read r go)
after_any {A} least paid r go le h = by r.answer
  where
    by : (o : Result A FaultValue) → IfOk (goes_on Err o go).answer (Within (paid + (r.spent.charge + (goes_on Err o go).spent.charge)))
    by (Ok a) = summed paid r.spent.charge _ (go a).answer (h a (paid + r.spent.charge) (omega arith))
    by (Err fault) = tt

-- what is made of a value that was paid for
after_value : (P : Entry → Type 0) (paid : ℕ) (r : Reads Entry) (go : Entry → Reads Entry) → PaysFor paid r → IfOk r.answer P → ((v : Entry) (later : ℕ) → P v → entry_rows v ≤ later → PaysFor later (go v)) → PaysFor paid (then_read r go)
after_value P paid r go pays valid h = by r.answer pays valid
  where
    by : (o : Result Entry FaultValue) → IfOk o (Within (paid + r.spent.charge)) → IfOk o P → IfOk (goes_on Err o go).answer (Within (paid + (r.spent.charge + (goes_on Err o go).spent.charge)))
    by (Ok v) k l = summed paid r.spent.charge _ (go v).answer (h v (paid + r.spent.charge) l k)
    by (Err fault) k l = tt

named_pays : (known : Bool) (n : Text) (paid : ℕ) (rest : Reads Entry) → PaysFor paid rest → PaysFor paid (where_named known n rest)
named_pays true n paid rest h = h
named_pays false n paid rest h = tt

-- a form that costs so much
costing_pays : (charge : Entry → ℕ) (r : Result Entry FaultValue) (base paid : ℕ) → base ≤ paid → IfOk r (λ w. entry_rows w ≤ base + charge w) → PaysFor paid (costing charge r)
costing_pays charge (Ok w) base paid le h = omega arith
costing_pays charge (Err fault) base paid le h = tt

cells_pay : (r : Result Entry FaultValue) (paid : ℕ) → PaysFor paid (costing answer_charge r)
cells_pay r paid = costing_pays answer_charge r paid paid (omega arith) (costs_cells r paid)

-- ---- calls of the functions of `pd`

bytes_pay : (name : Text) (bytes : Option (List ℕ)) (gs : List NamedGiven) (paid : ℕ) → PaysFor paid (of_bytes name bytes (λ bytes. costing answer_charge (read_result bytes gs)))
bytes_pay name None gs paid = tt
bytes_pay name (Some bytes) gs paid = cells_pay (read_result bytes gs) paid

path_pays : (held : Contents) (name : Text) (path : Option Text) (gs : List NamedGiven) (paid : ℕ) → PaysFor paid (of_path held name path (λ bytes. costing answer_charge (read_result bytes gs)))
path_pays held name None gs paid = tt
path_pays held name (Some path) gs paid = summed paid 0 _ _ (bytes_pay name (get held path) gs (paid + 0))

either : (b : Bool) (paid : ℕ) (x y : Reads Entry) → PaysFor paid x → PaysFor paid y → PaysFor paid (if b then x else y)
either true paid x y h k = h
either false paid x y h k = k

made_pays : (files : Files) (f : Text) (gs : List NamedGiven) (paid : ℕ) → PaysFor paid (made files f gs)
made_pays files f gs paid =
    either (reads_file (function_named f)) paid _ _
    (after_any 0 paid (at_once (file_name_of ReadCsv gs)) _ (omega arith) (λ name later le. path_pays files.held name (path_of_name files.paths name) gs later))
    (cells_pay (function_result None f gs) paid)

-- ---- queries

chosen_pays : (v m : Entry) (paid : ℕ) → IsValidObject v → entry_rows v ≤ paid → PaysFor paid (chosen_rows v m)
chosen_pays v (cell c) paid h le = tt
chosen_pays v (table m) paid h le =
    costing_pays (select_charge v plain (key_given (one (table m)))) (select_result v plain (key_given (one (table m))) None) (entry_rows v) paid le (select_within v plain (key_given (one (table m))) None h)

queried_pays : (files : Files) (s : State) (v : Entry) (gs : List NamedGiven) (paid : ℕ) → IsValidObject v → entry_rows v ≤ paid → PaysFor paid (queried files s v gs)
queried_pays files s v gs paid h le =
    after_any (entry_rows v) paid (at_once (mask_for (query_text gs))) _ le
    (λ mask later le. after_any (entry_rows v) later (value_by no_query files (with_new s frame_name v) mask) _ le (λ m later le. chosen_pays v m later h le))

-- ---- expressions

name_pays : (n : Text) (o : Option Entry) (paid : ℕ) → value_rows o ≤ paid → PaysFor paid (at_once (value_of_name n o))
name_pays n None paid h = tt
name_pays n (Some v) paid h = omega arith

length_pays : (v : Entry) (paid : ℕ) → PaysFor paid (at_once (length_result v))
length_pays (cell c) paid = tt
length_pays (table t) paid = omega arith

object : (v : Entry) → IsValidEntry v → IsValidObject v
object = grind arith

objects : (r : Result Entry FaultValue) → IfOk r IsValidEntry → IfOk r IsValidObject
objects (Ok v) h = object v h
objects (Err fault) h = tt

module _ (files : Files) (s : State) (valid : IsValidState s) where
  step_pays : (v : Entry) (step : Step) (paid : ℕ) → IsValidObject v → entry_rows v ≤ paid → PaysFor paid (stepped_by (queried files) files s v step)
  step_pays v (tree.item a) paid h le =
      after_any (entry_rows v) paid (given_of files s a) _ le
      (λ g later le. costing_pays (select_charge v plain (key_given g)) (select_result v plain (key_given g) None) (entry_rows v) later le (select_within v plain (key_given g) None h))
  step_pays v (tree.access by first second) paid h le =
      after_any (entry_rows v) paid (sub_of files s first) _ le
      (λ g later le. after_any (entry_rows v) later (second_of files s second) _ le
      (λ k later le. costing_pays (select_charge v (through by) g) (select_result v (through by) g k) (entry_rows v) later le (select_within v (through by) g k h)))
  step_pays v (tree.method n args) paid h le =
      either (is_query v n) paid _ _
      (after_any (entry_rows v) paid (arguments_by (queried files) files s args) _ le (λ gs later le. queried_pays files s v gs later h le))
      (named_pays (has_method v n) n paid _
      (after_any (entry_rows v) paid (arguments_by (queried files) files s args) _ le
      (λ gs later le. costing_pays (call_charge v (calls.plain n) gs) (call_result v (calls.plain n) gs) (entry_rows v) later le (call_within v (calls.plain n) gs h))))
  step_pays v (tree.text_method n args) paid h le =
      named_pays (has_attribute v (codes "str")) (codes "str") paid _
      (named_pays (has_str_method n) n paid _
      (after_any (entry_rows v) paid (arguments_by (queried files) files s args) _ le
      (λ gs later le. costing_pays (call_charge v (calls.on_texts n) gs) (call_result v (calls.on_texts n) gs) (entry_rows v) later le (call_within v (calls.on_texts n) gs h))))
  step_pays v (tree.group args by n more) paid h le =
      named_pays (has_method v (codes "groupby")) (codes "groupby") paid _
      (after_any (entry_rows v) paid (arguments_by (queried files) files s args) _ le
      (λ g later le. after_any (entry_rows v) later (brackets_by (queried files) files s by) _ le
      (λ k later le. after_any (entry_rows v) later (arguments_by (queried files) files s more) _ le
      (λ gs later le. costing_pays (call_charge v (calls.grouped g k n) gs) (call_result v (calls.grouped g k n) gs) (entry_rows v) later le (call_within v (calls.grouped g k n) gs h)))))
  step_pays v (tree.rolling args n more) paid h le =
      named_pays (has_method v (codes "rolling")) (codes "rolling") paid _
      (after_any (entry_rows v) paid (arguments_by (queried files) files s args) _ le
      (λ g later le. after_any (entry_rows v) later (arguments_by (queried files) files s more) _ le
      (λ gs later le. costing_pays (call_charge v (calls.rolling g n) gs) (call_result v (calls.rolling g n) gs) (entry_rows v) later le (call_within v (calls.rolling g n) gs h))))
  step_pays v (tree.expanding args n more) paid h le =
      named_pays (has_method v (codes "expanding")) (codes "expanding") paid _
      (after_any (entry_rows v) paid (arguments_by (queried files) files s args) _ le
      (λ g later le. after_any (entry_rows v) later (arguments_by (queried files) files s more) _ le
      (λ gs later le. costing_pays (call_charge v (calls.expanding g n) gs) (call_result v (calls.expanding g n) gs) (entry_rows v) later le (call_within v (calls.expanding g n) gs h))))

  -- the value of an expression was paid for before it and on the way to it
  pub value_pays : (x : Expr) → HasHeldLiterals x → (paid : ℕ) → IsPaid paid s → PaysFor paid (value_of files s x)
  value_pays (tree.name n) held paid h = name_pays n (s.value n) paid (h n)
  value_pays (tree.literal v) held paid h = omega arith
  value_pays (tree.unary o x) held paid h = after_any 0 paid (value_of files s x) _ (omega arith) (λ v later le. cells_pay _ later)
  value_pays (tree.binary o x y) held paid h =
      after_any 0 paid (value_of files s x) _ (omega arith)
      (λ v later le. after_any 0 later (value_of files s y) _ le (λ w later le. cells_pay _ later))
  value_pays (tree.after x step) held paid h =
      after_value IsValidObject paid (value_of files s x) _ (value_pays x held paid h) (objects (value_of files s x).answer (value_of_keeps files s valid x held))
      (λ v later k le. step_pays v step later k le)
  value_pays (tree.len x) held paid h = after_any 0 paid (value_of files s x) _ (omega arith) (λ v later le. length_pays v later)
  value_pays (tree.make f args) held paid h =
      named_pays (is_some (function_named f)) f paid _
      (after_any 0 paid (arguments_by (queried files) files s args) _ (omega arith) (λ gs later le. made_pays files f gs later))
  value_pays (tree.paren x) held paid h = value_pays x held paid h

-- ---- names

chosen : (b : Bool) (o p : Option Entry) (paid : ℕ) → value_rows o ≤ paid → value_rows p ≤ paid → value_rows (if b then o else p) ≤ paid
chosen true o p paid h k = h
chosen false o p paid h k = k

bound_paid : (s : State) (x : Text) (o : Option Text) (v : Entry) (paid : ℕ) → IsPaid paid s → entry_rows v ≤ paid → IsPaid paid (with_value s x o v)
bound_paid s x None v paid h le m = chosen (same_text x m) (Some v) (s.value m) paid le (h m)
bound_paid s x (Some n) (cell c) paid h le m = chosen (same_text x m) (Some (cell c)) (s.value m) paid le (h m)
bound_paid s x (Some n) (table t) paid h le m = chosen (same_text x m) (s.value n) (s.value m) paid (h n) (h m)

without_paid : (s : State) (x : Text) (paid : ℕ) → IsPaid paid s → IsPaid paid (without_name s x)
without_paid s x paid h m = chosen (same_text x m) None (s.value m) paid (omega arith) (h m)

set_paid : (s : State) (on : Option Text) (t : Table) (paid : ℕ) → IsPaid paid s → held_rows t ≤ paid → IsPaid paid (with_set s on t)
set_paid s None t paid h le m = h m
set_paid s (Some n) t paid h le m = chosen (same_text n m || s.paired n m) (Some (table t)) (s.value m) paid le (h m)

-- a state that was paid for by less
more_paid : (s : State) (paid later : ℕ) → IsPaid paid s → paid ≤ later → IsPaid later s
more_paid s paid later h le n = omega (arith, h n)

-- ---- statements

moved : (a : Answer) (p q : ℕ) → p ≡ q → LeavesPaid p a → LeavesPaid q a
moved a p q e h = subst (λ n. LeavesPaid n a) e h

after_first : {A : Type 0} (paid : ℕ) (r : Reads A) (go : A → Reading Answer) → ((a : A) (later : ℕ) → paid ≤ later → PaidIn later (go a)) → PaidIn paid (then_answer r go)
after_first {A} paid r go h = by r.answer
  where
    by : (o : Result A FaultValue) → PaidIn paid (after r.spent (goes_on (λ fault. refused fault false) o go))
    by (Ok a) = moved (go a).answer (paid + r.spent.charge + (go a).spent.charge) _ (omega arith) (h a (paid + r.spent.charge) (omega arith))
    by (Err fault) = tt

with_first : (P : Entry → Type 0) (paid : ℕ) (r : Reads Entry) (go : Entry → Reading Answer) → PaysFor paid r → IfOk r.answer P → ((v : Entry) (later : ℕ) → P v → entry_rows v ≤ later → paid ≤ later → PaidIn later (go v)) → PaidIn paid (then_answer r go)
with_first P paid r go pays valid h = by r.answer pays valid
  where
    by : (o : Result Entry FaultValue) → IfOk o (Within (paid + r.spent.charge)) → IfOk o P → PaidIn paid (after r.spent (goes_on (λ fault. refused fault false) o go))
    by (Ok v) k l = moved (go v).answer (paid + r.spent.charge + (go v).spent.charge) _ (omega arith) (h v (paid + r.spent.charge) l k (omega arith))
    by (Err fault) k l = tt

-- a setting, and a removal, which costs nothing
module _ (s : State) (on : Option Text) (base paid : ℕ) (h : IsPaid paid s) (le : base ≤ paid) where
  set_pays : (charge : Table → ℕ) (r : Result Table FaultValue) → IfOk r (λ left. held_rows left ≤ base + charge left) → LeavesPaid (paid + (spent_for charge r).charge) (set_answer s on r)
  set_pays charge (Ok left) k = set_paid s on left (paid + charge left) (more_paid s paid (paid + charge left) h (omega arith)) (omega arith)
  set_pays charge (Err fault) k = tt

  removal_pays : (r : Result Table FaultValue) → IfOk r (λ left. held_rows left ≤ base) → LeavesPaid (paid + 0) (set_answer s on r)
  removal_pays (Ok left) k = set_paid s on left (paid + 0) (more_paid s paid (paid + 0) h (omega arith)) (omega arith)
  removal_pays (Err fault) k = tt

any_value : (r : Result Entry FaultValue) → IfOk r (λ v. Unit {0})
any_value (Ok v) = tt
any_value (Err fault) = tt

-- a statement that is done pays for what names stand for
pub statement_pays : (files : Files) (s : State) (f : Action) → IsValidState s → IsHeldAction f → PaysForTables files s f
statement_pays files s tree.import_pandas valid held paid h = more_paid s paid (paid + 0) h (omega arith)
statement_pays files s (tree.bind x e) valid held paid h =
    with_first IsValidEntry paid (value_of files s e) _ (value_pays files s valid e held paid h) (value_of_keeps files s valid e held)
    (λ v later k le more. bound_paid s x (named_by e) v (later + 0) (more_paid s paid (later + 0) h (omega arith)) (omega arith))
statement_pays files s (tree.put x step a) valid held paid h =
    after_first paid (given_of files s a) _
    (λ g later more. with_first IsValidEntry later (value_of files s x) _ (value_pays files s valid x held.0 later (more_paid s paid later h more)) (value_of_keeps files s valid x held.0)
    (λ v on k le further. after_first on (target_of files s step) _
    (λ target last lesser. set_pays s (named_by x) (entry_rows v) last (more_paid s paid last h (omega arith)) (omega arith) (setting_charge v target.way target.first target.second) (assigned v target g)
    (assign_within v target.way target.first target.second g))))
statement_pays files s (tree.drop_name n) valid held paid h =
    after_first paid (at_once (value_of_name n (s.value n))) _ (λ v later more. without_paid s n (later + 0) (more_paid s paid (later + 0) h (omega arith)))
statement_pays files s (tree.drop_column n x) valid held paid h =
    with_first (λ v. Unit {0}) paid (at_once (value_of_name n (s.value n))) _ (name_pays n (s.value n) paid (h n)) (any_value (value_of_name n (s.value n)))
    (λ v later k le more. after_first later (value_of files s x) _
    (λ key last further. removal_pays s (Some n) (entry_rows v) last (more_paid s paid last h (omega arith)) (omega arith) (removal_result v key) (removal_within v key)))
statement_pays files s (tree.print x end) valid held paid h = after_first paid (value_of files s x) _ (λ v later more. more_paid s paid (later + 0) h (omega arith))

-- ---- runs

-- the most rows that a name's value has
pub most_within : (s : State) (most : ℕ) → ((n : Text) → value_rows (s.value n) ≤ most) → most_rows s ≤ most
most_within s most h = by s.names
  where
    by : (ns : List Text) → most_rows_of s.value ns ≤ most
    by [] = omega arith
    by (n ∷ ns) = omega (arith, h n, by ns)

test_le : (a most : ℕ) → nat_le a most ≡ true → a ≤ most
test_le = grind (arith, nat_tests)

first_true : (a b c : Bool) → a && b && c ≡ true → a ≡ true
first_true = grind arith

limited_count : (rows columns : ℕ) → within_limits rows columns ≡ true → rows ≤ 2 ^ 26
limited_count rows columns e = test_le rows (2 ^ 26) (first_true _ _ _ e)

-- no valid table has more rows than the limits allow
pub limited_rows : (o : Option Entry) → IfSome o IsValidEntry → value_rows o ≤ 2 ^ 26
limited_rows None h = omega arith
limited_rows (Some (cell c)) h = omega arith
limited_rows (Some (table t)) h =
    let rows = limited_count (length t.labels) (length t.columns) h.limited in
    omega (arith, under_rows t.columns (length t.labels))

-- the tables of a run's steps were paid for, and are within the limits
record ArePaid (before : ℕ) (steps : List RunStep) : Type 0 where
  paid : least_peak steps ≤ before + (spent_of steps).charge
  limited : least_peak steps ≤ 2 ^ 26

fault_paid : (keep_going : Bool) (paid : ℕ) (rest : RunResult) → ArePaid paid rest.steps → ArePaid paid (after_fault keep_going rest).steps
fault_paid false paid rest h = record { paid = omega arith; limited = omega arith }
fault_paid true paid rest h = h

answer_paid : (keep_going : Bool) (s : State) (spent : Spent) (a : Answer) (line : ℕ) (go : State → RunResult) (paid : ℕ) → IsPaid paid s → IsValidState s → LeavesPaid (paid + spent.charge) a → LeavesValid a
    → ((paid : ℕ) (s : State) → IsPaid paid s → IsValidState s → ArePaid paid (go s).steps) → ArePaid paid (after_answer keep_going s spent a line go).steps
answer_paid keep_going _ spent (done s printed mark) line go paid _ _ h valid rest =
    let now = most_within s (paid + spent.charge) h in
    let small = most_within s (2 ^ 26) (λ n. limited_rows (s.value n) (valid n)) in
    let later = rest (paid + spent.charge) s h valid in
    record { paid = omega arith; limited = omega arith }
answer_paid keep_going s spent (refused fault mark) line go paid before was_valid h valid rest =
    let later = fault_paid keep_going paid (go s) (rest paid s before was_valid) in
    record { paid = omega (arith, later.paid); limited = omega (arith, later.limited) }

statements_paid : (keep_going : Bool) (files : Files) (ss : List Statement) (s : State) (paid : ℕ) → IsValidState s → IsPaid paid s → AreHeld ss → ArePaid paid (statements_result keep_going files s ss).steps
statements_paid keep_going files [] s paid valid h held = record { paid = omega arith; limited = omega arith }
statements_paid keep_going files (st ∷ rest) s paid valid h held =
    let here = All-head (λ (st : Statement). IsHeldAction st.action) st rest held in
    let later = All-tail (λ (st : Statement). IsHeldAction st.action) st rest held in
    let r = statement_result files s st.action in
    answer_paid keep_going s r.spent r.answer st.line (λ s'. statements_result keep_going files s' rest) paid h valid (statement_pays files s st.action valid here paid h) (statement_keeps files s st.action valid here)
    (λ paid' s' h' valid'. statements_paid keep_going files rest s' paid' valid' h' later)

paid_peak : (steps : List RunStep) → ArePaid 0 steps → IsPeak steps (told_charge (spent_of steps).charge)
paid_peak steps h = record { least = omega (arith, h.paid, h.limited); most = omega arith }

line_peak : (line : Text) (ending : Ending) → HasPeak (with_line line ending)
line_peak line ending = record { least = omega arith; most = omega arith }

-- each run of a script has a peak
pub script_has_peak : (keep_going : Bool) (files : Files) (bytes : List ℕ) (result : RunResult) → IsScriptResult keep_going files bytes result → HasPeak result
script_has_peak keep_going files bytes result (inl (long, is)) = subst HasPeak (sym is) (line_peak too_large_line syntax)
script_has_peak keep_going files bytes result (inr (inl (within, (ss, script, is)))) =
    subst HasPeak (sym is) (paid_peak (statements_result keep_going files no_names ss).steps (statements_paid keep_going files ss no_names 0 (λ n. tt) (λ n. omega arith) (script_held bytes ss script)))
script_has_peak keep_going files bytes result (inr (inr (within, (line, wrong, is)))) = subst HasPeak (sym is) (line_peak (syntax_line line) syntax)

pub file_has_peak : (keep_going : Bool) (files : Files) (path : Text) (bytes : Option (List ℕ)) (result : RunResult) → IsFileResult keep_going files path bytes result → HasPeak result
file_has_peak keep_going files path None result is = subst HasPeak (sym is) (line_peak (not_found_line path) usage)
file_has_peak keep_going files path (Some bytes) result is = script_has_peak keep_going files bytes result is

-- steps one after the other
pub least-append : (a b : List RunStep) → least_peak (a ++ b) ≡ max (least_peak a) (least_peak b)
least-append [] b = omega arith
least-append (step ∷ a) b = omega (arith, least-append a b)

-- the fetch of the script before them
pub fetched_peak : (steps : List RunStep) (peak : ℕ) → IsPeak steps peak → IsPeak (fetched ∷ steps) peak
fetched_peak steps peak h = record { least = omega (arith, h.least); most = omega (arith, h.most) }

-- of steps that cost as much and leave as many rows
module _ (f : RunStep → RunStep) (rows : (step : RunStep) → (f step).rows ≡ step.rows) (charge : (step : RunStep) → (f step).spent.charge ≡ step.spent.charge) where
  same_least : (steps : List RunStep) → least_peak (map f steps) ≡ least_peak steps
  same_least [] = refl
  same_least (step ∷ steps) = omega (arith, rows step, same_least steps)

  same_charge : (steps : List RunStep) → (spent_of (map f steps)).charge ≡ (spent_of steps).charge
  same_charge [] = refl
  same_charge (step ∷ steps) = omega (arith, charge step, same_charge steps)

  pub same_peak : (steps : List RunStep) (peak : ℕ) → IsPeak steps peak → IsPeak (map f steps) peak
  same_peak steps peak h = record { least = omega (arith, h.least, same_least steps); most = omega (arith, h.most, same_charge steps) }
