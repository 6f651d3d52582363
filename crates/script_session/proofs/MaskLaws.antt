-- What is evaluated in the mask of a query.
use Rattle.{
  script_state.{proofs.{cells.Common.{◌≡◌, ℕ, ◌≤◌, List, [], ◌∷◌, true, false, Option, Some, None, refl, ap, Result, Ok, Err, IfOk, IfErr, Text, same_text, FaultValue}, Evaluations.{evaluates_by, names_value, stays}, Worlds.{of_value, seen_kept, known_kept, keeps_same, blocks_self}, Rides.{serves_self, goes_same, spends_none}}, specs.{cells.Fault.{bad_query}, tables.Value.{Entry}, language.{Depth.{depth}, Grammar.{most_depth}}, script.{Reading.{Files, Reads, at_once}, State.{State}, Expression.{value_of_name, mask_for, mask_in}}, Bindings.{value_at}, Evaluates.{Moment, moment_of, IsValue, Evaluates}, Faults.{IsNoName}, Work.{names_in, world_of, state_in}, declared.{file_names.FileName.{FileName}, fault.EvalFault.{EvalFault, TheVariants.{Refused, NoMemory}}, work.Work.{Work}}}},
  cell_core.specs.declared.code.Code.{TheVariants.{BadQuery}},
  outside_io.specs.Files.{FilesValue},
  meaning_query.{specs.Reading.{query_expr}, proofs.Law.{reads_query}},
  script_tree.specs.{View.{expr_of}, declared.tree.Expr.{Expr}},
  frame_store.specs.{World.{World, Keeps, IsKnownValue, entry_in}, declared.arguments.Value.{Value}},
  script_session.{specs.Masks.{frame_in, masked, IsKnownFrame, IsAnswer}, proofs.Gathering.{Gathers}},
}
use Rattle.script_state.specs.language.Tree as tree

-- how much deeper than its expression an evaluation may go: a mask has a depth of at most 32, and no query in it
abbrev pub room : Option Value → ℕ
room None = 264
room (Some v) = 0

-- a value is known
pub answer_known : (frame : Option Value) (name : Option Text) (w : Work) (v : Value) → IsAnswer frame name w v → IsKnownValue (world_of w) v
answer_known None name w v h = h.known
answer_known (Some f) name w v h = h

-- what a name or a form answers, in a mask or not
answered : (frame : Option Value) (name : Option Text) (w : Work) (v : Value) → IsValue name w v → IsAnswer frame name w v
answered None name w v h = h
answered (Some f) name w v h = h.known

pub told : {paths : List FileName} (frame : Option Value) {name : Option Text} {A : Type 0} {view : World → Value → A} {meant : Files → State → Reads A} {old new : Moment} {r : Result Value EvalFault} → Evaluates paths (IsValue name) view meant old new r
    → Evaluates paths (IsAnswer frame name) view meant old new r
told frame {name} {new = new} {r = Ok v} x = record { names = x.names; kept = x.kept; blocks = x.blocks; serves = x.serves; reads = x.reads; found = answered frame name new.work v x.found }
told frame {r = Err f} x = record { names = x.names; kept = x.kept; blocks = x.blocks; serves = x.serves; reads = x.reads; found = tt }

-- the frame stays as it was
module _ (w u : Work) (kept : Keeps (world_of w) (world_of u)) where
  frame_kept : (frame : Option Value) → IsKnownFrame (world_of w) frame → IsKnownFrame (world_of u) frame
  frame_kept None h = tt
  frame_kept (Some f) h = known_kept (world_of w) (world_of u) w.settled u.settled kept of_value h

  frame_seen : (frame : Option Value) → IsKnownFrame (world_of w) frame → frame_in (world_of u) frame ≡ frame_in (world_of w) frame
  frame_seen None h = refl
  frame_seen (Some f) h = ap Some (seen_kept (world_of w) (world_of u) w.settled u.settled kept of_value h)

-- after an evaluation
module _ {paths : List FileName} {V A : Type 0} {known : Work → V → Type 0} {view : World → V → A} {meant : Files → State → Reads A} {old new : Moment} {r : Result V EvalFault} (x : Evaluates paths known view meant old new r) (frame : Option Value) (h : IsKnownFrame (world_of old.work) frame) where
  pub frame_known : IsKnownFrame (world_of new.work) frame
  frame_known = frame_kept old.work new.work x.kept frame h

  pub frame_after : frame_in (world_of new.work) frame ≡ frame_in (world_of old.work) frame
  frame_after = frame_seen old.work new.work x.kept frame h

-- between the parts of a list
module _ {X L : Type 0} {paths : List FileName} {join : L → L → L} {read : Files → State → List X → Reads L} {xs : List X} {i : ℕ} {so_far : L} {old new : Moment} (inv : Gathers paths join read xs i so_far old new) (frame : Option Value) (h : IsKnownFrame (world_of old.work) frame) where
  pub frame_amid : IsKnownFrame (world_of new.work) frame
  frame_amid = frame_kept old.work new.work inv.kept frame h

  pub frame_gathered : frame_in (world_of new.work) frame ≡ frame_in (world_of old.work) frame
  frame_gathered = frame_seen old.work new.work inv.kept frame h

-- ---- names in a mask

-- the empty one is the frame's
pub frame_named : {paths : List FileName} (w : Work) {s : FilesValue} (v : Value) (n : Text) → same_text n [] ≡ true → IsKnownValue (world_of w) v
    → Evaluates paths (IsAnswer (Some v) (Some n)) entry_in (λ files t. at_once (value_of_name n ((masked (Some (entry_in (world_of w) v)) t).value n))) (moment_of w s) (moment_of w s) (Ok v)
frame_named w v [] is h = stays v h
frame_named w v (b ∷ bs) is h = Prim.cc

-- each other name stands for what it stands for
other_name : (e : Entry) (s : State) (n : Text) → same_text n [] ≡ false → (masked (Some e) s).value n ≡ s.value n
other_name e s [] is = Prim.cc
other_name e s (b ∷ bs) is = refl

pub others_named : {paths : List FileName} (w : Work) {s : FilesValue} (v : Value) (n : Text) (r : Result Value EvalFault) → same_text n [] ≡ false → IfOk r (IsValue (Some n) w) → IfErr r (λ f. IsNoName f n (value_at (names_in w) n))
    → Evaluates paths (IsAnswer (Some v) (Some n)) entry_in (λ files t. at_once (value_of_name n ((masked (Some (entry_in (world_of w) v)) t).value n))) (moment_of w s) (moment_of w s) r
others_named w v n r is found fault =
    told (Some v) (evaluates_by (names_value w n r found fault) (λ files. ap (λ o. at_once (value_of_name n o)) (other_name (entry_in (world_of w) v) (state_in w) n is)))

-- ---- masks

-- a text that is no query, and want of memory
pub refuses_query : {paths : List FileName} {V A : Type 0} {known : Work → V → Type 0} {view : World → V → A} {meant : Files → State → Reads A} {at : Moment} → ((files : Files) → meant files (state_in at.work) ≡ at_once (Err bad_query))
    → Evaluates paths known view meant at at (Err (Refused BadQuery))
refuses_query {at = at} is = record { names = refl; kept = keeps_same _ _ refl; blocks = blocks_self at.work.store; serves = serves_self _; reads = λ held. (goes_same (is _), tt, λ more. refl); found = tt }

pub runs_short : {paths : List FileName} {V A : Type 0} {known : Work → V → Type 0} {view : World → V → A} {meant : Files → State → Reads A} {at : Moment} → Evaluates paths known view meant at at (Err NoMemory)
runs_short {at = at} = record { names = refl; kept = keeps_same _ _ refl; blocks = blocks_self at.work.store; serves = serves_self _; reads = λ held. spends_none; found = tt }

-- what was found is the text of the query
mask_is : (o : Result Text FaultValue) (t : Text) (m : Option tree.Expr) → Ok t ≡ o → query_expr t ≡ m → mask_for o ≡ mask_in m
mask_is o t m is e = rw (← is, e) refl

-- the mask is as deep as the form of a script may be
pub mask_found : {paths : List FileName} (w : Work) {s : FilesValue} (o : Result Text FaultValue) (t : Text) (x : Expr) → Ok t ≡ o → query_expr t ≡ Some (expr_of x)
    → Evaluates paths (λ w x. depth (expr_of x) ≤ most_depth) (λ w x. expr_of x) (λ files s. at_once (mask_for o)) (moment_of w s) (moment_of w s) (Ok x)
mask_found w o t x is e = evaluates_by (stays x ((reads_query t).0 (expr_of x) e).5) (λ files. ap at_once (mask_is o t (Some (expr_of x)) is e))

pub mask_refused : (o : Result Text FaultValue) (t : Text) → Ok t ≡ o → query_expr t ≡ None → mask_for o ≡ Err bad_query
mask_refused o t is e = mask_is o t None is e
