-- Lists whose parts are evaluated one after the other.
use Rattle.{
  script_state.{proofs.{cells.Common.{arith, ◌≡◌, ℕ, zero, suc, ◌+◌, ◌≤◌, List, [], ◌∷◌, Some, drop, length, slice_get, None, ◌∙◌, refl, sym, ap, Result, Ok, Err, IsErrAnd, Contents, FaultValue}, Rides.{serves_self, serves_both, pays_same, pays_by, pays_to, ahead, joined, loop_next, loop_fault, loop_end}, States.{state_kept}, Worlds.{keeps_both, keeps_same, blocks_self, blocks_both}, laws.SpentLaws.{sum-nothing}}, specs.{script.{Spent.{Spent}, Reading.{Files, Reads, gives}, State.{State}}, Evaluates.{Moment, meter_of, Evaluates}, Reads.{Pays, files_in}, Work.{names_in, world_of, state_in}, declared.{file_names.FileName.{FileName}, fault.EvalFault.{EvalFault}, work.Work.{Work}}}},
  std.proofs.Common.{drop_of_length-le},
  outside_io.specs.Files.{Serves},
  frame_store.specs.{World.{World, Keeps}, Objects.{KeepBlocks}},
}

-- how the parts of a list are read, one after the other
pub record ReadsParts {X G L : Type 0} (read : Files → State → List X → Reads L) (part : Files → State → X → Reads G) (cons : X → G → L → L) (end : L) : Type 0 where
  pub none : (files : Files) (s : State) → read files s [] ≡ gives end
  pub more : (files : Files) (s : State) (x : X) (xs : List X) → read files s (x ∷ xs) ≡ ahead (cons x) (part files s x) (read files s xs)

-- the parts so far are joined to what the rest gives
pub record Gathers {X L : Type 0} (paths : List FileName) (join : L → L → L) (read : Files → State → List X → Reads L) (xs : List X) (i : ℕ) (so_far : L) (old new : Moment) : Type 0 where
  pub names : names_in new.work ≡ names_in old.work
  pub kept : Keeps (world_of old.work) (world_of new.work)
  pub blocks : KeepBlocks None old.work.store new.work.store
  pub serves : Serves old.files new.files
  pub seen : (held : Contents) → Pays held (meter_of old) (meter_of new) (read (files_in paths held) (state_in old.work) xs) (joined join so_far (read (files_in paths held) (state_in old.work) (drop i xs)))

-- a list from a place on is the item there and the rest
drop_item : {X : Type 0} (xs : List X) (i : ℕ) (x : X) → slice_get xs i ≡ Some x → drop i xs ≡ x ∷ drop (i + 1) xs
drop_item [] i x e = Prim.cc
drop_item (y ∷ xs) zero x e = search
drop_item (y ∷ xs) (suc i) x e = grind (arith, drop_item xs)

-- nothing is joined to what is read
joined_at : {L : Type 0} (join : L → L → L) (so_far : L) → ((l : L) → join so_far l ≡ l) → (n : Spent) (r : Result L FaultValue) → joined join so_far (record { spent = n; answer = r }) ≡ record { spent = n; answer = r }
joined_at join so_far law n (Ok l) i = record { spent = sum-nothing n i; answer = Ok (law l i) }
joined_at join so_far law n (Err fault) i = record { spent = sum-nothing n i; answer = Err fault }

-- before the first part
pub gathers_first : {X L : Type 0} {join : L → L → L} {so_far : L} {read : Files → State → List X → Reads L} {paths : List FileName} {xs : List X} {at : Moment} → ((l : L) → join so_far l ≡ l)
    → Gathers paths join read xs 0 so_far at at
gathers_first {join = join} {so_far} {read} {paths} {xs} {at} law =
    record {
      names = refl;
      kept = keeps_same _ _ refl;
      blocks = blocks_self at.work.store;
      serves = serves_self _;
      seen = λ held. let whole = read (files_in paths held) (state_in at.work) xs in pays_same refl (sym (joined_at join so_far law whole.spent whole.answer));
    }

module _ {X G L : Type 0} {read : Files → State → List X → Reads L} {part : Files → State → X → Reads G} {cons : X → G → L → L} {end : L} (reads : ReadsParts read part cons end) {paths : List FileName} {join : L → L → L} {xs : List X} {i : ℕ} where
  -- all parts are there
  pub gathered : {V : Type 0} {known : Work → V → Type 0} {view : World → V → L} {old new : Moment} {v : V} → Gathers paths join read xs i (view (world_of new.work) v) old new → length xs ≤ i → join (view (world_of new.work) v) end ≡ view (world_of new.work) v → known new.work v
      → Evaluates paths known view (λ files s. read files s xs) old new (Ok v)
  gathered {view = view} {old} {new} {v} inv within law is =
      let rest_is : (files : Files) → read files (state_in old.work) (drop i xs) ≡ gives end = λ files. ap (read files (state_in old.work)) (drop_of_length-le xs within) ∙ reads.none files (state_in old.work) in
      record { names = inv.names; kept = inv.kept; blocks = inv.blocks; serves = inv.serves; reads = λ held. loop_end join join (read (files_in paths held) (state_in old.work) (drop i xs)) end (view (world_of new.work) v) (inv.seen held) (rest_is (files_in paths held)) law; found = is }

  module _ {so_far : L} {old mid : Moment} (inv : Gathers paths join read xs i so_far old mid) {x : X} (at : slice_get xs i ≡ Some x) where
    before : (files : Files) → part files (state_in old.work) x ≡ part files (state_in mid.work) x
    before = grind (arith, state_kept)

    more_is : (files : Files) → read files (state_in old.work) (drop i xs) ≡ ahead (cons x) (part files (state_in old.work) x) (read files (state_in old.work) (drop (i + 1) xs))
    more_is files = ap (read files (state_in old.work)) (drop_item xs i x at) ∙ reads.more files (state_in old.work) x (drop (i + 1) xs)

    seen_as : (held : Contents) → let files = files_in paths held in let s = state_in old.work in Pays held (meter_of old) (meter_of mid) (read files s xs) (joined join so_far (ahead (cons x) (part files s x) (read files s (drop (i + 1) xs))))
    seen_as held = pays_to (inv.seen held) (ap (λ r. joined join so_far r) (more_is (files_in paths held)))

    module _ {V : Type 0} {known : Work → V → Type 0} {view : World → V → G} {new : Moment} where
      -- one part more
      pub gathers_next : (so_far' : L) {v : V} → Evaluates paths known view (λ files s. part files s x) mid new (Ok v) → ((l : L) → join so_far (cons x (view (world_of new.work) v) l) ≡ join so_far' l) → Gathers paths join read xs (i + 1) so_far' old new
      gathers_next _ {v} y law =
          record {
            names = y.names ∙ inv.names;
            kept = search keeps_both;
            blocks = blocks_both old.work mid.work new.work inv.kept inv.blocks y.blocks;
            serves = serves_both inv.serves y.serves;
            seen = λ held. loop_next (cons x) join inv.serves _ _ _ (seen_as held) (view (world_of new.work) v) _ (pays_by (before _) (y.reads held)) law;
          }

      -- a part halts
      pub gathers_none : {V' : Type 0} {known' : Work → V' → Type 0} {view' : World → V' → L} {f : EvalFault} {r : Result V' EvalFault} → Evaluates paths known view (λ files s. part files s x) mid new (Err f) → IsErrAnd r (λ e. e ≡ f)
          → Evaluates paths known' view' (λ files s. read files s xs) old new r
      gathers_none {r = Ok v} y same = absurd same
      gathers_none {f} {r = Err e} y same =
          record {
            names = y.names ∙ inv.names;
            kept = search keeps_both;
            blocks = blocks_both old.work mid.work new.work inv.kept inv.blocks y.blocks;
            serves = serves_both inv.serves y.serves;
            reads = λ held. rw same (loop_fault _ _ _ (cons x) join inv.serves _ _ so_far (seen_as held).goes f (rw (before (files_in paths held)) (y.reads held)));
            found = tt;
          }
