-- What a change of the pool leaves of the objects, and what a change of one object makes of a store.
use Rattle.{meaning_tables.{proofs.cells.Common.{◌≡◌, ◌≢◌, ◌∙◌, refl, sym, ap, subst, arith, ℕ, suc, ◌+◌, ◌<◌, ◌≤◌, Bool, true, false, List, [], ◌∷◌, map, All, Option, Some, None, IsSome, option_map, sum_by, cases_eq, inl, inr, same_Some, nat_eq, nat_tests, if◌then◌else◌, slice_set, cond, is_some}, specs.{Valid.{IsWhole}}}, std.specs.{FinMap.{get, get-empty}, Ordering.{nat_cmp}}, block_pool.{specs.{Pools.{PoolValue, ViewValue, empty_pool, live_count}, Placed.{slot, Puts}}, proofs.Slots.{sum_put, size_within, puts_set}}, block_manager.{proofs.OtherLaws.{other_columns, other_stands}, specs.Managed.{Keeps, times}}, frame_store.specs.{Parts.{table_with}, Stores.{ObjectValue, IsKeptOn, IsStore, Trades, table_over, tables_over, views_of, stands_in}, Objects.{with_object}}}

-- a live view counts once
one_at_most : (b : Bool) → cond {A = ℕ} b 1 0 ≤ 1
one_at_most true = omega arith
one_at_most false = omega arith

pub counts_once : (pool : PoolValue) (id : ℕ) → live_count pool id ≤ 1
counts_once pool id = one_at_most (is_some (get pool.views id))

pub same_items : {X Y : Type 0} (f g : X → Y) (xs : List X) → All (λ x. g x ≡ f x) xs → map g xs ≡ map f xs
same_items f g [] same = refl
same_items f g (x ∷ xs) same = λ j. same 0 x (omega arith) j ∷ same_items f g xs (λ k d lt. same (suc k) d (omega arith)) j

-- an object that is apart from the views that gave way
module _ (old new : PoolValue) (own : List ℕ) (kept : Keeps old new own) (o : ObjectValue) (apart : (view : ℕ) → times view o.manager.views + times view own ≤ live_count old view) where
  pub none_own : (view : ℕ) → 0 < times view o.manager.views → times view own ≡ 0
  none_own view some = omega (arith, some, apart view, counts_once old view)

  pub same_views : (view : ℕ) → 0 < times view o.manager.views → get new.views view ≡ get old.views view
  same_views view some = kept view (none_own view some) (omega (arith, some, apart view, counts_once old view))

  pub table_stays : IsKeptOn old o → table_over new o ≡ table_over old o
  table_stays k = ap (table_with o.shape o.axis o.headings) (other_columns old new own kept o.manager k.stands none_own)

  pub object_stays : IsKeptOn old o → IsKeptOn new o
  object_stays k = record {
    stands = other_stands old new own kept o.manager k.stands none_own;
    whole = subst IsWhole (sym (table_stays k)) k.whole;
  }

-- what two slots have is not more than all have together
module _ {X : Type 0} (size : Option X → ℕ) (none : size None ≡ 0) where
  pub two_within : (xs : List (Option X)) (i j : ℕ) → i ≢ j → size (slot xs i) + size (slot xs j) ≤ sum_by size xs
  two_within xs i j ne = at (slot xs i) refl
    where
      at : (o : Option X) → slot xs i ≡ o → size (slot xs i) + size (slot xs j) ≤ sum_by size xs
      at None is = omega (arith, ap size is, none, size_within size none xs j)
      at (Some x) is =
          let puts = puts_set xs i None (subst IsSome (sym is) refl) in
          omega (arith, sum_put size none xs (slice_set xs i None) i None puts, none, size_within size none (slice_set xs i None) j, ap size (puts.others j (λ z. ne (sym z))))

-- the objects where only views that none of them has gave way to others
module _ (old new : PoolValue) (xs : List (Option ObjectValue)) (store : IsStore xs old) (trades : Trades old new [] []) where
  counted_still : (view : ℕ) → sum_by (stands_in view) xs ≡ live_count new view
  counted_still view = omega (arith, store.counted view, trades.views view)

  pub apart_from_none : (q : ℕ) (x : ObjectValue) → slot xs q ≡ Some x → (view : ℕ) → times view x.manager.views + times view [] ≤ live_count old view
  apart_from_none q x is view = omega (arith, ap (stands_in view) is, size_within (stands_in view) refl xs q, store.counted view)

  pub store_stays : IsStore xs new
  store_stays = record {
    kept = λ q x is.
        object_stays old new [] trades.kept x (apart_from_none q x is) (store.kept q x is);
    counted = counted_still;
  }

  pub tables_stay : tables_over new xs ≡ tables_over old xs
  tables_stay = λ j q. at q (slot xs q) refl j
    where
      at : (q : ℕ) (o : Option ObjectValue) → slot xs q ≡ o → option_map (table_over new) (slot xs q) ≡ option_map (table_over old) (slot xs q)
      at q None is = ap (option_map (table_over new)) is ∙ sym (ap (option_map (table_over old)) is)
      at q (Some x) is =
          ap (option_map (table_over new)) is
          ∙ ap Some (table_stays old new [] trades.kept x (apart_from_none q x is) (store.kept q x is))
          ∙ sym (ap (option_map (table_over old)) is)

-- one object more, less or another
module _ (old new : PoolValue) (xs ys : List (Option ObjectValue)) (key : ℕ) (o : Option ObjectValue) (store : IsStore xs old) (puts : Puts xs ys key o) (trades : Trades old new (views_of (slot xs key)) (views_of o)) where
  counted_then : (view : ℕ) → sum_by (stands_in view) ys ≡ live_count new view
  counted_then view = omega (arith, store.counted view, trades.views view, sum_put (stands_in view) refl xs ys key o puts)

  pub apart : (q : ℕ) (x : ObjectValue) → q ≢ key → slot xs q ≡ Some x → (view : ℕ) → times view x.manager.views + times view (views_of (slot xs key)) ≤ live_count old view
  apart q x ne is view = omega (arith, ap (stands_in view) is, two_within (stands_in view) refl xs q key ne, store.counted view)

  pub store_put : ((x : ObjectValue) → o ≡ Some x → IsKeptOn new x) → IsStore ys new
  store_put here = record {
    kept = λ q x is. elim (cases_eq q key) [
      | inl e ↦ here x (sym puts.changed ∙ ap (slot ys) (sym e) ∙ is)
      | inr ne ↦
          let was : slot xs q ≡ Some x = sym (puts.others q ne) ∙ is in
          object_stays old new (views_of (slot xs key)) trades.kept x (apart q x ne was) (store.kept q x was)
    ];
    counted = counted_then;
  }

  pub tables_put : tables_over new ys ≡ with_object (tables_over old xs) key (option_map (table_over new) o)
  tables_put = λ j q. at q j
    where
      other : (q : ℕ) → q ≢ key → (w : Option ObjectValue) → slot xs q ≡ w → option_map (table_over new) (slot ys q) ≡ option_map (table_over old) (slot xs q)
      other q ne None is = ap (option_map (table_over new)) (puts.others q ne ∙ is) ∙ sym (ap (option_map (table_over old)) is)
      other q ne (Some x) is =
          ap (option_map (table_over new)) (puts.others q ne ∙ is)
          ∙ ap Some (table_stays old new (views_of (slot xs key)) trades.kept x (apart q x ne is) (store.kept q x is))
          ∙ sym (ap (option_map (table_over old)) is)

      at : (q : ℕ) → option_map (table_over new) (slot ys q) ≡ (if nat_eq key q then option_map (table_over new) o else option_map (table_over old) (slot xs q))
      at q = elim (cases_eq q key) [
        | inl e ↦ (let here = ap (option_map (table_over new)) (ap (slot ys) e ∙ puts.changed) in grind (arith, nat_tests))
        | inr ne ↦ (let there = other q ne (slot xs q) refl in grind (arith, nat_tests))
      ]

-- one object ended, and another one has become this one
module _ (old new : PoolValue) (xs ys zs : List (Option ObjectValue)) (i j : ℕ) (o : ObjectValue) (own : List ℕ) (different : j ≢ i) (store : IsStore xs old) (gone : Puts xs ys i None) (puts : Puts ys zs j (Some o))
    (few : (view : ℕ) → times view own ≤ stands_in view (slot xs i) + stands_in view (slot xs j))
    (trades : (view : ℕ) → live_count old view + times view o.manager.views ≡ live_count new view + (stands_in view (slot xs i) + stands_in view (slot xs j)))
    (kept : Keeps old new own) (here : IsKeptOn new o) where
  still : (view : ℕ) → stands_in view (slot ys j) ≡ stands_in view (slot xs j)
  still view = ap (stands_in view) (gone.others j different)

  counted_both : (view : ℕ) → sum_by (stands_in view) zs ≡ live_count new view
  counted_both view = omega (arith, store.counted view, trades view, still view, sum_put (stands_in view) refl xs ys i None gone, sum_put (stands_in view) refl ys zs j (Some o) puts)

  pub apart_from_both : (q : ℕ) (x : ObjectValue) → q ≢ i → q ≢ j → slot xs q ≡ Some x → (view : ℕ) → times view x.manager.views + times view own ≤ live_count old view
  apart_from_both q x ni nj is view =
      omega (
        arith,
        ap (stands_in view) (gone.others q ni ∙ is),
        two_within (stands_in view) refl ys q j nj,
        still view,
        store.counted view,
        few view,
        sum_put (stands_in view) refl xs ys i None gone,
      )

  was : (q : ℕ) → q ≢ i → q ≢ j → slot zs q ≡ slot xs q
  was q ni nj = puts.others q nj ∙ gone.others q ni

  ended : slot zs i ≡ None
  ended = puts.others i (λ e. different (sym e)) ∙ gone.changed

  pub store_both : IsStore zs new
  store_both = record {
    kept = λ q x is. elim (cases_eq q j) [
      | inl e ↦ (let same : Some o ≡ Some x = sym puts.changed ∙ ap (slot zs) (sym e) ∙ is in subst (IsKeptOn new) (same_Some o x same) here)
      | inr nj ↦ elim (cases_eq q i) [
        | inl e ↦ (let none : None ≡ Some x = sym ended ∙ ap (slot zs) (sym e) ∙ is in cc)
        | inr ni ↦
            let there : slot xs q ≡ Some x = sym (was q ni nj) ∙ is in
            object_stays old new own kept x (apart_from_both q x ni nj there) (store.kept q x there)
      ]
    ];
    counted = counted_both;
  }

  pub tables_both : tables_over new zs ≡ with_object (with_object (tables_over old xs) i None) j (Some (table_over new o))
  tables_both = λ k q. at q k
    where
      other : (q : ℕ) → q ≢ i → q ≢ j → (w : Option ObjectValue) → slot xs q ≡ w → option_map (table_over new) (slot zs q) ≡ option_map (table_over old) (slot xs q)
      other q ni nj None is = ap (option_map (table_over new)) (was q ni nj ∙ is) ∙ sym (ap (option_map (table_over old)) is)
      other q ni nj (Some x) is =
          ap (option_map (table_over new)) (was q ni nj ∙ is)
          ∙ ap Some (table_stays old new own kept x (apart_from_both q x ni nj is) (store.kept q x is))
          ∙ sym (ap (option_map (table_over old)) is)

      at : (q : ℕ) → option_map (table_over new) (slot zs q) ≡ (if nat_eq j q then Some (table_over new o) else (if nat_eq i q then None else option_map (table_over old) (slot xs q)))
      at q = elim (cases_eq q j) [
        | inl e ↦ (let now = ap (option_map (table_over new)) (ap (slot zs) e ∙ puts.changed) in grind (arith, nat_tests))
        | inr nj ↦ elim (cases_eq q i) [
          | inl e ↦ (let now = ap (option_map (table_over new)) (ap (slot zs) e ∙ ended) in grind (arith, nat_tests))
          | inr ni ↦ (let there = other q ni nj (slot xs q) refl in grind (arith, nat_tests))
        ]
      ]

-- no object
pub no_store : (xs : List (Option ObjectValue)) (pool : PoolValue) → xs ≡ [] → pool ≡ empty_pool → IsStore xs pool
no_store xs pool none empty = rw (none, empty) (record {
  kept = λ id o is. cc;
  counted = λ view. sym (ap (λ (w : Option ViewValue). cond {A = ℕ} (is_some w) 1 0) (get-empty nat_cmp view));
})
