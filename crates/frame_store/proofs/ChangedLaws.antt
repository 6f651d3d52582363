-- What the calls of a store make of it: an object is added, changed or ended, or one takes the place of another.
use Rattle.{meaning_tables.{proofs.cells.Common.{◌≡◌, ◌≢◌, ◌∙◌, refl, sym, ap, subst, arith, ℕ, ◌+◌, ◌*◌, ◌≤◌, List, [], ◌++◌, length, map, Cell, Option, Some, None, IsSome, Result, Ok, Err, option_map, cases_eq, inl, inr, nat_eq, nat_tests, if◌then◌else◌, is_some, cond, ◌==◌, same_Some, set-get_or, slice_set}, specs.{Table.{NumberedTable}, Change.{with_values}, Valid.{IsWhole}}}, block_pool.{specs.{Pools.{PoolValue, ViewValue, live_count}, Placed.{slot, Puts}}, proofs.Slots.{puts_set}}, std.{proofs.lemmas.{List.Sums.{sum_by-append}, Bool.{false≢true}}, specs.{Prelude.{OnErr}, FinMap.{FinMap}, Ordering.{nat_cmp}}}, multi_index.specs.Axes.{AxisValue}, block_manager.specs.Managed.{AreLive, AreSole, block_under, Keeps, Stays, StayOnBlocks, times}, frame_store.{specs.{Parts.{AreRowsOf, AreColumnsOf, HaveRows}, Setting.{AreSet}, Stores.{ObjectValue, IsKeptOn, IsStore, Trades, blocks_over, table_over, tables_over, views_of, stands_in}, Objects.{Tables, with_object, table_or, manager_or, changing, LieStill}}, proofs.{SettingLaws.{are_set}, StoreLaws.{store_put, tables_put, store_both, tables_both, object_stays, table_stays, two_within}, KeptLaws.{blocks_stay}, BlockLaws.{blocks_stay_all, blocks_put, blocks_both}}}}

-- what the store knows of a live object
module _ (pool : PoolValue) (xs : List (Option ObjectValue)) (store : IsStore xs pool) (id : ℕ) (o : ObjectValue) (is : slot xs id ≡ Some o) where
  pub kept_there : IsKeptOn pool o
  kept_there = store.kept id o is

  pub table_there : tables_over pool xs id ≡ Some (table_over pool o)
  table_there = ap (option_map (table_over pool)) is

  pub table_is : table_or (tables_over pool xs id) ≡ table_over pool o
  table_is = ap table_or table_there

-- a live object is in its slot
pub slot_of_live : (pool : PoolValue) (xs : List (Option ObjectValue)) (id : ℕ) → IsSome (tables_over pool xs id) → IsSome (slot xs id)
slot_of_live pool xs id live = at (slot xs id) refl
  where
    at : (w : Option ObjectValue) → slot xs id ≡ w → IsSome (slot xs id)
    at None is = (let none : is_some (option_map (table_over pool) (slot xs id)) ≡ is_some (option_map (table_over pool) None) = ap (λ (w : Option ObjectValue). is_some (option_map (table_over pool) w)) is in cc)
    at (Some o) is = subst IsSome (sym is) refl

-- the objects lie still, between slots and pools
abbrev pub LieStillOver : Option ℕ → PoolValue → PoolValue → List (Option ObjectValue) → List (Option ObjectValue) → Type 0
LieStillOver but old new xs ys = LieStill but (tables_over old xs) (tables_over new ys) (blocks_over old xs) (blocks_over new ys)

-- a live object is none that isn't there
other_than : (tables : Tables) (q key : ℕ) → IsSome (tables q) → tables key ≡ None → q ≢ key
other_than tables q key live none e = false≢true (sym (ap (λ (t : Option NumberedTable). is_some t) (ap tables e ∙ none)) ∙ live)

-- only views that no object has gave way to others
pub lie_stay : (old new : PoolValue) (xs ys : List (Option ObjectValue)) (but : Option ℕ) → IsStore xs old → ys ≡ xs → Trades old new [] [] → LieStillOver but old new xs ys
lie_stay old new xs ys but store same trades q live there apart =
    ap (λ (l : List (Option ObjectValue)). blocks_over new l q) same ∙ blocks_stay_all old new xs store trades q

-- an object is added in a slot that was free
module _ (old new : PoolValue) (xs mid ys : List (Option ObjectValue)) (key : ℕ) (o : ObjectValue) (store : IsStore xs old) (same : mid ≡ xs) (vacant : slot mid key ≡ None) (changed : slot ys key ≡ Some o) (others : (q : ℕ) → q ≢ key → slot ys q ≡ slot mid q) (trades : Trades old new [] o.manager.views) where
  free_slot : slot xs key ≡ None
  free_slot = sym (ap (λ (l : List (Option ObjectValue)). slot l key) same) ∙ vacant

  puts : Puts xs ys key (Some o)
  puts = record { changed = changed; others = λ q ne. others q ne ∙ ap (λ (l : List (Option ObjectValue)). slot l q) same }

  trades_there : Trades old new (views_of (slot xs key)) o.manager.views
  trades_there = subst (λ (w : Option ObjectValue). Trades old new (views_of w) o.manager.views) (sym free_slot) trades

  pub added_free : tables_over old xs key ≡ None
  added_free = ap (option_map (table_over old)) free_slot

  pub store_added : IsKeptOn new o → IsStore ys new
  store_added here = store_put old new xs ys key (Some o) store puts trades_there (λ x is. subst (IsKeptOn new) (same_Some o x is) here)

  pub tables_added : (t : NumberedTable) → table_over new o ≡ t → tables_over new ys ≡ with_object (tables_over old xs) key (Some t)
  tables_added t is = tables_put old new xs ys key (Some o) store puts trades_there ∙ ap (λ (u : NumberedTable). with_object (tables_over old xs) key (Some u)) is

  pub lie_added : LieStillOver None old new xs ys
  lie_added q live there apart = blocks_put old new xs ys key (Some o) store puts trades_there q (other_than (tables_over old xs) q key live added_free)

-- an item that is as it was
pub left_as_it_was : {X : Type 0} (xs : List (Option X)) (k : ℕ) (was now : X) → slot xs k ≡ Some was → now ≡ was → slice_set xs k (Some now) ≡ xs
left_as_it_was xs k was now is so = ap (slice_set xs k) (ap Some so ∙ sym is) ∙ set-get_or xs k None

-- an object is changed in its slot
module _ (old new : PoolValue) (xs : List (Option ObjectValue)) (key : ℕ) (was now : ObjectValue) (store : IsStore xs old) (is : slot xs key ≡ Some was) (trades : Trades old new was.manager.views now.manager.views) where
  trades_here : Trades old new (views_of (slot xs key)) now.manager.views
  trades_here = subst (λ (w : Option ObjectValue). Trades old new (views_of w) now.manager.views) (sym is) trades

  puts_here : Puts xs (slice_set xs key (Some now)) key (Some now)
  puts_here = puts_set xs key (Some now) (subst IsSome (sym is) refl)

  pub store_changed : IsKeptOn new now → IsStore (slice_set xs key (Some now)) new
  store_changed here = store_put old new xs (slice_set xs key (Some now)) key (Some now) store puts_here trades_here (λ x e. subst (IsKeptOn new) (same_Some now x e) here)

  pub tables_changed : (change : NumberedTable → NumberedTable) → table_over new now ≡ change (table_over old was)
      → tables_over new (slice_set xs key (Some now)) ≡ with_object (tables_over old xs) key (Some (change (table_or (tables_over old xs key))))
  tables_changed change so =
      tables_put old new xs (slice_set xs key (Some now)) key (Some now) store puts_here trades_here
      ∙ ap (λ (u : NumberedTable). with_object (tables_over old xs) key (Some u)) (so ∙ ap change (sym (table_is old xs store key was is)))

  pub tables_unchanged : table_over new now ≡ table_over old was → tables_over new (slice_set xs key (Some now)) ≡ tables_over old xs
  tables_unchanged so =
      tables_put old new xs (slice_set xs key (Some now)) key (Some now) store puts_here trades_here
      ∙ (λ j q. at q j)
    where
      at : (q : ℕ) → (if nat_eq key q then Some (table_over new now) else tables_over old xs q) ≡ tables_over old xs q
      at q = elim (cases_eq key q) [
        | inl e ↦ (let there : tables_over old xs q ≡ Some (table_over new now) = ap (tables_over old xs) (sym e) ∙ table_there old xs store key was is ∙ ap Some (sym so) in grind (arith, nat_tests))
        | inr ne ↦ grind (arith, nat_tests)
      ]

  pub lie_changed : {A E : Type 0} (r : Result A E) → OnErr r ((now ≡ was) × Stays old new) → LieStillOver (changing key r) old new xs (slice_set xs key (Some now))
  lie_changed (Ok done) err q live there apart = blocks_put old new xs (slice_set xs key (Some now)) key (Some now) store puts_here trades_here q (λ e. apart (ap Some (sym e)))
  lie_changed (Err fault) err q live there apart =
      ap (λ (l : List (Option ObjectValue)). blocks_over new l q) (left_as_it_was xs key was now is err.0)
      ∙ ap (λ (views : FinMap nat_cmp ViewValue). blocks_over (record old { views = views }) xs q) err.1.views

-- an object ended
module _ (old new : PoolValue) (xs ys : List (Option ObjectValue)) (key : ℕ) (was : ObjectValue) (store : IsStore xs old) (is : slot xs key ≡ Some was) (removed : ys ≡ slice_set xs key None) (trades : Trades old new was.manager.views []) where
  trades_away : Trades old new (views_of (slot xs key)) []
  trades_away = subst (λ (w : Option ObjectValue). Trades old new (views_of w) []) (sym is) trades

  puts_away : Puts xs ys key None
  puts_away = subst (λ (l : List (Option ObjectValue)). Puts xs l key None) (sym removed) (puts_set xs key None (subst IsSome (sym is) refl))

  pub store_ended : IsStore ys new
  store_ended = store_put old new xs ys key None store puts_away trades_away (λ x e. cc)

  pub tables_ended : tables_over new ys ≡ with_object (tables_over old xs) key None
  tables_ended = tables_put old new xs ys key None store puts_away trades_away

  pub lie_ended : LieStillOver None old new xs ys
  lie_ended q live there apart =
      blocks_put old new xs ys key None store puts_away trades_away q (other_than (tables_over new ys) q key there (ap (option_map (table_over new)) puts_away.changed))

-- an object that was taken out came back
module _ (pool : PoolValue) (xs ys : List (Option ObjectValue)) (key : ℕ) (b : ObjectValue) (store : IsStore xs pool) (is : slot xs key ≡ Some b) (changed : slot ys key ≡ Some b) (others : (q : ℕ) → q ≢ key → slot ys q ≡ slot xs q) where
  pub store_again : IsStore ys pool
  store_again =
      store_put pool pool xs ys key (Some b) store (record { changed = changed; others = others })
      (record { views = λ view. ap (λ (w : Option ObjectValue). live_count pool view + times view (views_of w)) (sym is); kept = λ view none live. refl })
      (λ x e. subst (IsKeptOn pool) (same_Some b x e) (store.kept key b is))

  pub tables_again : tables_over pool ys ≡ tables_over pool xs
  tables_again = λ j q. at q j
    where
      at : (q : ℕ) → tables_over pool ys q ≡ tables_over pool xs q
      at q = elim (cases_eq q key) [
        | inl e ↦ ap (option_map (table_over pool)) (ap (slot ys) e ∙ changed ∙ sym is ∙ ap (slot xs) (sym e))
        | inr ne ↦ ap (option_map (table_over pool)) (others q ne)
      ]

  pub slot_again : (q : ℕ) → slot ys q ≡ slot xs q
  slot_again q = elim (cases_eq q key) [
    | inl e ↦ ap (slot ys) e ∙ changed ∙ sym is ∙ ap (slot xs) (sym e)
    | inr ne ↦ others q ne
  ]

times-append : (view : ℕ) (xs ys : List ℕ) → times view (xs ++ ys) ≡ times view xs + times view ys
times-append view xs ys = sum_by-append (λ (x : ℕ). cond (x == view) 1 0) xs ys

-- one object ends, and the views of it and of another one stand in a third in the place of the other
module _ (old new : PoolValue) (xs ys : List (Option ObjectValue)) (on from : ℕ) (a b : ObjectValue) (different : on ≢ from) (store : IsStore xs old) (at_on : slot ys on ≡ Some a) (at_from : slot xs from ≡ Some b) (removed : ys ≡ slice_set xs from None) where
  from_gone : Puts xs ys from None
  from_gone = subst (λ (l : List (Option ObjectValue)). Puts xs l from None) (sym removed) (puts_set xs from None (subst IsSome (sym at_from) refl))

  pub was_on : slot xs on ≡ Some a
  was_on = sym (from_gone.others on different) ∙ at_on

  pub kept_on : IsKeptOn old a
  kept_on = store.kept on a was_on

  pub kept_from : IsKeptOn old b
  kept_from = store.kept from b at_from

  pub both_live : (view : ℕ) → times view a.manager.views + times view b.manager.views ≤ live_count old view
  both_live view = omega (arith, ap (stands_in view) was_on, ap (stands_in view) at_from, two_within (stands_in view) refl xs on from different, store.counted view)

  pub both_are_live : AreLive old (a.manager.views ++ b.manager.views)
  both_are_live view = omega (arith, both_live view, times-append view a.manager.views b.manager.views)

  module _ (o : ObjectValue) (own : List ℕ) (few : (view : ℕ) → times view own ≤ times view a.manager.views + times view b.manager.views)
      (trades : (view : ℕ) → live_count old view + times view o.manager.views ≡ live_count new view + (times view a.manager.views + times view b.manager.views)) (kept : Keeps old new own) (here : IsKeptOn new o) where
    puts_on : Puts ys (slice_set ys on (Some o)) on (Some o)
    puts_on = puts_set ys on (Some o) (subst IsSome (sym at_on) refl)

    few_there : (view : ℕ) → times view own ≤ stands_in view (slot xs from) + stands_in view (slot xs on)
    few_there view = omega (arith, few view, ap (stands_in view) was_on, ap (stands_in view) at_from)

    trades_both : (view : ℕ) → live_count old view + times view o.manager.views ≡ live_count new view + (stands_in view (slot xs from) + stands_in view (slot xs on))
    trades_both view = omega (arith, trades view, ap (stands_in view) was_on, ap (stands_in view) at_from)

    pub store_joined : IsStore (slice_set ys on (Some o)) new
    store_joined = store_both old new xs ys (slice_set ys on (Some o)) from on o own different store from_gone puts_on few_there trades_both kept here

    pub tables_joined : tables_over new (slice_set ys on (Some o)) ≡ with_object (with_object (tables_over old xs) from None) on (Some (table_over new o))
    tables_joined = tables_both old new xs ys (slice_set ys on (Some o)) from on o own different store from_gone puts_on few_there trades_both kept here

    gone_still : slot (slice_set ys on (Some o)) from ≡ None
    gone_still = puts_on.others from (λ e. different (sym e)) ∙ from_gone.changed

    pub lie_joined : LieStillOver (Some on) old new xs (slice_set ys on (Some o))
    lie_joined q live there apart =
        blocks_both old new xs ys (slice_set ys on (Some o)) from on o own different store from_gone puts_on few_there trades_both kept here q
        (other_than (tables_over new (slice_set ys on (Some o))) q from there (ap (option_map (table_over new)) gone_still)) (λ e. apart (ap Some (sym e)))

    -- the column of the one went into the other
    pub tables_moved : (change : NumberedTable → NumberedTable → NumberedTable) → table_over new o ≡ change (table_over old a) (table_over old b)
        → tables_over new (slice_set ys on (Some o)) ≡ with_object (with_object (tables_over old xs) from None) on (Some (change (table_or (tables_over old xs on)) (table_or (tables_over old xs from))))
    tables_moved change so =
        tables_joined
        ∙ ap (λ (u : NumberedTable). with_object (with_object (tables_over old xs) from None) on (Some u))
        (so ∙ ap (λ (t : NumberedTable). change t (table_over old b)) (sym (table_is old xs store on a was_on)) ∙ ap (change (table_or (tables_over old xs on))) (sym (table_is old xs store from b at_from)))

  -- its manager took the view of the other
  module _ (o : ObjectValue) (trades : Trades old new (a.manager.views ++ b.manager.views) o.manager.views) where
    few_in_both : (view : ℕ) → times view (a.manager.views ++ b.manager.views) ≤ times view a.manager.views + times view b.manager.views
    few_in_both view = omega (arith, times-append view a.manager.views b.manager.views)

    taken : (view : ℕ) → live_count old view + times view o.manager.views ≡ live_count new view + (times view a.manager.views + times view b.manager.views)
    taken view = omega (arith, trades.views view, times-append view a.manager.views b.manager.views)

    pub store_taken : IsKeptOn new o → IsStore (slice_set ys on (Some o)) new
    store_taken here = store_joined o (a.manager.views ++ b.manager.views) few_in_both taken trades.kept here

    pub tables_taken : IsKeptOn new o → (change : NumberedTable → NumberedTable → NumberedTable) → table_over new o ≡ change (table_over old a) (table_over old b)
        → tables_over new (slice_set ys on (Some o)) ≡ with_object (with_object (tables_over old xs) from None) on (Some (change (table_or (tables_over old xs on)) (table_or (tables_over old xs from))))
    tables_taken here change so = tables_moved o (a.manager.views ++ b.manager.views) few_in_both taken trades.kept here change so

    pub lie_taken : IsKeptOn new o → LieStillOver (Some on) old new xs (slice_set ys on (Some o))
    lie_taken here = lie_joined o (a.manager.views ++ b.manager.views) few_in_both taken trades.kept here

  -- or it refused, and the other came back
  module _ (u b' : ObjectValue) (zs : List (Option ObjectValue)) (key : ℕ) (same : u ≡ a) (here : key ≡ from) (back : b' ≡ b) (put : slot zs key ≡ Some b') (others : (q : ℕ) → q ≢ key → slot zs q ≡ slot (slice_set ys on (Some u)) q) where
    back_there : slot zs from ≡ Some b
    back_there = ap (slot zs) (sym here) ∙ put ∙ ap Some back

    others_back : (q : ℕ) → q ≢ from → slot zs q ≡ slot xs q
    others_back q ne =
        others q (λ e. ne (e ∙ here))
        ∙ ap (λ (l : List (Option ObjectValue)). slot l q) (left_as_it_was ys on a u at_on same)
        ∙ from_gone.others q ne

    pub store_back : IsStore zs old
    store_back = store_again old xs zs from b store at_from back_there others_back

    pub tables_back : tables_over old zs ≡ tables_over old xs
    tables_back = tables_again old xs zs from b store at_from back_there others_back

    pub lie_back : new ≡ old → LieStillOver None old new xs zs
    lie_back pools q live there apart =
        ap (λ (p : PoolValue). blocks_over p zs q) pools
        ∙ ap (λ (w : Option ObjectValue). map (block_under old) (views_of w)) (slot_again old xs zs from b store at_from back_there others_back q)

  -- the other ended, and the one took its place
  module _ (trades : Trades old new a.manager.views []) where
    b_apart : (view : ℕ) → times view b.manager.views + times view a.manager.views ≤ live_count old view
    b_apart view = omega (arith, both_live view)

    b_here : IsKeptOn new b
    b_here = object_stays old new a.manager.views trades.kept b b_apart kept_from

    few_in_a : (view : ℕ) → times view a.manager.views ≤ times view a.manager.views + times view b.manager.views
    few_in_a view = omega arith

    b_trades : (view : ℕ) → live_count old view + times view b.manager.views ≡ live_count new view + (times view a.manager.views + times view b.manager.views)
    b_trades view = omega (arith, trades.views view)

    pub store_replaced : IsStore (slice_set ys on (Some b)) new
    store_replaced = store_joined b a.manager.views few_in_a b_trades trades.kept b_here

    pub lie_replaced : LieStillOver (Some on) old new xs (slice_set ys on (Some b))
    lie_replaced = lie_joined b a.manager.views few_in_a b_trades trades.kept b_here

    pub tables_replaced : tables_over new (slice_set ys on (Some b)) ≡ with_object (with_object (tables_over old xs) on (tables_over old xs from)) from None
    tables_replaced = tables_joined b a.manager.views few_in_a b_trades trades.kept b_here ∙ (λ j q. at q j)
      where
        table : tables_over old xs from ≡ Some (table_over new b)
        table = table_there old xs store from b at_from ∙ ap Some (sym (table_stays old new a.manager.views trades.kept b b_apart kept_from))

        at : (q : ℕ) → (if nat_eq on q then Some (table_over new b) else (if nat_eq from q then None else tables_over old xs q)) ≡ (if nat_eq from q then None else (if nat_eq on q then tables_over old xs from else tables_over old xs q))
        at q = let t = table in grind (arith, nat_tests)

-- cells of an object that are set
pub set_in : (before after : Tables) (id : ℕ) (rows columns : List ℕ) (values : List Cell) → IsWhole (table_or (before id)) → after ≡ with_object before id (Some (with_values (table_or (before id)) rows columns values))
    → AreRowsOf (table_or (before id)) rows → AreColumnsOf (table_or (before id)) columns → length values ≡ length rows * length columns → AreSet rows columns values (table_or (before id)).columns (table_or (after id)).columns
set_in before after id rows columns values whole is rows_in columns_in many =
    let t : NumberedTable = table_or (before id) in
    let here : with_object before id (Some (with_values t rows columns values)) id ≡ Some (with_values t rows columns values) = grind (arith, nat_tests) in
    let now : table_or (after id) ≡ with_values t rows columns values = ap (λ (ts : Tables). table_or (ts id)) is ∙ ap table_or here in
    subst (λ (u : NumberedTable). AreSet rows columns values t.columns u.columns) (sym now) (are_set (length t.labels) t.columns rows columns values rows_in columns_in whole.filled many)

-- the views of an object that stay on their blocks
pub sole_there : (pool : PoolValue) (xs : List (Option ObjectValue)) (id : ℕ) (o : ObjectValue) (columns : List ℕ) → slot xs id ≡ Some o → AreSole pool (manager_or (slot xs id)) columns → AreSole pool o.manager columns
sole_there pool xs id o columns is = subst (λ (w : Option ObjectValue). AreSole pool (manager_or w) columns) is

pub sole_blocks : (old new : PoolValue) (xs : List (Option ObjectValue)) (key : ℕ) (was now : ObjectValue) → slot xs key ≡ Some was → now ≡ was → StayOnBlocks old new → blocks_over new (slice_set xs key (Some now)) key ≡ blocks_over old xs key
sole_blocks old new xs key was now is so stay =
    ap (λ (l : List (Option ObjectValue)). map (block_under new) (views_of (slot l key))) (left_as_it_was xs key was now is so)
    ∙ blocks_stay old new (views_of (slot xs key)) stay

-- an object with another axis
pub relabelled : (pool : PoolValue) (xs : List (Option ObjectValue)) (key : ℕ) (was now : ObjectValue) (axis : AxisValue) → IsStore xs pool → slot xs key ≡ Some was → now ≡ record was { axis = axis } → HaveRows (length axis.tuples) (table_or (tables_over pool xs key)).columns
    → IsStore (slice_set xs key (Some now)) pool
relabelled pool xs key was now axis store is so rows =
    let kept : IsKeptOn pool was = store.kept key was is in
    let fits : HaveRows (length axis.tuples) (table_over pool was).columns = subst (λ (t : NumberedTable). HaveRows (length axis.tuples) t.columns) (table_is pool xs store key was is) rows in
    subst (λ (o : ObjectValue). IsStore (slice_set xs key (Some o)) pool) (sym so)
    (store_changed pool pool xs key was (record was { axis = axis }) store is (record { views = λ view. refl; kept = λ view none live. refl })
    (record { stands = kept.stands; whole = record { headed = kept.whole.headed; filled = fits; headings = kept.whole.headings } }))

pub lie_relabelled : (pool : PoolValue) (xs : List (Option ObjectValue)) (key : ℕ) (was now : ObjectValue) (axis : AxisValue) (but : Option ℕ) → slot xs key ≡ Some was → now ≡ record was { axis = axis } → LieStillOver but pool pool xs (slice_set xs key (Some now))
lie_relabelled pool xs key was now axis but is so q live there apart = ap (map (block_under pool)) same
  where
    puts : Puts xs (slice_set xs key (Some now)) key (Some now)
    puts = puts_set xs key (Some now) (subst IsSome (sym is) refl)

    same : views_of (slot (slice_set xs key (Some now)) q) ≡ views_of (slot xs q)
    same = elim (cases_eq q key) [
      | inl e ↦
          ap (λ (k : ℕ). views_of (slot (slice_set xs key (Some now)) k)) e ∙ ap views_of puts.changed
          ∙ ap (λ (o : ObjectValue). o.manager.views) so ∙ sym (ap views_of is) ∙ ap (λ (k : ℕ). views_of (slot xs k)) (sym e)
      | inr ne ↦ ap views_of (puts.others q ne)
    ]
