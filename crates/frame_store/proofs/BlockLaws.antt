-- The blocks on which objects lie: a call changes those of one object alone.
use Rattle.{
  meaning_tables.proofs.cells.Common.{◌≡◌, ◌≢◌, ◌∙◌, refl, ap, ℕ, ◌+◌, ◌≤◌, List, [], map, Option, Some, None, slice_index_or},
  block_pool.{specs.{Pools.{PoolValue, live_count}, Placed.{slot, Puts}}, proofs.ChangeLaws.{view_kept}},
  block_manager.{specs.Managed.{BlockValue, Keeps, block_under, times, under}, proofs.TimesLaws.{times_here}},
  frame_store.{specs.Stores.{ObjectValue, IsKeptOn, IsStore, Trades, blocks_over, views_of, stands_in}, proofs.StoreLaws.{same_items, same_views, apart, apart_from_none, apart_from_both}},
}

-- an object that is apart from the views that gave way
views_lie : (old new : PoolValue) (own : List ℕ) → Keeps old new own → (o : ObjectValue) → ((view : ℕ) → times view o.manager.views + times view own ≤ live_count old view)
    → map (block_under new) o.manager.views ≡ map (block_under old) o.manager.views
views_lie old new own kept o apart = same_items (block_under old) (block_under new) o.manager.views (λ k d lt.
    let v : ℕ = slice_index_or o.manager.views k d in
    ap under (view_kept old new v (same_views old new own kept o apart v (times_here o.manager.views k d v lt refl))))

-- the blocks of what stands in a slot
abbrev lie : PoolValue → Option ObjectValue → List BlockValue
lie pool w = map (block_under pool) (views_of w)

slot_lies : (old new : PoolValue) (w now : Option ObjectValue) → now ≡ w → ((x : ObjectValue) → w ≡ Some x → lie new (Some x) ≡ lie old (Some x)) → lie new now ≡ lie old w
slot_lies old new None now is same = ap (lie new) is
slot_lies old new (Some x) now is same = ap (lie new) is ∙ same x refl

-- only views that no object has gave way to others
pub blocks_stay_all : (old new : PoolValue) (xs : List (Option ObjectValue)) → IsStore xs old → Trades old new [] [] → (q : ℕ) → blocks_over new xs q ≡ blocks_over old xs q
blocks_stay_all old new xs store trades q = slot_lies old new (slot xs q) (slot xs q) refl (λ x is. views_lie old new [] trades.kept x (apart_from_none old new xs store trades q x is))

-- one object more, less or another
pub blocks_put : (old new : PoolValue) (xs ys : List (Option ObjectValue)) (key : ℕ) (o : Option ObjectValue) → IsStore xs old → Puts xs ys key o → Trades old new (views_of (slot xs key)) (views_of o) → (q : ℕ) → q ≢ key → blocks_over new ys q ≡ blocks_over old xs q
blocks_put old new xs ys key o store puts trades q ne =
    slot_lies old new (slot xs q) (slot ys q) (puts.others q ne) (λ x is. views_lie old new (views_of (slot xs key)) trades.kept x (apart old new xs ys key o store puts trades q x ne is))

-- one object ended, and another one has become this one
module _ (old new : PoolValue) (xs ys zs : List (Option ObjectValue)) (i j : ℕ) (o : ObjectValue) (own : List ℕ) (different : j ≢ i) (store : IsStore xs old) (gone : Puts xs ys i None) (puts : Puts ys zs j (Some o))
    (few : (view : ℕ) → times view own ≤ stands_in view (slot xs i) + stands_in view (slot xs j))
    (trades : (view : ℕ) → live_count old view + times view o.manager.views ≡ live_count new view + (stands_in view (slot xs i) + stands_in view (slot xs j)))
    (kept : Keeps old new own) (here : IsKeptOn new o) where
  pub blocks_both : (q : ℕ) → q ≢ i → q ≢ j → blocks_over new zs q ≡ blocks_over old xs q
  blocks_both q ni nj =
      slot_lies old new (slot xs q) (slot zs q) (puts.others q nj ∙ gone.others q ni)
      (λ x is. views_lie old new own kept x (apart_from_both old new xs ys zs i j o own different store gone puts few trades kept here q x ni nj is))
