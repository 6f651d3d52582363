-- Lots with one view more or less, and views that are laid on them or end.
use Rattle.{std.proofs.Common.{◌≡◌, ◌≢◌, ℕ, ◌+◌, ◌<◌, List, refl, ap, ap₂, sym, ◌∙◌, subst, arith, Option, Some, None, IsSome, inl, inr, eq-eqb}, std.proofs.lemmas.{Bool.{false≢true, cases_eq, ne_eqb}, Option.{same_Some}}, std.specs.{Option.{option_map}, FinMap.{insert, remove}}, column_core.specs.Blocks.{CellBlock}, block_pool.{specs.{declared.{views.View.{View}, lots.Lot.{Lot}}, Pools.{ViewValue, PoolValue, view_at, view_with, block_at, cells_of, Shares, Ends}, Placed.{slot, Puts, shown_grid, block_of, size_of, users_of, lot_cells, entered, left, view_on, seen_over, pool_value, IsEven, IsPlaced, IsPool}}, proofs.{Slots.{inserted, removed, unchanged, sum_put}, PoolLaws.{on, one_if_some, on_same, on_other, some_user, two_users, users_from_sole, shared_users, no_block_even, block_is}}}}

-- a lot with one view more
pub entered_block : (o : Option Lot) → block_of (entered o) ≡ block_of o
entered_block None = refl
entered_block (Some lot) = refl

entered_size : (o : Option Lot) → size_of (entered o) ≡ size_of o
entered_size None = refl
entered_size (Some lot) = refl

entered_cells : (o : Option Lot) → option_map lot_cells (entered o) ≡ option_map lot_cells o
entered_cells None = refl
entered_cells (Some lot) = refl

entered_users : (o : Option Lot) → IsSome o → users_of (entered o) ≡ users_of o + 1
entered_users None live = absurd (false≢true live)
entered_users (Some lot) live = refl

-- a lot with one view less
pub left_users : (o : Option Lot) → 0 < users_of o → users_of (left o) + 1 ≡ users_of o
left_users None h = absurd (omega (arith, h))
left_users (Some lot) h = elim (cases_eq lot.users 1) [
  | inl e ↦ rw (eq-eqb lot.users 1 e) (omega (arith, e))
  | inr ne ↦ rw (ne_eqb lot.users 1 ne) (omega (arith, h, ne))
]

pub left_block : (o : Option Lot) → 1 < users_of o → block_of (left o) ≡ block_of o
left_block None h = refl
left_block (Some lot) h =
    let ne : lot.users ≢ 1 = λ e. omega (arith, e, h) in
    rw (ne_eqb lot.users 1 ne) refl

pub left_cells : (o : Option Lot) → 1 < users_of o → option_map lot_cells (left o) ≡ option_map lot_cells o
left_cells None h = refl
left_cells (Some lot) h =
    let ne : lot.users ≢ 1 = λ e. omega (arith, e, h) in
    rw (ne_eqb lot.users 1 ne) refl

pub left_last : (o : Option Lot) → users_of o ≡ 1 → left o ≡ None
left_last None h = refl
left_last (Some lot) h = rw (eq-eqb lot.users 1 h) refl

pub left_some : (o : Option Lot) → 0 < users_of o → IsSome (left o) → 0 < users_of (left o)
left_some None h live = absurd (false≢true live)
left_some (Some lot) h live = elim (cases_eq lot.users 1) [
  | inl e ↦ absurd (false≢true (rw (eq-eqb lot.users 1 e) at live))
  | inr ne ↦ rw (ne_eqb lot.users 1 ne) (omega (arith, h, ne))
]

pub left_even : (o : Option Lot) → IsEven (block_of o) → IsEven (block_of (left o))
left_even None even = no_block_even
left_even (Some lot) even = elim (cases_eq lot.users 1) [
  | inl e ↦ rw (eq-eqb lot.users 1 e) no_block_even
  | inr ne ↦ rw (ne_eqb lot.users 1 ne) even
]

-- lots whose blocks stay
pub kept_blocks : (lots lots' : List (Option Lot)) (b : ℕ) (o : Option Lot) → Puts lots lots' b o → block_of o ≡ block_of (slot lots b) → (c : ℕ) → block_of (slot lots' c) ≡ block_of (slot lots c)
kept_blocks lots lots' b o puts same c = elim (cases_eq c b) [
  | inl e ↦ ap (λ i. block_of (slot lots' i)) e ∙ ap block_of puts.changed ∙ same ∙ ap (λ i. block_of (slot lots i)) (sym e)
  | inr ne ↦ ap block_of (puts.others c ne)
]

-- a view over a block that stays
pub seen_kept : (lots lots' : List (Option Lot)) (w : View) → block_of (slot lots' w.block) ≡ block_of (slot lots w.block) → seen_over lots' w ≡ seen_over lots w
seen_kept lots lots' w kept = ap (λ (g : CellBlock). view_on g w) kept

-- a view is laid on a block
module _ (lots lots' : List (Option Lot)) (views views' : List (Option View)) (spare spare' capacity held key : ℕ) (v : View)
    (ok : IsPool lots views spare capacity held) (live : IsSome (slot lots v.block))
    (put_lot : Puts lots lots' v.block (entered (slot lots v.block))) (put_view : Puts views views' key (Some v)) (less : spare' + 1 ≡ spare) where
  laid_blocks : (c : ℕ) → block_of (slot lots' c) ≡ block_of (slot lots c)
  laid_blocks c = kept_blocks lots lots' v.block _ put_lot (entered_block (slot lots v.block)) c

  pub laid_pool : slot views key ≡ None → IsPlaced (block_of (slot lots v.block)) v → IsPool lots' views' spare' capacity held
  laid_pool empty placed = record {
    placed = λ id w is. elim (cases_eq id key) [
      | inl e ↦
          let same : v ≡ w = same_Some v w (sym put_view.changed ∙ ap (λ i. slot views' i) (sym e) ∙ is) in
          subst (λ (x : View). IsPlaced (block_of (slot lots' x.block)) x) same (subst (λ (g : CellBlock). IsPlaced g v) (sym (laid_blocks v.block)) placed)
      | inr ne ↦ subst (λ (g : CellBlock). IsPlaced g w) (sym (laid_blocks w.block)) (ok.placed id w (sym (put_view.others id ne) ∙ is))
    ];
    counted = λ b.
        let more = sum_put (on b) refl views views' key (Some v) put_view in
        let gone : on b (slot views key) ≡ 0 = ap (on b) empty in
        elim (cases_eq b v.block) [
          | inl e ↦ (let users : users_of (slot lots' b) ≡ users_of (slot lots b) + 1 = ap (λ i. users_of (slot lots' i)) e ∙ ap users_of put_lot.changed ∙ entered_users (slot lots v.block) live ∙ ap (λ i. users_of (slot lots i) + 1) (sym e) in
              omega (arith, more, gone, ok.counted b, users, on_same b v (sym e)))
          | inr ne ↦ omega (arith, more, gone, ok.counted b, ap users_of (put_lot.others b ne), on_other b v (λ z. ne (sym z)))
        ];
    used = λ b some. elim (cases_eq b v.block) [
      | inl e ↦ (let users : users_of (slot lots' b) ≡ users_of (slot lots v.block) + 1 = ap (λ i. users_of (slot lots' i)) e ∙ ap users_of put_lot.changed ∙ entered_users (slot lots v.block) live in omega (arith, users))
      | inr ne ↦ subst (λ (o : Option Lot). 0 < users_of o) (sym (put_lot.others b ne)) (ok.used b (subst IsSome (put_lot.others b ne) some))
    ];
    even = λ b. subst IsEven (sym (laid_blocks b)) (ok.even b);
    room = (let more = sum_put one_if_some refl views views' key (Some v) put_view in omega (arith, more, ap one_if_some empty, ok.room, less));
    cells = (let more = sum_put size_of refl lots lots' v.block _ put_lot in omega (arith, more, entered_size (slot lots v.block), ok.cells));
  }

  pub laid_shares : (pool : PoolValue) → pool_value lots views spare ≡ pool → (from : ℕ) (grid : CellBlock) → block_at pool from ≡ v.block → (view_at pool from).cells ≡ cells_of (block_of (slot lots v.block)) → shown_grid (block_of (slot lots v.block)) v ≡ grid → Shares pool (pool_value lots' views' spare') key from grid
  laid_shares pool e from grid at size shows =
      let seen : ViewValue = view_with (view_at pool from) grid in
      let here : seen_over lots' v ≡ seen =
      ap (λ (g : CellBlock). view_on g v) (laid_blocks v.block)
      ∙ ap₂ (λ (b n : ℕ). record { block = b; cells = n; grid = shown_grid (block_of (slot lots v.block)) v }) (sym at) (sym size)
      ∙ ap (view_with (view_at pool from)) shows in
      record {
        views = inserted (seen_over lots) (seen_over lots') views views' key (λ q w ne is. seen_kept lots lots' w (laid_blocks w.block)) v put_view
            ∙ ap₂ (λ (p : PoolValue) (s : ViewValue). insert p.views key s) e here;
        blocks = unchanged lot_cells lot_cells lots lots' v.block (λ q w ne is. refl) (entered (slot lots v.block)) put_lot (entered_cells (slot lots v.block)) ∙ ap (λ (p : PoolValue). p.blocks) e;
        spare = less ∙ ap (λ (p : PoolValue). p.spare) e;
      }

-- a view ends
module _ (lots lots' : List (Option Lot)) (views views' : List (Option View)) (spare capacity held held' id : ℕ) (v : View)
    (ok : IsPool lots views spare capacity held) (is : slot views id ≡ Some v)
    (put_lot : Puts lots lots' v.block (left (slot lots v.block))) (put_view : Puts views views' id None) where
  some_left : 0 < users_of (slot lots v.block)
  some_left = some_user lots views spare capacity held ok id v is

  stays : (q : ℕ) (w : View) → q ≢ id → slot views q ≡ Some w → block_of (slot lots' w.block) ≡ block_of (slot lots w.block)
  stays q w ne there = elim (cases_eq w.block v.block) [
    | inl e ↦ ap (λ i. block_of (slot lots' i)) e ∙ ap block_of put_lot.changed
        ∙ left_block (slot lots v.block) (two_users lots views spare capacity held ok _ refl id v is q w ne there e)
        ∙ ap (λ i. block_of (slot lots i)) (sym e)
    | inr other ↦ ap block_of (put_lot.others w.block other)
  ]

  pub ended_pool : held' + size_of (slot lots v.block) ≡ held + size_of (left (slot lots v.block)) → IsPool lots' views' (spare + 1) capacity held'
  ended_pool counts = record {
    placed = λ q w there. elim (cases_eq q id) [
      | inl e ↦ (let none : None ≡ Some w = sym put_view.changed ∙ ap (λ i. slot views' i) (sym e) ∙ there in cc)
      | inr ne ↦ (let before : slot views q ≡ Some w = sym (put_view.others q ne) ∙ there in subst (λ (g : CellBlock). IsPlaced g w) (sym (stays q w ne before)) (ok.placed q w before))
    ];
    counted = λ b.
        let fewer = sum_put (on b) refl views views' id None put_view in
        let was : on b (slot views id) ≡ on b (Some v) = ap (on b) is in
        elim (cases_eq b v.block) [
          | inl e ↦ (let users : users_of (slot lots' b) + 1 ≡ users_of (slot lots b) = ap (λ i. users_of (slot lots' i) + 1) e ∙ ap (λ (o : Option Lot). users_of o + 1) put_lot.changed ∙ left_users (slot lots v.block) some_left ∙ ap (λ i. users_of (slot lots i)) (sym e) in
              omega (arith, fewer, was, ok.counted b, users, on_same b v (sym e)))
          | inr ne ↦ omega (arith, fewer, was, ok.counted b, ap users_of (put_lot.others b ne), on_other b v (λ z. ne (sym z)))
        ];
    used = λ b some. elim (cases_eq b v.block) [
      | inl e ↦
          let changed : slot lots' b ≡ left (slot lots v.block) = ap (λ i. slot lots' i) e ∙ put_lot.changed in
          subst (λ (o : Option Lot). 0 < users_of o) (sym changed) (left_some (slot lots v.block) some_left (subst IsSome changed some))
      | inr ne ↦ subst (λ (o : Option Lot). 0 < users_of o) (sym (put_lot.others b ne)) (ok.used b (subst IsSome (put_lot.others b ne) some))
    ];
    even = λ b. elim (cases_eq b v.block) [
      | inl e ↦
          let changed : slot lots' b ≡ left (slot lots v.block) = ap (λ i. slot lots' i) e ∙ put_lot.changed in
          subst (λ (o : Option Lot). IsEven (block_of o)) (sym changed) (left_even (slot lots v.block) (ok.even v.block))
      | inr ne ↦ subst (λ (o : Option Lot). IsEven (block_of o)) (sym (put_lot.others b ne)) (ok.even b)
    ];
    room = (let fewer = sum_put one_if_some refl views views' id None put_view in omega (arith, fewer, ap one_if_some is, ok.room));
    cells = (let fewer = sum_put size_of refl lots lots' v.block _ put_lot in omega (arith, fewer, counts, ok.cells));
  }

  pub ends : (pool : PoolValue) → pool_value lots views spare ≡ pool → Ends pool (pool_value lots' views' (spare + 1)) id
  ends pool e =
      let at : block_at pool id ≡ v.block = block_is lots views spare pool e id v is in
      record {
        views = removed (seen_over lots) (seen_over lots') views views' id (λ q w ne there. seen_kept lots lots' w (stays q w ne there)) put_view ∙ ap (λ (p : PoolValue). remove p.views id) e;
        sole = λ alone.
            let single = users_from_sole lots views spare capacity held ok pool e id v is alone in
            let gone : Puts lots lots' v.block None = record { changed = put_lot.changed ∙ left_last (slot lots v.block) single; others = put_lot.others } in
            removed lot_cells lot_cells lots lots' v.block (λ q w ne there. refl) gone ∙ ap₂ (λ (p : PoolValue) (b : ℕ). remove p.blocks b) e (sym at);
        shared = λ many.
            let more = shared_users lots views spare capacity held ok pool e id v is many in
            unchanged lot_cells lot_cells lots lots' v.block (λ q w ne there. refl) (left (slot lots v.block)) put_lot (left_cells (slot lots v.block) more) ∙ ap (λ (p : PoolValue). p.blocks) e;
        spare = ap (λ (p : PoolValue). p.spare + 1) e;
      }
