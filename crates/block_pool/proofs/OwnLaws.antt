-- A view that moves to a block of its own.
use Rattle.{std.proofs.Common.{◌≡◌, ◌≢◌, ℕ, ◌+◌, ◌<◌, List, refl, ap, ap₂, sym, ◌∙◌, subst, arith, Option, Some, None, IsSome, inl, inr}, std.proofs.lemmas.{Bool.{cases_eq}, Option.{same_Some}}, std.specs.{FinMap.{insert}}, column_core.specs.Blocks.{CellBlock}, block_pool.{specs.{declared.{views.View.{View}, lots.Lot.{Lot}}, Pools.{ViewValue, PoolValue, full_view, view_with, grid_at, cells_of, IsSole, Owns}, Placed.{slot, Puts, block_of, size_of, users_of, lot_cells, left, view_on, seen_over, pool_value, IsEven, IsPlaced, IsPool}}, proofs.{Slots.{inserted, unchanged, sum_put}, PoolLaws.{on, one_if_some, on_same, on_other, some_user, block_new, sole_from_users}, LotLaws.{seen_kept, left_users, left_block, left_cells}, ShowLaws.{whole_view, shown_whole, whole_placed}, BlockMoves.{new_lot}}}}

module _ (lots lots' lots'' : List (Option Lot)) (views views' : List (Option View)) (spare capacity held held' name id : ℕ) (v : View) (g : CellBlock)
    (ok : IsPool lots views spare capacity held) (is : slot views id ≡ Some v) (many : 1 < users_of (slot lots v.block)) (even : IsEven g) (fresh : slot lots name ≡ None)
    (put_new : Puts lots lots' name (Some (new_lot g))) (put_old : Puts lots' lots'' v.block (left (slot lots' v.block))) (put_view : Puts views views' id (Some (whole_view name g))) where
  apart : v.block ≢ name
  apart e =
      let none : users_of (slot lots v.block) ≡ 0 = ap (λ b. users_of (slot lots b)) e ∙ ap users_of fresh in
      omega (arith, none, many)

  nobody : (q : ℕ) (w : View) → slot views q ≡ Some w → w.block ≢ name
  nobody q w there e =
      let none : users_of (slot lots w.block) ≡ 0 = ap (λ b. users_of (slot lots b)) e ∙ ap users_of fresh in
      omega (arith, some_user lots views spare capacity held ok q w there, none)

  at_old : slot lots'' v.block ≡ left (slot lots v.block)
  at_old = put_old.changed ∙ ap left (put_new.others v.block apart)

  at_new : slot lots'' name ≡ Some (new_lot g)
  at_new = put_old.others name (λ e. apart (sym e)) ∙ put_new.changed

  elsewhere : (b : ℕ) → b ≢ name → b ≢ v.block → slot lots'' b ≡ slot lots b
  elsewhere b a o = put_old.others b o ∙ put_new.others b a

  stays : (b : ℕ) → b ≢ name → block_of (slot lots'' b) ≡ block_of (slot lots b)
  stays b ne = elim (cases_eq b v.block) [
    | inl e ↦ ap (λ i. block_of (slot lots'' i)) e ∙ ap block_of at_old ∙ left_block (slot lots v.block) many ∙ ap (λ i. block_of (slot lots i)) (sym e)
    | inr other ↦ ap block_of (elsewhere b ne other)
  ]

  at_name : (b : ℕ) → b ≡ name → slot lots'' b ≡ Some (new_lot g)
  at_name b e = ap (λ i. slot lots'' i) e ∙ at_new

  pub owned_pool : held' + size_of (slot lots' v.block) ≡ (held + cells_of g) + size_of (left (slot lots' v.block)) → IsPool lots'' views' spare capacity held'
  owned_pool counts = record {
    placed = λ q w there. elim (cases_eq q id) [
      | inl e ↦
          let same : whole_view name g ≡ w = same_Some (whole_view name g) w (sym put_view.changed ∙ ap (λ i. slot views' i) (sym e) ∙ there) in
          subst (λ (x : View). IsPlaced (block_of (slot lots'' x.block)) x) same (subst (λ (o : Option Lot). IsPlaced (block_of o) (whole_view name g)) (sym at_new) (whole_placed g name even))
      | inr ne ↦
          let before : slot views q ≡ Some w = sym (put_view.others q ne) ∙ there in
          subst (λ (b : CellBlock). IsPlaced b w) (sym (stays w.block (nobody q w before))) (ok.placed q w before)
    ];
    counted = λ b.
        let moved = sum_put (on b) refl views views' id (Some (whole_view name g)) put_view in
        let was : on b (slot views id) ≡ on b (Some v) = ap (on b) is in
        elim (cases_eq b name) [
          | inl e ↦
              let users : users_of (slot lots'' b) ≡ 1 = ap users_of (at_name b e) in
              let none : users_of (slot lots b) ≡ 0 = ap (λ i. users_of (slot lots i)) e ∙ ap users_of fresh in
              omega (arith, moved, was, ok.counted b, users, none, on_same b (whole_view name g) (sym e), on_other b v (λ z. apart (z ∙ e)))
          | inr ne ↦ elim (cases_eq b v.block) [
            | inl e ↦
                let users : users_of (slot lots'' b) + 1 ≡ users_of (slot lots b) = ap (λ i. users_of (slot lots'' i) + 1) e ∙ ap (λ (o : Option Lot). users_of o + 1) at_old ∙ left_users (slot lots v.block) (omega (arith, many)) ∙ ap (λ i. users_of (slot lots i)) (sym e) in
                omega (arith, moved, was, ok.counted b, users, on_same b v (sym e), on_other b (whole_view name g) (λ z. ne (sym z)))
            | inr other ↦ omega (arith, moved, was, ok.counted b, ap users_of (elsewhere b ne other), on_other b v (λ z. other (sym z)), on_other b (whole_view name g) (λ z. ne (sym z)))
          ]
        ];
    used = λ b some. elim (cases_eq b name) [
      | inl e ↦ (let users : users_of (slot lots'' b) ≡ 1 = ap users_of (at_name b e) in omega (arith, users))
      | inr ne ↦ elim (cases_eq b v.block) [
        | inl e ↦
            let users : users_of (slot lots'' b) + 1 ≡ users_of (slot lots v.block) = ap (λ i. users_of (slot lots'' i) + 1) e ∙ ap (λ (o : Option Lot). users_of o + 1) at_old ∙ left_users (slot lots v.block) (omega (arith, many)) in
            omega (arith, users, many)
        | inr other ↦ subst (λ (o : Option Lot). 0 < users_of o) (sym (elsewhere b ne other)) (ok.used b (subst IsSome (elsewhere b ne other) some))
      ]
    ];
    even = λ b. elim (cases_eq b name) [
      | inl e ↦ subst (λ (o : Option Lot). IsEven (block_of o)) (sym (at_name b e)) even
      | inr ne ↦ subst IsEven (sym (stays b ne)) (ok.even b)
    ];
    room = (let moved = sum_put one_if_some refl views views' id (Some (whole_view name g)) put_view in omega (arith, moved, ap one_if_some is, ok.room));
    cells = (let first = sum_put size_of refl lots lots' name _ put_new in
        let then = sum_put size_of refl lots' lots'' v.block _ put_old in
        omega (arith, first, then, ap size_of fresh, counts, ok.cells));
  }

  pub owns : (pool : PoolValue) → pool_value lots views spare ≡ pool → g ≡ grid_at pool id → Owns pool (pool_value lots'' views' spare) id
  owns pool e same =
      let here : seen_over lots'' (whole_view name g) ≡ full_view name (grid_at pool id) =
      ap (λ (o : Option Lot). view_on (block_of o) (whole_view name g)) at_new
      ∙ ap (view_with (full_view name g)) (shown_whole g name even)
      ∙ ap (full_view name) same in
      let before : users_of (slot lots' v.block) ≡ users_of (slot lots v.block) = ap users_of (put_new.others v.block apart) in
      let more : 1 < users_of (slot lots' v.block) = omega (arith, before, many) in
      record {
        block = name;
        new_block = block_new lots views spare capacity held ok pool e name fresh;
        views = inserted (seen_over lots) (seen_over lots'') views views' id (λ q w ne there. seen_kept lots lots'' w (stays w.block (nobody q w there))) (whole_view name g) put_view
            ∙ ap₂ (λ (p : PoolValue) (s : ViewValue). insert p.views id s) e here;
        blocks = unchanged lot_cells lot_cells lots' lots'' v.block (λ q w ne there. refl) _ put_old (left_cells (slot lots' v.block) more)
            ∙ inserted lot_cells lot_cells lots lots' name (λ q w ne there. refl) (new_lot g) put_new
            ∙ ap₂ (λ (p : PoolValue) (n : ℕ). insert p.blocks name n) e (ap cells_of same);
        spare = ap (λ (p : PoolValue). p.spare) e;
      }

  -- it is alone there
  pub alone : held' + size_of (slot lots' v.block) ≡ (held + cells_of g) + size_of (left (slot lots' v.block)) → IsSole (pool_value lots'' views' spare) id
  alone counts =
      sole_from_users lots'' views' spare capacity held' (owned_pool counts) (pool_value lots'' views' spare) refl id (whole_view name g) put_view.changed (ap users_of at_new)
