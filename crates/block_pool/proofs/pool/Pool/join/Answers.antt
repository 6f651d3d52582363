use Rattle.{
  column_core.proofs.cells.Common.{◌≡◌, ◌<◌, ◌+◌, ◌^◌, ◌∙◌, ℕ, ap, arith, sym, subst, length, All, slice_index_or, get_or-map, length-map, refl, vec_len, ◌≤◌, ◌++◌, List, vec_capacity},
  column_core.specs.Blocks.{IsColumnOf, columns_in},
  block_pool.{specs.{declared.views.ViewId.{ViewId}, Pools.{numbers_of, total_of, grid_at, IsApart, Ends}}, proofs.{PoolLaws.{total_small}, JoinLaws.{joining_start, one_apart, one_room, joining_more, last_apart, last_fit, last_few, last_room, joins, joins_held}}},
}
use Rattle.block_pool.proofs.pool.Pool.join.Goals as goal

pub loop-k-init : goal.loop-k-init
loop-k-init c = record {
  joining = joining_start c.args.self.now (numbers_of c.args.first.now) c.args.last.0 c.requires.views c.args.room.items c.requires.empty;
  room = c.requires.room;
}

named : (first : List ViewId) (k : ℕ) → k < length first → slice_index_or (numbers_of first) k 0 ≡ (slice_index_or first k record { 0 = 0 }).0
named first k lt = get_or-map (λ (v : ViewId). v.0) first k record { 0 = 0 } 0 lt

long : (first : List ViewId) → length (numbers_of first) ≡ length first
long first = length-map first (λ (v : ViewId). v.0)

pub take-requires-clause-apart : goal.take-requires-clause-apart
take-requires-clause-apart c =
    subst (IsApart c.loop-k.self) (named c.args.first.now c.loop-k.k (omega arith))
    (one_apart c.args.self.now (numbers_of c.args.first.now) c.args.last.0 c.requires.views c.loop-k.self c.loop-k.k _ c.loop-k.invariant.joining (omega (arith, long c.args.first.now)))

pub take-requires-clause-room : goal.take-requires-clause-room
take-requires-clause-room c =
    subst (λ (id : ℕ). vec_len c.loop-k.columns + length (grid_at c.loop-k.self id).columns ≤ vec_capacity c.loop-k.columns) (named c.args.first.now c.loop-k.k (omega arith))
    (one_room c.args.self.now (numbers_of c.args.first.now) c.args.last.0 c.requires.views c.loop-k.self c.loop-k.k _ c.loop-k.invariant.joining (omega (arith, long c.args.first.now)) (vec_len c.loop-k.columns) (vec_capacity c.loop-k.columns) (omega (arith, c.loop-k.columns.ok.0)) c.loop-k.invariant.room)

pub loop-k-preserved : goal.loop-k-preserved
loop-k-preserved c =
    let old = c.args.self.now in
    let ids = numbers_of c.args.first.now in
    let self = c.loop-k.self in
    let new = c.take.new.self in
    let lt : c.loop-k.k < length ids = omega (arith, long c.args.first.now) in
    let same = sym (named c.args.first.now c.loop-k.k (omega arith)) in
    record {
      joining = joining_more old ids c.args.last.0 c.requires.views self c.loop-k.k _ c.loop-k.invariant.joining lt new c.take.new.list.items
          (subst (Ends self new) same c.take.ensures.ended)
          (c.take.ensures.items ∙ ap (λ (id : ℕ). c.loop-k.columns.items ++ columns_in (grid_at self id)) same)
          (subst (λ (id : ℕ). All (IsColumnOf (grid_at self id).kind (grid_at self id).rows) (columns_in (grid_at self id))) same c.take.ensures.fit);
      room = omega (arith, c.take.ensures.capacity, c.loop-k.invariant.room);
    }

pub put_before-requires : goal.put_before-requires
put_before-requires c =
    let old = c.args.self.now in
    let ids = numbers_of c.args.first.now in
    let self = c.loop-k.self in
    let all : c.loop-k.k ≡ length ids = omega (arith, long c.args.first.now) in
    let small : total_of old < 2 ^ 64 = total_small c.self.inside.lots.slots c.self.inside.views.slots c.self.inside.spare _ c.self.inside.held c.self.invariant old c.self.view_is (omega arith) in
    record {
      apart = last_apart old ids c.args.last.0 c.requires.views self c.loop-k.k _ c.loop-k.invariant.joining all;
      fit = last_fit old ids c.args.last.0 c.requires.views self c.loop-k.k _ c.loop-k.invariant.joining all small;
      few = last_few old ids c.args.last.0 c.requires.views self c.loop-k.k _ c.loop-k.invariant.joining all (length c.loop-k.columns.items) refl small;
      room = last_room old ids c.args.last.0 c.requires.views self c.loop-k.k _ c.loop-k.invariant.joining all (vec_len c.loop-k.columns) (vec_capacity c.loop-k.columns) (omega (arith, c.loop-k.columns.ok.0)) c.loop-k.invariant.room;
    }

pub returns : goal.returns
returns c =
    let old = c.args.self.now in
    let ids = numbers_of c.args.first.now in
    let self = c.loop-k.self in
    let all : c.loop-k.k ≡ length ids = omega (arith, long c.args.first.now) in
    record {
      joins = joins old ids c.args.last.0 c.requires.views self c.loop-k.k _ c.loop-k.invariant.joining all c.put_before.new.self c.put_before.ensures;
      held = joins_held old ids c.args.last.0 c.requires.views self c.loop-k.k _ c.loop-k.invariant.joining all c.put_before.new.self c.put_before.ensures;
    }
