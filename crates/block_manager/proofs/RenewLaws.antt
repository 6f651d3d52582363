-- Views that came in place of others, which ended.
use Rattle.{std.proofs.Common.{◌≡◌, ℕ, ◌+◌, ◌<◌, ◌≤◌, List, [], ◌++◌, ◌∙◌, arith}, std.proofs.lemmas.{List.Sums.{sum_by-append}}, cell_core.specs.declared.cell.Cell.{Cell}, meaning_tables.specs.Table.{ColumnOf}, block_pool.specs.Pools.{PoolValue, live_count, total_of, IsSole}, block_manager.{specs.{declared.spots.Spot.{Spot}, Managed.{AreLive, Exchanges, Keeps, RaisesBy, times}, Changes.{EndsEach, Lays}, Spots.{Shows}}, proofs.{TimesLaws.{same, live_once, live_same, live_some}, ChainLaws.{ends_each_count, ends_each_other, ends_each_held, ends_each_sole}, LayLaws.{lays_count, lays_kept}, ShowLaws.{shows_kept}}}}

-- views that ended
module _ (old new : PoolValue) (views : List ℕ) (live : AreLive old views) (ended : EndsEach old views new) where
  pub released_views : Exchanges old new views []
  released_views id = omega (arith, ends_each_count old views new live ended id)

  pub released_kept : Keeps old new views
  released_kept id none one = ends_each_other old views new ended id none

  pub released_held : RaisesBy 0 old new
  released_held = omega (arith, ends_each_held old views new ended)

-- views that were live still are
pub still_live : (old mid : PoolValue) (made before : List ℕ) → Lays old made mid → AreLive old before → AreLive mid before
still_live old mid made before lays live q = omega (arith, live q, lays_count old made mid lays q)

-- new views, and views that ended
module _ (old mid new : PoolValue) (made before : List ℕ) (lays : Lays old made mid) (live : AreLive old before) (ended : EndsEach mid before new) where
  live_mid : AreLive mid before
  live_mid = still_live old mid made before lays live

  pub renew_count : (q : ℕ) → live_count new q + times q before ≡ live_count old q + times q made
  renew_count q = omega (arith, ends_each_count mid before new live_mid ended q, lays_count old made mid lays q)

  pub renew_apart : (q : ℕ) → 0 < times q made → times q before ≡ 0
  renew_apart q some = omega (arith, some, live q, lays_count old made mid lays q, live_once mid q)

  pub renew_views : Exchanges old new before made
  renew_views q = omega (arith, renew_count q)

  pub renew_kept : Keeps old new before
  renew_kept q none one = ends_each_other mid before new ended q none ∙ lays_kept old made mid lays q (live_some old q (omega (arith, one)))

  pub renew_held : (n : ℕ) → total_of mid ≤ total_of old + n → RaisesBy n old new
  renew_held n most = omega (arith, most, ends_each_held mid before new ended)

  pub renew_sole : (q : ℕ) → 0 < times q made → IsSole mid q → IsSole new q
  renew_sole q some sole = ends_each_sole mid before new ended q (renew_apart q some) sole

  pub renew_shows : (spots : List Spot) (columns : List (ColumnOf Cell)) → Shows mid made spots columns → Shows new made spots columns
  renew_shows spots columns shows = shows_kept mid made spots columns shows new (λ q some. ends_each_other mid before new ended q (renew_apart q some))

-- new views, and views of another manager
pub taken_live : (old mid : PoolValue) (made before taken : List ℕ) → Lays old made mid → AreLive old (before ++ taken) → AreLive mid (made ++ taken)
taken_live old mid made before taken lays live q = omega (arith, live q, sum_by-append (same q) before taken, lays_count old made mid lays q, sum_by-append (same q) made taken)

-- the same where views of another manager came with the new ones
module _ (old mid new : PoolValue) (made before taken : List ℕ) (lays : Lays old made mid) (live : AreLive old (before ++ taken)) (ended : EndsEach mid before new) where
  both : (q : ℕ) → times q (before ++ taken) ≡ times q before + times q taken
  both q = sum_by-append (same q) before taken

  before_live : AreLive old before
  before_live q = omega (arith, live q, both q)

  pub taken_views : Exchanges old new (before ++ taken) (made ++ taken)
  taken_views q = omega (arith, renew_count old mid new made before lays before_live ended q, both q, sum_by-append (same q) made taken)

  pub taken_kept : Keeps old new (before ++ taken)
  taken_kept q none one = renew_kept old mid new made before lays before_live ended q (omega (arith, none, both q)) one

  pub taken_apart : (q : ℕ) → 0 < times q (made ++ taken) → times q before ≡ 0
  taken_apart q some = omega (arith, some, live q, both q, lays_count old made mid lays q, live_once mid q, sum_by-append (same q) made taken)

  pub taken_shows : (spots : List Spot) (columns : List (ColumnOf Cell)) → Shows mid (made ++ taken) spots columns → Shows new (made ++ taken) spots columns
  taken_shows spots columns shows = shows_kept mid (made ++ taken) spots columns shows new (λ q some. ends_each_other mid before new ended q (taken_apart q some))

-- one change after another
pub then_views : (old mid new : PoolValue) (before between after : List ℕ) → Exchanges old mid before between → Exchanges mid new between after → Exchanges old new before after
then_views old mid new before between after first next q = omega (arith, first q, next q)

pub then_kept : (old mid new : PoolValue) (before between : List ℕ) → Exchanges old mid before between → Keeps old mid before → Keeps mid new between → Keeps old new before
then_kept old mid new before between first kept next q none one =
    let same = kept q none one in
    let live = live_same old mid q same in
    next q (omega (arith, first q, none, one, live_once mid q)) (omega (arith, live, one)) ∙ same
