-- What calls of a manager leave.
use Rattle.{std.proofs.Common.{◌≡◌, ℕ, ◌+◌, ◌<◌, ◌≤◌, List, [], ◌∷◌, ◌++◌, map, length, refl, ap, ap₂, sym, ◌∙◌, subst, arith, get_or, All, Bool, true, false, inl}, std.proofs.lemmas.{List.{get_or-map, map-append, append-nil}, List.Edits.{insert_end}, List.Elements.{All-push}, List.Sums.{sum_by-append, sum_by_push}}, std.specs.{Prelude.{slice_index, slice_index_or, insert, remove, sum}}, cell_core.specs.declared.cell.Cell.{Cell}, column_core.specs.Blocks.{CellBlock}, meaning_tables.specs.{Table.{ColumnOf, column_at}, Change.{put_at}}, block_pool.{specs.{declared.views.ViewId.{ViewId}, Pools.{PoolValue, grid_at, total_of, cells_of, Adds, IsFree, IsLive, IsSole}}, proofs.{ChangeLaws.{adds_alone, adds_count, adds_other, adds_sole, adds_view, grid_is, live_not_free}, HeldLaws.{adds_held}}}, block_manager.{specs.{declared.spots.Spot.{Spot}, Parts.{block_column, IsSingle}, Managed.{Place, ManagerValue, AreJoined, AreLive, AreSole, StandsOn, Exchanges, Keeps, RaisesBy, cells_named, columns_on, times, view_of}, Changes.{AddsAll, EndsEach, Lays, grids_of, numbers_of}, Spots.{AreOn, place_of, laid_out, spot_at, spot_columns, shifted, all_single, AreAloneAt, Fits, Shows, Stands, TakesLast, AreMarked, AreOwnAt, AreSoleBut, IsAloneAt, marked, picked_cost, rows_at}}, proofs.{TimesLaws.{same, times_here, times_place, live_in, live_some}, GridLaws.{grids_kept, numbers_long, numbers_push}, SpotLaws.{spots_on}, MarkLaws.{named_cost}, BothLaws.{put_in-removed, behind_fit, behind_columns, blocks_fit, blocks_columns}, ShowLaws.{shows_stand, shows_columns, shows_many, shows_kept, inserted_shows, single_shows}, LayLaws.{lays_count, lays_kept, lays_live, lays_more}, RenewLaws.{still_live, renew_apart, renew_views, renew_kept, renew_held, renew_shows, renew_sole, taken_views, taken_kept, taken_live, taken_shows}, AddingLaws.{added_copy}, SoleLaws.{sole_then}}}}

-- other views came in place of a manager's
module _ (old mid new : PoolValue) (m after : ManagerValue) (made : List ℕ) (spots : List Spot) (columns : List (ColumnOf Cell)) (stands : StandsOn old m) (lays : Lays old made mid) (shows : Shows mid made spots columns) (is : after ≡ laid_out made spots) (ended : EndsEach mid m.views new) where
  after_shows : Shows new made spots columns
  after_shows = renew_shows old mid new made m.views lays stands.live ended spots columns shows

  pub renewed_columns : columns_on new after ≡ columns
  renewed_columns = ap (columns_on new) is ∙ shows_columns new made spots columns after_shows

  pub renewed_stands : StandsOn new after
  renewed_stands = subst (StandsOn new) (sym is) (shows_stand new made spots columns after_shows)

  pub renewed_views : Exchanges old new m.views after.views
  renewed_views = subst (λ (n : ManagerValue). Exchanges old new m.views n.views) (sym is) (renew_views old mid new made m.views lays stands.live ended)

  pub renewed_kept : Keeps old new m.views
  renewed_kept = renew_kept old mid new made m.views lays stands.live ended

  pub renewed_held : (n : ℕ) → total_of mid ≤ total_of old + n → RaisesBy n old new
  renewed_held = renew_held old mid new made m.views lays stands.live ended

-- a block came in place of a column, on a view behind those of the others
module _ (mid added : PoolValue) (made after : List ViewId) (spots spots' : List Spot) (columns : List (ColumnOf Cell)) (id : ViewId) (block : CellBlock) (first : Spot) (shows : Shows mid (numbers_of made) spots columns) (free : IsFree mid id.0) (adds : Adds mid added id.0 block) (single : IsSingle block)
    (is_first : first ≡ record { view = 0; column = 0 }) (place : ℕ) (views_are : after ≡ made ++ id ∷ []) (spots_are : spots' ≡ insert spots place (shifted (length made) first)) where
  numbers : numbers_of after ≡ numbers_of made ++ id.0 ∷ []
  numbers = ap numbers_of views_are ∙ numbers_push made id

  pub put_lays : (old : PoolValue) → Lays old (numbers_of made) mid → Lays old (numbers_of after) added
  put_lays old lays = subst (λ (ids : List ℕ). Lays old ids added) (sym numbers) (lays_more old (numbers_of made) mid added id.0 block lays free (inl (added_copy mid added id.0 block adds)))

  both_live : AreLive added (numbers_of made ++ id.0 ∷ [])
  both_live q = omega (arith, shows.stands.live q, adds_count mid added id.0 block adds free q, sum_by_push (same q) (numbers_of made) id.0)

  one_live : AreLive added (id.0 ∷ [])
  one_live q = omega (arith, both_live q, sum_by-append (same q) (numbers_of made) (id.0 ∷ []))

  then_shows : Shows added (numbers_of made) spots columns
  then_shows = shows_kept mid (numbers_of made) spots columns shows added (λ q some. adds_other mid added id.0 block adds q (live_not_free mid id.0 q free (live_some mid q (omega (arith, some, shows.stands.live q)))))

  alone_shows : Shows added (id.0 ∷ []) (first ∷ []) (block_column block ∷ [])
  alone_shows = subst (λ (s : Spot). Shows added (id.0 ∷ []) (s ∷ []) (block_column block ∷ [])) (sym is_first)
      (single_shows added id.0 block one_live (grid_is added id.0 adds.block block (adds_view mid added id.0 block adds)) single)

  pub put_shows : Shows added (numbers_of after) spots' (insert columns place (block_column block))
  put_shows =
      subst (λ (ids : List ℕ). Shows added ids spots' (insert columns place (block_column block))) (sym numbers)
      (subst (λ (ss : List Spot). Shows added (numbers_of made ++ id.0 ∷ []) ss (insert columns place (block_column block))) (sym (spots_are ∙ ap (λ (n : ℕ). insert spots place (shifted n first)) (sym (numbers_long made))))
      (inserted_shows added (numbers_of made) (id.0 ∷ []) spots columns first (block_column block) then_shows alone_shows both_live place))

  -- where those before them are a manager's
  pub put_views : Exchanges mid added (numbers_of made) (numbers_of after)
  put_views q = omega (arith, adds_count mid added id.0 block adds free q, ap (times q) numbers, sum_by_push (same q) (numbers_of made) id.0)

  pub put_kept : Keeps mid added (numbers_of made)
  put_kept q none one = adds_other mid added id.0 block adds q (live_not_free mid id.0 q free (live_some mid q (omega (arith, one))))

  pub put_held : total_of added ≡ total_of mid + cells_of block
  put_held = adds_held mid added id.0 block adds

-- views that were alone on their blocks still are, and the new one is
pub put_alone : (mid added : PoolValue) (before after : List ViewId) (id : ViewId) (block : CellBlock) → AreLive mid (numbers_of before) → IsFree mid id.0 → Adds mid added id.0 block → after ≡ before ++ id ∷ [] → All (IsSole mid) (numbers_of before) → All (IsSole added) (numbers_of after)
put_alone mid added before after id block live free adds is sole =
    subst (All (IsSole added)) (sym (ap numbers_of is ∙ numbers_push before id))
    (All-push (IsSole added) (numbers_of before) id.0 (λ k d lt.
    (let q : ℕ = get_or (numbers_of before) k d in
    let there : IsLive mid q = live_in mid (numbers_of before) k d live lt in
    adds_sole mid added id.0 block adds q (live_not_free mid id.0 q free there) there (sole k d lt)))
    (adds_alone mid added id.0 block adds))

-- a column that was removed and put in again, and one that is last
pub put_columns : (columns : List (ColumnOf Cell)) (place : ℕ) (c : ColumnOf Cell) → place < length columns → insert (remove columns place) place c ≡ put_at columns place c
put_columns columns place c lt = put_in-removed columns place c lt

pub last_columns : (pool : PoolValue) (views : List ℕ) (spots : List Spot) (columns : List (ColumnOf Cell)) (c : ColumnOf Cell) (place : ℕ) → Shows pool views spots columns → place ≡ length spots → insert columns place c ≡ columns ++ c ∷ []
last_columns pool views spots columns c place shows e = ap (λ n. insert columns n c) (e ∙ sym (shows_many pool views spots columns shows)) ∙ insert_end columns c

-- blocks came before all columns
module _ (old mid : PoolValue) (m : ManagerValue) (added before views : List ViewId) (blocks : List CellBlock) (spots spots' : List Spot) (shows : Shows old (numbers_of before) spots (columns_on old m)) (views_of : m.views ≡ numbers_of before) (adds : AddsAll old mid (numbers_of added) blocks) (single : All IsSingle blocks)
    (views_are : views ≡ added ++ before) (spots_are : spots' ≡ all_single (length blocks) ++ map (shifted (length blocks)) spots) where
  first_numbers : numbers_of views ≡ numbers_of added ++ numbers_of before
  first_numbers = ap numbers_of views_are ∙ map-append (λ (v : ViewId). v.0) added before

  before_grids : grids_of mid (numbers_of before) ≡ grids_of old (numbers_of before)
  before_grids = grids_kept old mid (numbers_of before) (λ k lt. lays_kept old (numbers_of added) mid adds.lays (slice_index (numbers_of before) k) (live_in old (numbers_of before) k 0 shows.stands.live lt))

  grids : grids_of mid (numbers_of views) ≡ blocks ++ grids_of old (numbers_of before)
  grids = ap (grids_of mid) first_numbers ∙ map-append (grid_at mid) (numbers_of added) (numbers_of before) ∙ ap₂ (λ (a b : List CellBlock). a ++ b) adds.grids before_grids

  first_live : AreLive mid (numbers_of views)
  first_live q = omega (arith, ap (times q) first_numbers, sum_by-append (same q) (numbers_of added) (numbers_of before), lays_count old (numbers_of added) mid adds.lays q, shows.stands.live q)

  pub first_shows : Shows mid (numbers_of views) spots' (map block_column blocks ++ columns_on old m)
  first_shows = subst (λ (ss : List Spot). Shows mid (numbers_of views) ss (map block_column blocks ++ columns_on old m)) (sym spots_are) (record {
    stands = record {
      live = first_live;
      fits = subst (λ (gs : List CellBlock). Fits gs (all_single (length blocks) ++ map (shifted (length blocks)) spots)) (sym grids) (behind_fit blocks (grids_of old (numbers_of before)) (all_single (length blocks)) spots (blocks_fit blocks single) shows.stands.fits);
    };
    columns_are = ap (λ (gs : List CellBlock). spot_columns gs (all_single (length blocks) ++ map (shifted (length blocks)) spots)) grids
        ∙ behind_columns blocks (grids_of old (numbers_of before)) (all_single (length blocks)) spots (blocks_fit blocks single) shows.stands.fits
        ∙ ap₂ (λ (a b : List (ColumnOf Cell)). a ++ b) (blocks_columns blocks single) shows.columns_are;
  })

  pub first_views : Exchanges old mid m.views (numbers_of views)
  first_views q = omega (arith, ap (times q) first_numbers, ap (times q) views_of, sum_by-append (same q) (numbers_of added) (numbers_of before), lays_count old (numbers_of added) mid adds.lays q)

  pub first_kept : Keeps old mid m.views
  first_kept q none one = lays_kept old (numbers_of added) mid adds.lays q (live_some old q (omega (arith, one)))

  pub first_held : RaisesBy (sum (map cells_of blocks)) old mid
  first_held = omega (arith, adds.held)

-- blocks alone
module _ (old mid : PoolValue) (added : List ViewId) (blocks : List CellBlock) (spots : List Spot) (adds : AddsAll old mid (numbers_of added) blocks) (single : All IsSingle blocks) (spots_are : spots ≡ all_single (length blocks) ++ []) where
  each_single : spots ≡ all_single (length blocks)
  each_single = spots_are ∙ append-nil (all_single (length blocks))

  pub blocks_show : Shows mid (numbers_of added) spots (map block_column blocks)
  blocks_show = record {
    stands = record {
      live = lays_live old (numbers_of added) mid adds.lays;
      fits = subst (λ (gs : List CellBlock). Fits gs spots) (sym adds.grids) (subst (Fits blocks) (sym each_single) (blocks_fit blocks single));
    };
    columns_are = ap₂ (λ (gs : List CellBlock) (ss : List Spot). spot_columns gs ss) adds.grids each_single ∙ blocks_columns blocks single;
  }

  pub blocks_sole : All (IsSole mid) (numbers_of added)
  blocks_sole k d lt = adds.sole (get_or (numbers_of added) k d) (times_here (numbers_of added) k d (get_or (numbers_of added) k d) lt refl)

-- the one column of another manager
one_spot : (spots : List Spot) (s : Spot) → length spots ≡ 1 → s ≡ slice_index_or spots 0 s → spots ≡ s ∷ []
one_spot [] s one at = absurd (omega (arith, one))
one_spot (x ∷ []) s one at = ap (λ (t : Spot). t ∷ []) (sym at)
one_spot (x ∷ y ∷ rest) s one at = absurd (omega (arith, one))

pub one_shows : (pool : PoolValue) (views : List ℕ) (spots : List Spot) (columns : List (ColumnOf Cell)) (s : Spot) → Shows pool views spots columns → length spots ≡ 1 → s ≡ slice_index_or spots 0 s → Shows pool views (s ∷ []) (column_at columns 0 ∷ [])
one_shows pool views spots columns s shows one at =
    subst (λ (ss : List Spot). Shows pool views ss (column_at columns 0 ∷ [])) (one_spot spots s one at)
    (subst (Shows pool views spots) (one_column columns (shows_many pool views spots columns shows ∙ one)) shows)
  where
    one_column : (cs : List (ColumnOf Cell)) → length cs ≡ 1 → cs ≡ column_at cs 0 ∷ []
    one_column [] e = absurd (omega (arith, e))
    one_column (c ∷ []) e = refl
    one_column (c ∷ d ∷ more) e = absurd (omega (arith, e))

-- the column of another manager came in place of one
module _ (old mid : PoolValue) (m from : ManagerValue) (made others views : List ViewId) (spots spots' from_spots : List Spot) (columns : List (ColumnOf Cell)) (s : Spot) (lays : Lays old (numbers_of made) mid) (shows : Shows mid (numbers_of made) spots columns)
    (from_shows : Shows old (numbers_of others) from_spots (columns_on old from)) (one : length from_spots ≡ 1) (at : s ≡ slice_index_or from_spots 0 s) (from_views : from.views ≡ numbers_of others) (apart : AreLive old (m.views ++ from.views)) (place : ℕ)
    (views_are : views ≡ made ++ others) (spots_are : spots' ≡ insert spots place (shifted (length made) s)) where
  abbrev c : ColumnOf Cell
  c = column_at (columns_on old from) 0

  took_numbers : numbers_of views ≡ numbers_of made ++ numbers_of others
  took_numbers = ap numbers_of views_are ∙ map-append (λ (v : ViewId). v.0) made others

  apart_there : AreLive old (m.views ++ numbers_of others)
  apart_there = subst (λ (ids : List ℕ). AreLive old (m.views ++ ids)) from_views apart

  other_shows : Shows mid (numbers_of others) (s ∷ []) (c ∷ [])
  other_shows = shows_kept old (numbers_of others) (s ∷ []) (c ∷ []) (one_shows old (numbers_of others) from_spots (columns_on old from) s from_shows one at) mid
      (λ q some. lays_kept old (numbers_of made) mid lays q (live_some old q (omega (arith, some, from_shows.stands.live q))))

  both_shows : Shows mid (numbers_of made ++ numbers_of others) spots' (insert columns place c)
  both_shows =
      subst (λ (ss : List Spot). Shows mid (numbers_of made ++ numbers_of others) ss (insert columns place c)) (sym (spots_are ∙ ap (λ (n : ℕ). insert spots place (shifted n s)) (sym (numbers_long made))))
      (inserted_shows mid (numbers_of made) (numbers_of others) spots columns s c shows other_shows (taken_live old mid (numbers_of made) m.views (numbers_of others) lays apart_there) place)

  pub took_on : AreOn (length views) spots'
  took_on =
      subst (λ n. AreOn n spots') (ap length (sym took_numbers) ∙ numbers_long views)
      (spots_on mid (numbers_of made ++ numbers_of others) spots' both_shows.stands)

  module _ (new : PoolValue) (after : ManagerValue) (is : after ≡ laid_out (numbers_of views) spots') (ended : EndsEach mid m.views new) where
    took_after : Shows new (numbers_of views) spots' (insert columns place c)
    took_after = subst (λ (ids : List ℕ). Shows new ids spots' (insert columns place c)) (sym took_numbers)
        (taken_shows old mid new (numbers_of made) m.views (numbers_of others) lays apart_there ended spots' (insert columns place c) both_shows)

    pub took_columns : columns_on new after ≡ insert columns place c
    took_columns = ap (columns_on new) is ∙ shows_columns new (numbers_of views) spots' (insert columns place c) took_after

    pub took_stands : StandsOn new after
    took_stands = subst (StandsOn new) (sym is) (shows_stand new (numbers_of views) spots' (insert columns place c) took_after)

    pub took_views : Exchanges old new (m.views ++ from.views) after.views
    took_views =
        subst (λ (n : ManagerValue). Exchanges old new (m.views ++ from.views) n.views) (sym is)
        (subst (λ (ids : List ℕ). Exchanges old new (m.views ++ from.views) ids) (sym took_numbers)
        (subst (λ (ids : List ℕ). Exchanges old new (m.views ++ ids) (numbers_of made ++ numbers_of others)) (sym from_views)
        (taken_views old mid new (numbers_of made) m.views (numbers_of others) lays apart_there ended)))

    pub took_kept : Keeps old new (m.views ++ from.views)
    took_kept = subst (λ (ids : List ℕ). Keeps old new (m.views ++ ids)) (sym from_views) (taken_kept old mid new (numbers_of made) m.views (numbers_of others) lays apart_there ended)

-- the same behind all columns
pub taken_last : (pool : PoolValue) (m from after : ManagerValue) (views others : List ViewId) (views' : List ViewId) (spots spots' from_spots : List Spot) (s : Spot) → Shows pool (numbers_of views) spots (columns_on pool m) → Shows pool (numbers_of others) from_spots (columns_on pool from) → length from_spots ≡ 1 → s ≡ slice_index_or from_spots 0 s
    → m.views ≡ numbers_of views → from.views ≡ numbers_of others → AreLive pool (m.views ++ from.views) → (place : ℕ) → place ≡ length spots → views' ≡ views ++ others → spots' ≡ insert spots place (shifted (length views) s) → after ≡ laid_out (numbers_of views') spots' → TakesLast pool m from after
taken_last pool m from after views others views' spots spots' from_spots s shows from_shows one at views_of from_of live place last views_are spots_are is =
    let numbers : numbers_of views' ≡ numbers_of views ++ numbers_of others = ap numbers_of views_are ∙ map-append (λ (v : ViewId). v.0) views others in
    let c : ColumnOf Cell = column_at (columns_on pool from) 0 in
    let both : AreLive pool (numbers_of views ++ numbers_of others) = subst (λ (ids : List ℕ). AreLive pool (numbers_of views ++ ids)) from_of (subst (λ (ids : List ℕ). AreLive pool (ids ++ from.views)) views_of live) in
    let all : Shows pool (numbers_of views') spots' (insert (columns_on pool m) place c) =
    subst (λ (ids : List ℕ). Shows pool ids spots' (insert (columns_on pool m) place c)) (sym numbers)
    (subst (λ (ss : List Spot). Shows pool (numbers_of views ++ numbers_of others) ss (insert (columns_on pool m) place c)) (sym (spots_are ∙ ap (λ (n : ℕ). insert spots place (shifted n s)) (sym (numbers_long views))))
    (inserted_shows pool (numbers_of views) (numbers_of others) spots (columns_on pool m) s c shows (one_shows pool (numbers_of others) from_spots (columns_on pool from) s from_shows one at) both place)) in
    record {
      stands = subst (StandsOn pool) (sym is) (shows_stand pool (numbers_of views') spots' (insert (columns_on pool m) place c) all);
      columns = ap (columns_on pool) is ∙ shows_columns pool (numbers_of views') spots' (insert (columns_on pool m) place c) all ∙ last_columns pool (numbers_of views) spots (columns_on pool m) c place shows last;
      views = ap (λ (n : ManagerValue). n.views) is ∙ numbers ∙ ap₂ (λ (a b : List ℕ). a ++ b) (sym views_of) (sym from_of);
    }

-- the views of columns that are alone on their blocks, by spots
module _ (pool : PoolValue) (m : ManagerValue) (views : List ℕ) (spots : List Spot) (is : laid_out views spots ≡ m) (places : List ℕ) (below : All (λ place. place < length spots) places) where
  view_is : (place : ℕ) → place < length spots → view_of m place ≡ slice_index views (spot_at spots place).view
  view_is place lt =
      ap (λ (n : ManagerValue). view_of n place) (sym is)
      ∙ ap (λ (p : Place). p.view) (get_or-map (place_of views) spots place record { view = 0; column = 0 } record { view = 0; column = 0 } lt)

  pub sole_there : AreSole pool m places → AreAloneAt pool views spots places
  sole_there sole k d lt = subst (IsSole pool) (view_is (get_or places k d) (below k d lt)) (sole k d lt)

  pub sole_here : AreAloneAt pool views spots places → AreSole pool m places
  sole_here alone k d lt = subst (IsSole pool) (sym (view_is (get_or places k d) (below k d lt))) (alone k d lt)

-- the views of columns that are named are alone once the old views ended
module _ (old mid new : PoolValue) (m after : ManagerValue) (views made : List ℕ) (spots now : List Spot) (columns : List (ColumnOf Cell)) (marks split : List Bool) (places : List ℕ) (stands : StandsOn old m) (views_of : m.views ≡ views) (there : Stands old views spots) (lays : Lays old made mid) (shows : Shows mid made now columns) (many : length now ≡ length spots)
    (own : AreOwnAt mid made now marks) (sole_but : AreSoleBut old mid views made spots now split) (named : AreMarked old views spots marks split places) (below : All (λ place. place < length spots) places) (is : after ≡ laid_out made now) (ended : EndsEach mid m.views new) where
  made_some : (place : ℕ) → place < length spots → 0 < times (slice_index made (spot_at now place).view) made
  made_some place lt =
      let inside : (spot_at now place).view < length made = spots_on mid made now shows.stands place record { view = 0; column = 0 } (omega (arith, lt, many)) in
      times_here made (spot_at now place).view 0 (slice_index made (spot_at now place).view) inside refl

  alone_marked : (place : ℕ) → place < length spots → marked marks place ≡ true → IsSole new (slice_index made (spot_at now place).view)
  alone_marked place lt is_marked = renew_sole old mid new made m.views lays stands.live ended (slice_index made (spot_at now place).view) (made_some place lt) (own place (omega (arith, lt, many)) is_marked).sole

  alone_whole : (place : ℕ) → place < length spots → IsAloneAt old views spots place → IsSole new (slice_index made (spot_at now place).view)
  alone_whole place lt alone = at (marked split (spot_at spots place).view) refl
    where
      some : 0 < times (slice_index views (spot_at spots place).view) m.views
      some = subst (λ (ids : List ℕ). 0 < times (slice_index views (spot_at spots place).view) ids) (sym views_of)
          (times_here views (spot_at spots place).view 0 (slice_index views (spot_at spots place).view) (spots_on old views spots there place record { view = 0; column = 0 } lt) refl)

      at : (b : Bool) → marked split (spot_at spots place).view ≡ b → IsSole new (slice_index made (spot_at now place).view)
      at true e = absurd (named.shared (spot_at spots place).view e alone)
      at false e =
          sole_then mid new m.views (slice_index made (spot_at now place).view) (slice_index views (spot_at spots place).view) (still_live old mid made m.views lays stands.live) ended some
          (renew_apart old mid new made m.views lays stands.live ended (slice_index made (spot_at now place).view) (made_some place lt)) (sole_but place lt e alone)

  alone_at : (place : ℕ) → place < length spots → (marked marks place ≡ false → IsAloneAt old views spots place) → IsSole new (slice_index made (spot_at now place).view)
  alone_at place lt rest = at (marked marks place) refl
    where
      at : (b : Bool) → marked marks place ≡ b → IsSole new (slice_index made (spot_at now place).view)
      at true e = alone_marked place lt e
      at false e = alone_whole place lt (rest e)

  pub own_alone : AreSole new after places
  own_alone = sole_here new after made now (sym is) places (λ k d lt. omega (arith, below k d lt, many)) (λ k d lt. alone_at (get_or places k d) (below k d lt) (named.named k d lt))

-- no more was copied than what was named
pub own_held : (old mid : PoolValue) (views : List ℕ) (spots : List Spot) (columns : List (ColumnOf Cell)) (marks split : List Bool) (places : List ℕ) → Shows old views spots columns → AreMarked old views spots marks split places → total_of mid ≡ total_of old + picked_cost (rows_at (grids_of old views)) marks spots → total_of mid ≤ total_of old + cells_named columns places
own_held old mid views spots columns marks split places shows named held =
    omega (arith, held, named_cost old views (grids_of old views) spots marks split places shows.stands.fits named, ap (λ (cs : List (ColumnOf Cell)). cells_named cs places) shows.columns_are)

-- a manager with one view at most has its columns on that one
pub joined_few : (pool : PoolValue) (m : ManagerValue) → StandsOn pool m → length m.views ≤ 1 → AreJoined pool m
joined_few pool m stands few i d li j e lj same =
    let p : Place = get_or m.places i d in
    let q : Place = get_or m.places j e in
    let a = times_place p.view 0 m.views (stands.placed i d li).view in
    let b = times_place q.view 0 m.views (stands.placed j e lj).view in
    sym b.2 ∙ ap (slice_index m.views) (omega (arith, a.1, b.1, few)) ∙ a.2
