-- Rows are spread over columns alike where labels are seen with their texts.
use Rattle.{column_core.proofs.cells.Common.{arith, ◌≡◌, ◌∙◌, ap, refl, Bool, List, [], ◌∷◌, ◌++◌, map, zip, All, All-head, All-tail, All-map, map-append, length-map, distinct, Result, Ok, Err, option_map}, multi_index.{specs.pick.Rows.{rows_where, only_row}, proofs.pick.RowLaws.{rows_where-map}}, frame_parts.{specs.align.{Targets.{first_repeated, rows_of_targets}, Joins.{keys_in_order}}, proofs.align.{OrderLaws.{all_distinct, all_in_order, all_flat, in_order_map}, SeenLaws.{first_map, distinct_map}}}, reshape.{specs.shapes.Reshape.{SpreadOf, UnstackRefusal, duplicate_entry, too_large, entries, every_entry, spread_out, unstacked}, proofs.shapes.GridLaws.{zip_seen}}}

module _ {A B : Type 0} (f : A → B) where
  abbrev tuple : List A → List B
  tuple = map f

  -- a spread, and what is answered, whose labels are seen by f
  abbrev pub spread_seen : SpreadOf A → SpreadOf B
  spread_seen s = record { rows = map tuple s.rows; columns = map tuple s.columns; places = s.places }

  abbrev pub refusal_seen : UnstackRefusal (List A) → UnstackRefusal (List B)
  refusal_seen (duplicate_entry labels) = duplicate_entry (tuple labels)
  refusal_seen too_large = too_large

  abbrev pub answer_seen : Result (SpreadOf A) (UnstackRefusal (List A)) → Result (SpreadOf B) (UnstackRefusal (List B))
  answer_seen (Ok s) = Ok (spread_seen s)
  answer_seen (Err refusal) = Err (refusal_seen refusal)

  joined_seen : (rows : List (List A × List A)) → map (λ (row : List B × List B). row.0 ++ row.1) (map (λ (row : List A × List A). (tuple row.0, tuple row.1)) rows) ≡ map tuple (map (λ (row : List A × List A). row.0 ++ row.1) rows)
  joined_seen [] = refl
  joined_seen (row ∷ rows) = cc (map-append f row.0 row.1, joined_seen rows)

  entries_seen : (rest spread : List (List A)) → entries (map tuple rest) (map tuple spread) ≡ map tuple (entries rest spread)
  entries_seen rest spread = ap (map (λ (row : List B × List B). row.0 ++ row.1)) (zip_seen tuple tuple rest spread) ∙ joined_seen (zip rest spread)

  behind_seen : (key : List A) (labels : List (List A)) → map (λ label. tuple key ++ label) (map tuple labels) ≡ map tuple (map (λ label. key ++ label) labels)
  behind_seen key [] = refl
  behind_seen key (label ∷ labels) = cc (map-append f key label, behind_seen key labels)

  every_seen : (keys labels : List (List A)) → every_entry (map tuple keys) (map tuple labels) ≡ map tuple (every_entry keys labels)
  every_seen [] labels = refl
  every_seen (key ∷ keys) labels = grind (arith, map-append, behind_seen key labels, every_seen keys labels)

  module _ (P : List A → Type 0) (joined : (a b : List A) → P a → P b → P (a ++ b)) (same less : List A → List A → Bool) (same' less' : List B → List B → Bool)
      (equal : (x y : List A) → P x → P y → same' (tuple x) (tuple y) ≡ same x y) (below : (x y : List A) → P x → P y → less' (tuple x) (tuple y) ≡ less x y) where
    keys_seen : (keys : List (List A)) → All P keys → keys_in_order same' less' (map tuple keys) ≡ map tuple (keys_in_order same less keys)
    keys_seen keys all = cc (distinct_map tuple P same same' equal keys all, in_order_map P tuple less less' below (distinct same keys) (all_distinct P same keys all))

    all_keys : (keys : List (List A)) → All P keys → All P (keys_in_order same less keys)
    all_keys keys all = all_in_order P less _ (all_distinct P same keys all)

    all_entries : (rows : List (List A × List A)) → All (λ row. P row.0 × P row.1) rows → All P (map (λ (row : List A × List A). row.0 ++ row.1) rows)
    all_entries rows all = All-map P (λ row. row.0 ++ row.1) rows (λ k d lt. joined _ _ (all k d lt).0 (all k d lt).1)

    both : (rest spread : List (List A)) → All P rest → All P spread → All (λ row. P row.0 × P row.1) (zip rest spread)
    both [] spread h k = grind arith
    both (x ∷ xs) [] h k = grind arith
    both (x ∷ xs) (y ∷ ys) h k = grind (arith, All-head P x xs h, All-head P y ys k, both xs ys (All-tail P x xs h) (All-tail P y ys k))

    all_every : (keys labels : List (List A)) → All P keys → All P labels → All P (every_entry keys labels)
    all_every keys labels h k = all_flat P P _ (λ key here. All-map P (λ label. key ++ label) labels (λ i d lt. joined key _ here (k i d lt))) keys h

    module _ (rows : List (List A)) (given : All P rows) where
      rows_seen : (key : List A) → P key → rows_where (same' (tuple key)) 0 (map tuple rows) ≡ rows_where (same key) 0 rows
      rows_seen = search rows_where-map

      targets_seen : (targets : List (List A)) → All P targets → rows_of_targets same' (map tuple rows) (map tuple targets) ≡ rows_of_targets same rows targets
      targets_seen [] _ = refl
      targets_seen (t ∷ targets) all = λ i. only_row (rows_seen t (All-head P t targets all) i) ∷ targets_seen targets (All-tail P t targets all) i

      repeated_seen : first_repeated same' (map tuple rows) ≡ option_map tuple (first_repeated same rows)
      repeated_seen = search (first_map, rows_seen)

    spread_is : (rest spread : List (List A)) → All P rest → All P spread → spread_out same' less' (map tuple rest) (map tuple spread) ≡ spread_seen (spread_out same less rest spread)
    spread_is rest spread h k =
        let all = all_entries (zip rest spread) (both rest spread h k) in
        let keys = keys_seen rest h in
        let labels = keys_seen spread k in
        let every = all_every _ _ (all_keys rest h) (all_keys spread k) in
        cc (keys, labels, entries_seen rest spread, every_seen (keys_in_order same less rest) (keys_in_order same less spread), targets_seen (entries rest spread) all _ every)

    -- rows are spread, or refused, alike
    pub unstacked_seen : (rest spread : List (List A)) → All P rest → All P spread → unstacked same' less' (map tuple rest) (map tuple spread) ≡ answer_seen (unstacked same less rest spread)
    unstacked_seen rest spread h k =
        let all = all_entries (zip rest spread) (both rest spread h k) in
        grind (arith, length-map, spread_is rest spread h k, entries_seen rest spread, repeated_seen (entries rest spread) all)
