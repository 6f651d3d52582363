-- What is passed, and which row is the nearest one.
use Rattle.{column_core.proofs.cells.Common.{◌≡◌, ◌≢◌, ◌<◌, ◌+◌, ◌&&◌, ◌∙◌, ap, sym, refl, arith, ℕ, ℤ, pos, Bool, true, false, List, map, length, set, slice_index, slice_index_or, Option, Some, None, nat_eq, cases_eq, cases_lt, cases_Bool, ne_eqb, eq-eqb, inl, inr, subst, ◌⊎◌, All, IfSome, get_or-set_same, get_or-set_other, get_or-map, length-map, length-set, ext_get_or}, std.proofs.lemmas.{Slice.Zip.{get_or-zip, length-zip}, Int.{ints}}, meaning_asof.{specs.{AsOf.{is_on_side, is_within, may_meet, candidates, nearest, asof_rows, IsNearest, IsNearer}, declared.Direction.{Direction, TheVariants.{Backward, Forward}}}, proofs.NearestLaws.{nearest_is}}, asof_merge.specs.Walk.{rows_of, key_at, IsAscending, IsPassed, IsNext, IsNearestPassed, AreNearestPassed, AreOnSide, AreBeyond, row_within, found_row}}

-- one row more is passed
pub passed_more : (direction : Direction) (count passed row other : ℕ) → IsNext direction count passed row → other < count → IsPassed direction count (passed + 1) other → (other ≢ row) → IsPassed direction count passed other
passed_more Backward count passed row other next lt is ne = omega arith
passed_more Forward count passed row other next lt is ne = omega arith

pub next_passed : (direction : Direction) (count passed row : ℕ) → IsNext direction count passed row → IsPassed direction count (passed + 1) row
next_passed Backward count passed row next = omega arith
next_passed Forward count passed row next = omega arith

pub passed_too : (direction : Direction) (count passed row : ℕ) → IsPassed direction count passed row → IsPassed direction count (passed + 1) row
passed_too Backward count passed row is = omega arith
passed_too Forward count passed row is = omega arith

none_nearer : (direction : Direction) (count passed row other : ℕ) → IsNext direction count passed row → other < count → IsPassed direction count (passed + 1) other → IsNearer direction row other → ⊥
none_nearer Backward count passed row other next lt is nearer = omega arith
none_nearer Forward count passed row other next lt is nearer = omega arith

module _ (direction : Direction) (groups : List ℕ) (passed row : ℕ) (next : IsNext direction (length groups) passed row) (lt : row < length groups) where
  other_group : (group : ℕ) (r : Option ℕ) → slice_index groups row ≢ group → IsNearestPassed direction groups passed group r → IsNearestPassed direction groups (passed + 1) group r
  other_group group None ne h = λ other below is same. elim (cases_eq other row) [
    | inl e ↦ ne (ap (slice_index groups) (sym e) ∙ same)
    | inr apart ↦ h other below (passed_more direction _ passed row other next below is apart) same
  ]
  other_group group (Some best) ne h = (
    h.0,
    passed_too direction _ passed best h.1,
    h.2,
    λ other below is nearer same. elim (cases_eq other row) [
      | inl e ↦ ne (ap (slice_index groups) (sym e) ∙ same)
      | inr apart ↦ h.3 other below (passed_more direction _ passed row other next below is apart) nearer same
    ],
  )

  own_group : IsNearestPassed direction groups (passed + 1) (slice_index groups row) (Some row)
  own_group = (lt, next_passed direction _ passed row next, refl, λ other below is nearer same. none_nearer direction _ passed row other next below is nearer)

  -- the row is the nearest one of its group now
  pub nearest_more : (rows : List (Option ℕ)) → slice_index groups row < length rows → AreNearestPassed direction groups passed rows → AreNearestPassed direction groups (passed + 1) (set rows (slice_index groups row) (Some row))
  nearest_more rows known are group below =
      let own = slice_index groups row in
      let few : group < length rows = omega (arith, length-set {A = Option ℕ}) in
      elim (cases_eq group own) [
        | inl e ↦
            let is : slice_index_or (set rows own (Some row)) group None ≡ Some row = grind (arith, get_or-set_same) in
            subst (λ r. IsNearestPassed direction groups (passed + 1) group r) (sym is) (subst (λ g. IsNearestPassed direction groups (passed + 1) g (Some row)) (sym e) own_group)
        | inr apart ↦
            let is : slice_index_or (set rows own (Some row)) group None ≡ slice_index_or rows group None = grind (arith, get_or-set_other) in
            subst (λ r. IsNearestPassed direction groups (passed + 1) group r) (sym is) (other_group group _ (λ e. apart (sym e)) (are group few))
      ]

-- no row was passed
pub none_passed : (direction : Direction) (groups : List ℕ) (rows : List (Option ℕ)) → All (λ row. row ≡ None) rows → AreNearestPassed direction groups 0 rows
none_passed direction groups rows none group below =
    subst (λ r. IsNearestPassed direction groups 0 group r) (sym (none group None below)) (nothing direction)
  where
    nothing : (direction : Direction) → IsNearestPassed direction groups 0 group None
    nothing Backward other lt is same = omega arith
    nothing Forward other lt is same = omega arith

pub none_on_side : (direction : Direction) (key : ℤ) (keys : List ℤ) → AreOnSide direction key keys 0
none_on_side Backward key keys other lt is = absurd (omega arith)
none_on_side Forward key keys other lt is = absurd (omega arith)

-- the nearest row is one of the side
pub row_there : (direction : Direction) (groups : List ℕ) (passed group : ℕ) (r : Option ℕ) → IsNearestPassed direction groups passed group r → IfSome r (λ row. row < length groups)
row_there direction groups passed group None h = tt
row_there direction groups passed group (Some row) h = h.0

-- on which side of a key the keys of rows lie
module _ (key : ℤ) (keys : List ℤ) where
  pub on_side_more : (direction : Direction) (passed row : ℕ) → IsNext direction (length keys) passed row → is_on_side direction key (key_at keys row) ≡ true → AreOnSide direction key keys passed → AreOnSide direction key keys (passed + 1)
  on_side_more direction passed row next here are other lt is = elim (cases_eq other row) [
    | inl e ↦ ap (λ k. is_on_side direction key (key_at keys k)) e ∙ here
    | inr apart ↦ are other lt (passed_more direction _ passed row other next lt is apart)
  ]

  pub none_beyond : (direction : Direction) → AreBeyond direction key keys (length keys)
  none_beyond Backward other lt beyond = absurd (beyond lt)
  none_beyond Forward other lt beyond = absurd (beyond (omega arith))

  pub beyond_next : (direction : Direction) (passed row : ℕ) → IsAscending keys → IsNext direction (length keys) passed row → row < length keys → is_on_side direction key (key_at keys row) ≡ false → AreBeyond direction key keys passed
  beyond_next Backward passed row ascending next lt here other below beyond = grind (arith, ints, ascending row other (omega arith) below)
  beyond_next Forward passed row ascending next lt here other below beyond = grind (arith, ints, ascending other row (omega arith) lt)

-- the keys passed lie on the side of the key that comes up too
pub on_side_next : (direction : Direction) (count step row : ℕ) (keys : List ℤ) → IsAscending keys → count ≡ length keys → IsNext direction count step row → row < count
    → (later : ℕ) → later < count → (IsPassed direction count (step + 1) later → ⊥) → (other : ℤ) → is_on_side direction (key_at keys row) other ≡ true → is_on_side direction (key_at keys later) other ≡ true
on_side_next Backward count step row keys ascending size next lt later below yet other here = grind (arith, ints, ascending row later (omega arith) (omega arith))
on_side_next Forward count step row keys ascending size next lt later below yet other here = grind (arith, ints, ascending later row (omega arith) (omega arith))

-- two keys on one side: the nearer one isn't farther
closer : (tolerance : Option ℕ) (direction : Direction) (key near far : ℤ) → is_on_side direction key near ≡ true → is_on_side direction near far ≡ true → is_within tolerance key near ≡ false → is_within tolerance key far ≡ false
closer None direction key near far one two beyond = cc
closer (Some most) Backward key near far one two beyond = grind (arith, ints)
closer (Some most) Forward key near far one two beyond = grind (arith, ints)

passed_or_not : (direction : Direction) (count passed row : ℕ) → IsPassed direction count passed row ⊎ (IsPassed direction count passed row → ⊥)
passed_or_not Backward count passed row = elim (cases_lt row passed) [ inl lt ↦ inl lt | inr le ↦ inr (λ lt. omega arith) ]
passed_or_not Forward count passed row = elim (cases_lt (row + passed) count) [ inl lt ↦ inr (λ le. omega arith) | inr le ↦ inl le ]

-- a row is nearer than another one, or its key isn't nearer
nearer_or_not : (direction : Direction) (keys : List ℤ) → IsAscending keys → (row other : ℕ) → row < length keys → other < length keys
    → IsNearer direction row other ⊎ (is_on_side direction (key_at keys row) (key_at keys other) ≡ true)
nearer_or_not Backward keys ascending row other lt below = elim (cases_lt row other) [ inl nearer ↦ inl nearer | inr le ↦ inr (grind (arith, ints, ascending other row le lt)) ]
nearer_or_not Forward keys ascending row other lt below = elim (cases_lt other row) [ inl nearer ↦ inl nearer | inr le ↦ inr (grind (arith, ints, ascending row other le below)) ]

-- the key and the group of a row
pub row_at : (keys : List ℤ) (groups : List ℕ) (row : ℕ) → length groups ≡ length keys → row < length keys → slice_index_or (rows_of keys groups) row (None, 0) ≡ (Some (key_at keys row), slice_index groups row)
row_at keys groups row alike lt = grind (arith, get_or-zip (map Some keys) groups row (None, 0), length-map, get_or-map Some keys row (pos 0) None)

pub length_rows : (keys : List ℤ) (groups : List ℕ) → length groups ≡ length keys → length (rows_of keys groups) ≡ length keys
length_rows = grind (arith, length-zip, length-map)

module _ (direction : Direction) (tolerance : Option ℕ) (keys : List ℤ) (groups : List ℕ) (ascending : IsAscending keys) (alike : length groups ≡ length keys) (key : ℤ) (group : ℕ) where
  abbrev meets : Option ℤ × ℕ → Bool
  meets other = nat_eq group other.1 && may_meet direction tolerance (Some key) other.0

  abbrev meets_at : ℕ → Bool
  meets_at row = nat_eq group (slice_index groups row) && (is_on_side direction key (key_at keys row) && is_within tolerance key (key_at keys row))

  module _ (passed : ℕ) (on_side : AreOnSide direction key keys passed) (beyond : AreBeyond direction key keys passed) where
    unpassed : (row : ℕ) → row < length keys → (IsPassed direction (length keys) passed row → ⊥) → meets_at row ≡ false
    unpassed row lt yet = grind (arith, beyond row lt yet)

    of_another : (row : ℕ) → slice_index groups row ≢ group → meets_at row ≡ false
    of_another row ne = grind (arith, nat_eq, ne_eqb)

    nearest_passed : (r : Option ℕ) → IsNearestPassed direction groups passed group r → IsNearest direction meets_at (length keys) (row_within tolerance key keys r)
    nearest_passed None h = λ other lt. elim (passed_or_not direction (length keys) passed other) [
      | inl is ↦ of_another other (h other (omega arith) (rw alike is))
      | inr yet ↦ unpassed other lt yet
    ]
    nearest_passed (Some row) h =
        let lt : row < length keys = omega (arith, h.0) in
        let passed_by : IsPassed direction (length keys) passed row = rw (← alike) h.1 in
        let here : is_on_side direction key (key_at keys row) ≡ true = on_side row lt passed_by in
        let of_group : (other : ℕ) → other < length keys → IsPassed direction (length keys) passed other → IsNearer direction row other → meets_at other ≡ false
        = λ other below is nearer. of_another other (h.3 other (omega arith) (rw alike is) nearer) in
        elim (cases_Bool (is_within tolerance key (key_at keys row))) [
          | inl e ↦
              let is : row_within tolerance key keys (Some row) ≡ Some row = grind arith in
              let so : meets_at row ≡ true = grind (arith, nat_eq, eq-eqb, h.2) in
              subst (IsNearest direction meets_at (length keys)) (sym is) (
                lt,
                so,
                λ other below nearer. elim (passed_or_not direction (length keys) passed other) [
                  | inl by ↦ of_group other below by nearer
                  | inr yet ↦ unpassed other below yet
                ],
              )
          | inr e ↦
              let is : row_within tolerance key keys (Some row) ≡ None = grind arith in
              subst (IsNearest direction meets_at (length keys)) (sym is) (λ other below. elim (passed_or_not direction (length keys) passed other) [
                | inl by ↦ elim (nearer_or_not direction keys ascending row other lt below) [
                  | inl nearer ↦ of_group other below by nearer
                  | inr behind ↦ grind (arith, closer tolerance direction key (key_at keys row) (key_at keys other) here behind e)
                ]
                | inr yet ↦ unpassed other below yet
              ])
        ]

    -- the nearest of the candidates is the nearest row of the group that was passed, unless it is too far
    pub row_found : (r : Option ℕ) → IsNearestPassed direction groups passed group r → nearest direction (candidates nat_eq direction tolerance (rows_of keys groups) (Some key, group)) ≡ row_within tolerance key keys r
    row_found r h =
        nearest_is meets (None, 0) direction (rows_of keys groups) _ (rw (length_rows keys groups alike) (seen (row_within tolerance key keys r) (nearest_passed r h)))
      where
        same_at : (row : ℕ) → row < length keys → meets (slice_index_or (rows_of keys groups) row (None, 0)) ≡ meets_at row
        same_at row lt = ap meets (row_at keys groups row alike lt)

        seen : (r : Option ℕ) → IsNearest direction meets_at (length keys) r → IsNearest direction (λ row. meets (slice_index_or (rows_of keys groups) row (None, 0))) (length keys) r
        seen None none = λ other lt. same_at other lt ∙ none other lt
        seen (Some row) is = (is.0, same_at row is.0 ∙ is.1, λ other lt nearer. same_at other lt ∙ is.2 other lt nearer)

-- the nearest row for each row of a side
pub all_found : (direction : Direction) (tolerance : Option ℕ) (keys : List ℤ) (groups : List ℕ) (others : List (Option ℤ × ℕ)) (found : List (Option ℕ)) → length groups ≡ length keys → length found ≡ length keys
    → ((row : ℕ) → row < length keys → slice_index_or found row None ≡ found_row direction tolerance keys groups others row)
    → found ≡ asof_rows nat_eq direction tolerance (rows_of keys groups) others
all_found direction tolerance keys groups others found alike size are =
    let answer = λ (r : Option ℤ × ℕ). nearest direction (candidates nat_eq direction tolerance others r) in
    let count = length_rows keys groups alike in
    ext_get_or None _ _ (grind (arith, length-map))
    (λ row lt.
    let below : row < length keys = omega arith in
    are row below ∙ sym (get_or-map answer (rows_of keys groups) row (None, 0) None (omega arith) ∙ ap answer (row_at keys groups row alike below)))

pub all_passed : (direction : Direction) (count row : ℕ) → row < count → IsPassed direction count count row
all_passed Backward count row lt = lt
all_passed Forward count row lt = omega arith

pub next_unpassed : (direction : Direction) (count passed row : ℕ) → row < count → IsNext direction count passed row → IsPassed direction count passed row → ⊥
next_unpassed Backward count passed row lt next is = omega arith
next_unpassed Forward count passed row lt next is = omega arith

-- one row more comes up
module _ (direction : Direction) (keys others : List ℤ) (step row passed : ℕ) (ascending : IsAscending keys) (next : IsNext direction (length keys) step row) (lt : row < length keys)
    (key : ℤ) (key_is : key ≡ key_at keys row) (on_side : AreOnSide direction key others passed) where
  pub on_side_kept : (later : ℕ) → later < length keys → (IsPassed direction (length keys) (step + 1) later → ⊥) → AreOnSide direction (key_at keys later) others passed
  on_side_kept later below yet other inside is =
      on_side_next direction _ step row keys ascending refl next lt later below yet _ (ap (λ k. is_on_side direction k (key_at others other)) (sym key_is) ∙ on_side other inside is)

  module _ (tolerance : Option ℕ) (groups of_others : List ℕ) (others_ascending : IsAscending others) (alike : length of_others ≡ length others)
      (best : List (Option ℕ)) (nearest_are : AreNearestPassed direction of_others passed best) (group : ℕ) (group_is : group ≡ slice_index groups row) (known : group < length best)
      (beyond : AreBeyond direction key others passed) (found : List (Option ℕ)) (size : length found ≡ length keys) (r : Option ℕ) (is : r ≡ row_within tolerance key others (slice_index_or best group None))
      (so_far : (at : ℕ) → at < length keys → IsPassed direction (length keys) step at → slice_index_or found at None ≡ found_row direction tolerance keys groups (rows_of others of_others) at) where
    own_row : slice_index_or (set found row r) row None ≡ found_row direction tolerance keys groups (rows_of others of_others) row
    own_row =
        let room : row < length found = omega arith in
        get_or-set_same found row r None room ∙ is
        ∙ sym (row_found direction tolerance others of_others others_ascending alike key group passed on_side beyond _ (nearest_are group known))
        ∙ (λ i. nearest direction (candidates nat_eq direction tolerance (rows_of others of_others) (Some (key_is i), group_is i)))

    pub found_more : (at : ℕ) → at < length keys → IsPassed direction (length keys) (step + 1) at
        → slice_index_or (set found row r) at None ≡ found_row direction tolerance keys groups (rows_of others of_others) at
    found_more at below passed_by = elim (cases_eq at row) [
      | inl e ↦ subst (λ k. slice_index_or (set found row r) k None ≡ found_row direction tolerance keys groups (rows_of others of_others) k) (sym e) own_row
      | inr apart ↦ get_or-set_other found row at r None apart ∙ so_far at below (passed_more direction _ step row at next below passed_by apart)
    ]
