-- Laws of the values that none behind them beats.
use Rattle.{
  column_core.proofs.cells.Common.{◌≡◌, ◌≢◌, suc, ◌-◌, ◌≤◌, arith, ℤ, Bool, true, false, not, List, [], ◌∷◌, ◌++◌, length, drop, filter, fold, slice_get, refl, sym, ap, subst, ◌∙◌, Option, Some, None, list_any, list_any-append, filter-append, append-nil, length-append, drop-append_seam, IsStrictWeakOrder, ranks_by, if◌then◌else◌},
  std.{specs.{Option.{option_to_list, option_eq}, Bool.{Decides}, Ordering.{int_eq}}, proofs.lemmas.{Cmp.{int_cmp_total, back_total}, Bool.Decides.{Decides-int_eq}}},
  rolling.specs.{declared.candidates.Extreme.{Extreme, TheVariants.{Least, Greatest}}, Candidates.{beats, unbeaten}},
}

pub beats_weak : (extreme : Extreme) → IsStrictWeakOrder (beats extreme)
beats_weak Least = ranks_by int_cmp_total (λ (x : ℤ). x)
beats_weak Greatest = ranks_by (back_total int_cmp_total) (λ (x : ℤ). x)

-- the value that is further out; of equal ones the first
abbrev pub further : (ℤ → ℤ → Bool) → Option ℤ → ℤ → Option ℤ
further beat None x = Some x
further beat (Some best) x = if beat x best then Some x else Some best

module _ (beat : ℤ → ℤ → Bool) where
  -- a value more: those that it beats are none any more
  pub unbeaten_push : (xs : List ℤ) (x : ℤ) → unbeaten beat (xs ++ x ∷ []) ≡ filter (λ y. not (beat x y)) (unbeaten beat xs) ++ x ∷ []
  unbeaten_push [] x = refl
  unbeaten_push (y ∷ xs) x = grind (arith, list_any-append, unbeaten_push xs x)

  pub unbeaten_fewer : (xs : List ℤ) → length (unbeaten beat xs) ≤ length xs
  unbeaten_fewer [] = omega arith
  unbeaten_fewer (x ∷ xs) = grind (arith, unbeaten_fewer xs)

  -- each value is beaten by none behind it
  abbrev pub AreUnbeaten : List ℤ → Type 0
  AreUnbeaten [] = Unit {0}
  AreUnbeaten (x ∷ xs) = (list_any (λ y. beat y x) xs ≡ false) × AreUnbeaten xs

  none_fewer : (p : ℤ → Bool) (xs : List ℤ) → list_any p xs ≡ false → list_any p (unbeaten beat xs) ≡ false
  none_fewer p [] h = refl
  none_fewer p (x ∷ xs) h = grind (arith, none_fewer p xs)

  pub are_unbeaten : (xs : List ℤ) → AreUnbeaten (unbeaten beat xs)
  are_unbeaten [] = tt
  are_unbeaten (x ∷ xs) = by (list_any (λ y. beat y x) xs) refl (are_unbeaten xs)
    where
      by : (b : Bool) → list_any (λ y. beat y x) xs ≡ b → AreUnbeaten (unbeaten beat xs) → AreUnbeaten (if b then unbeaten beat xs else x ∷ unbeaten beat xs)
      by true e rest = rest
      by false e rest = (none_fewer (λ y. beat y x) xs e, rest)

  unbeaten_front : (xs ys : List ℤ) → AreUnbeaten (xs ++ ys) → AreUnbeaten xs
  unbeaten_front [] ys h = tt
  unbeaten_front (x ∷ xs) ys (h, hs) = (grind (arith, list_any-append), unbeaten_front xs ys hs)

  -- the last value, where there is one
  at_end : (x : ℤ) (a b : ℤ) (xs : List ℤ) → list_any (beat x) (drop (length (a ∷ b ∷ xs) - 1) (a ∷ b ∷ xs)) ≡ list_any (beat x) (drop (length (b ∷ xs) - 1) (b ∷ xs))
  at_end x a b xs = let less : length (a ∷ b ∷ xs) - 1 ≡ suc (length (b ∷ xs) - 1) = omega arith in rw less refl

  end_is : (xs : List ℤ) (b : ℤ) → drop (length (xs ++ b ∷ []) - 1) (xs ++ b ∷ []) ≡ b ∷ []
  end_is xs b = let many : length (xs ++ b ∷ []) - 1 ≡ length xs = omega (arith, length-append xs (b ∷ [])) in rw (many, drop-append_seam) refl

  -- a beaten value that is popped
  module _ (x : ℤ) (items rest : List ℤ) (r : Option ℤ) (popped : items ≡ rest ++ option_to_list r) where
    pub pop_keeps : list_any (beat x) (drop (length items - 1) items) ≡ true → filter (λ y. not (beat x y)) rest ≡ filter (λ y. not (beat x y)) items
    pop_keeps h = by r popped
      where
        by : (o : Option ℤ) → items ≡ rest ++ option_to_list o → filter (λ y. not (beat x y)) rest ≡ filter (λ y. not (beat x y)) items
        by None e = grind (arith, append-nil)
        by (Some b) e =
            let P : List ℤ → Type 0 = λ l. list_any (beat x) (drop (length l - 1) l) ≡ true in
            let last_beaten : list_any (beat x) (b ∷ []) ≡ true = rw end_is at (subst P e h) in
            grind (arith, filter-append, append-nil)

    pub pop_unbeaten : AreUnbeaten items → AreUnbeaten rest
    pop_unbeaten h = let P : List ℤ → Type 0 = λ l. AreUnbeaten l in unbeaten_front rest _ (subst P popped h)

  none_filtered : (x : ℤ) (xs : List ℤ) → list_any (beat x) xs ≡ false → filter (λ y. not (beat x y)) xs ≡ xs
  none_filtered x [] h = refl
  none_filtered x (y ∷ xs) h = grind (arith, none_filtered x xs)

  module _ (weak : IsStrictWeakOrder beat) where
    none_beaten : (x : ℤ) (xs : List ℤ) → AreUnbeaten xs → list_any (beat x) (drop (length xs - 1) xs) ≡ false → list_any (beat x) xs ≡ false
    none_beaten x [] h e = refl
    none_beaten x (a ∷ []) h e = e
    none_beaten x (a ∷ b ∷ xs) (h, hs) e = grind (arith, weak.chain x b a, none_beaten x (b ∷ xs) hs (sym (at_end x a b xs) ∙ e))

    -- where the last isn't beaten, none is
    pub all_kept : (x : ℤ) (xs : List ℤ) → AreUnbeaten xs → list_any (beat x) (drop (length xs - 1) xs) ≡ false → filter (λ y. not (beat x y)) xs ≡ xs
    all_kept x xs h e = none_filtered x xs (none_beaten x xs h e)

    -- a value comes in behind those that it doesn't beat
    pub unbeaten_come : (x : ℤ) (values old left new : List ℤ) → old ≡ unbeaten beat values → (AreUnbeaten old → AreUnbeaten left) → filter (λ y. not (beat x y)) left ≡ filter (λ y. not (beat x y)) old
        → list_any (beat x) (drop (length left - 1) left) ≡ false → new ≡ left ++ x ∷ [] → new ≡ unbeaten beat (values ++ x ∷ [])
    unbeaten_come x values old left new is keeps same none made =
        let P : List ℤ → Type 0 = λ l. AreUnbeaten l in
        let stay : filter (λ y. not (beat x y)) left ≡ left = all_kept x left (keeps (subst P (sym is) (are_unbeaten values))) none in
        cc (unbeaten_push values x)

    between : (x z : ℤ) (xs : List ℤ) → list_any (λ y. beat y z) xs ≡ true → list_any (λ y. beat y x) xs ≡ false → beat z x ≡ false
    between x z [] e f = absurd (cc)
    between x z (w ∷ xs) e f = grind (arith, weak.one_way z x, weak.chain w x z, between x z xs)

    -- the first of them is beaten by no value at all
    first_unbeaten : (xs : List ℤ) (x : ℤ) → slice_get (unbeaten beat xs) 0 ≡ Some x → list_any (λ y. beat y x) xs ≡ false
    first_unbeaten [] x e = refl
    first_unbeaten (z ∷ xs) x e = grind (arith, weak.one_way z z, between x z xs, first_unbeaten xs x)

    -- the first value of the window leaves
    pub unbeaten_leave : (items xs : List ℤ) (x : ℤ) → items ≡ unbeaten beat (x ∷ xs) → slice_get items 0 ≡ Some x → drop 1 items ≡ unbeaten beat xs
    unbeaten_leave items xs x is first = grind (arith, first_unbeaten xs x)

    pub unbeaten_stay : (items xs : List ℤ) (x : ℤ) → items ≡ unbeaten beat (x ∷ xs) → slice_get items 0 ≢ Some x → items ≡ unbeaten beat xs
    unbeaten_stay items xs x is other = by (list_any (λ y. beat y x) xs) is
      where
        by : (b : Bool) → items ≡ (if b then unbeaten beat xs else x ∷ unbeaten beat xs) → items ≡ unbeaten beat xs
        by true e = e
        by false e = absurd (other (ap (λ l. slice_get l 0) e))

    -- a beaten value beats what doesn't beat it
    through : (x a : ℤ) (xs : List ℤ) → beat x a ≡ false → list_any (λ y. beat y a) xs ≡ true → list_any (λ y. beat y x) xs ≡ true
    through x a [] h e = e
    through x a (y ∷ xs) h e = grind (arith, weak.chain y x a, through x a xs)

    -- the first of them is what a walk finds that keeps the value that is furthest out
    first_found : (a : ℤ) (xs : List ℤ) → fold (further beat) (Some a) xs ≡ (if list_any (λ y. beat y a) xs then slice_get (unbeaten beat xs) 0 else Some a)
    first_found a [] = refl
    first_found a (x ∷ xs) = grind (arith, first_found x xs, first_found a xs, through x a xs)

    pub first_is_furthest : (xs : List ℤ) → fold (further beat) None xs ≡ slice_get (unbeaten beat xs) 0
    first_is_furthest [] = refl
    first_is_furthest (x ∷ xs) = grind (arith, first_found x xs)

-- The same of values that are sought at one end: what a loop that pops the beaten ones keeps.
module _ (sought extreme : Extreme) (same : extreme ≡ sought) (x : ℤ) (old items : List ℤ) (found : Bool) (last_is : found ≡ list_any (beats extreme x) (drop (length items - 1) items)) where
  pub popped_kept : (rest : List ℤ) (r : Option ℤ) → found ≡ true → items ≡ rest ++ option_to_list r → filter (λ y. not (beats sought x y)) items ≡ filter (λ y. not (beats sought x y)) old → filter (λ y. not (beats sought x y)) rest ≡ filter (λ y. not (beats sought x y)) old
  popped_kept rest r is popped kept = grind (arith, pop_keeps (beats sought) x items rest r popped)

  -- and what stands there at its end, with the value behind it
  pub come_kept : (z : ℤ) (values new : List ℤ) → x ≡ z → found ≡ false → old ≡ unbeaten (beats sought) values → (AreUnbeaten (beats sought) old → AreUnbeaten (beats sought) items) → filter (λ y. not (beats sought x y)) items ≡ filter (λ y. not (beats sought x y)) old
      → new ≡ items ++ z ∷ [] → new ≡ unbeaten (beats sought) (values ++ z ∷ [])
  come_kept z values new at is was keeps kept made =
      let none : list_any (beats sought x) (drop (length items - 1) items) ≡ false = rw (← same) (cc) in
      rw (← at) (unbeaten_come (beats sought) (beats_weak sought) x values old items new was keeps kept none (rw at made))

-- the test whether the first is the value that leaves
pub first_told : (first : Option ℤ) (x z : ℤ) (found : Bool) → z ≡ x → found ≡ option_eq int_eq first (Some z) → Decides found (first ≡ Some x)
first_told None x z found e test = (λ yes. absurd (cc), λ h. absurd (cc))
first_told (Some y) x z found e test = (λ yes. ap Some ((Decides-int_eq y z).0 (sym test ∙ yes) ∙ e), λ h. test ∙ (Decides-int_eq y z).1 (cc))
