-- How many items of a list a test holds of.
use Rattle.{std.proofs.Common.{◌≡◌, ℕ, zero, suc, ◌+◌, ◌<◌, Bool, true, false, cond, List, [], ◌∷◌, ◌++◌, length, refl, ap, arith, get_or, count_by}, std.proofs.lemmas.{List.Sums.{sum_by-cons, sum_by_push, get_or-le-sum_by}}}

module _ {X : Type 0} (f : X → Bool) where
  abbrev pub one : X → ℕ
  one x = cond {A = ℕ} (f x) 1 0

  pub one_true : (x : X) → f x ≡ true → one x ≡ 1
  one_true x e = ap (λ b. cond {A = ℕ} b 1 0) e

  pub one_false : (x : X) → f x ≡ false → one x ≡ 0
  one_false x e = ap (λ b. cond {A = ℕ} b 1 0) e

  pub counted-cons : (x : X) (xs : List X) → count_by f (x ∷ xs) ≡ one x + count_by f xs
  counted-cons x xs = sum_by-cons one x xs

  pub counted-push : (xs : List X) (x : X) → count_by f (xs ++ x ∷ []) ≡ count_by f xs + one x
  counted-push xs x = sum_by_push one xs x

  -- none, some and two
  pub none_counted : (xs : List X) → count_by f xs ≡ 0 → (k : ℕ) (d : X) → k < length xs → f (get_or xs k d) ≡ false
  none_counted [] e k d lt = absurd (omega (arith, lt))
  none_counted (x ∷ xs) e zero d lt = at (f x) refl
    where
      at : (b : Bool) → f x ≡ b → f x ≡ false
      at true is = absurd (omega (arith, e, counted-cons x xs, one_true x is))
      at false is = is
  none_counted (x ∷ xs) e (suc k) d lt = none_counted xs (omega (arith, e, counted-cons x xs)) k d (omega (arith, lt))

  pub some_counted : (d : X) (xs : List X) → 0 < count_by f xs → (k : ℕ) × (k < length xs) × (f (get_or xs k d) ≡ true)
  some_counted d [] some = absurd (omega (arith, some))
  some_counted d (x ∷ xs) some = at (f x) refl (some_counted d xs)
    where
      at : (b : Bool) → f x ≡ b → (0 < count_by f xs → (k : ℕ) × (k < length xs) × (f (get_or xs k d) ≡ true)) → (k : ℕ) × (k < length (x ∷ xs)) × (f (get_or (x ∷ xs) k d) ≡ true)
      at true is more = (zero, omega arith, is)
      at false is more = (let rest = more (omega (arith, some, counted-cons x xs, one_false x is)) in (suc rest.0, omega (arith, rest.1), rest.2))

  pub here_counted : (xs : List X) (k : ℕ) (d : X) → k < length xs → f (get_or xs k d) ≡ true → 0 < count_by f xs
  here_counted xs k d lt is = omega (arith, get_or-le-sum_by one xs k d lt, one_true (get_or xs k d) is)

  pub two_counted : (d : X) (xs : List X) → 1 < count_by f xs → (i : ℕ) × (j : ℕ) × (i < j) × (j < length xs) × (f (get_or xs i d) ≡ true) × (f (get_or xs j d) ≡ true)
  two_counted d [] two = absurd (omega (arith, two))
  two_counted d (x ∷ xs) two = at (f x) refl (two_counted d xs)
    where
      at : (b : Bool) → f x ≡ b → (1 < count_by f xs → (i : ℕ) × (j : ℕ) × (i < j) × (j < length xs) × (f (get_or xs i d) ≡ true) × (f (get_or xs j d) ≡ true)) → (i : ℕ) × (j : ℕ) × (i < j) × (j < length (x ∷ xs)) × (f (get_or (x ∷ xs) i d) ≡ true) × (f (get_or (x ∷ xs) j d) ≡ true)
      at true is more = (let rest = some_counted d xs (omega (arith, two, counted-cons x xs, one_true x is)) in (zero, suc rest.0, omega arith, omega (arith, rest.1), is, rest.2))
      at false is more = (let rest = more (omega (arith, two, counted-cons x xs, one_false x is)) in (suc rest.0, suc rest.1, omega (arith, rest.2), omega (arith, rest.3), rest.4, rest.5))

  pub twice_counted : (d : X) (xs : List X) (i j : ℕ) → i < j → j < length xs → f (get_or xs i d) ≡ true → f (get_or xs j d) ≡ true → 1 < count_by f xs
  twice_counted d [] i j lt below a b = absurd (omega (arith, below))
  twice_counted d (x ∷ xs) i zero lt below a b = absurd (omega (arith, lt))
  twice_counted d (x ∷ xs) zero (suc j) lt below a b = omega (arith, counted-cons x xs, one_true x a, here_counted xs j d (omega (arith, below)) b)
  twice_counted d (x ∷ xs) (suc i) (suc j) lt below a b = omega (arith, counted-cons x xs, twice_counted d xs i j (omega (arith, lt)) (omega (arith, below)) a b)

  pub counted_none : (xs : List X) → ((k : ℕ) (d : X) → k < length xs → f (get_or xs k d) ≡ false) → count_by f xs ≡ 0
  counted_none [] none = refl
  counted_none (x ∷ xs) none = omega (arith, counted-cons x xs, one_false x (none 0 x (omega arith)), counted_none xs (λ k d lt. none (suc k) d (omega (arith, lt))))
