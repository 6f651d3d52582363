-- Rows that are pushed one after another.
use Rattle.{
  column_core.{proofs.cells.Common.{◌≡◌, ℕ, zero, suc, ◌+◌, ◌<◌, Bool, List, [], ◌∷◌, ◌++◌, length, slice_get, refl, arith, Option, Some, is_some, unwrap_or, inl, inr, cases_eq, get_or-append, get_or-append_seam}, specs.Rows.{flagged, AreWritten}},
  nullable_array.specs.Pairs.{AreFlagged, AreValued},
}

-- what stands before a pushed item, and the pushed item
get_before : {T : Type 0} (xs : List T) (x : T) (k : ℕ) → k < length xs → slice_get (xs ++ x ∷ []) k ≡ slice_get xs k
get_before [] x k h = absurd (omega arith)
get_before (y ∷ ys) x zero h = refl
get_before (y ∷ ys) x (suc k) h = get_before ys x k (omega arith)

get_last : {T : Type 0} (xs : List T) (x : T) → slice_get (xs ++ x ∷ []) (length xs) ≡ Some x
get_last [] x = refl
get_last (y ∷ ys) x = get_last ys x

module _ {X Y U : Type 0} (xs : ℕ → Option X) (ps : ℕ → Bool) (ys : ℕ → Option Y) (qs : ℕ → Bool) where
  -- a value more
  pub value_pushed : (value : X → Bool → Y → Bool → U) (n : ℕ) (values : List U) (x : X) (y : Y) (v : U) → AreValued value xs ps ys qs n values → length values ≡ n → xs n ≡ Some x → ys n ≡ Some y → v ≡ value x (ps n) y (qs n)
      → AreValued value xs ps ys qs (n + 1) (values ++ v ∷ [])
  value_pushed _ n _ x y v so_far many a b is k below =
      elim (cases_eq k n) [
        | inl same ↦ grind (arith, slice_get, get_last)
        | inr other ↦
            let before = so_far k (omega (arith, other)) in
            (grind (arith, get_before))
      ]

  -- flags and values that are made are rows that are written
  pub sides_written : (row : Option X → Option Y → Option (Option U)) (flag : X → Bool → Y → Bool → Bool) (value : X → Bool → Y → Bool → U) (a : ℕ → Option X) (b : ℕ → Option Y)
      → ((x : X) (p : Bool) (y : Y) (q : Bool) → row (flagged p x) (flagged q y) ≡ Some (flagged (flag x p y q) (value x p y q)))
      → ((k : ℕ) (x : X) → xs k ≡ Some x → a k ≡ flagged (ps k) x) → ((k : ℕ) (y : Y) → ys k ≡ Some y → b k ≡ flagged (qs k) y)
      → (count : ℕ) (flags : List Bool) (values : List U) → AreFlagged flag xs ps ys qs count flags → AreValued value xs ps ys qs count values → AreWritten (λ k. row (a k) (b k)) count values flags
  sides_written row flag value a b row_is a_is b_is count flags values are_flagged are_valued k below =
      let made = are_valued k below in
      grind arith

-- a row more
pub row_pushed : {T : Type 0} (at : ℕ → Option (Option T)) (i : ℕ) (values : List T) (present : List Bool) (o : Option T) (blank : T) → AreWritten at i values present → length values ≡ i → length present ≡ i → at i ≡ Some o
    → AreWritten at (i + 1) (values ++ unwrap_or o blank ∷ []) (present ++ is_some o ∷ [])
row_pushed _ i _ _ o _ so_far hv hp e k below =
    elim (cases_eq k i) [
      | inl same ↦ grind (arith, is_some, slice_get, unwrap_or, get_or-append_seam, get_last)
      | inr other ↦ grind (arith, slice_get, get_or-append, get_before, unwrap_or, is_some)
    ]
