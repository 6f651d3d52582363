-- The longest front of bytes that pass a test.
use Rattle.meaning_language.{proofs.cells.Common.{◌≡◌, refl, ℕ, zero, suc, ◌+◌, ◌<◌, ◌≤◌, Bool, true, false, ◌&&◌, List, [], ◌∷◌, ◌++◌, length, take, drop, inl, inr, ◌⊎◌, arith, IsUtf8-from_ascii, list_all, prefix_len, IsAscii, IsUtf8}, specs.Token.{IsRun, begins_with}}

pub true_or_false : (b : Bool) → (b ≡ true) ⊎ (b ≡ false)
true_or_false = grind arith

-- the run, by its length
pub run_of_length : (p : ℕ → Bool) (xs : List ℕ) → IsRun p (take (prefix_len p xs) xs) xs (drop (prefix_len p xs) xs)
run_of_length p [] = (refl, refl, refl)
run_of_length p (x ∷ xs) = elim (true_or_false (p x)) [
  | inl passes ↦
      let rest = run_of_length p xs in
      let one : 1 + prefix_len p xs ≡ suc (prefix_len p xs) = omega arith in
      rw (passes, one) (search, rw passes rest.1, rest.2)
  | inr fails ↦ search
]

pub both_true : (a b : Bool) → (a && b) ≡ true → (a ≡ true) × (b ≡ true)
both_true = grind arith

pub not_both : (b : Bool) → b ≡ true → b ≡ false → ⊥
not_both b holds fails = cc

same_run : (p : ℕ → Bool) (front rest front' rest' : List ℕ) → front ++ rest ≡ front' ++ rest' → list_all p front ≡ true → list_all p front' ≡ true
    → begins_with p rest ≡ false → begins_with p rest' ≡ false → (front ≡ front') × (rest ≡ rest')
same_run p [] rest [] rest' = grind arith
same_run p [] rest (y ∷ ys) rest' = grind (arith, not_both, both_true)
same_run p (x ∷ xs) rest [] rest' = grind (arith, not_both, both_true)
same_run p (x ∷ xs) rest (y ∷ ys) rest' = grind (arith, both_true, same_run p xs rest ys rest')

-- there is one run
pub IsRun-unique : (p : ℕ → Bool) (xs front rest front' rest' : List ℕ) → IsRun p front xs rest → IsRun p front' xs rest' → (front ≡ front') × (rest ≡ rest')
IsRun-unique = grind (arith, same_run)

pub prefix_len-le : (p : ℕ → Bool) (xs : List ℕ) → prefix_len p xs ≤ length xs
prefix_len-le p [] = omega arith
prefix_len-le p (x ∷ xs) = grind (arith, true_or_false, prefix_len-le p xs)

pub run_at : (p : ℕ → Bool) (xs front rest : List ℕ) (n : ℕ) → n ≡ prefix_len p xs → front ≡ take n xs → rest ≡ drop n xs → IsRun p front xs rest
run_at p xs _ _ n is f r = rw (f, r, is) (run_of_length p xs)

-- bytes that pass a test which only ASCII passes
IsAscii-run : (p : ℕ → Bool) → ((b : ℕ) → p b ≡ true → b < 128) → (xs : List ℕ) → list_all p xs ≡ true → IsAscii xs
IsAscii-run p low [] _ i = omega arith
IsAscii-run p low (x ∷ xs) all zero = low x (both_true (p x) _ all).0
IsAscii-run p low (x ∷ xs) all (suc i) = IsAscii-run p low xs (both_true (p x) _ all).1 i

pub IsUtf8-run : (p : ℕ → Bool) → ((b : ℕ) → p b ≡ true → b < 128) → (xs : List ℕ) → list_all p xs ≡ true → IsUtf8 xs
IsUtf8-run p low xs all = IsUtf8-from_ascii xs (IsAscii-run p low xs all)
