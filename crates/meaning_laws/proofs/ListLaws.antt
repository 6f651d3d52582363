-- Laws of lists, and of what is made of them one by one.
use Rattle.{
  meaning_script.{proofs.cells.Common.{◌≡◌, ◌≤◌, refl, ℕ, zero, suc, List, [], ◌∷◌, length, map, filter, arith, take, drop, eqb-true, cases_lt, length-set, get_or_past, length-map-range_with_len, All-map, All-nil, All-head, All-tail, All-set, All-push, All-append, All-take, All-drop, Bool, true, false, ◌&&◌, if◌then◌else◌, remove, slice_index_or, Option, Result, Err, IfOk, IfSome, All, list_all, FaultValue, then_value, tabulate, then_rows, try_each, try_pairs}, specs.{tables.Change.{put_at}, form.{Finish.{try_all}, Set.{of_length}, Make.{on}}}},
  std.proofs.lemmas.List.{length-append},
  meaning_laws.proofs.Words.{AllOf},
}

pub both_true : (a b : Bool) → a && b ≡ true → (a ≡ true) × (b ≡ true)
both_true = grind arith

pub both_ways : {P : Type 0} (b : Bool) → b ≡ true → b ≡ false → P
both_ways = grind arith

-- a test that passes at each
pub all_pass : {X : Type 0} (p : X → Bool) (xs : List X) → list_all p xs ≡ true → All (λ x. p x ≡ true) xs
all_pass p [] e = grind arith
all_pass p (x ∷ xs) e = grind (arith, both_true, all_pass p xs (both_true (p x) (list_all p xs) e).1)

-- what a function makes of each
pub all_made : {X Y : Type 0} (P : X → Type 0) (Q : Y → Type 0) (f : X → Y) → ((x : X) → P x → Q (f x)) → (xs : List X) → All P xs → All Q (map f xs)
all_made P Q f so xs h = All-map Q f xs (λ k d lt. so _ (h k d lt))

-- what a function makes of any
pub all_mapped : {X Y : Type 0} (Q : Y → Type 0) (f : X → Y) → ((x : X) → Q (f x)) → (xs : List X) → All Q (map f xs)
all_mapped {X = X} Q f so xs = all_made (λ x. Unit {0}) Q f (λ x _. so x) xs (λ k d lt. tt)

pub all_tabulated : {X : Type 0} (Q : X → Type 0) (f : ℕ → X) → ((k : ℕ) → Q (f k)) → (count : ℕ) → All Q (tabulate count f)
all_tabulated Q f so count = all_mapped Q f so _

pub length_tabulate : {X : Type 0} (count : ℕ) (f : ℕ → X) → length (tabulate count f) ≡ count
length_tabulate count f = length-map-range_with_len f 0 _

-- an element, or what stands for one that is missing
pub at_or : {X : Type 0} (P : X → Type 0) (xs : List X) (k : ℕ) (d : X) → P d → All P xs → P (slice_index_or xs k d)
at_or P xs k d none h = grind (arith, cases_lt k (length xs), get_or_past)

-- the value goes on
pub then_keeps : {A B : Type 0} (P : A → Type 0) (Q : B → Type 0) (r : Result A FaultValue) (go : A → Result B FaultValue) → IfOk r P → ((a : A) → P a → IfOk (go a) Q) → IfOk (then_value r go) Q
then_keeps P Q = grind arith

-- whatever was answered
pub any_then : {A B : Type 0} (Q : B → Type 0) (r : Result A FaultValue) (go : A → Result B FaultValue) → ((a : A) → IfOk (go a) Q) → IfOk (then_value r go) Q
any_then Q = grind arith

-- what a test says
module _ {A : Type 0} (P : A → Type 0) where
  pub if_keeps : (b : Bool) (x y : Result A FaultValue) → (b ≡ true → IfOk x P) → (b ≡ false → IfOk y P) → IfOk (if b then x else y) P
  if_keeps = grind arith

  -- a test that must pass
  pub where_keeps : (b : Bool) (x : Result A FaultValue) (fault : FaultValue) → (b ≡ true → IfOk x P) → IfOk (if b then x else Err fault) P
  where_keeps = grind arith

-- what follows where something is given
pub on_some_keeps : {A B : Type 0} (P : A → Type 0) (Q : B → Type 0) (o : Option A) (go : A → Result B FaultValue) → IfSome o P → ((a : A) → P a → IfOk (go a) Q) → IfOk (on o go) Q
on_some_keeps P Q = grind arith

pub on_keeps : {A B : Type 0} (P : B → Type 0) (o : Option A) (go : A → Result B FaultValue) → ((a : A) → IfOk (go a) P) → IfOk (on o go) P
on_keeps P = grind arith

-- what is made of each of them, where all are
pub try_keeps : {A B : Type 0} (P : A → Type 0) (Q : B → Type 0) (f : A → Result B FaultValue) → ((a : A) → P a → IfOk (f a) Q) → (xs : List A) → All P xs
    → IfOk (try_all f xs) (AllOf Q (length xs))
try_keeps P Q f so [] h = (refl, All-nil Q)
try_keeps P Q f so (x ∷ xs) h = grind (arith, so x (All-head P x xs h), try_keeps P Q f so xs (All-tail P x xs h))

rows_keep : {C : Type 0} (Q : C → Type 0) (n : ℕ) (o : Option C) (row : ℕ) (rest : Result (List C) ℕ) → IfSome o Q → IfOk rest (AllOf Q n)
    → IfOk (then_rows o row rest) (AllOf Q (suc n))
rows_keep Q = grind arith

-- rows that are made of rows
pub each_keeps : {A C : Type 0} (P : A → Type 0) (Q : C → Type 0) (f : A → Option C) → ((a : A) → P a → IfSome (f a) Q) → (row : ℕ) (xs : List A) → All P xs
    → IfOk (try_each f row xs) (AllOf Q (length xs))
each_keeps P Q f so row [] h = (refl, All-nil Q)
each_keeps P Q f so row (x ∷ xs) h = grind (arith, so x (All-head P x xs h), each_keeps P Q f so (suc row) xs (All-tail P x xs h))

-- rows that are made of two rows side by side, of which there are as many
pub pairs_keep : {A B C : Type 0} (P : A → Type 0) (R : B → Type 0) (Q : C → Type 0) (f : A → B → Option C) → ((a : A) (b : B) → P a → R b → IfSome (f a b) Q)
    → (row n : ℕ) (xs : List A) (ys : List B) → length xs ≡ n → length ys ≡ n → All P xs → All R ys
    → IfOk (try_pairs f row xs ys) (AllOf Q n)
pairs_keep P R Q f so row zero [] [] e g h k = (refl, All-nil Q)
pairs_keep P R Q f so row (suc n) (x ∷ xs) (y ∷ ys) e g h k = grind (arith, so x y (All-head P x xs h) (All-head R y ys k), pairs_keep P R Q f so (suc row) n xs ys (omega arith) (omega arith) (All-tail P x xs h) (All-tail R y ys k))
pairs_keep P R Q f so row n xs ys e g h k = grind arith

-- an item that is put at a place, or last
pub All-put_at : {X : Type 0} (P : X → Type 0) (xs : List X) (place : ℕ) (x : X) → All P xs → P x → All P (put_at xs place x)
All-put_at P xs place x all here =
    let set = All-set P xs place x here all in
    let pushed = All-push P xs x all here in
    grind arith

pub length-put_at : {X Y : Type 0} (xs : List X) (ys : List Y) (place : ℕ) (x : X) (y : Y) → length xs ≡ length ys → length (put_at xs place x) ≡ length (put_at ys place y)
length-put_at = grind (arith, length-set, length-append)

pub All-remove : {X : Type 0} (P : X → Type 0) (xs : List X) (i : ℕ) → All P xs → All P (remove xs i)
All-remove P xs i all = All-append P (take i xs) (drop (suc i) xs) (All-take P i xs all) (All-drop P (suc i) xs all)

-- as many as are expected
pub of_length_keeps : {A : Type 0} (P : A → Type 0) (expected got : ℕ) (rest : Result A FaultValue) → (expected ≡ got → IfOk rest P) → IfOk (of_length expected got rest) P
of_length_keeps P = grind (arith, eqb-true)

-- some of a list
pub length_filter : {X : Type 0} (p : X → Bool) (xs : List X) → length (filter p xs) ≤ length xs
length_filter p [] = omega arith
length_filter p (x ∷ xs) = grind (arith, length_filter p xs)
