-- What vectors hold at each lane, and rows of which further ones are added.
use Rattle.{column_core.{proofs.cells.Common.{◌≡◌, ◌∙◌, refl, ap, sym, subst, ℕ, zero, suc, ◌+◌, ◌-◌, ◌<◌, ◌^◌, ◌++◌, ◌∷◌, [], Bool, true, false, not, cond, ◌&&◌, ◌||◌, if◌then◌else◌, List, ℤ, map, replicate, length, length-append, slice_get, arith, Option, Some, None, option_map, inl, inr, cases_lt}, specs.{Lanes.{option_at}, Rows.{flagged}}}, column_operators.specs.{Tasks.{passes}, Pairs.{xor_value}, declared.ops.Relation.{Relation}, Vectors.{IsNumber, IsTruth, AreLanes, ArePushed, AreRows}}, std.{proofs.lemmas.{Option.{slice_get-map, get_or_from_slice_get}, Int.{SFits-int_wrap, to_z-of_z, ints}, Bool.Decides.{same_from_decides, Decides-eqb, Decides-int_eq}, List.{take_all, get_or_append_left, get_or-append-add}, Simd.{tops_compared}}, specs.{Global.{Vec}, Prelude.{FitsSigned, vec_len, vec_capacity, nat_eq, int_lt, slice_index_or, slice_set, bit_and, bit_or, bit_xor}, Int.{int_wrap, w64, cast_signed, cast_unsigned, from_bool}, Simd.Lanes.{zip2, sel_l, top, Each1}, Ordering.{int_cmp, int_eq, bool_cmp, is_eq}, declared.cmp.Ordering.TheVariants.{Less, Equal, Greater}}}}
use Rattle.std.proofs.Common.{ap₂, take}
use mir.Val.{hbits, bits}

-- an operator on two vectors
pub get-zip2 : {A B C : Type 0} (f : A → B → C) (xs : List A) (ys : List B) (k : ℕ) (x : A) (y : B) → slice_get xs k ≡ Some x → slice_get ys k ≡ Some y → slice_get (zip2 f xs ys) k ≡ Some (f x y)
get-zip2 f [] ys k x y e g = search
get-zip2 f (a ∷ xs) [] k x y e g = search
get-zip2 f (a ∷ xs) (b ∷ ys) zero x y e g = grind arith
get-zip2 f (a ∷ xs) (b ∷ ys) (suc k) x y e g = get-zip2 f xs ys k x y e g

-- the same of numbers, by their bits
by_bits : {C : Type 0} (f : ℕ → ℕ → C) (xs ys : List ℤ) (k : ℕ) (m n : ℤ) → IsNumber xs k m → IsNumber ys k n
    → slice_get (zip2 f (map (cast_unsigned w64) xs) (map (cast_unsigned w64) ys)) k ≡ Some (f (cast_unsigned w64 m) (cast_unsigned w64 n))
by_bits f xs ys k m n x y =
    get-zip2 f _ _ k _ _ (slice_get-map _ xs k ∙ ap (option_map (cast_unsigned w64)) x.0) (slice_get-map _ ys k ∙ ap (option_map (cast_unsigned w64)) y.0)

pub wrapped : (f : ℕ → ℕ → ℕ) (xs ys : List ℤ) (k : ℕ) (m n z : ℤ) → IsNumber xs k m → IsNumber ys k n → cast_signed w64 (f (cast_unsigned w64 m) (cast_unsigned w64 n)) ≡ int_wrap w64 z
    → IsNumber (map (cast_signed w64) (zip2 f (map (cast_unsigned w64) xs) (map (cast_unsigned w64) ys))) k (int_wrap w64 z)
wrapped f xs ys k m n z x y e =
    (slice_get-map (cast_signed w64) _ k ∙ ap (option_map (cast_signed w64)) (by_bits f xs ys k m n x y) ∙ ap (λ (i : ℤ). Some i) e, SFits-int_wrap w64 z)

-- a choice between two vectors
get-sel_l : {X : Type 0} (ms : List Bool) (xs ys : List X) (k : ℕ) (b : Bool) (x y : X) → slice_get ms k ≡ Some b → slice_get xs k ≡ Some x → slice_get ys k ≡ Some y
    → slice_get (sel_l ms xs ys) k ≡ Some (cond b x y)
get-sel_l [] xs ys k b x y e f g = search
get-sel_l (m ∷ ms) [] ys k b x y e f g = search
get-sel_l (m ∷ ms) (a ∷ xs) [] k b x y e f g = search
get-sel_l (m ∷ ms) (a ∷ xs) (d ∷ ys) zero b x y e f g = grind arith
get-sel_l (m ∷ ms) (a ∷ xs) (d ∷ ys) (suc k) b x y e f g = get-sel_l ms xs ys k b x y e f g

get-replicate : {X : Type 0} (n k : ℕ) (x : X) → k < n → slice_get (replicate n x) k ≡ Some x
get-replicate zero k x h = absurd (omega arith)
get-replicate (suc n) zero x h = refl
get-replicate (suc n) (suc k) x h = get-replicate n k x (omega arith)

pub Each1-sel_l : {X : Type 0} (P : X → Type 0) (ms : List Bool) (xs ys : List X) → Each1 P xs → Each1 P ys → Each1 P (sel_l ms xs ys)
Each1-sel_l P [] xs ys e f = tt
Each1-sel_l P (m ∷ ms) [] ys e f = tt
Each1-sel_l P (m ∷ ms) (x ∷ xs) [] e f = tt
Each1-sel_l P (true ∷ ms) (x ∷ xs) (y ∷ ys) e f = (e.0, Each1-sel_l P ms xs ys e.1 f.1)
Each1-sel_l P (false ∷ ms) (x ∷ xs) (y ∷ ys) e f = (f.0, Each1-sel_l P ms xs ys e.1 f.1)

-- the lanes of numbers of which a comparison is true, narrowed by g
pub chosen : (g : ℕ → ℕ) (t : ℕ → ℕ → Bool) (xs ys : List ℤ) (k : ℕ) (m n : ℤ) (b : Bool) → g 0 ≡ 0 → g 1 ≡ 1 → k < 16 → IsNumber xs k m → IsNumber ys k n → t (cast_unsigned w64 m) (cast_unsigned w64 n) ≡ b
    → IsTruth (map g (sel_l (map (top (hbits w64)) (zip2 (λ p q. cond (t p q) (2 ^ bits w64 - 1) 0) (map (cast_unsigned w64) xs) (map (cast_unsigned w64) ys))) (replicate 16 1) (replicate 16 0))) k b
chosen g t xs ys k m n b zero_is one_is below x y is =
    slice_get-map g _ k
    ∙ ap (λ ms. option_map g (slice_get (sel_l ms (replicate 16 1) (replicate 16 0)) k)) (tops_compared w64 t _ _)
    ∙ ap (option_map g) (get-sel_l _ _ _ k _ 1 0 (by_bits t xs ys k m n x y) (get-replicate 16 k 1 below) (get-replicate 16 k 0 below))
    ∙ ap (λ (r : Bool). Some (g (cond r 1 0))) is ∙ ap (λ (n : ℕ). Some n) (narrow b)
  where
    narrow : (b : Bool) → g (cond b 1 0) ≡ from_bool b
    narrow true = one_is
    narrow false = zero_is

-- truth values
module _ (xs ys : List ℕ) (k : ℕ) (a b : Bool) (x : IsTruth xs k a) (y : IsTruth ys k b) where
  pub both_lane : IsTruth (zip2 bit_and xs ys) k (a && b)
  both_lane = get-zip2 bit_and xs ys k _ _ x y ∙ ap (λ (n : ℕ). Some n) (law a b)
    where
      law : (a b : Bool) → bit_and (from_bool a) (from_bool b) ≡ from_bool (a && b)
      law true true = refl
      law true false = refl
      law false true = refl
      law false false = refl

  pub either_lane : IsTruth (zip2 bit_or xs ys) k (a || b)
  either_lane = get-zip2 bit_or xs ys k _ _ x y ∙ ap (λ (n : ℕ). Some n) (law a b)
    where
      law : (a b : Bool) → bit_or (from_bool a) (from_bool b) ≡ from_bool (a || b)
      law true true = refl
      law true false = refl
      law false true = refl
      law false false = refl

  pub one_lane : IsTruth (zip2 bit_xor xs ys) k (xor_value a b)
  one_lane = get-zip2 bit_xor xs ys k _ _ x y ∙ ap (λ (n : ℕ). Some n) (law a b)
    where
      law : (a b : Bool) → bit_xor (from_bool a) (from_bool b) ≡ from_bool (xor_value a b)
      law true true = refl
      law true false = refl
      law false true = refl
      law false false = refl

  -- of which the second, or the first, is turned
  pub except_lane : IsTruth (zip2 bit_and xs (map (λ n. 255 - n) ys)) k (a && not b)
  except_lane = get-zip2 bit_and xs _ k _ _ x (slice_get-map _ ys k ∙ ap (option_map (λ n. 255 - n)) y) ∙ ap (λ (n : ℕ). Some n) (law a b)
    where
      law : (a b : Bool) → bit_and (from_bool a) (255 - from_bool b) ≡ from_bool (a && not b)
      law true true = refl
      law true false = refl
      law false true = refl
      law false false = refl

  pub without_lane : IsTruth (zip2 bit_and (map (λ n. 255 - n) xs) ys) k (not a && b)
  without_lane = get-zip2 bit_and _ ys k _ _ (slice_get-map _ xs k ∙ ap (option_map (λ n. 255 - n)) x) y ∙ ap (λ (n : ℕ). Some n) (law a b)
    where
      law : (a b : Bool) → bit_and (255 - from_bool a) (from_bool b) ≡ from_bool (not a && b)
      law true true = refl
      law true false = refl
      law false true = refl
      law false false = refl

-- numbers with the same bits are the same
pub same_bits : (m n : ℤ) → FitsSigned w64 m → FitsSigned w64 n → nat_eq (cast_unsigned w64 m) (cast_unsigned w64 n) ≡ int_eq m n
same_bits m n f g =
    let tells = Decides-eqb (cast_unsigned w64 m) (cast_unsigned w64 n) in
    same_from_decides _ _ (λ h. sym (to_z-of_z w64 m f) ∙ ap (cast_signed w64) (tells.0 h) ∙ to_z-of_z w64 n g, λ e. tells.1 (ap (cast_unsigned w64) e)) (Decides-int_eq m n)

-- a relation, by which of the three orders it is
passes_by : (r : Relation) (a b : Bool) → (a ≡ true → b ≡ false) → ((a && r.less) || (is_eq (cond a Less (cond b Greater Equal)) && r.equal)) || (b && r.greater) ≡ passes r (cond a Less (cond b Greater Equal))
passes_by r true true not_both = search (not_both refl)
passes_by r true false not_both = grind arith
passes_by r false true not_both = grind arith
passes_by r false false not_both = grind arith

after : (m n : ℤ) → int_lt m n ≡ true → int_lt n m ≡ false
after m n h = grind (arith, ints)

pub number_passes : (r : Relation) (m n : ℤ) → ((int_lt m n && r.less) || (int_eq m n && r.equal)) || (int_lt n m && r.greater) ≡ passes r (int_cmp m n)
number_passes r m n = passes_by r (int_lt m n) (int_lt n m) (after m n)

pub truth_passes : (r : Relation) (m n : Bool) → (((not m && n) && r.less) || (not (xor_value m n) && r.equal)) || ((m && not n) && r.greater) ≡ passes r (bool_cmp m n)
truth_passes r true true = grind arith
truth_passes r true false = grind arith
truth_passes r false true = grind arith
truth_passes r false false = grind arith

-- the lanes that were written one by one
pub next_too : (P : ℕ → Type 0) (i : ℕ) → ((k : ℕ) → k < i → P k) → P i → (k : ℕ) → k < i + 1 → P k
next_too P i before last k below =
    elim (cases_lt k i) [
      | inl lt ↦ before k lt
      | inr le ↦ let e : i ≡ k = omega (arith, le, below) in subst P e last
    ]

get_set : {T : Type 0} (xs : List T) (i : ℕ) (v : T) → i < length xs → slice_get (slice_set xs i v) i ≡ Some v
get_set [] i v h = absurd (omega arith)
get_set (x ∷ xs) zero v h = refl
get_set (x ∷ xs) (suc i) v h = get_set xs i v (omega arith)

get_set_before : {T : Type 0} (xs : List T) (i k : ℕ) (v : T) → k < i → slice_get (slice_set xs i v) k ≡ slice_get xs k
get_set_before [] i k v h = refl
get_set_before (x ∷ xs) zero k v h = absurd (omega arith)
get_set_before (x ∷ xs) (suc i) zero v h = refl
get_set_before (x ∷ xs) (suc i) (suc k) v h = get_set_before xs i k v (omega arith)

pub lane_set : {T : Type 0} (f : ℕ → T) (lanes : List T) (i : ℕ) (v : T) → i < length lanes → v ≡ f i → ((k : ℕ) → k < i → slice_get lanes k ≡ Some (f k))
    → (k : ℕ) → k < i + 1 → slice_get (slice_set lanes i v) k ≡ Some (f k)
lane_set f lanes i v within is before =
    next_too (λ k. slice_get (slice_set lanes i v) k ≡ Some (f k)) i (λ k lt. get_set_before lanes i k v lt ∙ before k lt) (get_set lanes i v within ∙ ap (λ x. Some x) is)

-- what is pushed of a lane
pub number_back : (vector : List ℤ) (k : ℕ) (z : ℤ) → IsNumber vector k z → slice_get (map (cast_signed w64) (map (cast_unsigned w64) vector)) k ≡ Some z
number_back vector k z is =
    slice_get-map _ _ k ∙ ap (option_map (cast_signed w64)) (slice_get-map _ vector k ∙ ap (option_map (cast_unsigned w64)) is.0) ∙ ap (λ (i : ℤ). Some i) (to_z-of_z w64 z is.1)

pub number_again : (vector : List ℤ) (k : ℕ) (z : ℤ) → IsNumber vector k z → IsNumber (map (cast_signed w64) (map (cast_unsigned w64) vector)) k z
number_again vector k z is = (number_back vector k z is, is.1)

pub truth_back : (vector : List ℕ) (k : ℕ) (b : Bool) → IsTruth vector k b → slice_get (map (λ n. not (nat_eq n 0)) vector) k ≡ Some b
truth_back vector k b is = slice_get-map _ vector k ∙ ap (option_map (λ n. not (nat_eq n 0))) is ∙ ap (λ (c : Bool). Some c) (back b)
  where
    back : (b : Bool) → not (nat_eq (from_bool b) 0) ≡ b
    back true = refl
    back false = refl

pub are_pushed : {T : Type 0} (lane_is : ℕ → T → Type 0) (old new : Vec T) (added : List T) (n : ℕ) → length added ≡ 16 → n ≡ 16
    → new.items ≡ old.items ++ take n added → vec_len new ≡ vec_len old + n → vec_capacity new ≡ vec_capacity old
    → ((k : ℕ) (x : T) → lane_is k x → slice_get added k ≡ Some x) → ArePushed lane_is old new
are_pushed lane_is old new added n many is pushed counted room each = record {
  added = added;
  many = many;
  pushed = pushed ∙ ap (λ xs. old.items ++ xs) (take_all n added (omega (arith, many, is)));
  counted = omega (arith, counted, is);
  room = room;
  each = each;
}

-- items before and behind others
get_front : {T : Type 0} (xs ys : List T) (k : ℕ) → k < length xs → slice_get (xs ++ ys) k ≡ slice_get xs k
get_front [] ys k h = absurd (omega arith)
get_front (x ∷ xs) ys zero h = refl
get_front (x ∷ xs) ys (suc k) h = get_front xs ys k (omega arith)

get_back : {T : Type 0} (xs ys : List T) (j : ℕ) → slice_get (xs ++ ys) (length xs + j) ≡ slice_get ys j
get_back [] ys j = ap (slice_get ys) (omega arith)
get_back (x ∷ xs) ys j =
    let e : suc (length xs) + j ≡ suc (length xs + j) = omega arith in
    ap (slice_get (x ∷ xs ++ ys)) e ∙ get_back xs ys j

module _ {U : Type 0} (values more : List U) (present flags : List Bool) (n : ℕ) (many : length values ≡ n) (too : length present ≡ n) where
  kept : (k : ℕ) → k < n → option_at (values ++ more) (present ++ flags) k ≡ option_at values present k
  kept k below =
      let v : slice_get (values ++ more) k ≡ slice_get values k = get_front values more k (omega (arith, many)) in
      let f : slice_index_or (present ++ flags) k false ≡ slice_index_or present k false = get_or_append_left present flags false k (omega (arith, too)) in
      λ i. if f i then v i else None

  further : (j : ℕ) (v : U) (f : Bool) → slice_get more j ≡ Some v → slice_get flags j ≡ Some f → option_at (values ++ more) (present ++ flags) (n + j) ≡ flagged f v
  further j v f is_v is_f =
      let value : slice_get (values ++ more) (n + j) ≡ Some v = ap (λ (i : ℕ). slice_get (values ++ more) (i + j)) (sym many) ∙ get_back values more j ∙ is_v in
      let flag : slice_index_or (present ++ flags) (n + j) false ≡ f = ap (λ (i : ℕ). slice_index_or (present ++ flags) (i + j) false) (sym too) ∙ get_or-append-add present flags j false ∙ get_or_from_slice_get flags j f false is_f in
      λ i. if flag i then value i else None

-- m rows more
pub rows_added : {U : Type 0} (at : ℕ → Option (Option U)) (count n m : ℕ) (values values' : Vec U) (present present' : Vec Bool) (more : List U) (flags : List Bool)
    → AreRows at count n values present → length more ≡ m → length flags ≡ m
    → values'.items ≡ values.items ++ more → vec_len values' ≡ vec_len values + m → vec_capacity values' ≡ vec_capacity values
    → present'.items ≡ present.items ++ flags → vec_len present' ≡ vec_len present + m → vec_capacity present' ≡ vec_capacity present
    → ((k : ℕ) → k < m → (v : U) × (f : Bool) × (slice_get more k ≡ Some v) × (slice_get flags k ≡ Some f) × (at (n + k) ≡ Some (flagged f v)))
    → AreRows at count (n + m) values' present'
rows_added at count n m values values' present present' more flags so_far many too v_items v_len v_room p_items p_len p_room made =
    let old = so_far.values_many in
    let old' = so_far.present_many in
    record {
      values_many = record {
        many = ap length v_items ∙ omega (arith, length-append values.items more, old.many, many);
        counted = omega (arith, v_len, old.counted);
        room = omega (arith, v_room, old.room);
      };
      present_many = record {
        many = ap length p_items ∙ omega (arith, length-append present.items flags, old'.many, too);
        counted = omega (arith, p_len, old'.counted);
        room = omega (arith, p_room, old'.room);
      };
      written = λ k below. elim (cases_lt k n) [
        | inl before ↦
            so_far.written k before ∙ ap (λ o. Some o) (sym (kept values.items more present.items flags n old.many old'.many k before))
            ∙ (λ i. Some (option_at (sym v_items i) (sym p_items i) k))
        | inr after ↦
            let row = made (k - n) (omega (arith, after, below)) in
            let is : n + (k - n) ≡ k = omega (arith, after) in
            ap at (sym is) ∙ row.4 ∙ ap (λ o. Some o) (sym (further values.items more present.items flags n old.many old'.many (k - n) row.0 row.1 row.2 row.3))
            ∙ (λ i. Some (option_at (sym v_items i) (sym p_items i) (is i)))
      ];
    }

-- a row more
pub row_made : {X U : Type 0} (row : Option X → Option X → Option (Option U)) (flag : X → Bool → X → Bool → Bool) (value : X → Bool → X → Bool → U) (a b : Option X) (x y : X) (p q p' q' f : Bool) (v : U)
    → ((x : X) (p : Bool) (y : X) (q : Bool) → row (flagged p x) (flagged q y) ≡ Some (flagged (flag x p y q) (value x p y q)))
    → a ≡ flagged p x → b ≡ flagged q y → p' ≡ p → q' ≡ q → f ≡ flag x p' y q' → v ≡ value x p' y q' → row a b ≡ Some (flagged f v)
row_made row flag value a b x y p q p' q' f v row_is a_is b_is p_is q_is f_is v_is =
    ap₂ row a_is b_is ∙ row_is x p y q ∙ (λ i. Some (flagged (flag x (sym p_is i) y (sym q_is i)) (value x (sym p_is i) y (sym q_is i)))) ∙ (λ i. Some (flagged (sym f_is i) (sym v_is i)))

pub row_added : {U : Type 0} (at : ℕ → Option (Option U)) (count n : ℕ) (values values' : Vec U) (present present' : Vec Bool) (v : U) (f : Bool)
    → AreRows at count n values present
    → values'.items ≡ values.items ++ v ∷ [] → vec_len values' ≡ vec_len values + 1 → vec_capacity values' ≡ vec_capacity values
    → present'.items ≡ present.items ++ f ∷ [] → vec_len present' ≡ vec_len present + 1 → vec_capacity present' ≡ vec_capacity present
    → at n ≡ Some (flagged f v) → AreRows at count (n + 1) values' present'
row_added {U} at count n values values' present present' v f so_far v_items v_len v_room p_items p_len p_room is =
    rows_added at count n 1 values values' present present' (v ∷ []) (f ∷ []) so_far refl refl v_items v_len v_room p_items p_len p_room sole
  where
    sole : (k : ℕ) → k < 1 → (w : U) × (g : Bool) × (slice_get (v ∷ []) k ≡ Some w) × (slice_get (f ∷ []) k ≡ Some g) × (at (n + k) ≡ Some (flagged g w))
    sole zero below = (v, f, refl, refl, ap at (omega arith) ∙ is)
    sole (suc k) below = absurd (omega arith)

-- the rows of a strip more
pub strip_added : {X U : Type 0} (row : Option X → Option X → Option (Option U)) (flag : X → Bool → X → Bool → Bool) (value : X → Bool → X → Bool → U) (a b xs ys : ℕ → Option X) (ps qs : ℕ → Bool)
    → ((x : X) (p : Bool) (y : X) (q : Bool) → row (flagged p x) (flagged q y) ≡ Some (flagged (flag x p y q) (value x p y q)))
    → ((k : ℕ) (x : X) → xs k ≡ Some x → a k ≡ flagged (ps k) x) → ((k : ℕ) (y : X) → ys k ≡ Some y → b k ≡ flagged (qs k) y)
    → (count n : ℕ) (x_is y_is : ℕ → X → Type 0) (p_is q_is flag_is : ℕ → Bool → Type 0) (value_is : ℕ → U → Type 0)
    → AreLanes x_is (λ k. xs (n + k)) → AreLanes y_is (λ k. ys (n + k)) → ((k : ℕ) → k < 16 → p_is k (ps (n + k))) → ((k : ℕ) → k < 16 → q_is k (qs (n + k)))
    → ((k : ℕ) (x y : X) (p q : Bool) → k < 16 → x_is k x → p_is k p → y_is k y → q_is k q → flag_is k (flag x p y q))
    → ((p q : Bool) (k : ℕ) (x y : X) → k < 16 → x_is k x → y_is k y → value_is k (value x p y q))
    → (values values' : Vec U) (present present' : Vec Bool) → ArePushed value_is values values' → ArePushed flag_is present present' → AreRows (λ k. row (a k) (b k)) count n values present
    → AreRows (λ k. row (a k) (b k)) count (n + 16) values' present'
strip_added row flag value a b xs ys ps qs row_is a_is b_is count n x_is y_is p_is q_is flag_is value_is are_x are_y are_p are_q flags_made values_made values values' present present' v f so_far =
    rows_added (λ k. row (a k) (b k)) count n 16 values values' present present' v.added f.added so_far v.many f.many v.pushed v.counted v.room f.pushed f.counted f.room (λ k below.
    let x = are_x k below in
    let y = are_y k below in
    let p = ps (n + k) in
    let q = qs (n + k) in (
      value x.0 p y.0 q,
      flag x.0 p y.0 q,
      v.each k _ (values_made p q k x.0 y.0 below x.2 y.2),
      f.each k _ (flags_made k x.0 y.0 p q below x.2 (are_p k below) y.2 (are_q k below)),
      ap₂ row (a_is (n + k) x.0 x.1) (b_is (n + k) y.0 y.1) ∙ row_is x.0 p y.0 q,
    ))
