-- What rows with numbers meet is what rows with tuples meet.
use Rattle.{column_core.proofs.cells.Common.{◌≡◌, ◌<◌, ◌++◌, ◌∙◌, ap, sym, refl, arith, ℕ, ℤ, zero, suc, Bool, List, [], ◌∷◌, map, length, take, drop, replicate, length-replicate, Option, Some, nat_eq, All, All-replicate, zip, Label}, row_keys.{specs.Keys.{same_tuple, codes_of, first_rows}, proofs.{KeyLaws.{place_tells}, JoinLaws.{IsKnown, left_known, right_known}, PartnerLaws.{tuple_laws, code_of, firsts_counted, left_is, right_is, left_below, right_below}}}, meaning_asof.{specs.{AsOf.{asof_rows}, declared.Direction.{Direction}}, proofs.SeenLaws.{asof_rows_seen}}, asof_merge.specs.{Walk.{rows_of}, Keys.{ungrouped}}}

module _ {G : Type 0} where
  zip_seen : {H : Type 0} (f : G → H) (keys : List (Option ℤ)) (groups : List G) → zip keys (map f groups) ≡ map (λ (row : Option ℤ × G). (row.0, f row.1)) (zip keys groups)
  zip_seen f [] groups = refl
  zip_seen f (key ∷ keys) [] = refl
  zip_seen f (key ∷ keys) (group ∷ groups) = ap (λ rows. (key, f group) ∷ rows) (zip_seen f keys groups)

  zip_known : (P : G → Type 0) (keys : List (Option ℤ)) (groups : List G) → All P groups → All (λ (row : Option ℤ × G). P row.1) (zip keys groups)
  zip_known P [] groups all k d lt = absurd (omega arith)
  zip_known P (key ∷ keys) [] all k d lt = absurd (omega arith)
  zip_known P (key ∷ keys) (group ∷ groups) all zero d lt = all 0 group (omega arith)
  zip_known P (key ∷ keys) (group ∷ groups) all (suc k) d lt = zip_known P keys groups (λ i e below. all (suc i) e (omega arith)) k d (omega arith)

  -- groups with numbers that tell them apart
  module _ (P : G → Type 0) (same : G → G → Bool) (number : G → ℕ) (alike : (x y : G) → P x → P y → nat_eq (number x) (number y) ≡ same x y) (a b : List G) (a_known : All P a) (b_known : All P b) where
    pub numbers_met : (direction : Direction) (tolerance : Option ℕ) (lefts rights : List ℤ) (of_left of_right : List ℕ) → of_left ≡ map number a → of_right ≡ map number b
        → asof_rows nat_eq direction tolerance (rows_of lefts of_left) (rows_of rights of_right) ≡ asof_rows same direction tolerance (zip (map Some lefts) a) (zip (map Some rights) b)
    numbers_met direction tolerance lefts rights of_left of_right is_left is_right =
        let left_rows = ap (rows_of lefts) is_left ∙ zip_seen number (map Some lefts) a in
        let right_rows = ap (rows_of rights) is_right ∙ zip_seen number (map Some rights) b in
        (λ i. asof_rows nat_eq direction tolerance (left_rows i) (right_rows i))
        ∙ asof_rows_seen P nat_eq same number alike direction tolerance (zip (map Some rights) b) (zip_known P (map Some rights) b b_known) (zip (map Some lefts) a) (zip_known P (map Some lefts) a a_known)

-- the tuples of two sides, numbered together
module _ (a b : List (List Label)) (codes read_codes : List ℕ) (coded : codes ≡ codes_of same_tuple (a ++ b)) (codes_read : read_codes ≡ codes)
    (firsts read_firsts : List ℕ) (first : firsts ≡ first_rows same_tuple (a ++ b)) (firsts_read : read_firsts ≡ firsts) (n : ℕ) (size : n ≡ length a) where
  module _ (part : List ℕ) where
    left_codes : part ≡ take n read_codes → part ≡ map (code_of a b) a
    left_codes = left_is a b read_codes part n (codes_read ∙ coded) size

    right_codes : part ≡ drop n read_codes → part ≡ map (code_of a b) b
    right_codes = right_is a b read_codes part n (codes_read ∙ coded) size

    pub left_groups : part ≡ take n read_codes → All (λ c. c < length read_firsts) part
    left_groups is = left_below a b part _ (left_codes is) (firsts_counted a b read_firsts (firsts_read ∙ first))

    pub right_groups : part ≡ drop n read_codes → All (λ c. c < length read_firsts) part
    right_groups is = right_below a b part _ (right_codes is) (firsts_counted a b read_firsts (firsts_read ∙ first))

  pub tuples_met : (direction : Direction) (tolerance : Option ℕ) (lefts left_keys rights right_keys : List ℤ) (front of_left back of_right : List ℕ) (found made : List (Option ℕ))
      → left_keys ≡ lefts → right_keys ≡ rights → of_left ≡ front → of_right ≡ back → front ≡ take n read_codes → back ≡ drop n read_codes
      → found ≡ asof_rows nat_eq direction tolerance (rows_of left_keys of_left) (rows_of right_keys of_right) → made ≡ found
      → made ≡ asof_rows same_tuple direction tolerance (zip (map Some lefts) a) (zip (map Some rights) b)
  tuples_met direction tolerance lefts left_keys rights right_keys front of_left back of_right found made left_kept right_kept left_is right_is front_is back_is found_is made_is =
      made_is ∙ found_is
      ∙ (λ i. asof_rows nat_eq direction tolerance (rows_of (left_kept i) (left_is i)) (rows_of (right_kept i) (right_is i)))
      ∙ numbers_met (IsKnown same_tuple tuple_laws a b) same_tuple (code_of a b) (λ x y _ known. sym (place_tells same_tuple tuple_laws _ x y known)) a b
      (left_known same_tuple tuple_laws a b) (right_known same_tuple tuple_laws a b) direction tolerance lefts rights front back (left_codes front front_is) (right_codes back back_is)

-- all rows in one group
pub as_many : (keys : List (Option ℤ)) → length keys ≡ length (replicate {A = List Label} (length keys) [])
as_many keys = grind (arith, length-replicate)

abbrev IsEmpty : List Label → Type 0
IsEmpty tuple = tuple ≡ []

pub one_group : (direction : Direction) (tolerance : Option ℕ) (lefts left_keys rights right_keys : List ℤ) (of_left of_right : List ℕ) (found made : List (Option ℕ))
    → left_keys ≡ lefts → right_keys ≡ rights → of_left ≡ replicate {A = ℕ} (length lefts) 0 → of_right ≡ replicate {A = ℕ} (length rights) 0
    → found ≡ asof_rows nat_eq direction tolerance (rows_of left_keys of_left) (rows_of right_keys of_right) → made ≡ found
    → made ≡ asof_rows same_tuple direction tolerance (ungrouped (map Some lefts)) (ungrouped (map Some rights))
one_group direction tolerance lefts left_keys rights right_keys of_left of_right found made left_kept right_kept zeros_left zeros_right found_is made_is =
    made_is ∙ found_is
    ∙ (λ i. asof_rows nat_eq direction tolerance (rows_of (left_kept i) of_left) (rows_of (right_kept i) of_right))
    ∙ numbers_met IsEmpty same_tuple (λ _. 0) both_empty (none_of lefts) (none_of rights) (empty lefts) (empty rights) direction tolerance lefts rights of_left of_right (numbered lefts of_left zeros_left) (numbered rights of_right zeros_right)
  where
    none_of : List ℤ → List (List Label)
    none_of keys = replicate (length (map Some keys)) []

    both_empty : (x y : List Label) → IsEmpty x → IsEmpty y → nat_eq 0 0 ≡ same_tuple x y
    both_empty x y x_is y_is = λ i. same_tuple (sym x_is i) (sym y_is i)

    empty : (keys : List ℤ) → All IsEmpty (none_of keys)
    empty keys = All-replicate IsEmpty (length (map Some keys)) [] refl

    zeros : (keys : List ℤ) → replicate {A = ℕ} (length keys) 0 ≡ map (λ (_ : List Label). 0) (none_of keys)
    zeros [] = refl
    zeros (key ∷ keys) = ap (λ more. 0 ∷ more) (zeros keys)

    numbered : (keys : List ℤ) (groups : List ℕ) → groups ≡ replicate {A = ℕ} (length keys) 0 → groups ≡ map (λ (_ : List Label). 0) (none_of keys)
    numbered keys groups is = is ∙ zeros keys
