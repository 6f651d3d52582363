-- Two objects of a store.
use Rattle.{
  column_core.proofs.cells.Common.{◌≡◌, ◌∙◌, ℕ, Bool, true, false, [], ◌∷◌, refl, ap, sym, subst, arith, nat_eq, if◌then◌else◌, Option, Some, None, nat_tests, ◌≢◌, is_some, IsSome, Series, Frame},
  frame_store.specs.{tables.{Table.{NumberedTable, column_at}, Change.{with_column}}, Parts.{TakesHeading}, Objects.{Tables, with_object, with_moved, table_or, table_at}},
}

nat_eq_self : (n : ℕ) → nat_eq n n ≡ true
nat_eq_self = grind (arith, nat_tests)

nat_same : (a b : ℕ) → nat_eq a b ≡ true → a ≡ b
nat_same = grind (arith, nat_tests)

nat_other : (a b : ℕ) → a ≢ b → nat_eq a b ≡ false
nat_other a b apart = go (nat_eq a b) refl
  where
    go : (r : Bool) → nat_eq a b ≡ r → nat_eq a b ≡ false
    go true is = absurd (apart (nat_same a b is))
    go false is = is

module _ (none one two : Tables) (a b : ℕ) (s t : NumberedTable) (fresh : one b ≡ None) (first : one ≡ with_object none a (Some s)) (second : two ≡ with_object one b (Some t)) where
  before : one a ≡ Some s
  before = ap (λ (f : Tables). f a) first ∙ ap (λ c. if c then Some s else none a) (nat_eq_self a)

  pub apart : a ≢ b
  apart = λ e. let wrong : true ≡ false = sym (ap is_some before) ∙ ap (λ n. is_some (one n)) e ∙ ap is_some fresh in cc

  pub first_there : two a ≡ Some s
  first_there = ap (λ (f : Tables). f a) second ∙ ap (λ c. if c then Some t else one a) (nat_other b a (λ e. apart (sym e))) ∙ before

  pub second_there : two b ≡ Some t
  second_there = ap (λ (f : Tables). f b) second ∙ ap (λ c. if c then Some t else one b) (nat_eq_self b)

  pub moved_there : (three : Tables) → three ≡ with_moved two a 0 None b → IsSome (three a)
  moved_there _ moved =
      ap is_some (ap (λ (f : Tables). f a) moved ∙ ap (λ c. if c then Some (with_column (table_at two a) 0 None (column_at (table_at two b).columns 0)) else (if nat_eq b a then None else two a)) (nat_eq_self a))

-- a column that is put into a Series takes the place of its own
pub takes_place : (o : Option NumberedTable) (t : NumberedTable) → o ≡ Some t → t.shape ≡ Series → TakesHeading (table_or o) 0 None
takes_place o t is series =
    let other : t.shape ≡ Frame → ⊥ = λ e. cc in
    subst (λ (p : Option NumberedTable). TakesHeading (table_or p) 0 None) (sym is) (record { labelled = λ e. absurd (other e); single = λ e. refl })
