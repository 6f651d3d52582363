-- The law of stacking for labels with their texts.
use Rattle.{
  column_core.proofs.cells.Common.{◌≡◌, ◌∙◌, refl, sym, ap, subst, arith, List, [], ◌∷◌, ◌++◌, length},
  std.specs.{Cmp.Lexicographic.{slice_cmp, lists_total, lists_ties}, FinMap.{slice_cmp-IsAntisymmetric}, Ordering.{eq_by_cmp, ordering_then}, declared.cmp.Ordering.{Ordering, TheVariants.{Less, Equal, Greater}}},
  cell_core.{specs.Values.{label_cmp}, proofs.LabelLaws.{label_total, value_same}},
  factorize.specs.group.Keys.{tuple_rules},
  meaning_shapes.{specs.Stacking.{StacksBack}, proofs.StackLaws.{stacks_back}},
}

then_both : (a b c : Ordering) → ordering_then a (ordering_then b c) ≡ ordering_then (ordering_then a b) c
then_both Equal b c = refl
then_both Less b c = refl
then_both Greater b c = refl

-- lists behind equally long ones
cmp-append : {A : Type 0} (cmp : A → A → Ordering) (a b c d : List A) → length a ≡ length b → slice_cmp cmp (a ++ c) (b ++ d) ≡ ordering_then (slice_cmp cmp a b) (slice_cmp cmp c d)
cmp-append cmp [] [] c d e = refl
cmp-append cmp [] (y ∷ b) c d e = grind arith
cmp-append cmp (x ∷ a) [] c d e = grind arith
cmp-append cmp (x ∷ a) (y ∷ b) c d e = ap (ordering_then (cmp x y)) (cmp-append cmp a b c d (omega (arith, e))) ∙ then_both (cmp x y) (slice_cmp cmp a b) (slice_cmp cmp c d)

same_is : eq_by_cmp (slice_cmp label_cmp) ≡ tuple_rules.same
same_is i a b = sym (lists_ties label_cmp (λ x y. refl) a b) i

pub labels_stack_back : StacksBack tuple_rules.same tuple_rules.less
labels_stack_back =
    subst (λ same. StacksBack same tuple_rules.less) same_is
    (stacks_back (slice_cmp label_cmp) (lists_total label_total) (slice_cmp-IsAntisymmetric value_same) (cmp-append label_cmp))
