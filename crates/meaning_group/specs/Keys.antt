-- The keys of groups, and the group of each row.
use Rattle.std.specs.Prelude.{ℕ, Bool, true, not, if◌then◌else◌, List, map, filter, Option}
use Rattle.std.specs.List.{list_any, position}
use Rattle.std.specs.Ordering.{is_lt, is_eq}
use Rattle.std.specs.Cmp.Lexicographic.{pointwise, slice_cmp}
use Rattle.meaning_align.specs.cells.Cell.{LabelValue, label_cmp}
use Rattle.meaning_align.specs.cells.Reduce.{distinct}
pub use Rattle.meaning_align.specs.sorting.Labels.{is_na}
use Rattle.meaning_align.specs.sorting.Sorting.{in_order}

-- how keys are told apart, which of two stands first, and whether one holds an NA
pub record KeyRules (K : Type 0) : Type 0 where
  pub same : K → K → Bool
  pub less : K → K → Bool
  pub holds_na : K → Bool

-- the keys in order, where they are to be sorted
abbrev pub ordered_if : {K : Type 0} → Bool → (K → K → Bool) → List K → List K
ordered_if sorted less keys = if sorted then in_order less keys else keys

-- a key that holds an NA is left out where NA is dropped
abbrev pub is_kept : {K : Type 0} → Bool → (K → Bool) → K → Bool
is_kept dropna holds_na key = if dropna then not (holds_na key) else true

-- the keys of the groups: each key of the rows once, in order or as the rows show it first
abbrev pub group_keys : {K : Type 0} → KeyRules K → Bool → Bool → List K → List K
group_keys rules sorted dropna rows = filter (is_kept dropna rules.holds_na) (ordered_if sorted rules.less (distinct rules.same rows))

-- the number of a key's group, or nothing where no group has the key
abbrev pub group_of : {K : Type 0} → (K → K → Bool) → List K → K → Option ℕ
group_of same keys key = position (same key) keys

-- the number of each row's group
abbrev pub group_codes : {K : Type 0} → KeyRules K → Bool → Bool → List K → List (Option ℕ)
group_codes rules sorted dropna rows = map (group_of rules.same (group_keys rules sorted dropna rows)) rows

-- keys that are tuples of labels: they are told apart label by label, and the first different label decides their order
abbrev pub tuple_rules : KeyRules (List LabelValue)
tuple_rules = record {
  same = pointwise (λ a b. is_eq (label_cmp a b));
  less = λ a b. is_lt (slice_cmp label_cmp a b);
  holds_na = list_any is_na;
}
