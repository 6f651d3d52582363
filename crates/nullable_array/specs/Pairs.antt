-- Operations on the values of a row, told by flags.
use Rattle.std.specs.Prelude.{◌≡◌, ℕ, ◌<◌, ◌≤◌, length, vec_len, vec_capacity, Bool, false, List, slice_get, slice_index_or, Option, Some, None, if◌then◌else◌}
use Rattle.std.specs.Global.{Vec}
use Rattle.std.proofs.Common.{ap}
use Rattle.column_core.specs.Lanes.{option_at}
use Rattle.column_core.specs.Rows.{flagged}

-- the row of a value and a flag that lie side by side
pub flagged_at : {T : Type 0} (values : List T) (present : List Bool) (k : ℕ) (x : T) → slice_get values k ≡ Some x → option_at values present k ≡ flagged (slice_index_or present k false) x
flagged_at values present k x e = ap (λ o. if slice_index_or present k false then o else None) e

-- each flag below count is that of the values and flags of its row
abbrev pub AreFlagged : {X Y : Type 0} → (X → Bool → Y → Bool → Bool) → (ℕ → Option X) → (ℕ → Bool) → (ℕ → Option Y) → (ℕ → Bool) → ℕ → List Bool → Type 0
AreFlagged {X} {Y} flag xs ps ys qs count flags =
    (k : ℕ) (x : X) (y : Y) → k < count → xs k ≡ Some x → ys k ≡ Some y → slice_index_or flags k false ≡ flag x (ps k) y (qs k)

-- each value below count is that of the values and flags of its row
abbrev pub AreValued : {X Y U : Type 0} → (X → Bool → Y → Bool → U) → (ℕ → Option X) → (ℕ → Bool) → (ℕ → Option Y) → (ℕ → Bool) → ℕ → List U → Type 0
AreValued {X} {Y} value xs ps ys qs count values =
    (k : ℕ) → k < count → (x : X) × (y : Y) × (xs k ≡ Some x) × (ys k ≡ Some y) × (slice_get values k ≡ Some (value x (ps k) y (qs k)))

-- the values of the rows up to one were pushed, with room for those of all
pub record AreFilled {X Y U : Type 0} (value : X → Bool → Y → Bool → U) (xs : ℕ → Option X) (ps : ℕ → Bool) (ys : ℕ → Option Y) (qs : ℕ → Bool) (count so_far : ℕ) (values : Vec U) : Type 0 where
  pub many : length values.items ≡ so_far
  pub counted : vec_len values ≡ so_far
  pub room : count ≤ vec_capacity values
  pub valued : AreValued value xs ps ys qs so_far values.items
