-- Why a key picks no rows.
use Rattle.std.specs.Prelude.{ℕ, ℤ, Result, Ok, Err}

pub data PickFault (K : Type 0) : Type 0 where
  -- no row carries the label
  not_there : K → PickFault K
  -- a bound of a slice stands more than once on an axis that isn't sorted
  bound_not_unique : K → PickFault K
  -- a position names no row among so many
  out_of_range : ℤ → ℕ → PickFault K
  -- a row's label stands not exactly once in a mask
  no_mask_label : K → PickFault K
  -- a slice by positions has a step of 0
  step_zero : PickFault K

-- the first fault, or what the value goes on to
abbrev pub then_pick : {A B K : Type 0} → Result A (PickFault K) → (A → Result B (PickFault K)) → Result B (PickFault K)
then_pick (Ok a) go = go a
then_pick (Err fault) go = Err fault

-- the same fault, where the keys are seen otherwise
abbrev pub fault_seen : {K J : Type 0} → (K → J) → PickFault K → PickFault J
fault_seen f (not_there k) = not_there (f k)
fault_seen f (bound_not_unique k) = bound_not_unique (f k)
fault_seen f (out_of_range z n) = out_of_range z n
fault_seen f (no_mask_label k) = no_mask_label (f k)
fault_seen f step_zero = step_zero

-- the same answer, where the keys of its fault are seen otherwise
abbrev pub pick_seen : {A K J : Type 0} → (K → J) → Result A (PickFault K) → Result A (PickFault J)
pick_seen f (Ok a) = Ok a
pick_seen f (Err fault) = Err (fault_seen f fault)
