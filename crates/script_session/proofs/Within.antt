-- The charge stays above what is held, and above the peak.
use Rattle.{script_state.{proofs.cells.Common.{arith, ◌≡◌, ℕ, zero, suc, ◌+◌, ◌≤◌, List, Result, Ok, Err, Text}, specs.{script.{State.{State}, Reading.{Files, Reading}, Statement.{Answer}}, Reads.{Costs, count_after}, Work.{tab_of}}}, std.specs.Prelude.{min, max, OnErr}, outside_io.specs.{Count.{last_count}, Files.{FilesValue}}, script_session.specs.{declared.{fault.{Outcome.{Outcome}, StepFault.{StepFault}}, session.Session.{Session}}, Faults.{Performs}, Session.{charge_of, held_in, meter_in, peak_of, IsWithinCharge}}}

within_more : (n c c' t t' peak peak' : ℕ) → c ≤ last_count → c' ≡ count_after c n → t' ≤ t + n → peak' ≡ max peak (min t' last_count) → min t last_count ≤ c → peak ≤ c → (min t' last_count ≤ c') × (peak' ≤ c')
within_more zero c c' t t' peak peak' fits is held top within least = grind arith
within_more (suc n) c c' t t' peak peak' fits is held top within least = grind arith

kept_more : (c c' h h' peak peak' : ℕ) → c' ≡ c → h' ≤ h → peak' ≡ max peak h' → h ≤ c → peak ≤ c → (h' ≤ c') × (peak' ≤ c')
kept_more c c' h h' peak peak' is less top within least = grind arith

module _ (old new : Session) where
  -- where as much was charged as what is held was raised by, at most
  within_paid : (n : ℕ) → charge_of old ≤ last_count → Costs n (tab_of old.work) (tab_of new.work) → peak_of new ≡ max (peak_of old) (held_in new) → IsWithinCharge old → IsWithinCharge new
  within_paid n fits costs top was =
      let both = within_more n (charge_of old) (charge_of new) (tab_of old.work).held (tab_of new.work).held (peak_of old) (peak_of new) fits costs.charge costs.held top was.held was.peak in
      record { held = both.0; peak = both.1 }

  -- where nothing was charged, and no more is held
  within_kept : charge_of new ≡ charge_of old → held_in new ≤ held_in old → peak_of new ≡ max (peak_of old) (held_in new) → IsWithinCharge old → IsWithinCharge new
  within_kept is less top was =
      let both = kept_more (charge_of old) (charge_of new) (held_in old) (held_in new) (peak_of old) (peak_of new) is less top was.held was.peak in
      record { held = both.0; peak = both.1 }

  -- a statement that was done, and one that was refused
  pub within_step : (s : State) (texts : List Text) (files : Files) (seen seen' : FilesValue) (whole : Reading Answer) (r : Result Outcome StepFault) → Performs s texts files (meter_in old seen) (meter_in new seen') whole r → charge_of old ≤ last_count → peak_of new ≡ max (peak_of old) (held_in new)
      → OnErr r (charge_of new ≡ charge_of old) → OnErr r (held_in new ≤ held_in old) → IsWithinCharge old → IsWithinCharge new
  within_step s texts files seen seen' whole (Ok o) h fits top is less = within_paid h.goes.spent.charge fits h.costs top
  within_step s texts files seen seen' whole (Err f) h fits top is less = within_kept is less top

  -- a name that was taken out
  pub within_left : charge_of new ≡ charge_of old → (tab_of new.work).held ≤ (tab_of old.work).held + 0 → peak_of new ≡ peak_of old → IsWithinCharge old → IsWithinCharge new
  within_left charge held peak was = record { held = omega (arith, charge, held, was.held); peak = omega (arith, charge, peak, was.peak) }
