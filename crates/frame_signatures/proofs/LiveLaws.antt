-- What is live in a list of arguments is live in its parts.
use Rattle.frame_store.{proofs.cells.Common.{◌≤◌, ℕ, zero, suc, List, [], ◌∷◌, length, take, drop, get_or, arith}, specs.{declared.arguments.Named.{Named}, Objects.{Tables}, Arguments.{IsLiveArgument, AreLive}}}

live_take : (live : Tables) (n : ℕ) (gs : List Named) → AreLive live gs → AreLive live (take n gs)
live_take _ zero _ h = tt
live_take _ (suc n) [] h = tt
live_take live (suc n) (g ∷ gs) h = (h.0, live_take live n gs h.1)

pub live_after : (live : Tables) (n : ℕ) (gs : List Named) → AreLive live gs → AreLive live (take n (drop 1 gs))
live_after = grind (live_take, arith)

pub live_first : (live : Tables) (gs : List Named) (d : Named) → 1 ≤ length gs → AreLive live gs → IsLiveArgument live (get_or gs 0 d).value
live_first live [] = grind arith
live_first live (g ∷ gs) = grind arith
