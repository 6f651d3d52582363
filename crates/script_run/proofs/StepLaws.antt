-- What steps print and fetch, one after another.
use Rattle.{
  script_session.{proofs.{script_state.laws.SpentLaws.{sum-assoc, nothing-sum}, cells.Common.{◌≡◌, ℕ, ◌+◌, ◌<◌, ◌≤◌, List, [], ◌∷◌, ◌++◌, length, Option, arith, zero-add, add-zero, length-append, lt-ltb, le-ltb, append-nil, flat_map-append}}, specs.{script.{Spent.{spent_sum}, Run.{RunStep, errors_of, spent_of, before_fetch, before_byte}}, script_state.Reads.{count_after}}},
  std.proofs.Common.{flat_map},
  outside_io.{specs.Sink.{appended}, proofs.Appended.{appended-appended}},
  script_run.specs.{Ends.{Outside}, Steps.{Does}},
}

-- the bytes of a sink, where they are told
abbrev pub Written : Type 0
Written = Option (List ℕ)

pub spent_of-append : (a b : List RunStep) → spent_of (a ++ b) ≡ spent_sum (spent_of a) (spent_of b)
spent_of-append [] b = search nothing-sum
spent_of-append (x ∷ a) b = search (sum-assoc, spent_of-append a b)

-- a fetch that comes after these steps is one of the others
pub before_fetch-append : (a b : List RunStep) (m : ℕ) → 0 < m → before_fetch ((spent_of a).fetches + m) (a ++ b) ≡ a ++ before_fetch m b
before_fetch-append [] b m some = search zero-add
before_fetch-append (x ∷ a) b m some = grind (arith, lt-ltb, before_fetch-append a b m some)

-- a byte that stands after the errors of these steps is one of the others
pub before_byte-append : (a b : List RunStep) (place : ℕ) → before_byte (length (errors_of a) + place) (a ++ b) ≡ a ++ before_byte place b
before_byte-append [] b _ = search zero-add
before_byte-append (x ∷ a) b place = grind (arith, length-append, le-ltb, before_byte-append a b place)

-- the count after some fetches and some more
pub count_after-add : (count a b : ℕ) → count_after (count_after count a) b ≡ count_after count (a + b)
count_after-add = grind (arith, zero-add, add-zero)

-- one step was done
pub does_one : (step : RunStep) (old new : Outside) → new.out ≡ appended old.out step.output → new.err ≡ appended old.err step.errors → new.files.fetches ≡ count_after old.files.fetches step.spent.fetches
    → old.out_faults ≤ new.out_faults → old.err_faults ≤ new.err_faults → Does (step ∷ []) old new
does_one = search (append-nil, add-zero)

-- what some steps and then others print is what all of them do
pub text_more : (text : RunStep → List ℕ) (a b : List RunStep) (w0 w1 w2 : Written) → w1 ≡ appended w0 (flat_map text a) → w2 ≡ appended w1 (flat_map text b) → w2 ≡ appended w0 (flat_map text (a ++ b))
text_more = grind (arith, flat_map-append, appended-appended)

pub does_more : (a b : List RunStep) (old mid new : Outside) → Does a old mid → Does b mid new → Does (a ++ b) old new
does_more = grind (arith, text_more, count_after-add, spent_of-append)
