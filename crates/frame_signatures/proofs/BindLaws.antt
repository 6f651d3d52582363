-- Whether arguments fit, by the first of them.
use Rattle.{
  frame_store.{proofs.cells.Common.{◌≡◌, ◌≤◌, ◌-◌, ℕ, Bool, true, false, List, [], ◌∷◌, length, take, drop, get_or, arith, if◌then◌else◌, take_rest, Text}, specs.{declared.arguments.Named.{Named}, Objects.{Tables}, Arguments.{named_of, arguments_of}}},
  meaning_call.specs.{declared.Parameter.{Parameter}, Binding.{fits, fit, counted}},
}

abbrev pub after : List Named → List Named
after gs = take (length gs - 1) (drop 1 gs)

abbrev step : Tables → List Text → List Parameter → ℕ → Named → List Named → Bool
step live texts ps k g gs =
    if fits ps k (named_of live texts g) (arguments_of live texts gs) then fit ps (counted k g.name) (arguments_of live texts gs) else false

fit_first : (live : Tables) (texts : List Text) (ps : List Parameter) (k : ℕ) (gs : List Named) (g : Named) → g ≡ get_or gs 0 g → 1 ≤ length gs → fit ps k (arguments_of live texts gs) ≡ step live texts ps k g (after gs)
fit_first _ _ _ k [] g is some = grind arith
fit_first _ _ _ k (x ∷ xs) g is some = cc (take_rest (x ∷ xs) 1)

pub fit_refused : (live : Tables) (texts : List Text) (ps : List Parameter) (k : ℕ) (gs : List Named) (g : Named) → g ≡ get_or gs 0 g → 1 ≤ length gs
    → fits ps k (named_of live texts g) (arguments_of live texts (after gs)) ≡ false → fit ps k (arguments_of live texts gs) ≡ false
fit_refused live texts ps k gs g is some refused = cc (fit_first live texts ps k gs g is some)

pub fit_taken : (live : Tables) (texts : List Text) (ps : List Parameter) (k : ℕ) (gs : List Named) (g : Named) → g ≡ get_or gs 0 g → 1 ≤ length gs
    → fits ps k (named_of live texts g) (arguments_of live texts (after gs)) ≡ true → fit ps k (arguments_of live texts gs) ≡ fit ps (counted k g.name) (arguments_of live texts (after gs))
fit_taken live texts ps k gs g is some taken = cc (fit_first live texts ps k gs g is some)
