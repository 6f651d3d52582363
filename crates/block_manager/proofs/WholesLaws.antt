-- Runs of views that stay whole.
use Rattle.{std.proofs.Common.{◌≡◌, ℕ, ◌+◌, ◌<◌, Bool, true, false, List, [], ◌∷◌, ◌++◌, length, refl, ap, sym, ◌∙◌, subst, arith, All, inl, inr, Option, Some, None, length-append}, std.proofs.lemmas.{Bool.{cases_eq, cases_lt, false≢true}, List.Elements.{All-push, All-nil}}, column_core.specs.Blocks.{CellBlock}, block_manager.{specs.{declared.spots.Run.{Run}, Spots.{no_run, run_in, marked, width_in, whole_run, whole_at, AreWholes, AreWholesOf}}, proofs.PlanLaws.{beyond, pushed_last, pushed_before}}}

-- none
pub wholes_none : (runs : List Run) (places : List (Option ℕ)) → runs ≡ [] → places ≡ [] → AreWholes runs places
wholes_none runs places no_runs no_places = record {
  there = λ view run e. (let none : None ≡ Some run = ap (λ (ps : List (Option ℕ)). whole_at ps view) (sym no_places) ∙ e in cc);
  back = λ run lt. absurd (omega (arith, lt, ap length no_runs));
  some = subst (All (λ r. 0 < r.count)) (sym no_runs) (All-nil _);
}

module _ (grids : List CellBlock) (n : ℕ) (split : List Bool) (runs : List Run) (places : List (Option ℕ)) (so_far : AreWholesOf grids n split runs places) (long : length places ≡ n) where
  -- a view that is split or has no columns
  skipped : (view : ℕ) → whole_at (places ++ None ∷ []) view ≡ whole_at places view
  skipped view = elim (cases_lt view (length places)) [
    | inl lt ↦ pushed_before places None None view lt
    | inr ge ↦ elim (cases_eq view (length places)) [
      | inl e ↦ ap (whole_at (places ++ None ∷ [])) e ∙ pushed_last places None None ∙ sym (beyond places view None ge)
      | inr ne ↦ beyond (places ++ None ∷ []) view None (omega (arith, ge, ne, length-append places (None ∷ []))) ∙ sym (beyond places view None ge)
    ]
  ]

  pub wholes_skip : (marked split n ≡ false → 0 < width_in grids n → ⊥) → AreWholesOf grids (n + 1) split runs (places ++ None ∷ [])
  wholes_skip out = record {
    wholes = record {
      there = λ view run e. so_far.wholes.there view run (sym (skipped view) ∙ e);
      back = λ run lt. skipped (run_in runs run).view ∙ so_far.wholes.back run lt;
      some = so_far.wholes.some;
    };
    counts = λ view run e. so_far.counts view run (sym (skipped view) ∙ e);
    all = λ view lt unsplit wide. elim (cases_lt view n) [
      | inl below ↦ (let before = so_far.all view below unsplit wide in (before.0, skipped view ∙ before.1))
      | inr ge ↦ (let at : view ≡ n = omega (arith, lt, ge) in absurd (out (ap (marked split) (sym at) ∙ unsplit) (subst (λ v. 0 < width_in grids v) at wide)))
    ];
  }

  -- a view that stays whole
  module _ (wide : 0 < width_in grids n) (unsplit : marked split n ≡ false) where
    abbrev r : Run
    r = whole_run n (width_in grids n)

    abbrev more : List (Option ℕ)
    more = places ++ Some (length runs) ∷ []

    before : (view : ℕ) → view < n → whole_at more view ≡ whole_at places view
    before view lt = pushed_before places (Some (length runs)) None view (omega (arith, lt, long))

    here : whole_at more n ≡ Some (length runs)
    here = ap (whole_at more) (sym long) ∙ pushed_last places (Some (length runs)) None

    after : (view : ℕ) → n < view → whole_at more view ≡ None
    after view lt = beyond more view None (omega (arith, lt, long, length-append places (Some (length runs) ∷ [])))

    old_run : (k : ℕ) → k < length runs → run_in (runs ++ r ∷ []) k ≡ run_in runs k
    old_run k lt = pushed_before runs r no_run k lt

    new_run : run_in (runs ++ r ∷ []) (length runs) ≡ r
    new_run = pushed_last runs r no_run

    runs_long : length (runs ++ r ∷ []) ≡ length runs + 1
    runs_long = length-append runs (r ∷ [])

    -- the run of a view that has one
    the_run : (view run : ℕ) → whole_at more view ≡ Some run → (run < length runs + 1) × (run_in (runs ++ r ∷ []) run ≡ whole_run view (width_in grids view)) × (marked split view ≡ false)
    the_run view run e = elim (cases_lt view n) [
      | inl lt ↦
          let is = sym (before view lt) ∙ e in
          let old = so_far.wholes.there view run is in
          let counts = so_far.counts view run is in
          (omega (arith, old.0), old_run run old.0 ∙ old.1 ∙ ap (whole_run view) counts.0, counts.1)
      | inr ge ↦ elim (cases_eq view n) [
        | inl at ↦
            let is : Some run ≡ Some (length runs) = sym e ∙ ap (whole_at more) at ∙ here in
            let run_at : run ≡ length runs = cc in
            (omega (arith, run_at), ap (run_in (runs ++ r ∷ [])) run_at ∙ new_run ∙ ap (λ (v : ℕ). whole_run v (width_in grids v)) (sym at), ap (marked split) at ∙ unsplit)
        | inr ne ↦ (let none : None ≡ Some run = sym (after view (omega (arith, ge, ne))) ∙ e in cc)
      ]
    ]

    pub wholes_more : AreWholesOf grids (n + 1) split (runs ++ whole_run n (width_in grids n) ∷ []) (places ++ Some (length runs) ∷ [])
    wholes_more = record {
      wholes = record {
        there = λ view run e.
            let is = the_run view run e in
            (omega (arith, is.0, runs_long), is.1 ∙ ap (whole_run view) (sym (ap (λ (x : Run). x.count) is.1)));
        back = λ run lt. elim (cases_lt run (length runs)) [
          | inl old ↦
              let was : whole_at places (run_in runs run).view ≡ Some run = so_far.wholes.back run old in
              let inside : (run_in runs run).view < n = elim (cases_lt (run_in runs run).view n) [
                | inl below ↦ below
                | inr ge ↦ (let none : None ≡ Some run = sym (beyond places (run_in runs run).view None (omega (arith, ge, long))) ∙ was in cc)
              ] in
              ap (λ (x : Run). whole_at more x.view) (old_run run old) ∙ before (run_in runs run).view inside ∙ was
          | inr ge ↦
              let at : run ≡ length runs = omega (arith, lt, ge, runs_long) in
              ap (λ k. whole_at more (run_in (runs ++ r ∷ []) k).view) at ∙ ap (λ (x : Run). whole_at more x.view) new_run ∙ here ∙ ap (λ (k : ℕ). Some k) (sym at)
        ];
        some = All-push (λ (x : Run). 0 < x.count) runs r so_far.wholes.some wide;
      };
      counts = λ view run e. (let is = the_run view run e in (ap (λ (x : Run). x.count) is.1, is.2));
      all = λ view lt free some. elim (cases_lt view n) [
        | inl below ↦ (let old = so_far.all view below free some in (old.0, before view below ∙ old.1))
        | inr ge ↦ (let at : view ≡ n = omega (arith, lt, ge) in (length runs, ap (whole_at more) at ∙ here))
      ];
    }

-- a view that is split has no run
pub split_free : (grids : List CellBlock) (n : ℕ) (split : List Bool) (runs : List Run) (places : List (Option ℕ)) → AreWholesOf grids n split runs places → (view : ℕ) → marked split view ≡ true → whole_at places view ≡ None
split_free grids n split runs places are view is = at (whole_at places view) refl
  where
    at : (o : Option ℕ) → whole_at places view ≡ o → whole_at places view ≡ None
    at None e = e
    at (Some run) e = absurd (false≢true (sym (are.counts view run e).1 ∙ is))
