use Rattle.{std.proofs.Common.{◌≡◌, ◌∙◌, ◌-◌, ◌++◌, ◌∷◌, ◌<◌, [], List, ℕ, Option, ap, sym, subst, arith, length, take}, std.proofs.lemmas.List.{get_or_default, take_all, take_more}, block_manager.{specs.{declared.spots.{Spot.{Spot}, Run.{Run}}, Spots.{Plans, Joins, marked, no_run, run_in, spot_at, whole_at}}, proofs.PlanLaws.{s0, plans_start, plans_more, from_below}}}
use Rattle.block_manager.proofs.planning.planned.Goals as goal

pub loop-k-init : goal.loop-k-init
loop-k-init c = record {
  plans = subst (λ (ss : List Spot). Plans c.args.wholes.runs.items c.args.wholes.places.items c.args.wholes.runs.items ss [] c.args.marks.now) (sym c.in_ok-spots.ensures.items)
      (plans_start c.args.wholes.runs.items c.args.wholes.places.items c.requires.wholes c.args.marks.now);
  count = ap length c.in_ok-spots.ensures.items;
}

pub index-requires : goal.index-requires
index-requires c =
    let places = c.args.wholes.places.items in
    let pick = spot_at c.args.picks.now c.loop-k.k in
    let joins : Joins (whole_at places pick.view) c.loop-k.runs.items c.joined.new.runs.items c.in_ok-run.run' pick c.is_marked.result =
    subst (λ (o : Option ℕ). Joins o c.loop-k.runs.items c.joined.new.runs.items c.in_ok-run.run' pick c.is_marked.result) (c.run_of-whole.ensures ∙ ap (λ (ps : List (Option ℕ)). whole_at ps pick.view) c.deref.ensures.value) c.in_ok-run.ensures in
    omega (
      arith,
      (from_below c.args.wholes.runs.items places c.requires.wholes c.loop-k.runs.items c.loop-k.spots.items (take c.loop-k.k c.args.picks.now) c.args.marks.now c.loop-k.invariant.plans pick c.joined.new.runs.items c.in_ok-run.run' c.is_marked.result joins).0,
    )

pub overflow_sub-pick : goal.overflow_sub-pick
overflow_sub-pick c =
    let places = c.args.wholes.places.items in
    let pick = spot_at c.args.picks.now c.loop-k.k in
    let runs = c.joined.new.runs.items in
    let run = c.in_ok-run.run' in
    let joins : Joins (whole_at places pick.view) c.loop-k.runs.items runs run pick c.is_marked.result =
    subst (λ (o : Option ℕ). Joins o c.loop-k.runs.items runs run pick c.is_marked.result) (c.run_of-whole.ensures ∙ ap (λ (ps : List (Option ℕ)). whole_at ps pick.view) c.deref.ensures.value) c.in_ok-run.ensures in
    let low = from_below c.args.wholes.runs.items places c.requires.wholes c.loop-k.runs.items c.loop-k.spots.items (take c.loop-k.k c.args.picks.now) c.args.marks.now c.loop-k.invariant.plans pick runs run c.is_marked.result joins in
    let seen : c.index.result.now.from ≡ (run_in runs run).from = ap (λ (r : Run). r.from) (c.index.ensures ∙ get_or_default runs run c.index.result.now no_run low.0) in
    omega (arith, low.1, seen)

pub loop-k-preserved : goal.loop-k-preserved
loop-k-preserved c =
    let places = c.args.wholes.places.items in
    let picks = c.args.picks.now in
    let k = c.loop-k.k in
    let pick = spot_at picks k in
    let lt : k < length picks = omega arith in
    let runs = c.joined.new.runs.items in
    let run = c.in_ok-run.run' in
    let alone = c.is_marked.result in
    let column = pick.column - c.index.result.now.from in
    let joins : Joins (whole_at places pick.view) c.loop-k.runs.items runs run pick alone =
    subst (λ (o : Option ℕ). Joins o c.loop-k.runs.items runs run pick alone) (c.run_of-whole.ensures ∙ ap (λ (ps : List (Option ℕ)). whole_at ps pick.view) c.deref.ensures.value) c.in_ok-run.ensures in
    let low = from_below c.args.wholes.runs.items places c.requires.wholes c.loop-k.runs.items c.loop-k.spots.items (take k picks) c.args.marks.now c.loop-k.invariant.plans pick runs run alone joins in
    let seen : c.index.result.now.from ≡ (run_in runs run).from = ap (λ (r : Run). r.from) (c.index.ensures ∙ get_or_default runs run c.index.result.now no_run low.0) in
    let at : column ≡ pick.column - (run_in runs run).from = ap (λ n. pick.column - n) seen in
    let mark : alone ≡ marked c.args.marks.now (length c.loop-k.spots.items) = c.is_marked.ensures ∙ ap (marked c.args.marks.now) (sym c.loop-k.invariant.count) in
    record {
      plans = subst (λ (ps : List Spot). Plans c.args.wholes.runs.items places runs c.push.new.self.items ps c.args.marks.now) (sym (take_more picks k s0 lt))
          (subst (λ (ss : List Spot). Plans c.args.wholes.runs.items places runs ss (take k picks ++ pick ∷ []) c.args.marks.now) (sym c.in_ok-push.ensures.items)
          (plans_more c.args.wholes.runs.items places c.requires.wholes c.loop-k.runs.items c.loop-k.spots.items (take k picks) c.args.marks.now c.loop-k.invariant.plans pick runs run column alone mark (λ is. c.requires.marks k lt (ap (marked c.args.marks.now) (sym c.loop-k.invariant.count) ∙ is)) joins at));
      count = omega (arith, c.in_ok-push.ensures.len, c.loop-k.invariant.count);
    }

pub returns : goal.returns
returns c = subst (λ (ps : List Spot). Plans c.args.wholes.runs.items c.args.wholes.places.items c.loop-k.runs.items c.loop-k.spots.items ps c.args.marks.now) (take_all c.loop-k.k c.args.picks.now (omega arith)) c.loop-k.invariant.plans
