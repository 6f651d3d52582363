use Rattle.{
  frame_calls.proofs.frame_parts.Common.{arith, err_from_is_err_and, longer_self, None, ◌≡◌, sym, ◌∙◌, ap, refl, entry_in, argument_in},
  frame_select.specs.Selected.{way_of},
  meaning_laws.{proofs.cells.Common.{option_map}, specs.charge.Charge.{setting_charge, touched_columns}},
  script_state.{specs.{Charges.{told, setting_cost}, Reads.{count_after}, Work.{world_of}}, proofs.ChargeLaws.{set_live, setting_is, set_charged}},
}
use Rattle.{frame_store.specs.World.{subscript_in}, frame_select.specs.Selected.{second_in}}
use Rattle.script_state.proofs.work.Work.assign.Goals as goal

pub setting_cells-cells-requires : goal.setting_cells-cells-requires
setting_cells-cells-requires c =
    let s = c.in_ok-set.ensures.sets in
    let w = world_of c.args.self.now in
    set_live (setting_charge (entry_in w c.args.on) (way_of c.args.by) (subscript_in w c.args.first.now) (option_map (subscript_in w) c.args.second.now)) _ _ (world_of c.set.new.self) c.args.on s.sets

pub returns : goal.returns
returns c =
    let old = world_of c.args.self.now in
    let new = world_of c.set.new.self in
    let s = c.in_ok-set.ensures.sets in
    let v = entry_in old c.args.on in
    let way = way_of c.args.by in
    let first = subscript_in old c.args.first.now in
    let second = option_map (subscript_in old) c.args.second.now in
    let keys : second_in old c.as_ref-keys.result ≡ second = grind arith in
    record {
      names = s.names;
      spare = s.spare;
      unnamed = s.unnamed;
      sets = s.sets;
      charged = set_charged c.args.self.now.charge _ _ (λ cost is. c.charged-self.ensures cost is ∙ ap (λ n. count_after n cost) c.in_ok-set.ensures.charge) (setting_charge v way first second) _ _ new c.args.on s.sets (λ t is left.
          c.setting_cells-cells.ensures new.texts
          ∙ (λ i. told (setting_cost (c.rows_of-rows.ensures old.texts i) ((c.in_ok-touched.ensures ∙ ap (touched_columns v way first) keys) i) (left i)))
          ∙ ap told (sym (setting_is v way first second (argument_in old c.args.value.now) t is)));
    }

pub returns-in_err-touched : goal.returns-in_err-touched
returns-in_err-touched c =
    let p = err_from_is_err_and c.from_residual.result c.from_residual.ensures.1 in
    rw (p.1, p.2) (record { names = refl; spare = None; unnamed = tt; sets = (refl, longer_self _, c.args.self.now.settled, record { cells = omega arith; blocks = λ id live there apart. refl }); charged = refl })

pub returns-in_err-set : goal.returns-in_err-set
returns-in_err-set c =
    let s = c.in_err-set.ensures.sets in
    let p = err_from_is_err_and c.from_residual-in_err-set.result c.from_residual-in_err-set.ensures.1 in
    rw (p.1, p.2) (record { names = s.names; spare = s.spare; unnamed = s.unnamed; sets = s.sets; charged = c.in_err-set.ensures.charge })
