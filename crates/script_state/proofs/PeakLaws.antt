-- What is held has at least the rows of each table with a column that a name stands for.
use Rattle.{
  frame_calls.proofs.frame_parts.Common.{arith, ◌≡◌, ◌<◌, ◌≤◌, ◌^◌, ℕ, length, Option, Some, None, refl, ap, IsSome, IfSome, Text, NumberedTable, table_value, table, Tables, ObjId, Value, Object, Scalar, World, objects_of, entry_in},
  meaning_laws.{proofs.{cells.Common.{option_map, min, map, length-map, List, [], ◌∷◌}, PaidLaws.{most_within, limited_rows}}, specs.{script.State.{rows_under, held_rows, value_rows, most_rows}, tables.Valid.{IsValid}, Validity.{AreValid}}},
  outside_io.specs.Count.{last_count},
  script_state.specs.Bindings.{Bindings, value_at, state_over, AreLive},
}

-- the rows of the tables with a column
abbrev pub HaveRows : ℕ → Tables → Type 0
HaveRows held tables = (id : ℕ) → IfSome (tables id) (λ t. 0 < length t.columns → length t.labels ≤ held)

-- the rows of columns that are seen with texts
seen_rows : {C D : Type 0} (f : C → D) (cs : List C) (rows held : ℕ) → (0 < length cs → rows ≤ held) → rows_under (map f cs) rows ≤ held
seen_rows f [] rows held h = omega arith
seen_rows f (c ∷ cs) rows held h = h (omega arith)

module _ (bs : Bindings) (w : World) (held : ℕ) (live : AreLive bs w.tables) (valid : AreValid (objects_of w)) (rows : HaveRows held w.tables) where
  table_rows : (id : ObjId) (o : Option NumberedTable) → w.tables id.0 ≡ o → IsSome o → value_rows (Some (entry_in w (Object id))) ≤ min held last_count
  table_rows id (Some t) is there =
      let known : IsValid (table_value w.texts t) = valid id.0 (table_value w.texts t) (ap (option_map (table_value w.texts)) is) in
      let few : value_rows (Some (table (table_value w.texts t))) ≤ 2 ^ 26 = limited_rows (Some (table (table_value w.texts t))) known in
      let some : 0 < length t.columns → length t.labels ≤ held = rw is at (rows id.0) in
      let long : length (table_value w.texts t).labels ≡ length t.labels = length-map t.labels _ in
      let seen : held_rows (table_value w.texts t) ≤ held = seen_rows _ t.columns _ held (λ column. omega (arith, long, some column)) in
      rw is (omega (arith, few, seen))
  table_rows id None is there = cc

  value_within : (n : Text) (v : Option Value) → value_at bs n ≡ v → value_rows (option_map (entry_in w) v) ≤ min held last_count
  value_within n (Some (Object id)) is = table_rows id (w.tables id.0) refl (live n id is)
  value_within n (Some (Scalar c)) is = omega arith
  value_within n None is = omega arith

  pub names_rows : most_rows (state_over bs w) ≤ min held last_count
  names_rows = most_within (state_over bs w) (min held last_count) (λ n. value_within n (value_at bs n) refl)
