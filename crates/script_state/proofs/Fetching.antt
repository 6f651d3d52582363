-- The file of a name, as it is fetched.
use Rattle.{
  frame_calls.proofs.frame_parts.Common.{◌≡◌, ◌<◌, ◌^◌, ℕ, List, [], ◌∷◌, length, Some, None, refl, arith, nat_tests, Ok, Err, Text, Contents, limit, Given, NamedGiven, Kind},
  meaning_laws.{proofs.{cells.Common.{get}, SpentLaws.{at_most-sum}}, specs.{charge.Charge.{answer_charge}, call.{declared.{Function.TheVariants.{ReadCsv}, Parameter.{Parameter}}, Signature.{function_parameters}}, csv.CsvRead.{beyond_limits, columns_of_file}, method.Readers.{file_name_of, csv_result, read_result}, script.{Spent.{one_fetch, IsAtMost}, Reading.{Reads, at_once, costing, after, path_of_name, of_bytes, of_file}}}},
  outside_io.specs.{Count.{HasRisen, raised}, Whole.{IsAbsent, IsWholeFile, IsLonger}, Files.{FilesValue}},
  script_state.{proofs.Rides.{cost_refused, goes_same, spends_none}, specs.{declared.{file_names.FileName.{FileName}, fault.EvalFault.{EvalFault}}, Faults.{IsNoFile}, Reads.{Holds, Goes, Pays, Stuck, Tab, metered, Spends, Halts, RefusesLong, paths_of, files_in}}},
}

module _ {A : Type 0} (texts : List Text) (names : List FileName) (held : Contents) (name : Text) (go : List ℕ → Reads A) where
  abbrev whole : Reads A
  whole = of_file (files_in names held) name go

  -- no path, and so nothing is fetched
  pub nameless_file : path_of_name (paths_of names) name ≡ None → (s : FilesValue) (f : EvalFault) → IsNoFile f name → Halts Err texts (files_in names held) s s whole f
  nameless_file = grind (arith, goes_same, spends_none)

  module _ (path : Text) (found : path_of_name (paths_of names) name ≡ Some path) (old new : FilesValue) (once : new.fetches ≡ raised old.fetches 1) where
    whole_is : whole ≡ after one_fetch (of_bytes name (get held path) go)
    whole_is = rw found refl

    within_whole : IsAtMost one_fetch whole.spent
    within_whole = rw whole_is (at_most-sum one_fetch (of_bytes name (get held path) go).spent)

    -- something was fetched, so the files tell their contents
    never : Holds None one_fetch whole.spent held → ⊥
    never = grind (arith, whole_is)

    fetched : (r : Reads A) → (Holds old.contents one_fetch whole.spent held → of_bytes name (get held path) go ≡ r) → Goes held old new whole r
    fetched _ is = record { spent = one_fetch; counted = once; meant = λ holds. rw (whole_is, is holds) refl }

    paid : (c : Tab) (r : Reads A) → (Holds old.contents one_fetch whole.spent held → of_bytes name (get held path) go ≡ r) → Pays held (metered c old) (metered c new) whole r
    paid _ _ is = record { goes = record { spent = one_fetch; counted = once; meant = λ holds. rw (whole_is, is holds) refl }; costs = record { charge = refl; held = omega arith } }

    pub spent_file : Spends held old new whole
    spent_file = record { spent = one_fetch; counted = once; within = λ _. within_whole }

    pub stuck_file : HasRisen old.faults new.faults → Stuck held old new whole
    stuck_file risen = record { spent = one_fetch; counted = once; some = omega arith; within = λ _. within_whole; risen = risen }

    pub read_file : (c : Tab) (bytes : List ℕ) → IsWholeFile old.contents path bytes → Pays held (metered c old) (metered c new) whole (go bytes)
    read_file = grind (arith, paid, never)

    pub long_file : RefusesLong go → IsLonger old.contents path (2 ^ 28) → Goes held old new whole (at_once (Err limit))
    long_file = grind (arith, fetched, never)

    pub absent_file : (f : EvalFault) → IsNoFile f name → IsAbsent old.contents path → HasRisen old.absences new.absences → Halts Err texts (files_in names held) old new whole f
    absent_file = grind (arith, fetched, never, spent_file)

-- bytes beyond the limits are refused, where the arguments name a file
module _ (gs : List NamedGiven) where
  abbrev ps : List Parameter
  ps = function_parameters ReadCsv

  long_columns : (bytes : List ℕ) → 2 ^ 28 < length bytes → (kinds : List (Text × Kind)) → columns_of_file bytes kinds ≡ Err beyond_limits
  long_columns = grind (arith, nat_tests)

  long_result : (bytes : List ℕ) → 2 ^ 28 < length bytes → (name backend dtype : Given) → csv_result bytes (name ∷ backend ∷ dtype ∷ []) ≡ Err limit
  long_result = search long_columns

  long_read : (name : Text) → file_name_of ReadCsv gs ≡ Ok name → (bytes : List ℕ) → 2 ^ 28 < length bytes → read_result bytes gs ≡ Err limit
  long_read = grind (arith, long_result)

  pub refuses_long : (name : Text) → file_name_of ReadCsv gs ≡ Ok name → RefusesLong (λ bytes. costing answer_charge (read_result bytes gs))
  refuses_long name is bytes long = cost_refused answer_charge _ _ (long_read name is bytes long)
