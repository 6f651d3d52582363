-- What the objects in memory are seen as.
use Rattle.std.specs.Prelude.{◌+◌, ◌<◌, ℕ, zero, suc, List, min, Option, Some, None, IfSome, IsSomeAnd, Contains, if◌then◌else◌, nat_lt, refl}
use Rattle.std.specs.Coded.{Coded, code_by, coded×, coded_ℕ, coded_list, coded_option}
use Rattle.meaning_cells.specs.Text.{Contents}
use Rattle.outside_io.specs.Count.{raised, last_count}
use Rattle.outside_io.specs.Shelf.{contents_code}
use Rattle.outside_io.specs.declared.files.Fetch.{Fetch}
use Rattle.outside_io.specs.declared.files.Fetch.TheVariants.{Fetched, Absent, Failed}
use Rattle.outside_io.specs.declared.files.Got.{Got}
use Rattle.outside_io.specs.declared.files.Got.TheVariants.{Bytes, End, Failed as ReadFailed}
use Rattle.outside_io.specs.declared.sink.Put.{Put}
use Rattle.outside_io.specs.declared.sink.Put.TheVariants.{Took, Failed as PutFailed}

-- Files in memory: what they hold and what is left of the fetched file, their counts, the number of the
-- next call (none from call 2^64 on, which can't be named), the calls that are to fail, and how many bytes a read gives
-- at most, where that is limited.
pub record FilesInMemory : Type 0 where
  pub contents : Contents
  pub rest : List ℕ
  pub faults : ℕ
  pub absences : ℕ
  pub fetches : ℕ
  pub taken : ℕ
  pub next_call : Option ℕ
  pub failing : List ℕ
  pub most : Option ℕ

-- files in memory are stored as what they hold, their counts and their calls
abbrev pub files_code : Coded FilesInMemory
files_code =
    code_by ((Contents × List ℕ) × ((ℕ × (ℕ × (ℕ × ℕ))) × (Option ℕ × (List ℕ × Option ℕ))))
    (coded× (coded× contents_code (coded_list coded_ℕ)) (coded× (coded× coded_ℕ (coded× coded_ℕ (coded× coded_ℕ coded_ℕ))) (coded× (coded_option coded_ℕ) (coded× (coded_list coded_ℕ) (coded_option coded_ℕ)))))
    (λ f. ((f.contents, f.rest), ((f.faults, (f.absences, (f.fetches, f.taken))), (f.next_call, (f.failing, f.most)))))
    (λ p. record {
      contents = p.0.0;
      rest = p.0.1;
      faults = p.1.0.0;
      absences = p.1.0.1.0;
      fetches = p.1.0.1.1.0;
      taken = p.1.0.1.1.1;
      next_call = p.1.1.0;
      failing = p.1.1.1.0;
      most = p.1.1.1.1;
    })
    (λ _. refl)

-- A sink in memory: what it took, how many more bytes it takes, and how many puts have failed. Beside them the number of
-- the next put (none from put 2^64 on), the puts that are to fail, and how many bytes a put takes at most, where that is
-- limited.
pub record SinkInMemory : Type 0 where
  pub written : List ℕ
  pub room : ℕ
  pub faults : ℕ
  pub next_call : Option ℕ
  pub failing : List ℕ
  pub most : Option ℕ

-- the call of this number is among those that are to fail
abbrev pub IsNamed : Option ℕ → List ℕ → Type 0
IsNamed call failing = IsSomeAnd call (Contains failing)

-- The number of the call after this one. A call beyond the last count has no number, so it can't be named.
abbrev pub call_after : Option ℕ → Option ℕ
call_after None = None
call_after (Some call) = if nat_lt call last_count then Some (call + 1) else None

-- a limit lets at least one byte through
abbrev pub IsLimit : Option ℕ → Type 0
IsLimit most = IfSome most (λ n. 0 < n)

-- so many bytes, or as many as the limit lets through
abbrev pub limited : Option ℕ → ℕ → ℕ
limited None n = n
limited (Some most) n = min n most

-- only a fetch that fails raises the faults
abbrev pub faults_after_fetch : Fetch → ℕ → ℕ
faults_after_fetch Fetched count = count
faults_after_fetch Absent count = count
faults_after_fetch Failed count = raised count 1

-- only a path that isn't held raises the absences
abbrev pub absences_after_fetch : Fetch → ℕ → ℕ
absences_after_fetch Fetched count = count
absences_after_fetch Absent count = raised count 1
absences_after_fetch Failed count = count

-- only a read that fails raises the faults
abbrev pub faults_after_read : Got → ℕ → ℕ
faults_after_read (Bytes n) count = count
faults_after_read End count = count
faults_after_read ReadFailed count = raised count 1

-- a put takes what fits, and fails where no byte fits
abbrev pub put_within : ℕ → ℕ → Put
put_within zero n = PutFailed
put_within (suc room) n = Took (min n (suc room))

-- only a put that fails raises the faults
abbrev pub faults_after_put : Put → ℕ → ℕ
faults_after_put (Took n) count = count
faults_after_put PutFailed count = raised count 1
