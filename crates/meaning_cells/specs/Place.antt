-- Places that positions name.
use Rattle.std.specs.Prelude.{ℕ, ◌-◌, suc, ℤ, pos, negsuc, nat_lt, Option, Some, None, if◌then◌else◌}

-- the row that a position names among so many: from the front, or below 0 from the back
abbrev pub place_of : ℤ → ℕ → Option ℕ
place_of (pos k) count = if nat_lt k count then Some k else None
place_of (negsuc k) count = if nat_lt k count then Some (count - suc k) else None
