-- How large the sums of a sound balance become. They keep every product of a split below 2 to the 63rd.
use Rattle.std.specs.Prelude.{ℕ}

-- What one unit gains or loses by itself is at most four terms.
abbrev pub gain_limit : ℕ
gain_limit = 40000000

-- What 64 units gain or lose together.
abbrev pub gathered_limit : ℕ
gathered_limit = 2560000000

-- A committed volume: an outlet commitment and what 64 units demand.
abbrev pub committed_limit : ℕ
committed_limit = 2570000000

-- A demand, or a total of contributors: one unit's terms more.
abbrev pub split_limit : ℕ
split_limit = 2610000000
