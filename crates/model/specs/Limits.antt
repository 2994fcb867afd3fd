-- The limits of a balance (document 01). The code has them as constants of `Balance`.
use Rattle.std.specs.Prelude.{ℕ}

-- One balance holds at most 64 units, 32 aquifers and 256 titles.
abbrev pub unit_limit : ℕ
unit_limit = 64

abbrev pub aquifer_limit : ℕ
aquifer_limit = 32

abbrev pub title_limit : ℕ
title_limit = 256

-- The largest term: 10,000,000 thousand m³.
abbrev pub term_limit : ℕ
term_limit = 10000000
