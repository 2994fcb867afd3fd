-- A title put in: the entries that it raises, its place and its number. Assumes nothing.
use Rattle.std.specs.Prelude.{ℕ, suc, ◌+◌, ◌-◌, ◌<◌, ◌≡◌, true, List, length, set}
use Rattle.laws.specs.Table.{put_at}
use Rattle.model.specs.declared.Unit.{Unit}
use Rattle.model.specs.declared.Aquifer.{Aquifer}
use Rattle.model.specs.declared.Title.{Title}
use Rattle.model.specs.declared.Balance.{Balance}
use Rattle.model.specs.Entries.{place_of}
use Rattle.model.specs.View.{View}
use Rattle.model.specs.Limits.{unit_limit, aquifer_limit, title_limit, term_limit}
use Rattle.titles.specs.Posting.{postings}
use Rattle.titles.specs.Adds.{return_of}
use Rattle.effect.specs.Effect.{changed_units, changed_wells, changed_view, changed_balance}
use Rattle.effect.specs.Room.{Names, UnitArrayTakes, WellArrayTakes}

-- The view with a title in force: every entry raised by what it adds, and the title under the next number.
abbrev pub granted : View → Title → View
granted v t = changed_view ◌+◌ t (return_of t) v (suc v.given) (put_at v.place v.given (place_of t true))

-- The units, and the aquifers, with a title in.
abbrev pub raised_units : Title → List Unit → List Unit
raised_units t us = changed_units ◌+◌ t (return_of t) us

abbrev pub raised_wells : Title → List Aquifer → List Aquifer
raised_wells t ws = changed_wells ◌+◌ t (return_of t) ws

-- The balance with a title in: its entries raised, the title in the next place and in force, and one number more given. Everything else
-- stays as it was.
abbrev pub posted : Balance → Title → Balance
posted b t = changed_balance ◌+◌ t (return_of t) b (b.given + 1) (set b.titles b.given (place_of t true))

-- The arrays of a balance have their full length.
pub record Sized (b : Balance) : Type 0 where
  pub units : length b.units ≡ unit_limit
  pub aquifers : length b.aquifers ≡ aquifer_limit
  pub titles : length b.titles ≡ title_limit

-- What a title names is there.
abbrev pub Named : View → Title → Type 0
Named v t = Names v.units v.aquifers (postings t (return_of t))

-- An entry may be raised by what it lacks to the limit.
abbrev pub lacking : ℕ → ℕ
lacking e = term_limit - e

-- What a title names is there, and no entry that it raises passes the limit: of the units, and of the aquifers.
abbrev pub UnitsFit : Title → List Unit → Type 0
UnitsFit t us = UnitArrayTakes lacking t us

abbrev pub WellsFit : Title → List Aquifer → Type 0
WellsFit t ws = WellArrayTakes lacking t ws

-- A title that can be put in.
pub record Grantable (b : Balance) (t : Title) : Type 0 where
  pub room : b.given < title_limit
  pub units : UnitsFit t b.units
  pub wells : WellsFit t b.aquifers
