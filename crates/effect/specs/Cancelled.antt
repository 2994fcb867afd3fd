-- A title taken back: every entry lowered by exactly what the title added, and its place kept. Assumes nothing.
use Rattle.std.specs.Prelude.{ℕ, pred, ◌-◌, false, List, set}
use Rattle.laws.specs.Table.{put_at}
use Rattle.model.specs.declared.Unit.{Unit}
use Rattle.model.specs.declared.Aquifer.{Aquifer}
use Rattle.model.specs.declared.Title.{Title}
use Rattle.model.specs.declared.Balance.{Balance}
use Rattle.model.specs.Entries.{place_of}
use Rattle.model.specs.View.{View, view_of}
use Rattle.titles.specs.Adds.{return_of}
use Rattle.effect.specs.Effect.{changed_units, changed_wells, changed_view, changed_balance}
use Rattle.effect.specs.Room.{UnitArrayTakes, WellArrayTakes}

-- The title under a number.
abbrev pub title_of : View → ℕ → Title
title_of v n = (v.place (pred n)).title

-- The view with the title under a number out of force: every entry lowered by what the title added, and its place kept.
abbrev pub cancelled : View → ℕ → View
cancelled v n =
    let t = title_of v n in
    changed_view ◌-◌ t (return_of t) v v.given (put_at v.place (pred n) (place_of t false))

-- The units, and the aquifers, with what a title added taken back.
abbrev pub lowered_units : Title → List Unit → List Unit
lowered_units t us = changed_units ◌-◌ t (return_of t) us

abbrev pub lowered_wells : Title → List Aquifer → List Aquifer
lowered_wells t ws = changed_wells ◌-◌ t (return_of t) ws

-- The balance with the title under a number out of force; its place keeps the title. Everything else stays as it was.
abbrev pub without_title : Balance → ℕ → Balance
without_title b n =
    let t = title_of (view_of b) n in
    changed_balance ◌-◌ t (return_of t) b b.given (set b.titles (pred n) (place_of t false))

-- An entry may be lowered by all that it holds.
abbrev pub held : ℕ → ℕ
held e = e

-- What a title names is there, and the entries hold what it added: of the units, and of the aquifers.
abbrev pub UnitsHeld : Title → List Unit → Type 0
UnitsHeld t us = UnitArrayTakes held t us

abbrev pub WellsHeld : Title → List Aquifer → Type 0
WellsHeld t ws = WellArrayTakes held t ws

-- A title that can be taken back.
pub record Takable (b : Balance) (t : Title) : Type 0 where
  pub units : UnitsHeld t b.units
  pub wells : WellsHeld t b.aquifers
