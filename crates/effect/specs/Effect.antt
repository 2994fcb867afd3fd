-- What a title does to the entries, over an operation: put in, it changes them by +, and taken back by −. Assumes nothing.
use Rattle.std.specs.Prelude.{ℕ, List}
use Rattle.laws.specs.Table.{indexed}
use Rattle.model.specs.declared.Unit.{Unit}
use Rattle.model.specs.declared.Aquifer.{Aquifer}
use Rattle.model.specs.declared.Title.{Title}
use Rattle.model.specs.declared.Place.{Place}
use Rattle.model.specs.declared.Balance.{Balance}
use Rattle.model.specs.Entries.{with_entries, with_extraction}
use Rattle.model.specs.View.{View}
use Rattle.titles.specs.Adds.{adds}
use Rattle.titles.specs.Slot.{Extraction, Exports, Imports, Returns, WellExtraction}

-- A unit with its entries changed by these amounts, and an aquifer with its extraction changed.
abbrev pub changed_by : (ℕ → ℕ → ℕ) → Unit → ℕ → ℕ → ℕ → ℕ → Unit
changed_by op u extraction exports imports returns =
    with_entries u (op u.extraction extraction) (op u.exports exports) (op u.imports imports) (op u.returns returns)

abbrev pub drawn_by : (ℕ → ℕ → ℕ) → Aquifer → ℕ → Aquifer
drawn_by op a amount = with_extraction a (op a.extraction amount)

-- The unit, and the aquifer, at an index, changed by what a title with its return adds there.
abbrev pub changed_unit : (ℕ → ℕ → ℕ) → Title → ℕ → ℕ → Unit → Unit
changed_unit op t back k u =
    changed_by op u (adds t back Extraction k) (adds t back Exports k) (adds t back Imports k) (adds t back Returns k)

abbrev pub changed_aquifer : (ℕ → ℕ → ℕ) → Title → ℕ → ℕ → Aquifer → Aquifer
changed_aquifer op t back k a = drawn_by op a (adds t back WellExtraction k)

-- Every unit of a list, and every aquifer, changed so.
abbrev pub changed_units : (ℕ → ℕ → ℕ) → Title → ℕ → List Unit → List Unit
changed_units op t back us = indexed (changed_unit op t back) us

abbrev pub changed_wells : (ℕ → ℕ → ℕ) → Title → ℕ → List Aquifer → List Aquifer
changed_wells op t back ws = indexed (changed_aquifer op t back) ws

-- A view, and a balance, changed so, with so many numbers given and these places of titles.
abbrev pub changed_view : (ℕ → ℕ → ℕ) → Title → ℕ → View → ℕ → (ℕ → Place) → View
changed_view op t back v given place =
    record {
      units = v.units;
      unit = λ k. changed_unit op t back k (v.unit k);
      aquifers = v.aquifers;
      aquifer = λ k. changed_aquifer op t back k (v.aquifer k);
      given = given;
      place = place;
    }

abbrev pub changed_balance : (ℕ → ℕ → ℕ) → Title → ℕ → Balance → ℕ → List Place → Balance
changed_balance op t back b given titles =
    record {
      units = changed_units op t back b.units;
      unit_count = b.unit_count;
      aquifers = changed_wells op t back b.aquifers;
      aquifer_count = b.aquifer_count;
      titles = titles;
      given = given;
    }
