-- The view of a balance: what the definitions of the figures and of the refusals work from. A balance has a view, and so has the tally.
use Rattle.std.specs.Prelude.{ℕ, get_or}
use Rattle.model.specs.declared.Unit.{Unit}
use Rattle.model.specs.declared.Aquifer.{Aquifer}
use Rattle.model.specs.declared.Place.{Place}
use Rattle.model.specs.declared.Balance.{Balance}
use Rattle.model.specs.Fresh.{empty_unit, empty_aquifer, empty_place}

-- How many units there are and each one's entries; the same of the aquifers; how many title numbers were given, and the place under each.
-- Number n stands at index n - 1.
pub record View : Type 0 where
  pub units : ℕ
  pub unit : ℕ → Unit
  pub aquifers : ℕ
  pub aquifer : ℕ → Aquifer
  pub given : ℕ
  pub place : ℕ → Place

abbrev pub view_of : Balance → View
view_of b =
    record {
      units = b.unit_count;
      unit = λ k. get_or b.units k empty_unit;
      aquifers = b.aquifer_count;
      aquifer = λ k. get_or b.aquifers k empty_aquifer;
      given = b.given;
      place = λ k. get_or b.titles k empty_place;
    }
