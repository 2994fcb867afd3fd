-- A unit and an aquifer with other entries, all else as it was; a unit's downstream unit; the volume and the place of a title. Assumes nothing.
use Rattle.std.specs.Prelude.{ℕ, suc, Bool, ◌≡◌, Option, Some, None}
use Rattle.model.specs.declared.Unit.{Unit}
use Rattle.model.specs.declared.Aquifer.{Aquifer}
use Rattle.model.specs.declared.Title.{Title}
use Rattle.model.specs.declared.Title.TheVariants.{UnitWithdrawal, AquiferWithdrawal, UnitTransfer, AquiferTransfer, ReturningWithdrawal}
use Rattle.model.specs.declared.Place.{Place}

-- A unit with this extraction, these exports, imports and returns.
abbrev pub with_entries : Unit → ℕ → ℕ → ℕ → ℕ → Unit
with_entries u extraction exports imports returns =
    record {
      downstream = u.downstream;
      extraction = extraction;
      exports = exports;
      imports = imports;
      returns = returns;
      evaporation = u.evaporation;
      storage = u.storage;
      commitment = u.commitment;
      runoff = u.runoff;
    }

-- The index of a unit's downstream unit is one less than its number; an outlet, whose downstream number is 0, has none.
abbrev pub DrainsTo : Unit → Option ℕ → Type 0
DrainsTo u None = u.downstream ≡ 0
DrainsTo u (Some k) = u.downstream ≡ suc k

-- An aquifer with this extraction.
abbrev pub with_extraction : Aquifer → ℕ → Aquifer
with_extraction a extraction =
    record { storage = a.storage; natural = a.natural; pumped = a.pumped; committed = a.committed; extraction = extraction }

-- The volume of a title of any kind.
abbrev pub volume_of : Title → ℕ
volume_of (UnitWithdrawal u r x) = x
volume_of (AquiferWithdrawal a x) = x
volume_of (UnitTransfer g r x) = x
volume_of (AquiferTransfer a u x) = x
volume_of (ReturningWithdrawal a u r x) = x

-- The place of a title, in force or not.
abbrev pub place_of : Title → Bool → Place
place_of t force = record { title = t; in_force = force }
