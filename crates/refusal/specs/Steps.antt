-- The steps of a grant. Assumes nothing.
use Rattle.std.specs.Prelude.{ℕ, Bool, false, not, ◌&&◌, List, [], eqb, leb, length, get_or, Ok, Err}
use Rattle.laws.specs.Sum.{every}
use Rattle.model.specs.declared.Refusal.TheVariants.{BadVolume, NumbersGiven, EntryFull, ReceiverBelow}
use Rattle.model.specs.declared.Unit.{Unit}
use Rattle.model.specs.declared.Aquifer.{Aquifer}
use Rattle.model.specs.declared.Title.{Title}
use Rattle.model.specs.declared.Title.TheVariants.{UnitWithdrawal, AquiferWithdrawal, UnitTransfer, AquiferTransfer, ReturningWithdrawal}
use Rattle.model.specs.Entries.{volume_of}
use Rattle.model.specs.Answers.{Answer, accepted, refuse}
use Rattle.refusal.specs.declared.Giver.{Giver}
use Rattle.refusal.specs.declared.Giver.TheVariants.{FromUnit, FromAquifer}
use Rattle.model.specs.View.{View}
use Rattle.model.specs.Limits.{title_limit}
use Rattle.figures.specs.declared.UnitFigures.{UnitFigures}
use Rattle.figures.specs.Figures.{no_unit_figures}
use Rattle.basin.specs.Sound.{is_volume, parts_view}
-- A title that names a unit, an aquifer or a use that is not there, of so many units and aquifers.
pub use Rattle.basin.specs.Sound.{missing_fault}
use Rattle.refusal.specs.Grant.{in_deficit, overfull, downstream_transfer}

-- A volume outside its range, 256 numbers given, or an entry that would pass 10,000,000.
abbrev pub volume_fault : ℕ → ℕ → Bool → Answer
volume_fault given volume over =
    refuse BadVolume (not (is_volume volume)) (refuse NumbersGiven (leb title_limit given) (refuse EntryFull over accepted))

-- A transfer between units that goes to the same unit or downstream.
abbrev pub goes_down : View → Title → Bool
goes_down v (UnitWithdrawal u r x) = false
goes_down v (AquiferWithdrawal a x) = false
goes_down v (UnitTransfer g r x) = downstream_transfer v g r
goes_down v (AquiferTransfer a u x) = false
goes_down v (ReturningWithdrawal a u r x) = false

-- An answer, or what follows where it accepts.
abbrev pub then_answer : Answer → Answer → Answer
then_answer (Ok u) rest = rest
then_answer (Err r) rest = Err r

-- What a grant refuses before its water is looked at.
abbrev pub early_fault : View → Title → Answer
early_fault v t =
    then_answer (missing_fault v.units v.aquifers t) (refuse ReceiverBelow (goes_down v t) (volume_fault v.given (volume_of t) (overfull v t)))

-- The unit or the aquifer that gives, by its number.
abbrev pub giver : Title → Giver
giver (UnitWithdrawal u r x) = FromUnit u
giver (AquiferWithdrawal a x) = FromAquifer a
giver (UnitTransfer g r x) = FromUnit g
giver (AquiferTransfer a u x) = FromAquifer a
giver (ReturningWithdrawal a u r x) = FromAquifer a

-- The number of the aquifer that gives, 0 where a unit gives.
abbrev pub giving_aquifer : Title → ℕ
giving_aquifer (UnitWithdrawal u r x) = 0
giving_aquifer (AquiferWithdrawal a x) = a
giving_aquifer (UnitTransfer g r x) = 0
giving_aquifer (AquiferTransfer a u x) = a
giving_aquifer (ReturningWithdrawal a u r x) = a

-- The view of units and aquifers without titles, with so many title numbers given.
abbrev pub entries_view : List Unit → ℕ → List Aquifer → ℕ → ℕ → View
entries_view us n ws m given = parts_view us n ws m [] given

-- The same of lists of which all count.
abbrev pub entries_of : List Unit → List Aquifer → ℕ → View
entries_of us ws given = entries_view us (length us) ws (length ws) given

-- Some of n units drains to outlet o and has a negative flow or a negative availability, by their figures and their outlets.
abbrev pub dry_by : List UnitFigures → List ℕ → ℕ → ℕ → Bool
dry_by figures ends n o = not (every n (λ k. not (eqb (get_or ends k 0) o && in_deficit (get_or figures k no_unit_figures))))
