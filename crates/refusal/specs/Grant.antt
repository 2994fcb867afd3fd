-- Granting a title, over a view of the entries (document 01, "Titles" and "What each operation refuses"; document 02 [2]). Assumes nothing.
use Rattle.std.specs.Prelude.{ℕ, pred, ◌+◌, Bool, false, not, ◌&&◌, ◌||◌, eqb, leb, ltb, Ok}
use Rattle.std.specs.Int.Signed.{non_neg}
use Rattle.laws.specs.Sum.{every}
use Rattle.model.specs.declared.Refusal.TheVariants.{NoSuchPlace, NoSuchUse, BadVolume, NumbersGiven, EntryFull, NoWater, ReceiverBelow}
use Rattle.model.specs.declared.Title.{Title}
use Rattle.model.specs.declared.Title.TheVariants.{UnitWithdrawal, AquiferWithdrawal, UnitTransfer, AquiferTransfer, ReturningWithdrawal}
use Rattle.model.specs.View.{View}
use Rattle.model.specs.Answers.{Answer, refuse}
use Rattle.model.specs.Limits.{title_limit, term_limit}
use Rattle.titles.specs.Posting.{Posting, nothing, post, postings}
use Rattle.titles.specs.Adds.{return_of}
use Rattle.river.specs.Wells.{well_availability}
use Rattle.figures.specs.declared.UnitFigures.{UnitFigures}
use Rattle.figures.specs.Figures.{unit_figures}
use Rattle.basin.specs.Sound.{exists, is_volume}
use Rattle.reach.specs.Reach.{lies_below, same_basin}
use Rattle.effect.specs.Granted.{granted}

-- 16 an entry of the unit or aquifer that the title raises would pass 10,000,000.
abbrev pub past : ℕ → Bool
past x = ltb term_limit x

abbrev pub overfills : (ℕ → ℕ) → Posting → Bool
overfills entry nothing = false
overfills entry (post number amount) = past (entry (pred number) + amount)

abbrev pub overfull : View → Title → Bool
overfull v t =
    let p = postings t (return_of t) in
    overfills (λ k. (v.aquifer k).extraction) p.wells
    || (overfills (λ k. (v.unit k).extraction) p.extraction
    || (overfills (λ k. (v.unit k).exports) p.exports
    || (overfills (λ k. (v.unit k).imports) p.imports
    || overfills (λ k. (v.unit k).returns) p.returns)))

-- Figures of a unit with a negative flow or a negative availability, and a unit with such figures.
abbrev pub in_deficit : UnitFigures → Bool
in_deficit f = not (non_neg f.flow) || not (non_neg f.availability)

abbrev pub wanting : View → ℕ → Bool
wanting v k = in_deficit (unit_figures v k)

-- The outlet of unit j, or some unit that drains there, straight or through others, is wanting.
abbrev pub dry : View → ℕ → Bool
dry v j = not (every v.units (λ k. not (same_basin v j k && wanting v k)))

-- An aquifer with a negative availability.
abbrev pub drained : View → ℕ → Bool
drained v k = not (non_neg (well_availability (v.aquifer k)))

-- 17 no water, in the view with the title in: in the outlet basin of the unit that gives, or in the aquifer that gives.
abbrev pub no_water : View → Title → Bool
no_water v (UnitWithdrawal u r x) = dry v (pred u)
no_water v (AquiferWithdrawal a x) = drained v (pred a)
no_water v (UnitTransfer g r x) = dry v (pred g)
no_water v (AquiferTransfer a u x) = drained v (pred a)
no_water v (ReturningWithdrawal a u r x) = drained v (pred a)

-- 18 same unit, or the receiver lies below the giver.
abbrev pub downstream_transfer : View → ℕ → ℕ → Bool
downstream_transfer v g r = eqb g r || lies_below v (pred g) (pred r)

-- 14 volume 0 or above 10,000,000; 15 256 numbers given; 16; 17: what every grant refuses in the end.
abbrev pub volume_refusal : View → Title → ℕ → Answer
volume_refusal v t x =
    refuse BadVolume (not (is_volume x))
    (refuse NumbersGiven (leb title_limit v.given)
    (refuse EntryFull (overfull v t)
    (refuse NoWater (no_water (granted v t) t)
    (Ok tt))))

-- What a grant refuses, first match wins: GU 12, 13, 14 to 17; GA 12, 14 to 17; TU 12, 18, 14 to 17; TA 12, 14 to 17; GW 12, which
-- covers a missing aquifer or unit, 13, 14 to 17.
abbrev pub grant_refusal : View → Title → Answer
grant_refusal v (UnitWithdrawal u r x) =
    refuse NoSuchPlace (not (exists v.units u)) (refuse NoSuchUse (not (exists 7 r)) (volume_refusal v (UnitWithdrawal u r x) x))
grant_refusal v (AquiferWithdrawal a x) =
    refuse NoSuchPlace (not (exists v.aquifers a)) (volume_refusal v (AquiferWithdrawal a x) x)
grant_refusal v (UnitTransfer g r x) =
    refuse NoSuchPlace (not (exists v.units g && exists v.units r))
    (refuse ReceiverBelow (downstream_transfer v g r) (volume_refusal v (UnitTransfer g r x) x))
grant_refusal v (AquiferTransfer a u x) =
    refuse NoSuchPlace (not (exists v.aquifers a && exists v.units u)) (volume_refusal v (AquiferTransfer a u x) x)
grant_refusal v (ReturningWithdrawal a u r x) =
    refuse NoSuchPlace (not (exists v.aquifers a && exists v.units u))
    (refuse NoSuchUse (not (exists 7 r)) (volume_refusal v (ReturningWithdrawal a u r x) x))
