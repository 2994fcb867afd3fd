-- What the early refusals leave: a title that can be put in, with entries that stay within the limit. Assumes nothing.
use Rattle.std.specs.Prelude.{Ok, Err}
use Prim.Native.Nat.{ℕ, suc, pred, ◌+◌, ◌≤◌, ◌<◌}
use mathlib.Core.Path.{◌≡◌, refl, ap, subst}
use mathlib.Core.Bool.{Bool, true, false, not, ◌&&◌}
use lib.Dec.{leb}
use native.Mathlib.Omega.{arith}
use borrow.Author.Tests.{ltb-false, leb-false, eq-eqb, ne_eqb, not-false}
use Rattle.laws.proofs.Cases.{by_eq}
use Rattle.laws.proofs.Every.{both, neither}
use Rattle.model.specs.declared.Refusal.TheVariants.{NoSuchPlace, NoSuchUse, BadVolume, NumbersGiven, EntryFull, NoWater, ReceiverBelow}
use Rattle.model.specs.declared.Title.{Title}
use Rattle.model.specs.declared.Title.TheVariants.{UnitWithdrawal, AquiferWithdrawal, UnitTransfer, AquiferTransfer, ReturningWithdrawal}
use Rattle.model.specs.View.{View}
use Rattle.model.specs.Limits.{term_limit}
use Rattle.model.specs.Answers.{Answer, accepted, refuse}
use Rattle.model.specs.Entries.{volume_of}
use Rattle.model.proofs.Answers.{not_accepted, pass}
use Rattle.titles.specs.Posting.{Posting, nothing, post, posts, postings}
use Rattle.titles.specs.Adds.{return_of}
use Rattle.river.specs.Flow.{Ready}
use Rattle.figures.specs.Figures.{WellsReady}
use Rattle.basin.specs.Sound.{exists, is_volume}
use Rattle.basin.proofs.Soundness.{UnitSound, AquiferSound, Exists, Volume, TitleSound, Soundness, number_exists, is_volume_lem, ready_of, wells_ready_of}
use Rattle.effect.specs.Room.{There, Names, Takes, UnitsTake, WellsTake}
use Rattle.effect.specs.Granted.{granted, Named, lacking}
use Rattle.refusal.specs.Grant.{overfills, overfull, downstream_transfer, no_water, grant_refusal}
use Rattle.refusal.specs.Steps.{volume_fault, early_fault, missing_fault, goes_down, then_answer}

-- What is refused early is refused, whatever follows.
volume_judged : (c d e : Bool) (w : Answer)
    → refuse BadVolume (not c) (refuse NumbersGiven d (refuse EntryFull e w))
    ≡ then_answer (refuse BadVolume (not c) (refuse NumbersGiven d (refuse EntryFull e accepted))) w
volume_judged true true e w = refl
volume_judged true false true w = refl
volume_judged true false false w = refl
volume_judged false d e w = refl

way_judged : (b : Bool) (x r w : Answer) → r ≡ then_answer x w → refuse ReceiverBelow b r ≡ then_answer (refuse ReceiverBelow b x) w
way_judged true x r w e = refl
way_judged false x r w e = e

place_judged : (a : Bool) (x r w : Answer) → r ≡ then_answer x w
    → refuse NoSuchPlace (not a) r ≡ then_answer (then_answer (refuse NoSuchPlace (not a) accepted) x) w
place_judged true x r w e = e
place_judged false x r w e = refl

use_judged : (a b : Bool) (x r w : Answer) → r ≡ then_answer x w
    → refuse NoSuchPlace (not a) (refuse NoSuchUse (not b) r)
    ≡ then_answer (then_answer (refuse NoSuchPlace (not a) (refuse NoSuchUse (not b) accepted)) x) w
use_judged true true x r w e = e
use_judged true false x r w e = refl
use_judged false b x r w e = refl

-- A grant is refused as early, or for want of water with the title in.
pub grant_judged : (v : View) (t : Title) → grant_refusal v t ≡ then_answer (early_fault v t) (refuse NoWater (no_water (granted v t) t) (Ok tt))
grant_judged v (UnitWithdrawal u r x) =
    use_judged (exists v.units u) (exists 7 r) _ _ _ (volume_judged (is_volume x) (leb 256 v.given) (overfull v (UnitWithdrawal u r x)) _)
grant_judged v (AquiferWithdrawal a x) =
    place_judged (exists v.aquifers a) _ _ _ (volume_judged (is_volume x) (leb 256 v.given) (overfull v (AquiferWithdrawal a x)) _)
grant_judged v (UnitTransfer g r x) =
    place_judged (exists v.units g && exists v.units r) _ _ _
    (way_judged (downstream_transfer v g r) _ _ _ (volume_judged (is_volume x) (leb 256 v.given) (overfull v (UnitTransfer g r x)) _))
grant_judged v (AquiferTransfer a u x) =
    place_judged (exists v.aquifers a && exists v.units u) _ _ _
    (volume_judged (is_volume x) (leb 256 v.given) (overfull v (AquiferTransfer a u x)) _)
grant_judged v (ReturningWithdrawal a u r x) =
    use_judged (exists v.aquifers a && exists v.units u) (exists 7 r) _ _ _
    (volume_judged (is_volume x) (leb 256 v.given) (overfull v (ReturningWithdrawal a u r x)) _)

-- An answer accepts with what follows it exactly where both accept.
pub both_accept : (x y : Answer) → then_answer x y ≡ Ok tt → (x ≡ Ok tt) × (y ≡ Ok tt)
both_accept (Ok u) y e = (refl, e)
both_accept (Err r) y e = absurd (not_accepted r e)

-- What holds of a title that no early refusal meets.
pub record Granting (v : View) (t : Title) : Type 0 where
  pub room : v.given < 256
  pub units : UnitsTake lacking v.units v.unit (postings t (return_of t))
  pub wells : WellsTake lacking v.aquifers v.aquifer (postings t (return_of t))
  pub titled : TitleSound v.units v.aquifers t

-- What the tests on its fields, on the numbers given and on the entries say of a title that they let through.
record Passing (v : View) (t : Title) : Type 0 where
  room : v.given < 256
  fits : overfull v t ≡ false
  titled : TitleSound v.units v.aquifers t

record Room (given x : ℕ) (over : Bool) : Type 0 where
  volume : Volume x
  room : given < 256
  fits : over ≡ false

room_of : (given x : ℕ) (over : Bool) → volume_fault given x over ≡ Ok tt → Room given x over
room_of given x over e =
    let p = pass (not (is_volume x)) _ _ e in
    let q = pass (leb 256 given) _ _ p.on in
    let s = pass over _ _ q.on in
    record { volume = is_volume_lem x (not-false _ p.not); room = leb-false 256 given q.not; fits = s.not }

-- A title that names what is there.
titled_of : (units aquifers : ℕ) (t : Title) → missing_fault units aquifers t ≡ Ok tt → Volume (volume_of t) → TitleSound units aquifers t
titled_of units aquifers (UnitWithdrawal u r x) e o =
    let p = pass (not (exists units u)) _ _ e in
    let q = pass (not (exists 7 r)) _ _ p.on in
    (number_exists units u (not-false _ p.not), number_exists 7 r (not-false _ q.not), o)
titled_of units aquifers (AquiferWithdrawal a x) e o = (number_exists aquifers a (not-false _ (pass (not (exists aquifers a)) _ _ e).not), o)
titled_of units aquifers (UnitTransfer g r x) e o =
    let b = both (exists units g) _ (not-false _ (pass (not (exists units g && exists units r)) _ _ e).not) in
    (number_exists units g b.0, number_exists units r b.1, o)
titled_of units aquifers (AquiferTransfer a u x) e o =
    let b = both (exists aquifers a) _ (not-false _ (pass (not (exists aquifers a && exists units u)) _ _ e).not) in
    (number_exists aquifers a b.0, number_exists units u b.1, o)
titled_of units aquifers (ReturningWithdrawal a u r x) e o =
    let p = pass (not (exists aquifers a && exists units u)) _ _ e in
    let q = pass (not (exists 7 r)) _ _ p.on in
    let b = both (exists aquifers a) _ (not-false _ p.not) in
    (number_exists aquifers a b.0, number_exists units u b.1, number_exists 7 r (not-false _ q.not), o)

passing_of : (v : View) (t : Title) → early_fault v t ≡ Ok tt → Passing v t
passing_of v t e =
    let b = both_accept (missing_fault v.units v.aquifers t) _ e in
    let f = room_of v.given (volume_of t) (overfull v t) (pass (goes_down v t) _ _ b.1).on in
    record { room = f.room; fits = f.fits; titled = titled_of v.units v.aquifers t b.0 f.volume }

-- What a sound title names is there.
there : (count n : ℕ) → Exists count n → (0 < n) × (n ≤ count)
there count n e = (e.positive, e.within)

pub names_sound : (units aquifers : ℕ) (t : Title) → TitleSound units aquifers t → Names units aquifers (postings t (return_of t))
names_sound units aquifers (UnitWithdrawal u r x) s =
    record { extraction = there units u s.0; exports = tt; imports = tt; returns = there units u s.0; wells = tt }
names_sound units aquifers (AquiferWithdrawal a x) s =
    record { extraction = tt; exports = tt; imports = tt; returns = tt; wells = there aquifers a s.0 }
names_sound units aquifers (UnitTransfer g r x) s =
    record { extraction = tt; exports = there units g s.0; imports = there units r s.1; returns = tt; wells = tt }
names_sound units aquifers (AquiferTransfer a u x) s =
    record { extraction = tt; exports = tt; imports = there units u s.1; returns = tt; wells = there aquifers a s.0 }
names_sound units aquifers (ReturningWithdrawal a u r x) s =
    record { extraction = tt; exports = tt; imports = tt; returns = there units u s.1; wells = there aquifers a s.0 }

-- An entry that a posting does not overfill takes it.
fits : (entry : ℕ → ℕ) (count : ℕ) (p : Posting) → There count p → overfills entry p ≡ false → Takes lacking count entry p
fits entry count nothing h e = h
fits entry count (post n a) h e = (h.0, h.1, omega (arith, ltb-false term_limit (entry (pred n) + a) e))

pub granting_of : (v : View) (t : Title) → early_fault v t ≡ Ok tt → Granting v t
granting_of v t e =
    let l = passing_of v t e in
    let p = postings t (return_of t) in
    let n = names_sound v.units v.aquifers t l.titled in
    let a = neither (overfills (λ k. (v.aquifer k).extraction) p.wells) _ l.fits in
    let b = neither (overfills (λ k. (v.unit k).extraction) p.extraction) _ a.1 in
    let c = neither (overfills (λ k. (v.unit k).exports) p.exports) _ b.1 in
    let d = neither (overfills (λ k. (v.unit k).imports) p.imports) _ c.1 in
    record {
      room = l.room;
      units =
          record {
            extraction = fits (λ k. (v.unit k).extraction) v.units p.extraction n.extraction b.0;
            exports = fits (λ k. (v.unit k).exports) v.units p.exports n.exports c.0;
            imports = fits (λ k. (v.unit k).imports) v.units p.imports n.imports d.0;
            returns = fits (λ k. (v.unit k).returns) v.units p.returns n.returns d.1;
          };
      wells = fits (λ k. (v.aquifer k).extraction) v.aquifers p.wells n.wells a.0;
      titled = l.titled;
    }

-- What the title names is there.
pub granting_named : (v : View) (t : Title) → Granting v t → Named v t
granting_named v t g = names_sound v.units v.aquifers t g.titled

-- An entry that takes what is posted to it stays within the limit.
stays : (entry : ℕ → ℕ) (count k : ℕ) (p : Posting) → Takes lacking count entry p → entry k ≤ term_limit → entry k + posts p k ≤ term_limit
stays entry count k nothing h s = omega arith
stays entry count k (post n a) h s =
    by_eq n (suc k)
    (λ q.
    let m = subst (λ (j : ℕ). a ≤ lacking (entry j)) (ap pred q) h.2 in
    rw (eq-eqb n (suc k) q) (omega arith))
    (λ q. rw (ne_eqb n (suc k) q) (omega arith))

-- With the title in, every unit and every aquifer stays sound.
pub unit_stays : (v : View) (t : Title) → Granting v t → (k : ℕ) → UnitSound v.units k (v.unit k)
    → UnitSound v.units k ((granted v t).unit k)
unit_stays v t g k s =
    let p = postings t (return_of t) in
    record {
      extraction = stays (λ j. (v.unit j).extraction) v.units k p.extraction g.units.extraction s.extraction;
      exports = stays (λ j. (v.unit j).exports) v.units k p.exports g.units.exports s.exports;
      imports = stays (λ j. (v.unit j).imports) v.units k p.imports g.units.imports s.imports;
      returns = stays (λ j. (v.unit j).returns) v.units k p.returns g.units.returns s.returns;
      evaporation = s.evaporation;
      rise = s.rise;
      fall = s.fall;
      commitment = s.commitment;
      runoff = s.runoff;
      onward = s.onward;
      within = s.within;
      outlet = s.outlet;
    }

pub aquifer_stays : (v : View) (t : Title) → Granting v t → (k : ℕ) → AquiferSound (v.aquifer k) → AquiferSound ((granted v t).aquifer k)
aquifer_stays v t g k s =
    record {
      rise = s.rise;
      fall = s.fall;
      natural = s.natural;
      pumped = s.pumped;
      committed = s.committed;
      extraction = stays (λ j. (v.aquifer j).extraction) v.aquifers k (postings t (return_of t)).wells g.wells s.extraction;
      recharged = s.recharged;
    }

-- The view with the title in can be worked out.
pub granted_ready : (v : View) (t : Title) → Soundness v → Granting v t → Ready (granted v t)
granted_ready v t s g = ready_of (granted v t) s.few_units (λ k h. unit_stays v t g k (s.unit k h))

pub granted_wells_ready : (v : View) (t : Title) → Soundness v → Granting v t → WellsReady (granted v t)
granted_wells_ready v t s g = wells_ready_of (granted v t) s.few_aquifers (λ k h. aquifer_stays v t g k (s.aquifer k h))
