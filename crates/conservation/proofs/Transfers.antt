-- What the titles in force add to an entry, of one unit or aquifer and of all together, is a sum over the titles: what they import is what
-- they export and what they bring from aquifers, what returns are their returns, and what they take from aquifers are their whole volumes.
-- Assumes nothing.
use Prim.Native.Nat.{ℕ, suc, pred, ◌+◌, ◌<◌}
use mathlib.Core.Path.{◌≡◌, refl, sym, ap, ◌∙◌}
use lib.Dec.{eqb}
use borrow.Author.Tests.{eq-eqb, ne_eqb}
use native.Mathlib.Omega.{arith}
use Rattle.laws.specs.Sum.{naturals, sum_of, only}
use Rattle.laws.proofs.Gathering.{sum_same, sum_plus}
use Rattle.model.specs.declared.Title.{Title}
use Rattle.model.specs.declared.Title.TheVariants.{UnitWithdrawal, AquiferWithdrawal, UnitTransfer, AquiferTransfer, ReturningWithdrawal}
use Rattle.titles.specs.Slot.{Slot}
use Rattle.titles.specs.Slot.{Exports, Imports, Returns, WellExtraction}
use Rattle.titles.specs.Adds.{return_of, adds}
use Rattle.basin.proofs.Soundness.{Exists, TitleSound, PlaceSound}
use Rattle.refusal.specs.Steps.{giving_aquifer}
use Rattle.conservation.specs.Demand3.{Tally, Entered, added, place_for, brought_by, taken_by, return_unit, over_titles}
use Rattle.conservation.proofs.Sums.{sum_zero, sum_single, sum_swap, only_is, only_not, only_plus, only_same, sum_only}

-- An amount at a unit that exists counts once.
at_one : (units u x : ℕ) → Exists units u → sum_of naturals units (λ j. only naturals (eqb u (suc j)) x) ≡ x
at_one units u x e =
    sum_single units (pred u) _ (omega arith) (λ k h z. only_not (eqb u (suc k)) x (ne_eqb u (suc k) (λ w. z (omega arith))))
    ∙ only_is (eqb u (suc (pred u))) x (eq-eqb u (suc (pred u)) (omega arith))

none : (units : ℕ) → sum_of naturals units (λ j. 0) ≡ 0
none units = sum_zero units (λ j. 0) (λ j h. refl)

-- What a title with its return adds to an entry of so many units or aquifers.
abbrev adds_to : ℕ → Slot → Title → ℕ → ℕ
adds_to count s t back = sum_of naturals count (λ j. adds t back s j)

-- What a title adds to the imports is what it adds to the exports and what it brings from an aquifer.
title_imports : (units aquifers : ℕ) (t : Title) (back : ℕ) → TitleSound units aquifers t
    → adds_to units Imports t back ≡ adds_to units Exports t back + brought_by t
title_imports units aquifers (UnitWithdrawal u r x) back s = omega (arith, none units)
title_imports units aquifers (AquiferWithdrawal a x) back s = omega (arith, none units)
title_imports units aquifers (UnitTransfer g r x) back s = omega (arith, at_one units g x s.0, at_one units r x s.1)
title_imports units aquifers (AquiferTransfer a u x) back s = omega (arith, none units, at_one units u x s.1)
title_imports units aquifers (ReturningWithdrawal a u r x) back s = omega (arith, none units)

-- What it adds to the returns is its return.
title_returns : (units aquifers : ℕ) (t : Title) (back : ℕ) → TitleSound units aquifers t → back ≡ return_of t
    → adds_to units Returns t back ≡ back
title_returns units aquifers (UnitWithdrawal u r x) back s e = at_one units u back s.0
title_returns units aquifers (AquiferWithdrawal a x) back s e = none units ∙ sym e
title_returns units aquifers (UnitTransfer g r x) back s e = none units ∙ sym e
title_returns units aquifers (AquiferTransfer a u x) back s e = none units ∙ sym e
title_returns units aquifers (ReturningWithdrawal a u r x) back s e = at_one units u back s.1

-- What it adds to the aquifers' extractions is what it takes from an aquifer.
title_wells : (units aquifers : ℕ) (t : Title) (back : ℕ) → TitleSound units aquifers t → adds_to aquifers WellExtraction t back ≡ taken_by t
title_wells units aquifers (UnitWithdrawal u r x) back s = none aquifers
title_wells units aquifers (AquiferWithdrawal a x) back s = at_one aquifers a x s.0
title_wells units aquifers (UnitTransfer g r x) back s = none aquifers
title_wells units aquifers (AquiferTransfer a u x) back s = at_one aquifers a x s.0
title_wells units aquifers (ReturningWithdrawal a u r x) back s = at_one aquifers a x s.0

-- Number 0 is no unit's and no aquifer's.
nowhere : (j x : ℕ) → 0 ≡ only naturals (eqb 0 (suc j)) x
nowhere j x = sym (only_not (eqb 0 (suc j)) x (ne_eqb 0 (suc j) (λ w. omega arith)))

-- What it adds to the returns of one unit, and to the extraction of one aquifer.
returns_at : (t : Title) (back j : ℕ) → adds t back Returns j ≡ only naturals (eqb (return_unit t) (suc j)) back
returns_at (UnitWithdrawal u r x) back j = refl
returns_at (AquiferWithdrawal a x) back j = nowhere j back
returns_at (UnitTransfer g r x) back j = nowhere j back
returns_at (AquiferTransfer a u x) back j = nowhere j back
returns_at (ReturningWithdrawal a u r x) back j = refl

wells_at : (t : Title) (back j : ℕ) → adds t back WellExtraction j ≡ only naturals (eqb (giving_aquifer t) (suc j)) (taken_by t)
wells_at (UnitWithdrawal u r x) back j = nowhere j 0
wells_at (AquiferWithdrawal a x) back j = refl
wells_at (UnitTransfer g r x) back j = nowhere j 0
wells_at (AquiferTransfer a u x) back j = refl
wells_at (ReturningWithdrawal a u r x) back j = refl

-- What the titles in force add to an entry of one unit or aquifer is a sum over the titles.
at_each : (t : Tally) (i : Slot) (amount : Entered → ℕ) (j : ℕ) → ((e : Entered) → adds e.title e.back i j ≡ amount e)
    → added t i j ≡ over_titles t amount
at_each t i amount j f = sum_same naturals t.last _ _ (λ k h. ap (only naturals (t.place k).in_force) (f (t.place k)))

-- What they return to one unit, and what they take from one aquifer.
pub returns_each : (t : Tally) (j : ℕ) → added t Returns j ≡ over_titles t (λ e. only naturals (eqb (return_unit e.title) (suc j)) e.back)
returns_each t j = at_each t Returns (λ e. only naturals (eqb (return_unit e.title) (suc j)) e.back) j (λ e. returns_at e.title e.back j)

pub wells_each : (t : Tally) (j : ℕ)
    → added t WellExtraction j ≡ over_titles t (λ e. only naturals (eqb (giving_aquifer e.title) (suc j)) (taken_by e.title))
wells_each t j =
    at_each t WellExtraction (λ e. only naturals (eqb (giving_aquifer e.title) (suc j)) (taken_by e.title)) j
    (λ e. wells_at e.title e.back j)

module _ (units aquifers : ℕ) (t : Tally) (s : (k : ℕ) → k < t.last → PlaceSound units aquifers (place_for (t.place k))) where
  -- What the titles in force add to an entry of all units, or of all aquifers, is a sum over the titles.
  together : (count : ℕ) (i : Slot) (amount : Entered → ℕ)
      → ((k : ℕ) → TitleSound units aquifers (t.place k).title → adds_to count i (t.place k).title (t.place k).back ≡ amount (t.place k))
      → sum_of naturals count (added t i) ≡ over_titles t amount
  together count i amount f =
      sum_swap count t.last (λ j k. only naturals (t.place k).in_force (adds (t.place k).title (t.place k).back i j))
      ∙ sum_same naturals t.last _ _ (λ k h.
      sum_only (t.place k).in_force count (adds (t.place k).title (t.place k).back i)
      ∙ only_same (t.place k).in_force _ _ (λ q. f k ((s k h).in_force q)))

  -- What the titles import together is what they export together and what they bring from aquifers.
  pub transfers_balance : sum_of naturals units (added t Imports) ≡ sum_of naturals units (added t Exports) + over_titles t (λ e. brought_by e.title)
  transfers_balance =
      together units Imports (λ e. adds_to units Exports e.title e.back + brought_by e.title)
      (λ k q. title_imports units aquifers (t.place k).title (t.place k).back q)
      ∙ sum_same naturals t.last _ _ (λ k h. only_plus (t.place k).in_force _ _)
      ∙ sum_plus t.last (λ k. only naturals (t.place k).in_force (adds_to units Exports (t.place k).title (t.place k).back))
      (λ k. only naturals (t.place k).in_force (brought_by (t.place k).title))
      ∙ ap (λ (x : ℕ). x + over_titles t (λ e. brought_by e.title))
      (sym (together units Exports (λ e. adds_to units Exports e.title e.back) (λ k q. refl)))

  -- What they return together.
  pub returns_together : ((k : ℕ) → (t.place k).back ≡ return_of (t.place k).title) → sum_of naturals units (added t Returns) ≡ over_titles t (λ e. e.back)
  returns_together kept =
      together units Returns (λ e. e.back) (λ k q. title_returns units aquifers (t.place k).title (t.place k).back q (kept k))

  -- What they take from aquifers together.
  pub wells_together : sum_of naturals aquifers (added t WellExtraction) ≡ over_titles t (λ e. taken_by e.title)
  wells_together =
      together aquifers WellExtraction (λ e. taken_by e.title) (λ k q. title_wells units aquifers (t.place k).title (t.place k).back q)
