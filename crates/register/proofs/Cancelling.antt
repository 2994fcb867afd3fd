-- The view of a balance with a title out of force, and that a sound balance holds what its titles added. Assumes nothing.
use Prim.Native.Nat.{ℕ, pred, ◌+◌, ◌≤◌}
use mathlib.Core.Path.{◌≡◌}
use mathlib.Core.Bool.{true, false}
use native.Mathlib.Omega.{arith}
use Rattle.laws.proofs.Every.{both}
use Rattle.laws.proofs.Putting.{sum_put}
use Rattle.model.specs.declared.Balance.{Balance}
use Rattle.model.specs.Entries.{place_of}
use Rattle.model.specs.View.{View, view_of}
use Rattle.titles.specs.Posting.{postings}
use Rattle.titles.specs.Adds.{return_of, adds, place_adds, titled}
use Rattle.titles.specs.Slot.{Slot, Extraction, Exports, Imports, Returns, WellExtraction}
use Rattle.titles.proofs.Adding.{in_force_lem}
use Rattle.basin.specs.Sound.{exists}
use Rattle.basin.proofs.Soundness.{Exists, Soundness, number_exists}
use Rattle.effect.specs.Room.{Names, UnitsTake, WellsTake}
use Rattle.effect.specs.Granted.{Sized}
use Rattle.effect.specs.Cancelled.{title_of, cancelled, without_title, held, Takable}
use Rattle.effect.proofs.Taking.{takes_of, units_more, wells_more}
use Rattle.effect.proofs.Changing.{without_view}
use Rattle.refusal.proofs.Granting.{names_sound}
use Rattle.register.specs.Cancel.{number_in_force}

-- A number in force was given, and its place is in force.
pub record InForce (v : View) (n : ℕ) : Type 0 where
  pub given : Exists v.given n
  pub stands : (v.place (pred n)).in_force ≡ true

pub in_force_of : (v : View) (n : ℕ) → number_in_force v n ≡ true → InForce v n
in_force_of v n e = let p = both (exists v.given n) _ e in record { given = number_exists v.given n p.0; stands = p.1 }

-- The titles in force without the one under a number, and what it added.
pub one_less : (v : View) (n : ℕ) → InForce v n → (s : Slot) (j : ℕ)
    → titled (cancelled v n) v.given s j + adds (title_of v n) (return_of (title_of v n)) s j ≡ titled v v.given s j
one_less v n f s j =
    omega (
      arith,
      sum_put (λ p. place_adds p s j) v.place v.given (pred n) (place_of (title_of v n) false) (omega (arith, f.given.positive, f.given.within)),
      in_force_lem s j (v.place (pred n)) f.stands,
    )

-- A sound view holds what the title under a number in force added.
module _ (v : View) (n : ℕ) (s : Soundness v) (f : InForce v n) where
  names : Names v.units v.aquifers (postings (title_of v n) (return_of (title_of v n)))
  names =
      names_sound v.units v.aquifers (title_of v n)
      ((s.place (pred n) (omega (arith, f.given.positive, f.given.within))).in_force f.stands)

  holds : (slot : Slot) (j entry : ℕ) → titled v v.given slot j ≤ entry → adds (title_of v n) (return_of (title_of v n)) slot j ≤ held entry
  holds slot j entry h = omega (arith, one_less v n f slot j)

  units_hold_lem : UnitsTake held v.units v.unit (postings (title_of v n) (return_of (title_of v n)))
  units_hold_lem =
      let p = postings (title_of v n) (return_of (title_of v n)) in
      record {
        extraction = takes_of held _ v.units p.extraction names.extraction (λ j h. holds Extraction j _ (s.covered j h).extraction);
        exports = takes_of held _ v.units p.exports names.exports (λ j h. holds Exports j _ (s.covered j h).exports);
        imports = takes_of held _ v.units p.imports names.imports (λ j h. holds Imports j _ (s.covered j h).imports);
        returns = takes_of held _ v.units p.returns names.returns (λ j h. holds Returns j _ (s.covered j h).returns);
      }

  wells_hold : WellsTake held v.aquifers v.aquifer (postings (title_of v n) (return_of (title_of v n)))
  wells_hold =
      takes_of held _ v.aquifers (postings (title_of v n) (return_of (title_of v n))).wells names.wells
      (λ j h. holds WellExtraction j _ (s.well_covered j h))

module _ (b : Balance) (n : ℕ) (s : Soundness (view_of b)) (f : InForce (view_of b) n) where
  -- A title in force can be taken back.
  pub takable_in_force : Takable b (title_of (view_of b) n)
  takable_in_force =
      let v = view_of b in
      record {
        units = units_more held v.unit _ v.units 64 s.few_units (units_hold_lem v n s f);
        wells = wells_more held v.aquifer (postings (title_of v n) (return_of (title_of v n))) v.aquifers 32 s.few_aquifers (wells_hold v n s f);
      }

  -- The view of the balance without it is the view with that title cancelled.
  pub cancelled_view : Sized b → view_of (without_title b n) ≡ cancelled (view_of b) n
  cancelled_view z = without_view b n z f.given.positive (omega (arith, f.given.within, s.few_titles)) takable_in_force
