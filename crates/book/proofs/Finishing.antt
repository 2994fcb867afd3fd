-- The end of a description, from the balance under construction, is the end that the definition gives. Assumes nothing.
use Rattle.std.specs.Prelude.{Option, Some, None, Ok}
use Prim.Native.Nat.{ℕ, suc, ◌≤◌, ◌<◌}
use mathlib.Core.Path.{◌≡◌, refl, sym, ap, ◌∙◌, subst⁻¹}
use mathlib.Core.Logic.{◌⊎◌}
use mathlib.Core.Bool.{not}
use lib.Dec.{ltb}
use lib.Signed.{non_neg}
use lib.ListN.{length, get_or}
use native.Mathlib.Omega.{arith}
use Rattle.laws.proofs.Arrays.{get_or_table}
use Rattle.model.specs.declared.Refusal.{Refusal}
use Rattle.model.specs.declared.Refusal.TheVariants.{BadDownstream, NegativeFlow}
use Rattle.model.proofs.Answers.{by_answer}
use Rattle.model.specs.declared.Unit.{Unit}
use Rattle.model.specs.declared.Balance.{Balance}
use Rattle.model.specs.Answers.{first}
use Rattle.model.specs.Fresh.{empty_unit, empty_aquifer}
use Rattle.model.specs.View.{view_of}
use Rattle.river.specs.Flow.{flow, gain, loss}
use Rattle.river.proofs.Firsts.{first_same}
use Rattle.runoff.specs.Record.{gauged_on, sum_on}
use Rattle.runoff.proofs.Rounding.{natural_within}
use Rattle.record.specs.Described.{DescribedUnit, no_unit, summed, unit_of}
use Rattle.record.specs.Fault.{Closed, closing_fault}
use Rattle.book.specs.Reading.{Description, last_sums, balance_of, Outcome, read, fault_at, ended, opened_as}
use Rattle.book.specs.Opening.{draft, missing, negative, unless_at, tested_with, ended_with, Bounded, EndReady}
use Rattle.record.proofs.Clean.{Fine, closing_clean}
use Rattle.book.proofs.Growing.{Good, all_closed, full_is}

-- The unit and the aquifer at an index of the description's balance.
module _ (d : Description) (good : Good d) where
  pub unit_at_lem : (k : ℕ) → k < length d.units → (view_of (balance_of d)).unit k ≡ unit_of (get_or d.units k no_unit)
  unit_at_lem k h = get_or_table 64 empty_unit (length d.units) (λ k. unit_of (get_or d.units k no_unit)) k h (omega (arith, good.few))

  pub well_at : (k : ℕ) → k < length d.aquifers → (view_of (balance_of d)).aquifer k ≡ get_or d.aquifers k empty_aquifer
  well_at k h = get_or_table 32 empty_aquifer (length d.aquifers) (λ k. get_or d.aquifers k empty_aquifer) k h (omega (arith, good.many))

-- A refusal at a unit's number, as an opening.
opened_fault : (n : Refusal) (f : Option ℕ) (o : Outcome) → opened_as (fault_at n f o) ≡ unless_at n f (opened_as o)
opened_fault n (Some j) o = refl
opened_fault n None o = refl

tested_is : (d : Description) (at : ℕ) → Good d
    → tested_with (balance_of d) at
    ≡ opened_as (fault_at BadDownstream (first (length d.units) (λ j. ltb (length d.units) (get_or d.units j no_unit).downstream))
    (fault_at NegativeFlow (first (length d.units) (λ j. not (non_neg (flow (view_of (balance_of d)) j)))) (read d at)))
tested_is d at good =
    (λ i. unless_at BadDownstream (same i) (unless_at NegativeFlow (negative (view_of (balance_of d))) (opened_as (read d at))))
    ∙ ap (unless_at BadDownstream (first (length d.units) (λ j. ltb (length d.units) (get_or d.units j no_unit).downstream)))
    (sym (opened_fault NegativeFlow (negative (view_of (balance_of d))) (read d at)))
    ∙ sym (opened_fault BadDownstream (first (length d.units) (λ j. ltb (length d.units) (get_or d.units j no_unit).downstream))
    (fault_at NegativeFlow (negative (view_of (balance_of d))) (read d at)))
  where
    same : missing (view_of (balance_of d)) ≡ first (length d.units) (λ j. ltb (length d.units) (get_or d.units j no_unit).downstream)
    same = first_same (length d.units) _ _ (λ k h. ap (λ (u : Unit). ltb (length d.units) u.downstream) (unit_at_lem d good k h))

-- The end of a description, from the balance under construction.
pub ended_is : (d : Description) (at : ℕ) → Good d
    → ended_with (draft d) (last_sums d) (length d.units) (length d.aquifers) at ≡ opened_as (ended d at)
ended_is d at good =
    by_answer (closing_fault (length d.units) (last_sums d))
    (λ e. rw e (ap (λ (b : Balance). tested_with b at) (full_is d good) ∙ tested_is d at good))
    (λ r e. rw e)

-- The entries of a closed unit can be added up.
bounded_is : (d : Description) → Good d → closing_fault (length d.units) (last_sums d) ≡ Ok tt → Bounded (view_of (balance_of d))
bounded_is d good e =
    record {
      few = good.few;
      onward = λ k h. subst⁻¹ (λ (u : Unit). (u.downstream ≡ 0) ⊎ (suc k < u.downstream)) (unit_at_lem d good k h) (good.fine k h).onward;
      gains = λ k h. subst⁻¹ (λ (u : Unit). gain u ≤ 40000000) (unit_at_lem d good k h) (gains k (get_or d.units k no_unit) (good.fine k h) (all_closed d good e k h));
      losses = λ k h. subst⁻¹ (λ (u : Unit). loss u ≤ 40000000) (unit_at_lem d good k h) (losses k (get_or d.units k no_unit) (good.fine k h));
      commitments = λ k h. subst⁻¹ (λ (u : Unit). u.commitment ≤ 10000000) (unit_at_lem d good k h) (good.fine k h).commitment;
    }
  where
    gains : (k : ℕ) (u : DescribedUnit) → Fine k (summed u) → Closed (summed u) → gain (unit_of u) ≤ 40000000
    gains k u f c =
        omega (
          arith,
          f.imports,
          f.returns,
          f.storage.fall,
          natural_within (gauged_on u.plots) (length u.years) (sum_on u.plots u.years) (omega (arith, c.enough)) c.mean,
        )

    losses : (k : ℕ) (u : DescribedUnit) → Fine k (summed u) → loss (unit_of u) ≤ 40000000
    losses k u f = omega (arith, f.exports, f.extraction, f.evaporation, f.storage.rise)

pub end_ready : (d : Description) → Good d → EndReady (draft d) (last_sums d) (length d.units) (length d.aquifers)
end_ready d good =
    record {
      room = good.few;
      sane = good.sane;
      full = λ e. subst⁻¹ (λ (b : Balance). Bounded (view_of b)) (full_is d good) (bounded_is d good e);
      closed = λ e n. closing_clean (length d.units) (last_sums d) e n good.sane;
    }
