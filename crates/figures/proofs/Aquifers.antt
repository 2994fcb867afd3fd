-- Laws of recharge and of an aquifer's availability. Assumes nothing.
use Prim.Native.Nat.{ℕ, ◌+◌, ◌≤◌, ◌<◌}
use mathlib.Core.Path.{◌≡◌, sym, ap, ◌∙◌}
use mathlib.Core.List.{List}
use lib.ListN.{length, get_or, take, length-take}
use lib.Seq.{get_or-take}
use native.Mathlib.Omega.{arith}
use lib.IntN.{pos, ◌-ℤ◌}
use Rattle.laws.specs.Signed.{above, below}
use Rattle.laws.proofs.Parts.{Less, less_pos, less_self, less_plus, less_minus, less_equal}
use Rattle.model.specs.declared.Aquifer.{Aquifer}
use Rattle.laws.specs.Table.{table}
use Rattle.laws.proofs.Arrays.{table_same}
use Rattle.model.specs.Fresh.{empty_aquifer}
use Rattle.model.specs.View.{View, view_of}
use Rattle.model.specs.declared.Balance.{Balance}
use Rattle.figures.specs.Figures.{WellsReady, aquifers_view, aquifers_of, figures_of, aquifer_figures, no_aquifer_figures, all_aquifer_figures}
use Rattle.river.specs.Wells.{recharge, well_availability}

pub recharge_parts : (a : Aquifer) → Less (recharge a) (above a.storage + a.natural + a.pumped) (below a.storage)
recharge_parts a =
    let p = less_plus (less_plus (less_self a.storage) (less_pos a.natural)) (less_pos a.pumped) in
    record { parts = omega (arith, p.parts) }

pub recharge_is : (a : Aquifer) (rise fall : ℕ) → rise ≡ above a.storage → fall ≡ below a.storage
    → pos (rise + a.natural + a.pumped) -ℤ pos fall ≡ recharge a
recharge_is a rise fall r f =
    less_equal (less_minus (less_pos (rise + a.natural + a.pumped)) (less_pos fall)) (recharge_parts a) (omega arith)

pub available_is : (a : Aquifer) (rise fall : ℕ) → rise ≡ above a.storage → fall ≡ below a.storage
    → pos (rise + a.natural + a.pumped) -ℤ pos (fall + a.committed + a.extraction) ≡ well_availability a
available_is a rise fall r f =
    less_equal (less_minus (less_pos (rise + a.natural + a.pumped)) (less_pos (fall + a.committed + a.extraction)))
    (less_minus (less_minus (recharge_parts a) (less_pos a.committed)) (less_pos a.extraction)) (omega arith)

-- The aquifers of a balance alone can be worked out where the balance's can.
pub wells_alone : (b : Balance) → WellsReady (view_of b) → WellsReady (aquifers_view b.aquifers b.aquifer_count)
wells_alone b r = record { few = r.few; rises = r.rises; falls = r.falls }

-- The counted aquifers of an array are those of any view that counts so many of the array.
module _ (v : View) (ws : List Aquifer) (h : v.aquifers ≤ length ws) (e : (k : ℕ) → k < v.aquifers → v.aquifer k ≡ get_or ws k empty_aquifer)
  where
    counted : length (take v.aquifers ws) ≡ v.aquifers
    counted = omega (arith, length-take v.aquifers ws)

    at : (k : ℕ) → k < v.aquifers → get_or (take v.aquifers ws) k empty_aquifer ≡ v.aquifer k
    at k g = get_or-take v.aquifers ws k empty_aquifer g ∙ sym (e k g)

    pub wells_counted : WellsReady v → WellsReady (aquifers_of (take v.aquifers ws))
    wells_counted r =
        record {
          few = omega (arith, counted, r.few);
          rises = λ k g. rw (at k (omega (arith, counted))) (r.rises k (omega (arith, counted)));
          falls = λ k g. rw (at k (omega (arith, counted))) (r.falls k (omega (arith, counted)));
        }

    pub wells_same : WellsReady v → all_aquifer_figures (aquifers_of (take v.aquifers ws)) ≡ all_aquifer_figures v
    wells_same r =
        ap (λ (n : ℕ). table 32 no_aquifer_figures n (aquifer_figures (aquifers_of (take v.aquifers ws)))) counted
        ∙ table_same 32 no_aquifer_figures v.aquifers _ _ r.few (λ k g. ap figures_of (at k g))
