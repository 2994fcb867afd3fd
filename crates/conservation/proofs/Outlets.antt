-- The outlets carry what all units add to the river. Assumes nothing.
use Prim.Native.Nat.{ℕ, ◌+◌, ◌≤◌}
use mathlib.Core.Path.{◌≡◌, refl, sym, ◌∙◌}
use mathlib.Core.Bool.{Bool, true, false, ◌||◌}
use lib.Dec.{eqb, ltb}
use lib.IntN.{ℤ, pos, ◌+ℤ◌}
use native.Mathlib.Omega.{arith}
use borrow.Author.Tests.{le-ltb}
use Rattle.laws.specs.Sum.{naturals, integers, sum_of, only}
use Rattle.laws.specs.Signed.{above, below}
use Rattle.laws.proofs.Gathering.{passes, sum_same, sum_plus, related_sum, on_the_way}
use Rattle.laws.proofs.Parts.{Less, less_pos, less_self, less_plus, less_equal}
use Rattle.model.specs.declared.Unit.{Unit}
use Rattle.model.specs.View.{View}
use Rattle.river.specs.Flow.{downstream, net, flow, gain, loss, part, gathered, Ready}
use Rattle.river.proofs.Flows.{tree, net_parts, flow_parts}

outlet_passes : (t : Bool) (n d a : ℕ) → d ≤ n → only naturals (t || ltb n d) a ≡ only naturals t a
outlet_passes true n d a h = refl
outlet_passes false n d a h = rw (le-ltb n d h)

-- What is on the way after all units is what the outlets have.
pub outlets_pass : (v : View) → Ready v → (x : ℕ → ℕ)
    → sum_of naturals v.units (λ j. only naturals (passes (downstream v) v.units j) (x j))
    ≡ sum_of naturals v.units (λ j. only naturals (eqb (downstream v j) 0) (x j))
outlets_pass v r x =
    sum_same naturals v.units _ _ (λ j h. outlet_passes (eqb (downstream v j) 0) v.units (downstream v j) (x j) (r.within j h))

-- All that the outlets gather of what is gained, or lost, is what all units gain, or lose.
outlets_gather : (v : View) → Ready v → (lost : Bool)
    → sum_of naturals v.units (λ j. only naturals (eqb (downstream v j) 0) (gathered v lost j))
    ≡ sum_of naturals v.units (λ j. part lost (v.unit j))
unfolding gathered
outlets_gather v r lost =
    sym (outlets_pass v r (gathered v lost)) ∙ on_the_way (downstream v) (λ j. part lost (v.unit j)) v.units (tree v r)

-- A sum of differences is the difference of the sums.
less_sum : (n : ℕ) (z : ℕ → ℤ) (a b : ℕ → ℕ) → ((k : ℕ) → Less (z k) (a k) (b k))
    → Less (sum_of integers n z) (sum_of naturals n a) (sum_of naturals n b)
less_sum n z a b p =
    related_sum integers naturals naturals Less (record { parts = refl }) (λ c c' d d' e e' q q'. less_plus q q') n z a b (λ k h. p k)

less_only : (t : Bool) {z : ℤ} {a b : ℕ} → Less z a b → Less (only integers t z) (only naturals t a) (only naturals t b)
less_only true p = p
less_only false p = record { parts = refl }

-- All that is added to the river by n units is what they gain less what they lose.
nets_parts : (n : ℕ) (u : ℕ → Unit)
    → Less (sum_of integers n (λ j. net (u j))) (sum_of naturals n (λ j. gain (u j))) (sum_of naturals n (λ j. loss (u j)))
nets_parts n u = less_sum n _ _ _ (λ j. net_parts (u j))

-- The flows of the outlets are together what is gained at the outlets and above them, less what is lost there.
flows_parts : (v : View) (n : ℕ)
    → Less (sum_of integers n (λ j. only integers (eqb (downstream v j) 0) (flow v j)))
    (sum_of naturals n (λ j. only naturals (eqb (downstream v j) 0) (gathered v false j)))
    (sum_of naturals n (λ j. only naturals (eqb (downstream v j) 0) (gathered v true j)))
flows_parts v n = less_sum n _ _ _ (λ j. less_only (eqb (downstream v j) 0) (flow_parts v j))

-- The flows of the outlets are together what all units add to the river.
pub outlets_carry : (v : View) → Ready v
    → sum_of integers v.units (λ j. only integers (eqb (downstream v j) 0) (flow v j))
    ≡ sum_of integers v.units (λ j. net (v.unit j))
outlets_carry v r =
    less_equal (flows_parts v v.units) (nets_parts v.units v.unit) (omega (arith, outlets_gather v r false, outlets_gather v r true))

module _ (n : ℕ) (u : ℕ → Unit) where
  gains_are : sum_of naturals n (λ j. gain (u j))
      ≡ sum_of naturals n (λ j. (u j).runoff) + sum_of naturals n (λ j. (u j).returns) + sum_of naturals n (λ j. (u j).imports)
      + sum_of naturals n (λ j. below (u j).storage)
  gains_are =
      omega (
        arith,
        sum_plus n (λ j. (u j).runoff + (u j).returns + (u j).imports) (λ j. below (u j).storage),
        sum_plus n (λ j. (u j).runoff + (u j).returns) (λ j. (u j).imports),
        sum_plus n (λ j. (u j).runoff) (λ j. (u j).returns),
      )

  losses_are : sum_of naturals n (λ j. loss (u j))
      ≡ sum_of naturals n (λ j. (u j).exports) + sum_of naturals n (λ j. (u j).extraction) + sum_of naturals n (λ j. (u j).evaporation)
      + sum_of naturals n (λ j. above (u j).storage)
  losses_are =
      omega (
        arith,
        sum_plus n (λ j. (u j).exports + (u j).extraction + (u j).evaporation) (λ j. above (u j).storage),
        sum_plus n (λ j. (u j).exports + (u j).extraction) (λ j. (u j).evaporation),
        sum_plus n (λ j. (u j).exports) (λ j. (u j).extraction),
      )

-- What units add to the river and their extraction, exports, evaporation and storage changes are their runoff, returns and imports.
pub nets_are : (n : ℕ) (u : ℕ → Unit)
    → sum_of integers n (λ j. net (u j)) +ℤ pos (sum_of naturals n (λ j. (u j).extraction)) +ℤ pos (sum_of naturals n (λ j. (u j).exports))
    +ℤ pos (sum_of naturals n (λ j. (u j).evaporation)) +ℤ sum_of integers n (λ j. (u j).storage)
    ≡ pos (sum_of naturals n (λ j. (u j).runoff)) +ℤ pos (sum_of naturals n (λ j. (u j).returns)) +ℤ pos (sum_of naturals n (λ j. (u j).imports))
nets_are n u =
    let stored = less_sum n (λ j. (u j).storage) (λ j. above (u j).storage) (λ j. below (u j).storage) (λ j. less_self (u j).storage) in
    less_equal
    (less_plus (less_plus (less_plus (less_plus (nets_parts n u) (less_pos _)) (less_pos _)) (less_pos _)) stored)
    (less_plus (less_plus (less_pos _) (less_pos _)) (less_pos _))
    (omega (arith, gains_are n u, losses_are n u))
