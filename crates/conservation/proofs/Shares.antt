-- The shares of a demand lose no water: what the units above get and what the unit gets is the whole demand. Assumes nothing.
use Prim.Native.Nat.{ℕ, zero, suc, ◌+◌, ◌*◌, ◌/◌, ◌≤◌, ◌<◌}
use mathlib.Core.Path.{◌≡◌, refl, sym, ap, ◌∙◌}
use mathlib.Core.Bool.{Bool, true, false, cond}
use lib.Dec.{eqb}
use native.Mathlib.Nat.{le-div_iff_mul-le}
use native.Mathlib.Omega.{arith}
use borrow.Author.Tests.{eq-eqb, ne_eqb}
use Rattle.laws.specs.Sum.{naturals, sum_of, only}
use Rattle.laws.proofs.Cases.{by_lt, by_eq}
use Rattle.laws.proofs.Splitting.{floor_all, floor_mono, floor_le}
use Rattle.model.specs.View.{View}
use Rattle.river.specs.Flow.{downstream}
use Rattle.river.specs.Reserve.{contribution, running_total, total, share, share_above, share_own}

-- What the units that drain straight into unit w get of its demand D, of the first n units.
abbrev pub shares_above : View → ℕ → ℕ → ℕ → ℕ
shares_above v w D n = sum_of naturals n (λ k. only naturals (eqb (downstream v k) (suc w)) (share_above v w D k))

no_share : (t : Bool) (T x : ℕ) → T ≡ 0 → only naturals t (cond (eqb T 0) 0 x) ≡ 0
no_share true T x e = rw (eq-eqb T 0 e)
no_share false T x e = refl

one_share : (D T r c S : ℕ) → 0 < T → S ≡ D * r / T → S + cond (eqb T 0) 0 (share D T r (r + c)) ≡ D * (r + c) / T
one_share D T r c S h e = rw (ne_eqb T 0 (omega arith)) (omega (arith, floor_mono D r (r + c) T h (omega arith)))

add_share : (t : Bool) (D T r c S : ℕ) → 0 < T → S ≡ D * r / T
    → S + only naturals t (cond (eqb T 0) 0 (share D T r (r + c))) ≡ D * (r + only naturals t c) / T
add_share true D T r c S h e = one_share D T r c S h e
add_share false D T r c S h e =
    let z : r + 0 ≡ r = omega arith in
    let q : S + 0 ≡ S = omega arith in
    q ∙ e ∙ ap (λ (y : ℕ). D * y / T) (sym z)

nothing : (a b : ℕ) → 0 < b → 0 ≡ a * 0 / b
nothing a b g =
    by_lt 0 (a * 0 / b)
    (λ h. let q : 1 * b ≤ a * 0 = (le-div_iff_mul-le g).0 h in absurd (omega arith))
    (λ h. omega arith)

own_none : (D T x : ℕ) → T ≡ 0 → cond (eqb T 0) D x ≡ D
own_none D T x e = rw (eq-eqb T 0 e)

own_some : (D T x : ℕ) → 0 < T → cond (eqb T 0) D x ≡ x
own_some D T x h = rw (ne_eqb T 0 (omega arith))

module _ (v : View) (w D : ℕ) where
  -- Where there is no water the units above get nothing.
  none_above : total v w ≡ 0 → (n : ℕ) → shares_above v w D n ≡ 0
  unfolding sum_of
  none_above e zero = refl
  none_above e (suc n) =
      omega (
        arith,
        none_above e n,
        no_share (eqb (downstream v n) (suc w)) (total v w) (share D (total v w) (running_total v w n) (running_total v w n + contribution v n)) e,
      )

  -- The shares of the first n units add up to the floor of the demand times their running total.
  some_above : 0 < total v w → (n : ℕ) → shares_above v w D n ≡ D * running_total v w n / total v w
  unfolding sum_of
  some_above h zero = nothing D (total v w) h
  some_above h (suc n) =
      add_share (eqb (downstream v n) (suc w)) D (total v w) (running_total v w n) (contribution v n) (shares_above v w D n) h (some_above h n)

  -- What the units above get and what the unit gets of its demand is the demand.
  pub shares_add_up : shares_above v w D w + share_own v w D ≡ D
  shares_add_up =
      let own = share D (total v w) (running_total v w w) (total v w) in
      by_eq (total v w) 0
      (λ e. omega (arith, none_above e w, own_none D (total v w) own e))
      (λ e.
      omega (
        arith,
        some_above (omega arith) w,
        own_some D (total v w) own (omega arith),
        floor_all D (total v w) (omega arith),
        floor_le D (running_total v w w) (total v w) (omega arith) (omega arith),
      ))
