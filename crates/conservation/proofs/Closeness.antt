-- The flows that are worked from rounded natural runoff lie close to those that are worked from the exact means. Assumes nothing.
use Prim.Native.Nat.{ℕ, suc, ◌+◌, ◌-◌, ◌*◌, ◌/◌, ◌≤◌, ◌<◌}
use mathlib.Core.Path.{◌≡◌, refl, sym, ap, subst, ◌∙◌}
use mathlib.Core.Bool.{Bool, true, false}
use lib.Dec.{eqb}
use borrow.Author.Tests.{eqb-true}
use lib.IntN.{ℤ, pos, negsuc, ◌+ℤ◌, ◌-ℤ◌}
use native.Mathlib.Nat.{mul-zero, mul_comm, mul_assoc, mul_right_comm, mul-add, add-mul, mul-le-mul_right}
use native.Mathlib.Omega.{arith}
use Rattle.laws.specs.Sum.{naturals, integers, sum_of, only, every}
use Rattle.laws.specs.Signed.{above, below}
use Rattle.laws.proofs.Every.{every_each}
use Rattle.laws.proofs.Parts.{by_sign, parts_equal, plus_parts, negate_parts, minus_parts, Less, less_pos, less_self, less_plus, less_minus}
use Rattle.laws.proofs.Gathering.{related_gather}
use Rattle.model.specs.declared.Unit.{Unit}
use Rattle.model.specs.View.{View}
use Rattle.river.specs.Flow.{downstream, net, loss, flow, Ready}
use Rattle.river.proofs.Flows.{net_parts}
use Rattle.runoff.specs.Mean.{divisor, rounded, natural_runoff}
use Rattle.runoff.proofs.Rounding.{rounded_low, rounded_high, divisor_positive}
use Rattle.conservation.specs.Demand3.{at_or_above, gcd_to, lcm_from, scale, times, other_net, exact_net, exact_flow, apart}
use Rattle.conservation.proofs.Upstream.{gathers_above}

-- The least common multiple of 20 to 50 in figures.
pub multiple_is : lcm_from 20 31 ≡ 3099044504245996706400
unfolding lcm_from gcd_to
multiple_is = refl

-- What the sum of 20 + k years is divided by divides M.
divides : Bool → ℕ → Bool
divides gauged k = eqb (divisor gauged (20 + k) * (scale / divisor gauged (20 + k))) scale

-- One computed test for all of 20 to 50 years.
all_divide : (gauged : Bool) → every 31 (divides gauged) ≡ true
unfolding divides scale lcm_from gcd_to every
all_divide true = refl
all_divide false = refl

each_divides : (gauged : Bool) (k : ℕ) → k < 31 → divisor gauged (20 + k) * (scale / divisor gauged (20 + k)) ≡ scale
unfolding divides
each_divides gauged k h =
    eqb-true (divisor gauged (20 + k) * (scale / divisor gauged (20 + k))) scale (every_each (divides gauged) 31 (all_divide gauged) k h)

-- M is a whole multiple of what a sum of 20 to 50 years is divided by.
pub scale_whole : (gauged : Bool) (years : ℕ) → 20 ≤ years → years ≤ 50 → divisor gauged years * (scale / divisor gauged years) ≡ scale
scale_whole gauged years g h =
    let e : 20 + (years - 20) ≡ years = omega arith in
    subst (λ (y : ℕ). divisor gauged y * (scale / divisor gauged y) ≡ scale) e (each_divides gauged (years - 20) (omega arith))

-- A bound on the distance of two numbers, all taken p times.
taken : (x y d p : ℕ) → 2 * x ≤ 2 * y + d → 2 * (x * p) ≤ 2 * (y * p) + d * p
taken x y d p h = omega (arith, mul-le-mul_right p h, add-mul (2 * y) d p, mul_assoc 2 x p, mul_assoc 2 y p)

-- A rounded quotient lies within half of the quotient; all taken m times, where m is a whole multiple of the divisor.
module _ (num den part m : ℕ) (e : den * part ≡ m) where
  rounded_taken : den * rounded num den * part ≡ m * rounded num den
  rounded_taken = mul_right_comm den (rounded num den) part ∙ ap (λ (k : ℕ). k * rounded num den) e

  low_taken : 2 * (m * rounded num den) ≤ 2 * (num * part) + m
  low_taken =
      let x = den * rounded num den in
      omega (arith, taken x num den part (omega (arith, rounded_low num den, mul_assoc 2 den (rounded num den))), rounded_taken)

  high_taken : 0 < den → 2 * (num * part) ≤ 2 * (m * rounded num den) + m
  high_taken h =
      let x = den * rounded num den in
      let q : 2 * num ≤ 2 * x + den = omega (arith, rounded_high num den h, mul_assoc 2 den (rounded num den + 1), mul-add den (rounded num den) 1) in
      omega (arith, taken num x den part q, rounded_taken)

-- b lies within c halves of m of m times a.
record Near (m : ℕ) (a b : ℤ) (c : ℕ) : Type 0 where
  over : 2 * (m * above a + below b) ≤ 2 * (m * below a + above b) + m * c
  under : 2 * (m * below a + above b) ≤ 2 * (m * above a + below b) + m * c

-- The parts of an integer taken m times.
times_parts : (m : ℕ) (z : ℤ) → (above (times m z) ≡ m * above z) × (below (times m z) ≡ m * below z)
times_parts m (pos k) = (refl, sym (mul-zero m))
times_parts m (negsuc k) = ((negate_parts (pos (m * suc k))).0 ∙ sym (mul-zero m), (negate_parts (pos (m * suc k))).1)

-- Taking n times what was taken m times.
times_times : (n m : ℕ) (z : ℤ) → times n (times m z) ≡ times (n * m) z
times_times n m z =
    let a = times_parts m z in
    let b = times_parts n (times m z) in
    let c = times_parts (n * m) z in
    parts_equal (times n (times m z)) (times (n * m) z)
    (omega (
      arith,
      b.0 ∙ ap (λ (k : ℕ). n * k) a.0 ∙ sym (mul_assoc n m (above z)) ∙ sym c.0,
      b.1 ∙ ap (λ (k : ℕ). n * k) a.1 ∙ sym (mul_assoc n m (below z)) ∙ sym c.1,
    ))

-- It is exact: taken as often as the sum of the years is divided by, it is M times that sum.
pub exact_mean_lem : (gauged : Bool) (years : ℕ) (sum : ℤ) → 20 ≤ years → years ≤ 50
    → times (divisor gauged years) (times (scale / divisor gauged years) sum) ≡ times scale sum
exact_mean_lem gauged years sum g h =
    times_times (divisor gauged years) (scale / divisor gauged years) sum ∙ ap (λ (m : ℕ). times m sum) (scale_whole gauged years g h)

-- M times the mean, and M times a natural runoff that lies within half of the mean. A mean from which a runoff is rounded is not negative.
pub record MeanClose (runoff : ℕ) (exact : ℤ) : Type 0 where
  pub least : below exact ≡ 0
  pub low : 2 * (scale * runoff) ≤ 2 * above exact + scale
  pub high : 2 * above exact ≤ 2 * (scale * runoff) + scale

pub runoff_close : (gauged : Bool) (years : ℕ) (sum : ℤ) → 20 ≤ years → years ≤ 50 → below sum ≡ 0
    → MeanClose (natural_runoff gauged years sum) (times (scale / divisor gauged years) sum)
runoff_close gauged years sum g h z =
    let d = divisor gauged years in
    let p = scale / d in
    let e = scale_whole gauged years g h in
    let t = times_parts p sum in
    let q : above (times p sum) ≡ above sum * p = t.0 ∙ mul_comm p (above sum) in
    record {
      least = t.1 ∙ ap (λ (k : ℕ). p * k) z ∙ mul-zero p;
      low = omega (arith, q, low_taken (above sum) d p scale e);
      high = omega (arith, q, high_taken (above sum) d p scale e (divisor_positive gauged years (omega arith)));
    }

-- An equation of sums of three, taken m times.
sums_taken : (m a b c d e f : ℕ) → a + b + c ≡ d + e + f → m * a + m * b + m * c ≡ m * d + m * e + m * f
sums_taken m a b c d e f q =
    omega (arith, mul-add m (a + b) c, mul-add m a b, mul-add m (d + e) f, mul-add m d e, ap (λ (k : ℕ). m * k) q)

times_less : (m : ℕ) (z : ℤ) (a b : ℕ) → Less z a b → Less (times m z) (m * a) (m * b)
times_less m z a b p =
    let t = times_parts m z in
    record { parts = omega (arith, t.0, t.1, mul-add m (above z) b, mul-add m (below z) a, ap (λ (k : ℕ). m * k) p.parts) }

-- It holds of nothing and is kept by adding.
near_none : (m : ℕ) → Near m (pos 0) (pos 0) 0
near_none m = record { over = omega arith; under = omega arith }

near_plus : (m : ℕ) (a a' b b' : ℤ) (c c' : ℕ) → Near m a b c → Near m a' b' c' → Near m (a +ℤ a') (b +ℤ b') (c + c')
near_plus m a a' b b' c c' p q =
    let s = sums_taken m _ _ _ _ _ _ (plus_parts a a') in
    record {
      over = omega (arith, s, plus_parts b b', mul-add m c c', p.over, q.over);
      under = omega (arith, s, plus_parts b b', mul-add m c c', p.under, q.under);
    }

-- They are then at most that far apart.
near_apart : (m : ℕ) (a b : ℤ) (c : ℕ) → Near m a b c → 2 * apart (times m a) b ≤ m * c
near_apart m a b c p =
    let t = times_parts m a in
    let d = minus_parts (times m a) b in
    by_sign (times m a -ℤ b)
    (λ h. omega (arith, t.0, t.1, d, p.over))
    (λ h g. omega (arith, t.0, t.1, d, p.under))

-- It holds of two integers that differ in the runoff alone.
near_runoff : (m : ℕ) (a b : ℤ) (runoff exact gains losses : ℕ) → Less a (runoff + gains) losses → Less b (exact + m * gains) (m * losses)
    → 2 * (m * runoff) ≤ 2 * exact + m → 2 * exact ≤ 2 * (m * runoff) + m → Near m a b 1
near_runoff m a b runoff exact gains losses p q h g =
    let t = ap (λ (k : ℕ). m * k) p.parts in
    let s : m * above a + m * losses ≡ m * below a + m * runoff + m * gains = omega (arith, t, mul-add m (above a) losses, mul-add m (below a) (runoff + gains), mul-add m runoff gains) in
    record { over = omega (arith, s, q.parts); under = omega (arith, s, q.parts) }

-- The gains of a unit without its runoff.
abbrev other_gains : Unit → ℕ
other_gains u = u.returns + u.imports + below u.storage

-- The two natural parts of what a unit adds by itself, of that without its runoff, and of the exact amount.
net_less : (u : Unit) → Less (net u) (u.runoff + other_gains u) (loss u)
net_less u = record { parts = omega (arith, (net_parts u).parts) }

other_less : (u : Unit) → Less (other_net u) (other_gains u) (loss u)
other_less u =
    let p = less_minus (less_minus (less_minus (less_minus (less_plus (less_pos u.returns) (less_pos u.imports))
    (less_pos u.exports)) (less_pos u.extraction)) (less_pos u.evaporation)) (less_self u.storage) in
    record { parts = omega (arith, p.parts) }

exact_less : (exact : ℤ) (u : Unit) → below exact ≡ 0 → Less (exact_net exact u) (above exact + scale * other_gains u) (scale * loss u)
exact_less exact u z =
    let p = less_plus (less_self exact) (times_less scale (other_net u) (other_gains u) (loss u) (other_less u)) in
    record { parts = omega (arith, p.parts, z) }

-- M times the flow of a unit lies at most half of M, for each unit at or above it, from M times the flow worked from unrounded natural runoff.
pub flow_close : (v : View) → Ready v → (exact : ℕ → ℤ) → ((k : ℕ) → k < v.units → MeanClose (v.unit k).runoff (exact k))
    → (j : ℕ) → j < v.units
    → 2 * apart (times scale (flow v j)) (exact_flow v exact j) ≤ scale * sum_of naturals v.units (λ k. only naturals (at_or_above v j k) 1)
unfolding flow exact_flow
flow_close v r exact near j h =
    let n = related_gather integers integers naturals (Near scale) (near_none scale) (near_plus scale)
    (downstream v) (λ k. net (v.unit k)) (λ k. exact_net (exact k) (v.unit k)) (λ k. 1) j
    (λ k g.
    let c = near k (omega arith) in
    near_runoff scale _ _ _ _ _ _ (net_less (v.unit k)) (exact_less (exact k) (v.unit k) c.least) c.low c.high) in
    subst (λ (c : ℕ). 2 * apart (times scale (flow v j)) (exact_flow v exact j) ≤ scale * c) (gathers_above v r (λ k. 1) j h)
    (near_apart scale (flow v j) (exact_flow v exact j) _ n)
