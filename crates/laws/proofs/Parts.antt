-- Integers by their two natural parts, above and below 0, so that `omega` can work with them. Assumes nothing.
--     plus_parts, minus_parts, negate_parts     the parts of a sum, a difference and a negative
--     equal_parts, parts_equal                  equality as an equation of parts, and back
--     le_parts, parts_le                        the order ≤ℤ
--     lt_z_false .. parts_negative               the tests lt_z, le_z and non_neg
--     parts_fit                                 what 64 bits hold
--     above_read, below_read                    the parts that the code reads from a signed local
--     Less z a b                                z is a − b: built up over a long sum, and read off at its end
-- A rule with a premise goes to `omega` by its bare name, `omega (arith, non_neg_true)`; one without wants its arguments.
use Prim.Native.Nat.{ℕ, zero, suc, ◌+◌, ◌-◌, ◌≤◌, ◌<◌, ◌^◌}
use mathlib.Core.Path.{◌≡◌, refl, sym, ap, ◌∙◌}
use mathlib.Core.Bool.{Bool, true, false, true≢false}
use lib.Dec.{T}
use lib.IntN.{ℤ, pos, negsuc, sub_ℕ, neg_ℤ, ◌+ℤ◌, ◌-ℤ◌}
use lib.Signed.{lt_z, le_z, non_neg, ◌≤ℤ◌}
use mir.Syntax.{w64}
use mir.Val.{SFits, to_z, of_z}
use native.Mathlib.Omega.{arith}
use borrow.Author.Tests.{ltb-false, leb-true, lt-ltb, le-ltb, le-leb}
use Rattle.laws.specs.Signed.{above, below}
use Rattle.laws.proofs.Cases.{by_lt}
use Rattle.laws.proofs.Signs.{subℕ_lt, subℕ_le, whole}

-- A number lies above 0 or below it, and not both.
module _ {X : Type 0} where
  pub by_sign : (z : ℤ) → (below z ≡ 0 → X) → (above z ≡ 0 → 0 < below z → X) → X
  by_sign (pos n) p q = p refl
  by_sign (negsuc n) p q = q refl (omega arith)

-- A sum, a negative, a difference.
subℕ_parts : (a b : ℕ) → above (sub_ℕ a b) + b ≡ below (sub_ℕ a b) + a
subℕ_parts a b =
    by_lt a b (λ h. rw (subℕ_lt a b h) (omega arith)) (λ h. rw (subℕ_le a b h) (omega arith))

pub plus_parts : (a b : ℤ) → above (a +ℤ b) + below a + below b ≡ below (a +ℤ b) + above a + above b
plus_parts (pos a) (pos b) = omega arith
plus_parts (pos a) (negsuc b) = omega (arith, subℕ_parts a (suc b))
plus_parts (negsuc a) (pos b) = omega (arith, subℕ_parts b (suc a))
plus_parts (negsuc a) (negsuc b) = omega arith

pub negate_parts : (a : ℤ) → (above (neg_ℤ a) ≡ below a) × (below (neg_ℤ a) ≡ above a)
negate_parts (pos zero) = (refl, refl)
negate_parts (pos (suc n)) = (refl, refl)
negate_parts (negsuc n) = (refl, refl)

pub minus_parts : (a b : ℤ) → above (a -ℤ b) + below a + above b ≡ below (a -ℤ b) + above a + below b
minus_parts a b = omega (arith, plus_parts a (neg_ℤ b), (negate_parts b).0, (negate_parts b).1)

-- Equality.
pub equal_parts : (a b : ℤ) → a ≡ b → above a + below b ≡ below a + above b
equal_parts a b e = rw e (omega arith)

pub parts_equal : (a b : ℤ) → above a + below b ≡ below a + above b → a ≡ b
parts_equal (pos a) (pos b) e = ap pos (omega arith)
parts_equal (pos a) (negsuc b) e = absurd (omega arith)
parts_equal (negsuc a) (pos b) e = absurd (omega arith)
parts_equal (negsuc a) (negsuc b) e = ap negsuc (omega arith)

-- The orders.
pub lt_z_false : (a b : ℤ) → lt_z a b ≡ false → below a + above b ≤ above a + below b
lt_z_false (pos a) (pos b) e = omega (arith, ltb-false a b e)
lt_z_false (pos a) (negsuc b) e = omega arith
lt_z_false (negsuc a) (pos b) e = absurd (true≢false e)
lt_z_false (negsuc a) (negsuc b) e = omega (arith, ltb-false b a e)

pub le_z_true : (a b : ℤ) → le_z a b ≡ true → above a + below b ≤ below a + above b
le_z_true (pos a) (pos b) e = omega (arith, leb-true a b e)
le_z_true (pos a) (negsuc b) e = absurd (true≢false (sym e))
le_z_true (negsuc a) (pos b) e = omega arith
le_z_true (negsuc a) (negsuc b) e = omega (arith, leb-true b a e)

-- and back: what the tests say of numbers whose parts are in order.
pub parts_lt_z : (a b : ℤ) → above a + below b < below a + above b → lt_z a b ≡ true
parts_lt_z (pos a) (pos b) h = lt-ltb a b (omega arith)
parts_lt_z (pos a) (negsuc b) h = absurd (omega arith)
parts_lt_z (negsuc a) (pos b) h = refl
parts_lt_z (negsuc a) (negsuc b) h = lt-ltb b a (omega arith)

pub parts_not_lt_z : (a b : ℤ) → below a + above b ≤ above a + below b → lt_z a b ≡ false
parts_not_lt_z (pos a) (pos b) h = le-ltb a b (omega arith)
parts_not_lt_z (pos a) (negsuc b) h = refl
parts_not_lt_z (negsuc a) (pos b) h = absurd (omega arith)
parts_not_lt_z (negsuc a) (negsuc b) h = le-ltb b a (omega arith)

pub parts_le_z : (a b : ℤ) → above a + below b ≤ below a + above b → le_z a b ≡ true
parts_le_z (pos a) (pos b) h = le-leb a b (omega arith)
parts_le_z (pos a) (negsuc b) h = absurd (omega arith)
parts_le_z (negsuc a) (pos b) h = refl
parts_le_z (negsuc a) (negsuc b) h = le-leb b a (omega arith)

holds : (t : Bool) → t ≡ true → T t
holds true e = tt
holds false e = absurd (true≢false (sym e))

held : (t : Bool) → T t → t ≡ true
held true h = refl
held false h = absurd h

pub le_parts : (a b : ℤ) → a ≤ℤ b → above a + below b ≤ below a + above b
le_parts a b h = le_z_true a b (held (le_z a b) h.le)

pub parts_le : (a b : ℤ) → above a + below b ≤ below a + above b → a ≤ℤ b
parts_le a b h = record { le = holds (le_z a b) (parts_le_z a b h) }

-- Not negative.
pub non_neg_true : (z : ℤ) → non_neg z ≡ true → below z ≡ 0
non_neg_true (pos n) e = refl
non_neg_true (negsuc n) e = absurd (true≢false (sym e))

pub non_neg_false : (z : ℤ) → non_neg z ≡ false → (above z ≡ 0) × (0 < below z)
non_neg_false (pos n) e = absurd (true≢false e)
non_neg_false (negsuc n) e = (refl, omega arith)

pub parts_non_neg : (z : ℤ) → below z ≡ 0 → non_neg z ≡ true
parts_non_neg (pos n) e = refl
parts_non_neg (negsuc n) e = absurd (omega arith)

pub parts_negative : (z : ℤ) → 0 < below z → non_neg z ≡ false
parts_negative (pos n) h = absurd (omega arith)
parts_negative (negsuc n) h = refl

-- What 64 bits hold.
pub parts_fit : (z : ℤ) → above z < 2 ^ 63 → below z ≤ 2 ^ 63 → SFits w64 z
parts_fit (pos n) a b = record { sfits = omega arith }
parts_fit (negsuc n) a b = record { sfits = omega arith }

-- What `laws::above` and `laws::below` give of a signed local, which holds the bits of z.
pub above_read : {r : ℕ} (z : ℤ) → SFits w64 z → r ≡ above (to_z w64 (of_z w64 z)) → r ≡ above z
above_read z f e = e ∙ ap above (whole z f)

pub below_read : {r : ℕ} (z : ℤ) → SFits w64 z → r ≡ below (to_z w64 (of_z w64 z)) → r ≡ below z
below_read z f e = e ∙ ap below (whole z f)

-- z is a − b. Such facts are built along a signed expression, its gains in a and its losses in b.
pub record Less (z : ℤ) (a b : ℕ) : Type 0 where
  pub parts : above z + b ≡ below z + a

pub less_pos : (n : ℕ) → Less (pos n) n 0
less_pos n = record { parts = omega arith }

pub less_self : (z : ℤ) → Less z (above z) (below z)
less_self z = record { parts = omega arith }

pub less_plus : {y z : ℤ} {a b c d : ℕ} → Less y a b → Less z c d → Less (y +ℤ z) (a + c) (b + d)
less_plus {y} {z} p q = record { parts = omega (arith, plus_parts y z) }

pub less_minus : {y z : ℤ} {a b c d : ℕ} → Less y a b → Less z c d → Less (y -ℤ z) (a + d) (b + c)
less_minus {y} {z} p q = record { parts = omega (arith, minus_parts y z) }

pub less_equal : {y z : ℤ} {a b c d : ℕ} → Less y a b → Less z c d → a + d ≡ b + c → y ≡ z
less_equal {y} {z} p q e = parts_equal y z (omega arith)

-- It is the signed difference, and neither part exceeds its side.
pub less_is : {z : ℤ} {a b : ℕ} → Less z a b → z ≡ pos a -ℤ pos b
less_is {z} {a} {b} p = less_equal p (less_minus (less_pos a) (less_pos b)) (omega arith)

pub less_above : {z : ℤ} {a b : ℕ} → Less z a b → above z ≤ a
less_above {z} p = by_sign z (λ h. omega arith) (λ h k. omega arith)

pub less_below : {z : ℤ} {a b : ℕ} → Less z a b → below z ≤ b
less_below {z} p = by_sign z (λ h. omega arith) (λ h k. omega arith)

pub less_monus : {z : ℤ} {a b : ℕ} → Less z a b → above z ≡ a - b
less_monus {z} p = by_sign z (λ h. omega arith) (λ h k. omega arith)

-- It is not negative where b does not exceed a, and negative where it does.
pub less_non_neg : {z : ℤ} {a b : ℕ} → Less z a b → b ≤ a → non_neg z ≡ true
less_non_neg {z} p h = by_sign z (λ g. parts_non_neg z g) (λ g k. absurd (omega arith))

pub less_negative : {z : ℤ} {a b : ℕ} → Less z a b → a < b → non_neg z ≡ false
less_negative {z} p h = by_sign z (λ g. absurd (omega arith)) (λ g k. parts_negative z k)
