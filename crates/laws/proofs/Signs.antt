-- Laws of signed numbers by their natural parts, and of the bits that hold them. Assumes nothing.
use Prim.Native.Nat.{ℕ, suc, ◌-◌, ◌≤◌, ◌<◌, ◌^◌}
use mathlib.Core.Path.{◌≡◌, refl}
use mathlib.Core.Bool.{false, true≢false}
use lib.IntN.{ℤ, pos, negsuc, sub_ℕ}
use lib.Signed.{mag, lt_z}
use mir.Syntax.{w64}
use mir.Val.{SFits, to_z, of_z}
use mir.ValLaws.{to_z-of_z}
use borrow.Author.Tests.{lt-ltb, le-ltb}
use Rattle.laws.specs.Signed.{below}

-- A difference of two naturals, by which of them is larger.
pub subℕ_lt : (a b : ℕ) → a < b → sub_ℕ a b ≡ negsuc (b - suc a)
subℕ_lt a b h = rw (lt-ltb a b h)

pub subℕ_le : (a b : ℕ) → b ≤ a → sub_ℕ a b ≡ pos (a - b)
subℕ_le a b h = rw (le-ltb a b h)

-- What the bits of a signed word stand for.
pub whole : (z : ℤ) → SFits w64 z → to_z w64 (of_z w64 z) ≡ z
whole z f = to_z-of_z w64 z f

pub below_pos : (z : ℤ) → lt_z z (pos 0) ≡ false → 0 ≡ below z
below_pos (pos n) e = refl
below_pos (negsuc n) e = absurd (true≢false e)

pub whole_ok : (z : ℤ) → mag z < 2 ^ 63 → to_z w64 (of_z w64 z) ≡ z
whole_ok z h = to_z-of_z w64 z (record { sfits = h })
