-- What an entry in its range satisfies. Assumes nothing.
use Prim.Native.Nat.{ℕ, ◌≤◌}
use mathlib.Core.Path.{◌≡◌, refl, sym, ap₂, ◌∙◌}
use mathlib.Core.Bool.{Bool, true, false, not, ◌&&◌, true≢false}
use lib.Dec.{leb, leb-suc-suc}
use lib.IntN.{ℤ, pos, negsuc, neg_ℤ}
use lib.Signed.{le_z}
use borrow.Author.Tests.{leb-true, le-leb}
use Rattle.laws.specs.Signed.{above, below}
use Rattle.laws.proofs.Chain.{t_and}
use Rattle.laws.proofs.Every.{both}
use Rattle.model.specs.Limits.{term_limit}
use Rattle.model.specs.Ranges.{is_term, is_storage}

-- A test whose opposite fails holds.
pub holds : (t : Bool) → not t ≡ false → t ≡ true
holds true e = refl
holds false e = absurd (true≢false e)

-- The first of some terms, and the test of the others.
pub record FirstWithin (x : ℕ) (others : Bool) : Type 0 where
  pub first : x ≤ term_limit
  pub rest : others ≡ true

pub first_within : (x : ℕ) (others : Bool) → is_term x && others ≡ true → FirstWithin x others
first_within x others e =
    let p = both (is_term x) others e in record { first = leb-true x term_limit p.0; rest = p.1 }

pub within_first : (x : ℕ) (others : Bool) → x ≤ term_limit → others ≡ true → is_term x && others ≡ true
within_first x others h e = t_and (is_term x) others (le-leb x term_limit h) e

-- A storage change is in its range if neither of its parts is above the term limit.
storage_low : (z : ℤ) → le_z (neg_ℤ (pos term_limit)) z ≡ leb (below z) term_limit
storage_low (pos n) = refl
storage_low (negsuc n) = sym (leb-suc-suc n 9999999)

storage_high : (z : ℤ) → le_z z (pos term_limit) ≡ leb (above z) term_limit
storage_high (pos n) = refl
storage_high (negsuc n) = refl

storage_parts : (z : ℤ) → is_storage z ≡ (leb (below z) term_limit && leb (above z) term_limit)
storage_parts z = ap₂ ◌&&◌ (storage_low z) (storage_high z)

pub record StorageWithin (z : ℤ) : Type 0 where
  pub rise : above z ≤ term_limit
  pub fall : below z ≤ term_limit

pub storage_within : (z : ℤ) → is_storage z ≡ true → StorageWithin z
storage_within z e =
    let p = both (leb (below z) term_limit) (leb (above z) term_limit) (sym (storage_parts z) ∙ e) in
    record { rise = leb-true (above z) term_limit p.1; fall = leb-true (below z) term_limit p.0 }

pub within_storage : (z : ℤ) → below z ≤ term_limit → above z ≤ term_limit → is_storage z ≡ true
within_storage z h g =
    storage_parts z ∙ t_and (leb (below z) term_limit) (leb (above z) term_limit) (le-leb (below z) term_limit h) (le-leb (above z) term_limit g)
