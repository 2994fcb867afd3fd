-- Entries that take what is posted to them. Assumes nothing.
use Prim.Native.Nat.{ℕ, suc, pred, ◌≤◌, ◌<◌}
use mathlib.Core.Path.{◌≡◌, refl, subst}
use native.Mathlib.Omega.{arith}
use borrow.Author.Tests.{eq-eqb, ne_eqb}
use Rattle.model.specs.declared.Unit.{Unit}
use Rattle.model.specs.declared.Aquifer.{Aquifer}
use Rattle.titles.specs.Posting.{Posting, nothing, post, posts, Postings}
use Rattle.effect.specs.Room.{There, Takes, UnitsTake, WellsTake}

-- A posting adds its amount at the index of its number, and nothing elsewhere.
pub here : (n a : ℕ) → 0 < n → posts (post n a) (pred n) ≡ a
here n a h = rw (eq-eqb n (suc (pred n)) (omega arith))

pub elsewhere : (n a k : ℕ) → (n ≡ suc k → ⊥) → posts (post n a) k ≡ 0
elsewhere n a k h = rw (ne_eqb n (suc k) h)

module _ (left : ℕ → ℕ) (entry : ℕ → ℕ) where
  -- Nothing is posted past the last unit or aquifer.
  pub takes_past : (count : ℕ) (p : Posting) → Takes left count entry p → (k : ℕ) → count ≤ k → posts p k ≡ 0
  takes_past count nothing h k g = refl
  takes_past count (post n a) h k g = elsewhere n a k (λ e. omega (arith, h.1))

  -- More of them take it too.
  takes_more : (count more : ℕ) (p : Posting) → count ≤ more → Takes left count entry p → Takes left more entry p
  takes_more count more nothing g h = h
  takes_more count more (post n a) g h = (h.0, omega (arith, h.1), h.2)

  -- An entry that leaves enough at each index takes what is posted.
  pub takes_of : (count : ℕ) (p : Posting) → There count p → ((k : ℕ) → k < count → posts p k ≤ left (entry k)) → Takes left count entry p
  takes_of count nothing h f = h
  takes_of count (post n a) h f = (h.0, h.1, subst (λ (x : ℕ). x ≤ left (entry (pred n))) (here n a h.0) (f (pred n) (omega (arith, h.0, h.1))))

module _ (left : ℕ → ℕ) (unit : ℕ → Unit) (p : Postings) where
  pub units_more : (count more : ℕ) → count ≤ more → UnitsTake left count unit p → UnitsTake left more unit p
  units_more count more g h =
      record {
        extraction = takes_more left (λ k. (unit k).extraction) count more p.extraction g h.extraction;
        exports = takes_more left (λ k. (unit k).exports) count more p.exports g h.exports;
        imports = takes_more left (λ k. (unit k).imports) count more p.imports g h.imports;
        returns = takes_more left (λ k. (unit k).returns) count more p.returns g h.returns;
      }

pub wells_more : (left : ℕ → ℕ) (aquifer : ℕ → Aquifer) (p : Postings) (count more : ℕ) → count ≤ more
    → WellsTake left count aquifer p → WellsTake left more aquifer p
wells_more left aquifer p count more g h = takes_more left (λ k. (aquifer k).extraction) count more p.wells g h
