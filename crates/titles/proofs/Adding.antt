-- Laws of what places add together to an entry: the places are a function of their index. Assumes nothing.
use Prim.Native.Nat.{ℕ, ◌+◌}
use mathlib.Core.Path.{◌≡◌, refl}
use mathlib.Core.Bool.{true, false}
use native.Mathlib.Numerals.{add-one}
use Rattle.laws.specs.Sum.{naturals, sum_of}
use Rattle.model.specs.declared.Place.{Place}
use Rattle.titles.specs.Slot.{Slot}
use Rattle.titles.specs.Adds.{return_of, adds, place_adds}

module _ (s : Slot) (j : ℕ) where
  -- No places add nothing.
  pub places_none : (f : ℕ → Place) → sum_of naturals 0 (λ k. place_adds (f k) s j) ≡ 0
  unfolding sum_of
  places_none f = refl

  -- One more place adds what it adds.
  pub places_more : (n : ℕ) (f : ℕ → Place)
      → sum_of naturals (n + 1) (λ k. place_adds (f k) s j) ≡ sum_of naturals n (λ k. place_adds (f k) s j) + place_adds (f n) s j
  unfolding sum_of
  places_more n f = rw (add-one n)

  -- A place adds what its title adds where that is in force, and else nothing.
  pub in_force_lem : (p : Place) → p.in_force ≡ true → place_adds p s j ≡ adds p.title (return_of p.title) s j
  in_force_lem p e = rw e

  pub out_of_force : (p : Place) → p.in_force ≡ false → place_adds p s j ≡ 0
  out_of_force p e = rw e
