-- K by soil and cover. Assumes nothing.
use Rattle.std.specs.Prelude.{ℕ, ◌*◌, ◌-◌, ◌≤◌, ◌≡◌, List, [], ◌∷◌, get_or}

row : ℕ → ℕ → ℕ → List ℕ
row a b c = a ∷ b ∷ c ∷ []

-- K in hundredths, a row for each cover from 1 to 14, for soils A, B, C (1, 2, 3).
unfoldable pub coefficients : List (List ℕ)
unfolding row
coefficients =
    row 26 28 30  -- 1 fallow
    ∷ row 24 27 30  -- 2 row crops
    ∷ row 24 27 30  -- 3 legumes
    ∷ row 24 27 30  -- 4 small grain
    ∷ row 14 20 28  -- 5 pasture covered over 75%
    ∷ row 20 24 30  -- 6 pasture 50–75%
    ∷ row 24 28 30  -- 7 pasture under 50%
    ∷ row 7 16 24  -- 8 forest over 75%
    ∷ row 12 22 26  -- 9 forest 50–75%
    ∷ row 17 26 28  -- 10 forest 25–50%
    ∷ row 22 28 30  -- 11 forest under 25%
    ∷ row 26 29 32  -- 12 urban
    ∷ row 27 30 33  -- 13 roads
    ∷ row 18 24 30  -- 14 permanent meadow
    ∷ []

-- K of a cover and a soil.
unfoldable pub coefficient : ℕ → ℕ → ℕ
coefficient cover soil = get_or (get_or coefficients (cover - 1) []) (soil - 1) 0

-- The covers and soils that the table has.
pub record Known (cover soil : ℕ) : Type 0 where
  pub cover_from : 1 ≤ cover
  pub cover_to : cover ≤ 14
  pub soil_from : 1 ≤ soil
  pub soil_to : soil ≤ 3

-- k is the table's entry, which lies between 7 and 33.
pub record Tabled (cover soil k : ℕ) : Type 0 where
  pub entry : k ≡ coefficient cover soil
  pub least : 7 ≤ k
  pub most : k ≤ 33

-- Hectares times K, which S sums over a unit's soil records.
abbrev pub weighted : ℕ → ℕ → ℕ → ℕ
weighted cover soil hectares = hectares * coefficient cover soil
