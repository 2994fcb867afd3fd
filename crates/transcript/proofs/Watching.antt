-- A moving window is read alike where its bytes are the same. Assumes nothing.
use Prim.Native.Nat.{ℕ, zero, suc, ◌+◌, ◌*◌, ◌<◌}
use mathlib.Core.Path.{◌≡◌, refl, sym, ap, ◌∙◌}
use mathlib.Core.List.{List, ◌∷◌}
use native.Mathlib.Omega.{arith}
use Rattle.laws.specs.Table.{tabulate}
use Rattle.record.specs.Bytes.{bits8, bits16, bits32}
use Rattle.record.specs.Described.{plot_at}
use Rattle.requests.specs.Watched.{plots_told, years_told, plots_after, years_from, years_place, window_size, watched_at}

-- Lists that agree at each place are one.
tabulate_same : {A : Type 0} (n : ℕ) (f g : ℕ → A) → ((k : ℕ) → k < n → f k ≡ g k) → tabulate n f ≡ tabulate n g
unfolding tabulate
tabulate_same zero f g e = refl
tabulate_same (suc n) f g e = λ i. e 0 (omega arith) i ∷ tabulate_same n (λ k. f (suc k)) (λ k. g (suc k)) (λ k h. e (suc k) (omega arith)) i

-- Two lists of bytes that agree from an offset of each on, as far as the second's WI goes.
module _ (s : List ℕ) (at : ℕ) (t : List ℕ) (from : ℕ) (same : (i : ℕ) → i < window_size t from → bits8 s (at + i) ≡ bits8 t (from + i)) where
  byte : (x y i : ℕ) → x ≡ at + i → y ≡ from + i → i < window_size t from → bits8 s x ≡ bits8 t y
  byte x y i p q h = ap (bits8 s) p ∙ same i h ∙ ap (bits8 t) (sym q)

  half : (x y i : ℕ) → x ≡ at + i → y ≡ from + i → i + 1 < window_size t from → bits16 s x ≡ bits16 t y
  half x y i p q h = λ j. byte x y i p q (omega arith) j + 256 * byte (x + 1) (y + 1) (i + 1) (omega arith) (omega arith) h j

  word : (x y i : ℕ) → x ≡ at + i → y ≡ from + i → i + 3 < window_size t from → bits32 s x ≡ bits32 t y
  word x y i p q h = λ j. half x y i p q (omega arith) j + 65536 * half (x + 2) (y + 2) (i + 2) (omega arith) (omega arith) (omega arith) j

  -- Its counts are the same, and so are its size and all that it hands in.
  plots_alike : plots_told s at ≡ plots_told t from
  plots_alike = byte (at + 3) (from + 3) 3 refl refl (omega arith)

  years_alike : years_told s at ≡ years_told t from
  years_alike = half (at + 4) (from + 4) 4 refl refl (omega arith)

  pub size_alike : window_size s at ≡ window_size t from
  size_alike = λ j. 6 + 6 * plots_alike j + 2 * years_alike j

  plot_alike : (k : ℕ) → k < plots_told t from → plot_at s (at + 4 + 6 * k) ≡ plot_at t (from + 4 + 6 * k)
  plot_alike k h =
      let cover = byte (at + 4 + 6 * k + 2) (from + 4 + 6 * k + 2) (4 + 6 * k + 2) (omega arith) (omega arith) (omega arith) in
      let soil = byte (at + 4 + 6 * k + 3) (from + 4 + 6 * k + 3) (4 + 6 * k + 3) (omega arith) (omega arith) (omega arith) in
      let hectares = word (at + 4 + 6 * k + 4) (from + 4 + 6 * k + 4) (4 + 6 * k + 4) (omega arith) (omega arith) (omega arith) in
      λ j. record { cover = cover j; soil = soil j; hectares = hectares j }

  year_alike : (k : ℕ) → k < years_told t from → bits16 s (years_place s at + 2 * k) ≡ bits16 t (years_place t from + 2 * k)
  year_alike k h =
      half (years_place s at + 2 * k) (years_place t from + 2 * k) (6 + 6 * plots_told t from + 2 * k) (omega (arith, plots_alike)) (omega arith) (omega arith)

  pub watched_alike : watched_at s at ≡ watched_at t from
  watched_alike =
      let plots = ap (plots_after s at) plots_alike ∙ tabulate_same (plots_told t from) _ _ plot_alike in
      let years = ap (years_from s (years_place s at)) years_alike ∙ tabulate_same (years_told t from) _ _ year_alike in
      let width = byte (at + 2) (from + 2) 2 refl refl (omega arith) in
      λ j. record { plots = plots j; years = years j; width = width j }
