-- Reading the first soil records and years of a WI into arrays. Assumes nothing.
use Rattle.std.proofs.Common.{◌≡◌, ◌∙◌, ℕ, zero, suc, ◌+◌, ◌*◌, ◌≤◌, List, ◌∷◌, take, min, sym, ap, arith}
use Rattle.std.proofs.Math.Nat.{min-eq_left, min-le_right, suc-min-suc}
use Rattle.std.proofs.lemmas.List.{length-take-le, get_or-take, ext_get_or}
use Rattle.runoff.specs.declared.Plot.{Plot}
use Rattle.record.specs.Bytes.{bits8, bits16}
use Rattle.record.specs.Described.{plot_at}
use Rattle.window.specs.Window.{windows_reply}
use Rattle.window.proofs.Promises.{cut_alike}
use Rattle.requests.specs.Watched.{plots_told, years_told, plots_after, years_from, years_place, watched_at, watched_reply}
use Rattle.laws.specs.Table.{tabulate}
use Rattle.laws.proofs.Arrays.{Filled, length_tabulate, get_or_tabulate}

-- What an unused place holds.
abbrev pub no_plot : Plot
no_plot = record { cover = 0; soil = 0; hectares = 0 }

-- The first places of an array that a loop filled so far are what it put there.
pub filled_first : {A : Type 0} (n : ℕ) (d : A) (f : ℕ → A) (i : ℕ) (w : List A) → Filled n d f i w → (count : ℕ) → count ≤ i → count ≤ n
    → take count w ≡ tabulate count f
filled_first n d f i w p count h g =
    let long = length-take-le count w (omega (arith, p.long)) in
    ext_get_or d (take count w) (tabulate count f) (long ∙ sym (length_tabulate count f))
    (λ j q. get_or-take count w j d (omega (arith, long)) ∙ p.done j (omega (arith, long)) ∙ sym (get_or_tabulate count f d j (omega (arith, long))))

-- The first of so many things are the things of so many places, or of as many as there are.
take_tabulate : {A : Type 0} (n k : ℕ) (f : ℕ → A) → tabulate (min k n) f ≡ take n (tabulate k f)
unfolding tabulate
take_tabulate zero k f = let none : min k 0 ≡ 0 = omega (arith, min-le_right k 0) in ap (λ (m : ℕ). tabulate m f) none
take_tabulate (suc n) zero f = ap (λ (m : ℕ). tabulate m f) (min-eq_left {n = 0} {m = suc n} (omega arith))
take_tabulate (suc n) (suc k) f =
    ap (λ (m : ℕ). tabulate m f) (suc-min-suc k n) ∙ ap (λ (l : List _). f 0 ∷ l) (take_tabulate n k (λ j. f (suc j)))

-- A WI of which no more is read than the first 17 soil records and the first 201 years has the reply to all that it hands in.
pub read_alike : (s : List ℕ) (at : ℕ)
    → windows_reply (plots_after s at (min (plots_told s at) 17)) (years_from s (years_place s at) (min (years_told s at) 201)) (bits8 s (at + 2))
    ≡ watched_reply (watched_at s at)
read_alike s at =
    (λ i.
    windows_reply (take_tabulate 17 (plots_told s at) (λ k. plot_at s (at + 4 + 6 * k)) i)
    (take_tabulate 201 (years_told s at) (λ k. bits16 s (years_place s at + 2 * k)) i) (bits8 s (at + 2)))
    ∙ sym (cut_alike (watched_at s at).plots (watched_at s at).years (bits8 s (at + 2)))
