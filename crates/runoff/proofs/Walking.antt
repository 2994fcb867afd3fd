-- The walk over soil records. Assumes nothing.
use Rattle.std.proofs.Common.{◌≡◌, ◌∙◌, ℕ, ◌+◌, ◌*◌, ◌≤◌, ◌<◌, ◌^◌, List, [], ◌∷◌, ◌++◌, length, length-append, take, drop, get_or, sym, ap, arith}
use Rattle.std.specs.List.{All}
use Rattle.std.proofs.Math.Nat.{add-zero, zero-add}
use Rattle.std.proofs.lemmas.List.{take-append-drop, take_more}
use Rattle.std.proofs.lemmas.List.Elements.{All-nil, All-cons, All-head, All-tail, All-take, All-drop}
use Rattle.runoff.specs.Soil.{weighted, Known}
use Rattle.runoff.specs.Record.{area_of, weighted_of, Year, years_sum, gauged_on, runoff_of}
use Rattle.runoff.specs.Mean.{natural_runoff}
use Rattle.runoff.specs.Walk.{Walkable, walked, no_soils, taken_up}
use Rattle.runoff.specs.declared.Plot.{Plot}
use Rattle.runoff.specs.declared.Soils.{Soils}
use Rattle.runoff.proofs.Record.{weighted_within, area_of_append, weighted_of_append}

-- The walk over some records, taken up for the rest, is the walk over all.
pub walked_append : (soils : Soils) (first rest : List Plot) → walked (walked soils first) rest ≡ walked soils (first ++ rest)
walked_append soils first rest = λ i. record { area = area i; weighted = both i }
  where
    area : soils.area + area_of first + area_of rest ≡ soils.area + area_of (first ++ rest)
    area = omega (arith, area_of_append first rest)

    both : soils.weighted + weighted_of first + weighted_of rest ≡ soils.weighted + weighted_of (first ++ rest)
    both = omega (arith, weighted_of_append first rest)

-- Broken off after any record and taken up again from the two sums, the walk ends the same.
pub walk_taken_up : (k : ℕ) (soils : Soils) (plots : List Plot) → taken_up k soils plots ≡ walked soils plots
walk_taken_up k soils plots = walked_append soils (take k plots) _ ∙ ap (walked soils) (take-append-drop k plots)

-- The walk over no record, over one, and over one more.
pub walked_none : (soils : Soils) → walked soils [] ≡ soils
unfolding area_of weighted_of
walked_none soils = λ i. record { area = add-zero soils.area i; weighted = add-zero soils.weighted i }

pub walked_one : (soils : Soils) (p : Plot)
    → walked soils (p ∷ []) ≡ record { area = soils.area + p.hectares; weighted = soils.weighted + weighted p.cover p.soil p.hectares }
unfolding area_of weighted_of
walked_one soils p = λ i.
    record { area = soils.area + add-zero p.hectares i; weighted = soils.weighted + add-zero (weighted p.cover p.soil p.hectares) i }

pub walked_more : (soils : Soils) (plots : List Plot) (n : ℕ) (p : Plot) → n < length plots
    → walked soils (take (n + 1) plots) ≡ walked (walked soils (take n plots)) (get_or plots n p ∷ [])
walked_more soils plots n p h = ap (walked soils) (take_more plots n p h) ∙ sym (walked_append soils (take n plots) (get_or plots n p ∷ []))

-- A walk from none gives each sum worked alone, and a unit's natural runoff is worked from the two sums of one walk over its soil records.
pub walked_from_none : (plots : List Plot) → walked no_soils plots ≡ record { area = area_of plots; weighted = weighted_of plots }
walked_from_none plots = λ i. record { area = zero-add (area_of plots) i; weighted = zero-add (weighted_of plots) i }

pub runoff_walked : (plots : List Plot) (years : List Year)
    → runoff_of plots years ≡ natural_runoff (gauged_on plots) (length years) (years_sum (walked no_soils plots).area (walked no_soils plots).weighted years)
runoff_walked plots years =
    ap (λ (s : Soils). natural_runoff (gauged_on plots) (length years) (years_sum s.area s.weighted years)) (sym (walked_from_none plots))

-- A reader's two sums leave room for one record more.
pub walkable_one : (soils : Soils) (p : Plot) → Known p.cover p.soil → soils.area ≤ 300000 → soils.weighted ≤ 33 * soils.area → Walkable soils (p ∷ [])
walkable_one soils p known area weight =
    record {
      known = All-cons (λ q. Known q.cover q.soil) p [] known (All-nil (λ q. Known q.cover q.soil));
      area = omega arith;
      weighted = omega arith;
    }

-- The sums of so many records, of a number of hectares that 32 bits hold each.
sums_within : (plots : List Plot) → All (λ p. Known p.cover p.soil) plots → All (λ p. p.hectares < 2 ^ 32) plots
    → (area_of plots ≤ 2 ^ 32 * length plots) × (weighted_of plots ≤ 33 * 2 ^ 32 * length plots)
unfolding area_of weighted_of
sums_within [] known fit = (omega arith, omega arith)
sums_within (p ∷ plots) known fit =
    let here = All-head (λ q. q.hectares < 2 ^ 32) p plots fit in
    let rest = sums_within plots (All-tail (λ q. Known q.cover q.soil) p plots known) (All-tail (λ q. q.hectares < 2 ^ 32) p plots fit) in (
      omega (arith, here, rest.0),
      omega (arith, here, rest.1, weighted_within p.cover p.soil p.hectares (All-head (λ q. Known q.cover q.soil) p plots known)),
    )

-- A walk that may be made may be broken off after any record and taken up again.
pub walkable_taken_up : (k : ℕ) (soils : Soils) (plots : List Plot) → All (λ p. p.hectares < 2 ^ 32) plots → Walkable soils plots
    → Walkable soils (take k plots) × Walkable (walked soils (take k plots)) (drop k plots)
walkable_taken_up k soils plots fit w =
    let long : length (take k plots) + length (drop k plots) ≡ length plots =
    sym (length-append (take k plots) (drop k plots)) ∙ ap length (take-append-drop k plots)
    in
    let known = All-take (λ p. Known p.cover p.soil) k plots w.known in
    let within = sums_within (take k plots) known (All-take (λ p. p.hectares < 2 ^ 32) k plots fit) in (
      record { known = known; area = omega (arith, w.area, long); weighted = omega (arith, w.weighted, long) },
      record {
        known = All-drop (λ p. Known p.cover p.soil) k plots w.known;
        area = omega (arith, w.area, long, within.0);
        weighted = omega (arith, w.weighted, long, within.1);
      },
    )
