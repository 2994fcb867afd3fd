-- The tests of a sound balance in the order of the code. Assumes nothing.
use Prim.Native.Nat.{ℕ, ◌≤◌, ◌<◌}
use mathlib.Core.Path.{◌≡◌, refl, sym, ap, ◌∙◌}
use mathlib.Core.Bool.{Bool, true, false, ◌&&◌}
use mathlib.Core.List.{List}
use lib.Dec.{leb}
use lib.ListN.{length, get_or, take}
use lib.Seq.{get_or-take, length-take-le}
use lib.Signed.{non_neg}
use native.Mathlib.Omega.{arith}
use borrow.Author.Tests.{leb-true}
use Rattle.laws.specs.Sum.{every}
use Rattle.laws.proofs.Every.{both, every_each, each_every, every_same}
use Rattle.model.specs.declared.Balance.{Balance}
use Rattle.model.specs.declared.Place.{Place}
use Rattle.model.specs.Fresh.{empty_unit, empty_aquifer}
use Rattle.model.specs.View.{View, view_of}
use Rattle.river.specs.Flow.{Gathered, Ready}
use Rattle.river.proofs.Units.{SameUnits, flow_same}
use Rattle.river.proofs.Flows.{flow_parts}
use Rattle.titles.specs.Titled.{TitledAll}
use Rattle.titles.specs.declared.Sums.{Sums}
use Rattle.titles.specs.Slot.{Extraction, Exports, Imports, Returns, WellExtraction}
use Rattle.basin.specs.Sound
use Rattle.basin.proofs.Chains.{both_hold}
use Rattle.basin.proofs.Ranges.{less_leb}
use Rattle.basin.proofs.Soundness.{unit_sound_lem, ready_of}

-- Two tests that hold in the same cases.
same_truth : (a b : Bool) → (a ≡ true → b ≡ true) → (b ≡ true → a ≡ true) → a ≡ b
same_truth true b f g = sym (f refl)
same_truth false true f g = g refl
same_truth false false f g = refl

-- A test that is two at each place holds at every place exactly where each of the two does.
every_both : (n : ℕ) (p q r : ℕ → Bool) → ((k : ℕ) → k < n → r k ≡ (p k && q k)) → every n r ≡ (every n p && every n q)
every_both n p q r e =
    same_truth (every n r) (every n p && every n q)
    (λ t.
    let f : (k : ℕ) → k < n → (p k ≡ true) × (q k ≡ true) = λ k h. both (p k) (q k) (sym (e k h) ∙ every_each r n t k h) in
    both_hold (every n p) (every n q) (each_every p n (λ k h. (f k h).0)) (each_every q n (λ k h. (f k h).1)))
    (λ t.
    let f = both (every n p) (every n q) t in
    each_every r n (λ k h. e k h ∙ both_hold (p k) (q k) (every_each p n f.0 k h) (every_each q n f.1 k h)))

-- The counts are within their limits.
pub record Few (v : View) : Type 0 where
  pub units : v.units ≤ 64
  pub aquifers : v.aquifers ≤ 32
  pub given : v.given ≤ 256

pub few_of : (v : View) → Sound.sound_counts v ≡ true → Few v
few_of v e =
    let p = both (leb v.units 64) _ e in
    let q = both (leb v.aquifers 32) _ p.1 in
    record { units = leb-true v.units 64 p.0; aquifers = leb-true v.aquifers 32 q.0; given = leb-true v.given 256 q.1 }

-- Units that are sound are ready for the passes over the tree.
pub entries_ready : (v : View) → Few v → Sound.entries_hold v ≡ true → Ready v
entries_ready v few e =
    let p = both (Sound.sound_titles v) _ e in
    let q = both (Sound.aquifers_hold v) (Sound.units_hold v) p.1 in
    let h = both (Sound.sound_units v) _ q.1 in
    ready_of v few.units (λ j g. unit_sound_lem v.units j (v.unit j) (every_each _ v.units h.0 j g))

-- A place is as sound as its title if that is in force, and sound otherwise.
module _ (n m : ℕ) (p : Place) where
  pub in_force_lem : (x : Bool) → p.in_force ≡ true → Sound.sound_title n m p.title ≡ x → Sound.sound_place n m p ≡ x
  in_force_lem x f e = rw f e

  pub cancelled : p.in_force ≡ false → Sound.sound_place n m p ≡ true
  cancelled f = rw f

-- That the counted units and aquifers of a balance hold, as the code tests it with the sums of the titles.
module _ (b : Balance) (r : Sums) (t : TitledAll b.titles b.given r) where
  pub units_hold_lem : b.unit_count ≤ 64 → b.unit_count ≤ length b.units
      → every (length (take b.unit_count b.units)) (Sound.unit_holds (take b.unit_count b.units) r) ≡ Sound.units_hold (view_of b)
  units_hold_lem few enough =
      let n = b.unit_count in
      let us = take n b.units in
      let long : length us ≡ n = length-take-le n b.units enough in
      ap (λ (m : ℕ). every m (Sound.unit_holds us r)) long
      ∙ every_both n _ _ _
      (λ k h.
      let g : k < 64 = omega arith in
      let unit : get_or us k empty_unit ≡ get_or b.units k empty_unit = get_or-take n b.units k empty_unit h in
      λ i. Sound.sound_unit (long i) k (unit i)
      && Sound.covers ((t Extraction).sums k g i) ((t Exports).sums k g i) ((t Imports).sums k g i) ((t Returns).sums k g i) (unit i))

  pub aquifers_hold_lem : b.aquifer_count ≤ 32 → b.aquifer_count ≤ length b.aquifers
      → every (length (take b.aquifer_count b.aquifers)) (Sound.aquifer_holds (take b.aquifer_count b.aquifers) r)
      ≡ Sound.aquifers_hold (view_of b)
  aquifers_hold_lem few enough =
      let m = b.aquifer_count in
      let ws = take m b.aquifers in
      ap (λ (n : ℕ). every n (Sound.aquifer_holds ws r)) (length-take-le m b.aquifers enough)
      ∙ every_both m _ _ _
      (λ k h.
      let g : k < 64 = omega arith in
      let aquifer : get_or ws k empty_aquifer ≡ get_or b.aquifers k empty_aquifer = get_or-take m b.aquifers k empty_aquifer h in
      λ i. Sound.sound_aquifer (aquifer i) && leb ((t WellExtraction).sums k g i) (aquifer i).extraction)

-- No flow is negative where no more is lost than gained at any unit.
pub none_negative : (v w : View) → SameUnits v w → (gained lost : List ℕ) → Gathered w false gained → Gathered w true lost
    → Sound.balanced v.units gained lost ≡ Sound.flowing v
none_negative v w s gained lost g l =
    every_same v.units _ _
    (λ j h.
    let k : j < w.units = omega (arith, s.count) in
    rw (g.each j k, l.each j k) (less_leb (flow_parts w j)) ∙ ap non_neg (flow_same v w s j h))

-- The tests in the order of the code, and in the order of the definition.
abbrev pub in_order : View → Bool
in_order v = Sound.sound_counts v && (Sound.entries_hold v && Sound.flowing v)

reordered : (a t u c w d f : Bool) → (a && ((t && ((w && d) && (u && c))) && f)) ≡ (a && (u && (w && (f && (t && (c && d))))))
reordered a t u c w d f =
    same_truth _ _
    (λ e.
    let p = both a _ e in
    let q = both _ f p.1 in
    let h = both t _ q.0 in
    let k = both (w && d) (u && c) h.1 in
    let x = both w d k.0 in
    let y = both u c k.1 in
    rw (p.0, y.0, x.0, q.1, h.0, y.1, x.1))
    (λ e.
    let p = both a _ e in
    let q = both u _ p.1 in
    let h = both w _ q.1 in
    let k = both f _ h.1 in
    let x = both t _ k.1 in
    let y = both c d x.1 in
    rw (p.0, x.0, h.0, y.1, q.0, y.0, k.0))

pub in_order_lem : (v : View) (r : Bool) → r ≡ in_order v → r ≡ Sound.sound v
unfolding Sound.sound
in_order_lem v r e =
    e ∙ reordered (Sound.sound_counts v) (Sound.sound_titles v) (Sound.sound_units v) (every v.units (Sound.covered_unit v))
    (Sound.sound_aquifers v) (every v.aquifers (Sound.covered_aquifer v)) (Sound.flowing v)
