-- A description grows record by record, and the balance under construction with it. Assumes nothing.
use Rattle.std.specs.Prelude.{Ok}
use Prim.Native.Nat.{ℕ, suc, ◌-◌, ◌≤◌, ◌<◌}
use mathlib.Core.Path.{◌≡◌, refl, sym, ap, subst⁻¹, ◌∙◌}
use mathlib.Core.List.{List, [], ◌∷◌, ◌++◌}
use lib.ListN.{length, get_or, set, length-set, length-append, get_or-append}
use lib.Seq.{get_or-append_seam, get_or-set_same, get_or-set_other}
use native.Mathlib.Omega.{arith}
use borrow.Author.Tests.{eq-eqb, ne_eqb}
use Rattle.laws.specs.Table.{table}
use Rattle.laws.proofs.Cases.{by_eq, by_lt}
use Rattle.laws.proofs.Arrays.{table_same, table_more}
use Rattle.model.specs.declared.Unit.{Unit as BasinUnit}
use Rattle.model.specs.declared.Aquifer.{Aquifer}
use Rattle.model.specs.declared.Balance.{Balance}
use Rattle.model.specs.Fresh.{empty_unit, empty_aquifer}
use Rattle.runoff.specs.Year.{RainRange, in_tenths}
use Rattle.runoff.specs.declared.Plot.{Plot}
use Rattle.runoff.specs.declared.Rain.{Rain}
use Rattle.runoff.specs.declared.Gauged.{Gauged}
use Rattle.runoff.specs.Record.{of_rain, of_gauge}
use Rattle.runoff.proofs.RainBounds.{rain_within}
use Rattle.record.specs.Described.{DescribedUnit, add_plot, add_year, no_unit, summed, unit_of}
use Rattle.record.specs.Entries.{Entry, unit_entry, soil_entry, year_entry, aquifer_entry}
use Rattle.record.specs.Fault.{Sane, Closed, closing_fault, gauged_outside}
use Rattle.book.specs.Reading.{Description, last_unit, last_sums, with_unit, with_last, with_aquifer, with_entry, clear, entry_verdict, balance_of}
use Rattle.book.specs.Opening.{put_aquifer, counted, stored, full_of, draft}
use Rattle.record.proofs.Faults.{SoilClean, soil_clean, RainClean, rain_clean, GaugeClean, gauge_clean, gauged_range}
use Rattle.record.proofs.Clean.{Fine, WellFine, UnitClean, unit_clean, AquiferClean, aquifer_clean, closing_clean, year_sane, soil_sane}
use Rattle.record.proofs.Means.{Kind, bare_kind, plot_kind, rain_kind, gauge_kind}
use Rattle.record.proofs.Summing.{summed_plot, summed_year, begun_sane, keep_records}
use Rattle.book.proofs.Entries.{Begun, cleared}

-- One element more at the end of a list.
module _ {A : Type 0} (xs : List A) (x d : A) where
  pub snoc_length : length (xs ++ (x ∷ [])) ≡ suc (length xs)
  snoc_length = length-append xs (x ∷ []) ∙ omega arith

  pub snoc_before : (k : ℕ) → k < length xs → get_or (xs ++ (x ∷ [])) k d ≡ get_or xs k d
  snoc_before k h = get_or-append xs (x ∷ []) d k h

  pub snoc_last : (k : ℕ) → k ≡ length xs → get_or (xs ++ (x ∷ [])) k d ≡ x
  snoc_last k e = rw e (get_or-append_seam xs x [] d)

-- What holds of every description that reading reaches.
pub record Good (d : Description) : Type 0 where
  pub few : length d.units ≤ 64
  pub many : length d.aquifers ≤ 32
  pub fine : (k : ℕ) → k < length d.units → Fine k (summed (get_or d.units k no_unit))
  pub closed : (k : ℕ) → suc k < length d.units → Closed (summed (get_or d.units k no_unit))
  pub sane : Sane (last_sums d)
  pub kinds : (k : ℕ) → k < length d.units → Kind (get_or d.units k no_unit)
  pub wells : (k : ℕ) → k < length d.aquifers → WellFine (get_or d.aquifers k empty_aquifer)

pub good_start : Good (record { units = []; aquifers = [] })
good_start =
    record {
      few = omega arith;
      many = omega arith;
      fine = λ k h. absurd (omega arith);
      closed = λ k h. absurd (omega arith);
      sane = begun_sane no_unit refl refl;
      kinds = λ k h. absurd (omega arith);
      wells = λ k h. absurd (omega arith);
    }

module _ (d : Description) (good : Good d) where
  -- Once the open unit closes, every unit is closed.
  pub all_closed : closing_fault (length d.units) (last_sums d) ≡ Ok tt → (k : ℕ) → k < length d.units → Closed (summed (get_or d.units k no_unit))
  all_closed e k h =
      by_lt (suc k) (length d.units)
      (λ g. good.closed k g)
      (λ g.
      let q : k ≡ length d.units - 1 = omega arith in
      rw q (closing_clean (length d.units) (last_sums d) e (omega arith) good.sane))

  good_unit : (v : DescribedUnit) → closing_fault (length d.units) (last_sums d) ≡ Ok tt → UnitClean (length d.units) (length d.aquifers) (summed v)
      → v.plots ≡ [] → v.years ≡ [] → Good (with_unit d v)
  good_unit v e c p y =
      let us = d.units in
      let l = snoc_length us v no_unit in
      record {
        few = omega (arith, l, c.room);
        many = good.many;
        fine = λ k h.
            by_eq k (length us)
            (λ q. rw (snoc_last us v no_unit k q, q) c.fine)
            (λ q. rw (snoc_before us v no_unit k (omega (arith, l))) (good.fine k (omega (arith, l))));
        closed = λ k h. rw (snoc_before us v no_unit k (omega (arith, l))) (all_closed e k (omega (arith, l)));
        sane = rw (snoc_last us v no_unit (length (us ++ (v ∷ [])) - 1) (omega (arith, l))) (begun_sane v p y);
        kinds = λ k h.
            by_eq k (length us)
            (λ q. rw (snoc_last us v no_unit k q) (bare_kind v p y))
            (λ q. rw (snoc_before us v no_unit k (omega (arith, l))) (good.kinds k (omega (arith, l))));
        wells = good.wells;
      }

  good_last : (v : DescribedUnit) → (length d.units ≡ 0 → ⊥) → Sane (summed v) → ((k : ℕ) → Fine k (last_sums d) → Fine k (summed v))
      → (Kind (last_unit d) → Kind v) → Good (with_last d v)
  good_last v n e kept kind =
      let us = d.units in
      let i = length us - 1 in
      let l = length-set us i v in
      let some : i < length us = omega (arith, n) in
      record {
        few = omega (arith, l, good.few);
        many = good.many;
        fine = λ k h.
            by_eq k i
            (λ q. rw (q, get_or-set_same us i v no_unit some) (kept i (good.fine i some)))
            (λ q. rw (get_or-set_other us i k v no_unit q) (good.fine k (omega (arith, l))));
        closed = λ k h. rw (get_or-set_other us i k v no_unit (omega (arith, l))) (good.closed k (omega (arith, l)));
        sane = rw (l, get_or-set_same us i v no_unit some) e;
        kinds = λ k h.
            by_eq k i
            (λ q. rw (q, get_or-set_same us i v no_unit some) (kind (good.kinds i some)))
            (λ q. rw (get_or-set_other us i k v no_unit q) (good.kinds k (omega (arith, l))));
        wells = good.wells;
      }

  good_aquifer : (a : Aquifer) → AquiferClean (length d.aquifers) a → Good (with_aquifer d a)
  good_aquifer a c =
      let ws = d.aquifers in
      let l = snoc_length ws a empty_aquifer in
      record {
        few = good.few;
        many = omega (arith, l, c.room);
        fine = good.fine;
        closed = good.closed;
        sane = good.sane;
        kinds = good.kinds;
        wells = λ k h.
            by_eq k (length ws)
            (λ q. rw (snoc_last ws a empty_aquifer k q) c.fine)
            (λ q. rw (snoc_before ws a empty_aquifer k (omega (arith, l))) (good.wells k (omega (arith, l))));
      }

  -- What is known of a UN, an SU, a PR or PD, an AF and an AC that is not refused.
  pub clear_unit : (u : DescribedUnit) (at : ℕ) → entry_verdict d (unit_entry u) at ≡ clear
      → (closing_fault (length d.units) (last_sums d) ≡ Ok tt) × UnitClean (length d.units) (length d.aquifers) (summed u)
  clear_unit u at h =
      let c = cleared _ _ _ h in
      (c.here, unit_clean (length d.units) (length d.aquifers) (summed u) (cleared _ _ _ c.later).here)

  pub clear_soil : (p : Plot) (at : ℕ) → entry_verdict d (soil_entry p) at ≡ clear
      → SoilClean (length d.units) (length d.aquifers) (last_sums d) p.cover p.soil p.hectares
  clear_soil p at h = soil_clean _ _ (last_sums d) _ _ _ (cleared _ _ _ h).here

  pub clear_rain : (r : Rain) (at : ℕ) → entry_verdict d (year_entry (of_rain r)) at ≡ clear
      → RainClean (length d.units) (length d.aquifers) (last_sums d) r.measure r.depth
  clear_rain r at h = rain_clean _ _ (last_sums d) r.measure r.depth (cleared _ _ _ h).here

  pub clear_gauge : (y : Gauged) (at : ℕ) → entry_verdict d (year_entry (of_gauge y)) at ≡ clear
      → GaugeClean (length d.units) (length d.aquifers) (last_sums d) (gauged_outside y)
  clear_gauge y at h = gauge_clean _ _ (last_sums d) (gauged_outside y) (cleared _ _ _ h).here

  pub clear_aquifer : (a : Aquifer) (at : ℕ) → entry_verdict d (aquifer_entry a) at ≡ clear
      → (closing_fault (length d.units) (last_sums d) ≡ Ok tt) × AquiferClean (length d.aquifers) a
  clear_aquifer a at h =
      let c = cleared _ _ _ h in
      (c.here, aquifer_clean (length d.aquifers) a (cleared _ _ _ c.later).here)

  -- A record that is not refused keeps all that.
  pub good_entry : (e : Entry) (at : ℕ) → entry_verdict d e at ≡ clear → Begun e → Good (with_entry d e)
  good_entry (unit_entry u) at h b = let c = clear_unit u at h in good_unit u c.0 c.1 b.0 b.1
  good_entry (soil_entry p) at h b =
      let x = last_unit d in
      let c = clear_soil p at h in
      good_last (add_plot x p) c.after
      (subst⁻¹ Sane (summed_plot x p c.fresh) (soil_sane (summed x) _ _ _ good.sane c.fresh c.room c.known c.area))
      (keep_records x _ _) (λ k. plot_kind x p c.fresh)
  good_entry (year_entry (of_rain r)) at h b =
      let x = last_unit d in
      let c = clear_rain r at h in
      let tenths = in_tenths r.measure r.depth in
      let range : RainRange (summed x).hectares (summed x).weighted tenths = record { area_to = good.sane.area; weighted_to = good.sane.weight; rain_to = c.most } in
      good_last (add_year x (of_rain r)) c.after
      (subst⁻¹ Sane (summed_year x (of_rain r))
      (year_sane (summed x) _ good.sane c.room
      (record { gain = omega (arith, rain_within (summed x).hectares (summed x).weighted tenths range); loss = omega arith }) (λ n. refl)))
      (keep_records x _ _) (rain_kind x r c.soiled)
  good_entry (year_entry (of_gauge y)) at h b =
      let x = last_unit d in
      let c = clear_gauge y at h in
      good_last (add_year x (of_gauge y)) c.after
      (subst⁻¹ Sane (summed_year x (of_gauge y))
      (year_sane (summed x) _ good.sane c.room (gauged_range y c.inside) (λ n. absurd (n c.bare))))
      (keep_records x _ _) (gauge_kind x y c.bare)
  good_entry (aquifer_entry a) at h b = good_aquifer a (clear_aquifer a at h).1

-- The units and aquifers that a description gives, by their index.
abbrev unit_in : Description → ℕ → BasinUnit
unit_in d k = unit_of (get_or d.units k no_unit)

abbrev well_in : Description → ℕ → Aquifer
well_in d k = get_or d.aquifers k empty_aquifer

-- A balance with other units, with other aquifers.
abbrev with_units : Balance → List BasinUnit → Balance
with_units b us =
    record {
      units = us;
      unit_count = b.unit_count;
      aquifers = b.aquifers;
      aquifer_count = b.aquifer_count;
      titles = b.titles;
      given = b.given;
    }

abbrev with_wells : Balance → List Aquifer → Balance
with_wells b ws =
    record {
      units = b.units;
      unit_count = b.unit_count;
      aquifers = ws;
      aquifer_count = b.aquifer_count;
      titles = b.titles;
      given = b.given;
    }

-- The open unit put in completes the table of units.
units_stored : (d : Description) → length d.units ≤ 64
    → stored (draft d) (last_sums d) (length d.units) ≡ with_units (draft d) (table 64 empty_unit (length d.units) (unit_in d))
units_stored d h =
    by_eq (length d.units) 0
    (λ e. rw (eq-eqb (length d.units) 0 e)
    (ap (with_units (draft d)) (λ i. table 64 empty_unit (none e i) (unit_in d))))
    (λ e. rw (ne_eqb (length d.units) 0 e)
    (ap (with_units (draft d))
    (table_more 64 empty_unit (length d.units - 1) (unit_in d) (unit_of (last_unit d)) (omega arith) refl
    ∙ (λ i. table 64 empty_unit (one e i) (unit_in d)))))
  where
    none : length d.units ≡ 0 → length d.units - 1 ≡ length d.units
    none e = omega arith

    one : (length d.units ≡ 0 → ⊥) → suc (length d.units - 1) ≡ length d.units
    one e = omega arith

module _ (d : Description) (good : Good d) where
  -- The balance under construction with the open unit in and all counted is the description's.
  pub full_is : full_of (draft d) (last_sums d) (length d.units) (length d.aquifers) ≡ balance_of d
  full_is = ap (λ (b : Balance). counted b (length d.units) (length d.aquifers)) (units_stored d good.few)

  pub draft_unit : (v : DescribedUnit) → length d.units < 64 → draft (with_unit d v) ≡ stored (draft d) (last_sums d) (length d.units)
  draft_unit v h =
      let us = d.units in
      ap (with_units (draft d))
      ((λ i. table 64 empty_unit (less i) (unit_in (with_unit d v)))
      ∙ table_same 64 empty_unit (length us) (unit_in (with_unit d v)) (unit_in d) good.few (λ k g. ap unit_of (snoc_before us v no_unit k g)))
      ∙ sym (units_stored d good.few)
    where
      less : length (d.units ++ (v ∷ [])) - 1 ≡ length d.units
      less = omega (arith, snoc_length d.units v no_unit)

  pub draft_last : (v : DescribedUnit) → draft (with_last d v) ≡ draft d
  draft_last v =
      let us = d.units in
      ap (with_units (draft d))
      ((λ i. table 64 empty_unit (length-set us (length us - 1) v i - 1) (unit_in (with_last d v)))
      ∙ table_same 64 empty_unit (length us - 1) (unit_in (with_last d v)) (unit_in d) (omega (arith, good.few))
      (λ k g. ap unit_of (get_or-set_other us (length us - 1) k v no_unit (omega arith))))

  pub draft_aquifer : (a : Aquifer) → length d.aquifers < 32 → draft (with_aquifer d a) ≡ put_aquifer (draft d) (length d.aquifers) a
  draft_aquifer a h =
      let ws = d.aquifers in
      ap (with_wells (draft d))
      ((λ i. table 32 empty_aquifer (snoc_length ws a empty_aquifer i) (well_in (with_aquifer d a)))
      ∙ sym (table_more 32 empty_aquifer (length ws) (well_in (with_aquifer d a)) a h (sym (snoc_last ws a empty_aquifer (length ws) refl)))
      ∙ ap (λ (l : List Aquifer). set l (length ws) a)
      (table_same 32 empty_aquifer (length ws) (well_in (with_aquifer d a)) (well_in d) (omega arith) (λ k g. snoc_before ws a empty_aquifer k g)))
