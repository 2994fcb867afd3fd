-- Demand 3, proved of every accepted book after every list of calls. Assumes nothing.
use Rattle.std.specs.Prelude.{Ok}
use Prim.Native.Nat.{ℕ, ◌+◌, ◌*◌, ◌≤◌, ◌<◌}
use mathlib.Core.Path.{◌≡◌, refl, sym, ap, subst, subst⁻¹, ◌∙◌}
use mathlib.Core.Bool.{true}
use mathlib.Core.List.{List}
use lib.Dec.{eqb}
use lib.IntN.{ℤ, pos, ◌+ℤ◌}
use lib.ListN.{length, get_or}
use native.Mathlib.Omega.{arith}
use Rattle.laws.specs.Sum.{naturals, integers, sum_of, only}
use Rattle.laws.specs.Signed.{above, below}
use Rattle.laws.proofs.Arrays.{get_or_table}
use Rattle.laws.proofs.Gathering.{sum_same, sum_plus}
use Rattle.laws.proofs.Parts.{equal_parts, Less, less_pos, less_self, less_plus, less_equal}
use Rattle.model.specs.declared.Balance.{Balance}
use Rattle.model.specs.View.{View}
use Rattle.titles.specs.Slot.{Exports, Imports, Returns, WellExtraction}
use Rattle.titles.specs.Adds.{return_of}
use Rattle.figures.specs.declared.UnitFigures.{UnitFigures}
use Rattle.river.specs.Flow.{flow, net, Ready}
use Rattle.figures.specs.Figures.{no_unit_figures, unit_figures, all_unit_figures, all_aquifer_figures}
use Rattle.basin.specs.declared.Figures.{Figures}
use Rattle.basin.specs.Figures.{figures_reply}
use Rattle.basin.specs.Sound.{sound}
use Rattle.basin.proofs.Soundness.{Soundness, soundness, ready_of}
use Rattle.basin.proofs.Replies.{accepted_reply}
use Rattle.runoff.specs.Record.{sum_on, gauged_on}
use Rattle.record.specs.Described.{no_unit, summed}
use Rattle.record.specs.Fault.{Closed}
use Rattle.book.specs.Reading.{Description, read, reading, opened}
use Rattle.book.proofs.Promises.{units_closed}
use Rattle.conservation.specs.Demand3.{Tally, start, base_unit, base_aquifer, added, unit_entries, aquifer_entries, entries, tallied, over_units, over_aquifers, brought_by, taken_by, over_titles, scale, exact_mean, times, exact_flow, apart, flow_of, at_or_above, reported, Demand3, HoldsAlways}
use Rattle.conservation.proofs.Outlets.{outlets_carry, nets_are}
use Rattle.conservation.proofs.Reserves.{reserves_add_up}
use Rattle.conservation.proofs.Transfers.{transfers_balance, returns_each, wells_each, returns_together, wells_together}
use Rattle.conservation.proofs.Closeness.{runoff_close, flow_close}
use Rattle.conservation.proofs.Following.{Follows, follows_start, follows_calls}

-- Equal differences.
less_same : {y z : ℤ} {a b c d : ℕ} → Less y a b → Less z c d → y ≡ z → a + d ≡ b + c
less_same {y} {z} p q e = omega (arith, p.parts, q.parts, equal_parts y z e)

losses : (n : ℤ) (e x v : ℕ) (s : ℤ) → Less (n +ℤ pos e +ℤ pos x +ℤ pos v +ℤ s) (above n + e + x + v + above s) (below n + 0 + 0 + 0 + below s)
losses n e x v s = less_plus (less_plus (less_plus (less_plus (less_self n) (less_pos e)) (less_pos x)) (less_pos v)) (less_self s)

gains : (r b i : ℕ) → Less (pos r +ℤ pos b +ℤ pos i) (r + b + i) 0
gains r b i = less_plus (less_plus (less_pos r) (less_pos b)) (less_pos i)

-- What titles both export and import counts on neither side: of the imports what they bring from aquifers is left.
without_transfers : (o n s : ℤ) (e x y v r b i k a w : ℕ) → o ≡ n → y ≡ x + a → k ≡ i + (a + w)
    → n +ℤ pos e +ℤ pos y +ℤ pos v +ℤ s ≡ pos r +ℤ pos b +ℤ pos k
    → o +ℤ pos e +ℤ pos x +ℤ pos v +ℤ s ≡ pos r +ℤ pos b +ℤ pos i +ℤ pos w
without_transfers o n s e x y v r b i k a w p q m h =
    less_equal (losses o e x v s) (less_plus (gains r b i) (less_pos w))
    (omega (arith, equal_parts o n p, less_same (losses n e y v s) (gains r b k) h))

-- The figures that document 01 defines over the tally's entries.
abbrev figures : Description → Tally → Figures
figures d t = record { answer = Ok tt; units = all_unit_figures (entries d t); aquifers = all_aquifer_figures (entries d t) }

module _ (d : Description) (t : Tally) (s : Soundness (entries d t)) where
  ready : Ready (entries d t)
  ready = ready_of (entries d t) s.few_units s.unit

  figures_at : (j : ℕ) → j < length d.units → get_or (figures d t).units j no_unit_figures ≡ unit_figures (entries d t) j
  figures_at j h = get_or_table 64 no_unit_figures (length d.units) (unit_figures (entries d t)) j h (omega (arith, s.few_units))

  flow_at : (j : ℕ) → j < length d.units → flow_of (figures d t) j ≡ flow (entries d t) j
  flow_at j h = ap (λ (u : UnitFigures). u.flow) (figures_at j h)

  -- The flows of the outlets are together what all units add to the river.
  outlets_are : sum_of integers (length d.units) (λ j. only integers (eqb (base_unit d j).downstream 0) (flow_of (figures d t) j))
      ≡ sum_of integers (length d.units) (λ j. net (unit_entries d t j))
  outlets_are =
      sum_same integers (length d.units) _ _ (λ j h. ap (only integers (eqb (base_unit d j).downstream 0)) (flow_at j h))
      ∙ outlets_carry (entries d t) ready

  -- All imports and all exports are the base ones and the titles'.
  exports_are : over_units d (λ j. (unit_entries d t j).exports) ≡ over_units d (λ j. (base_unit d j).exports) + over_units d (added t Exports)
  exports_are = sum_plus (length d.units) (λ j. (base_unit d j).exports) (added t Exports)

  imports_are : over_units d (λ j. (unit_entries d t j).imports)
      ≡ over_units d (λ j. (base_unit d j).imports) + (over_units d (added t Exports) + over_titles t (λ e. brought_by e.title))
  imports_are =
      sum_plus (length d.units) (λ j. (base_unit d j).imports) (added t Imports)
      ∙ ap (λ (k : ℕ). over_units d (λ j. (base_unit d j).imports) + k)
      (transfers_balance (length d.units) (length d.aquifers) t s.place)

  -- All returns, and all extractions from aquifers.
  returns_are : ((k : ℕ) → (t.place k).back ≡ return_of (t.place k).title)
      → over_units d (λ j. (unit_entries d t j).returns) ≡ over_units d (λ j. (base_unit d j).returns) + over_titles t (λ e. e.back)
  returns_are kept =
      sum_plus (length d.units) (λ j. (base_unit d j).returns) (added t Returns)
      ∙ ap (λ (k : ℕ). over_units d (λ j. (base_unit d j).returns) + k)
      (returns_together (length d.units) (length d.aquifers) t s.place kept)

  wells_are : over_aquifers d (λ j. (aquifer_entries d t j).extraction)
      ≡ over_aquifers d (λ j. (base_aquifer d j).extraction) + over_titles t (λ e. taken_by e.title)
  wells_are =
      sum_plus (length d.aquifers) (λ j. (base_aquifer d j).extraction) (added t WellExtraction)
      ∙ ap (λ (k : ℕ). over_aquifers d (λ j. (base_aquifer d j).extraction) + k)
      (wells_together (length d.units) (length d.aquifers) t s.place)

  flows_close : ((k : ℕ) → k < length d.units → Closed (summed (get_or d.units k no_unit))) → (j : ℕ) → j < length d.units
      → 2 * apart (times scale (flow (entries d t) j)) (exact_flow (entries d t) (λ k. exact_mean (get_or d.units k no_unit)) j)
      ≤ scale * over_units d (λ k. only naturals (at_or_above (entries d t) j k) 1)
  flows_close closed =
      flow_close (entries d t) ready (λ k. exact_mean (get_or d.units k no_unit))
      (λ k g.
      let u = get_or d.units k no_unit in
      let c = closed k g in
      runoff_close (gauged_on u.plots) (length u.years) (sum_on u.plots u.years) c.enough c.sane.short c.least)

  -- Demand 3 holds of the figures over sound entries of a description whose units have 20 to 50 years.
  figures_hold : ((k : ℕ) → (t.place k).back ≡ return_of (t.place k).title)
      → ((k : ℕ) → k < length d.units → Closed (summed (get_or d.units k no_unit))) → Demand3 d t (figures d t)
  figures_hold kept closed =
      record {
        defined = refl;
        water = without_transfers _ _ _ _ _ _ _ _ _ _ _ _ _ outlets_are exports_are imports_are (nets_are (length d.units) (unit_entries d t));
        returns = λ j. ap (λ (x : ℕ). (base_unit d j).returns + x) (returns_each t j);
        all_returns = returns_are kept;
        wells = λ j. ap (λ (x : ℕ). (base_aquifer d j).extraction + x) (wells_each t j);
        all_wells = wells_are;
        reserves =
            sum_same naturals (length d.units) _ _ (λ j h. ap (λ (u : UnitFigures). u.reserve) (figures_at j h))
            ∙ reserves_add_up (entries d t) ready;
        close = λ j h.
            subst⁻¹
            (λ (z : ℤ).
            2 * apart (times scale z) (exact_flow (entries d t) (λ k. exact_mean (get_or d.units k no_unit)) j)
            ≤ scale * over_units d (λ k. only naturals (at_or_above (entries d t) j k) 1))
            (flow_at j h) (flows_close closed j h);
      }

-- What a balance that follows the tally reports.
reported_is : (d : Description) (b : Balance) (t : Tally) → Follows d b t → sound (entries d t) ≡ true → reported b ≡ figures d t
reported_is d b t f e = ap figures_reply f.same ∙ sym (accepted_reply (entries d t) _ _ e refl refl)

-- Demand 3 holds of every accepted book after every list of calls.
pub demand_3 : (s : List ℕ) (d : Description) (at : ℕ) → reading s ≡ read d at → HoldsAlways d (opened s).balance
demand_3 s d at e calls =
    let f = follows_calls d (opened s).balance start (follows_start s d at e) calls in
    let t = tallied d start calls in
    let q = subst (λ (v : View). sound v ≡ true) f.same f.stands in
    subst⁻¹ (Demand3 d t) (reported_is d _ t f q) (figures_hold d t (soundness (entries d t) q) f.kept (units_closed s d at e))
