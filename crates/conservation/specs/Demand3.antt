-- Demand 3 (documents 00, 01 and 02 [1] and [2]): the tally, and the one claim over every list of calls on every accepted book. It is proved in
-- proofs/Promise. Units and aquifers are given by their index: number n stands at index n - 1. Assumes nothing.
use Rattle.std.specs.Prelude.{ℕ, zero, suc, pred, ◌+◌, ◌*◌, ◌/◌, ◌%◌, ◌≤◌, ◌<◌, ◌≡◌, Bool, true, false, ◌||◌, List, [], ◌∷◌, eqb, ℤ, pos, negsuc, neg_ℤ, ◌+ℤ◌, ◌-ℤ◌, length, get_or, Ok, Err}
use Rattle.laws.specs.Sum.{naturals, integers, sum_of, only}
use Rattle.laws.specs.Signed.{above, below}
use Rattle.laws.specs.Gather.{gather}
use Rattle.laws.specs.Table.{put_at}
use Rattle.model.specs.declared.Unit.{Unit}
use Rattle.model.specs.declared.Aquifer.{Aquifer}
use Rattle.model.specs.declared.Title.{Title}
use Rattle.model.specs.declared.Title.TheVariants.{UnitWithdrawal, AquiferWithdrawal, UnitTransfer, AquiferTransfer, ReturningWithdrawal}
use Rattle.model.specs.declared.Place.{Place}
use Rattle.model.specs.declared.Call.{Call}
use Rattle.model.specs.declared.Call.TheVariants.{Grant, Cancel}
use Rattle.model.specs.declared.Balance.{Balance}
use Rattle.model.specs.Entries.{with_entries, with_extraction, place_of}
use Rattle.model.specs.Fresh.{empty_aquifer, empty_place}
use Rattle.model.specs.View.{View, view_of}
use Rattle.model.specs.Answers.{Answer}
use Rattle.runoff.specs.Mean.{divisor}
use Rattle.runoff.specs.Record.{sum_on, gauged_on}
use Rattle.titles.specs.Slot.{Slot}
use Rattle.titles.specs.Slot.{Extraction, Exports, Imports, Returns, WellExtraction}
use Rattle.titles.specs.Adds.{return_of, adds}
use Rattle.river.specs.Flow.{downstream}
use Rattle.figures.specs.Figures.{no_unit_figures, all_unit_figures, all_aquifer_figures}
use Rattle.basin.specs.declared.Figures.{Figures}
use Rattle.basin.specs.Figures.{figures_reply}
use Rattle.reach.specs.Reach.{lies_below}
use Rattle.refusal.specs.Steps.{giving_aquifer}
use Rattle.record.specs.Described.{DescribedUnit, no_unit, unit_of}
use Rattle.book.specs.Reading.{Description}
use Rattle.register.specs.Calls.{call_refusal, after}

-- A title as the tally keeps it: its fields, its return, and whether it is in force.
pub record Entered : Type 0 where
  pub title : Title
  pub back : ℕ
  pub in_force : Bool

-- The tally: the last number, and the title under each number.
pub record Tally : Type 0 where
  pub last : ℕ
  pub place : ℕ → Entered

-- It starts with no titles and 0 as last number.
abbrev pub no_title : Entered
no_title = record { title = empty_place.title; back = 0; in_force = false }

abbrev pub start : Tally
start = record { last = 0; place = λ k. no_title }

-- Each unit's base entries (the fields of its UN) and natural runoff, and each aquifer's AC, as the description has them.
abbrev pub base_unit : Description → ℕ → Unit
base_unit d j = unit_of (get_or d.units j no_unit)

abbrev pub base_aquifer : Description → ℕ → Aquifer
base_aquifer d j = get_or d.aquifers j empty_aquifer

-- What the titles in force add together to an entry, each by its fields and the return that was kept with it.
abbrev pub entered_adds : Entered → Slot → ℕ → ℕ
entered_adds e s j = only naturals e.in_force (adds e.title e.back s j)

abbrev pub added : Tally → Slot → ℕ → ℕ
added t s j = sum_of naturals t.last (λ k. entered_adds (t.place k) s j)

-- An entry is its base plus what the titles in force add to it.
abbrev pub unit_entries : Description → Tally → ℕ → Unit
unit_entries d t j =
    let base = base_unit d j in
    with_entries base (base.extraction + added t Extraction j) (base.exports + added t Exports j) (base.imports + added t Imports j)
    (base.returns + added t Returns j)

abbrev pub aquifer_entries : Description → Tally → ℕ → Aquifer
aquifer_entries d t j = with_extraction (base_aquifer d j) ((base_aquifer d j).extraction + added t WellExtraction j)

-- The place of the register that a title of the tally stands for.
abbrev pub place_for : Entered → Place
place_for e = place_of e.title e.in_force

-- The tally's entries, titles and last number: what the refusals and the figures are defined over.
abbrev pub entries : Description → Tally → View
entries d t =
    record {
      units = length d.units;
      unit = unit_entries d t;
      aquifers = length d.aquifers;
      aquifer = aquifer_entries d t;
      given = t.last;
      place = λ k. place_for (t.place k);
    }

-- A title that is entered, in force, with its return; and one that is taken out of force, with all else as it was.
abbrev pub entering : Title → Entered
entering x = record { title = x; back = return_of x; in_force = true }

abbrev pub leaving : Entered → Entered
leaving e = record { title = e.title; back = e.back; in_force = false }

-- An accepted grant raises the last number by one and puts a title under it in force; a cancellation takes its title out of force.
abbrev pub accepting : Tally → Call → Tally
accepting t (Grant x) = record { last = suc t.last; place = put_at t.place t.last (entering x) }
accepting t (Cancel n) = record { last = t.last; place = put_at t.place (pred n) (leaving (t.place (pred n))) }

-- A call is refused when a refusal listed for it, leaving out 0, holds of these entries, titles and last number; then nothing changes.
abbrev pub tally_refusal : Description → Tally → Call → Answer
tally_refusal d t c = call_refusal (entries d t) c

abbrev pub unless_refused : Answer → Tally → Call → Tally
unless_refused (Ok u) t c = accepting t c
unless_refused (Err n) t c = t

-- The tally after a list of calls, of which it sees what they ask.
unfoldable pub tallied : Description → Tally → List Call → Tally
tallied d t [] = t
tallied d t (c ∷ cs) = tallied d (unless_refused (tally_refusal d t c) t c) cs

-- Sums run over all units, over all aquifers, and over the titles in force.
abbrev pub over_units : Description → (ℕ → ℕ) → ℕ
over_units d x = sum_of naturals (length d.units) x

abbrev pub over_aquifers : Description → (ℕ → ℕ) → ℕ
over_aquifers d x = sum_of naturals (length d.aquifers) x

abbrev pub over_titles : Tally → (Entered → ℕ) → ℕ
over_titles t x = sum_of naturals t.last (λ k. only naturals (t.place k).in_force (x (t.place k)))

-- Water brought from aquifers: the volumes of the transfers from aquifers in force.
abbrev pub brought_by : Title → ℕ
brought_by (UnitWithdrawal u r x) = 0
brought_by (AquiferWithdrawal a x) = 0
brought_by (UnitTransfer g r x) = 0
brought_by (AquiferTransfer a u x) = x
brought_by (ReturningWithdrawal a u r x) = 0

-- Water taken from aquifers: the whole volume of each title whose water an aquifer gives.
abbrev pub taken_by : Title → ℕ
taken_by (UnitWithdrawal u r x) = 0
taken_by (AquiferWithdrawal a x) = x
taken_by (UnitTransfer g r x) = 0
taken_by (AquiferTransfer a u x) = x
taken_by (ReturningWithdrawal a u r x) = x

-- The number of the unit that the return of a title goes to, 0 where nothing returns.
abbrev pub return_unit : Title → ℕ
return_unit (UnitWithdrawal u r x) = u
return_unit (AquiferWithdrawal a x) = 0
return_unit (UnitTransfer g r x) = 0
return_unit (AquiferTransfer a u x) = 0
return_unit (ReturningWithdrawal a u r x) = u

-- The units at or above unit j are j and all that j lies below.
abbrev pub at_or_above : View → ℕ → ℕ → Bool
at_or_above v j k = eqb k j || lies_below v k j

-- The greatest common divisor by Euclid's rule, in at most so many steps.
unfoldable pub gcd_to : ℕ → ℕ → ℕ → ℕ
gcd_to zero a b = a
gcd_to (suc steps) a zero = a
gcd_to (suc steps) a (suc b) = gcd_to steps (suc b) (a % suc b)

-- The least common multiple of two numbers. The second number falls at each step of Euclid's rule, so one step more than it is enough.
abbrev pub lcm : ℕ → ℕ → ℕ
lcm a b = a * b / gcd_to (suc b) a b

-- The least common multiple of n numbers from a on.
unfoldable pub lcm_from : ℕ → ℕ → ℕ
lcm_from a zero = 1
lcm_from a (suc n) = lcm (lcm_from a n) (a + n)

-- M is 6,000,000,000 times the least common multiple of 20 to 50.
unfoldable pub scale : ℕ
scale = 6000000000 * lcm_from 20 31

-- An integer taken m times.
abbrev pub times : ℕ → ℤ → ℤ
times m (pos k) = pos (m * k)
times m (negsuc k) = neg_ℤ (pos (m * suc k))

-- M times the mean of a unit's years, from which its natural runoff is rounded. It is whole, since M is a whole multiple of what the sum of
-- the years is divided by.
abbrev pub exact_mean : DescribedUnit → ℤ
exact_mean u = times (scale / divisor (gauged_on u.plots) (length u.years)) (sum_on u.plots u.years)

-- What a unit adds to the river by itself besides its natural runoff: returns + imports − exports − extraction − evaporation − storage change.
abbrev pub other_net : Unit → ℤ
other_net u = pos u.returns +ℤ pos u.imports -ℤ pos u.exports -ℤ pos u.extraction -ℤ pos u.evaporation -ℤ u.storage

-- M times what a unit adds to the river by itself, where M times its natural runoff is given.
abbrev pub exact_net : ℤ → Unit → ℤ
exact_net exact u = exact +ℤ times scale (other_net u)

-- M times the flow that is worked from unrounded natural runoff with the same other entries, where M times each unit's runoff is given.
unfoldable pub exact_flow : View → (ℕ → ℤ) → ℕ → ℤ
exact_flow v exact j = gather integers (downstream v) (λ k. exact_net (exact k) (v.unit k)) j

-- How far two integers lie apart.
abbrev pub apart : ℤ → ℤ → ℕ
apart a b = above (a -ℤ b) + below (a -ℤ b)

-- The flow and the own reserve of unit j among figures that were reported.
abbrev pub flow_of : Figures → ℕ → ℤ
flow_of f j = (get_or f.units j no_unit_figures).flow

abbrev pub reserve_of : Figures → ℕ → ℕ
reserve_of f j = (get_or f.units j no_unit_figures).reserve

-- What the program reports of a balance.
abbrev pub reported : Balance → Figures
reported b = figures_reply (view_of b)

-- The claim, of a description d, the tally t after some calls and the figures f that the program reports after the same calls.
pub record Demand3 (d : Description) (t : Tally) (f : Figures) : Type 0 where
  -- Each figure is the program's, being the one that document 01 defines over the tally's entries.
  pub defined : f ≡ record { answer = Ok tt; units = all_unit_figures (entries d t); aquifers = all_aquifer_figures (entries d t) }
  -- Outlet flows plus the units' extractions, base exports, evaporation and storage changes equal natural runoff plus returns, base
  -- imports and water brought from aquifers.
  pub water :
      sum_of integers (length d.units) (λ j. only integers (eqb (base_unit d j).downstream 0) (flow_of f j))
      +ℤ pos (over_units d (λ j. (unit_entries d t j).extraction))
      +ℤ pos (over_units d (λ j. (base_unit d j).exports))
      +ℤ pos (over_units d (λ j. (base_unit d j).evaporation))
      +ℤ sum_of integers (length d.units) (λ j. (base_unit d j).storage)
      ≡ pos (over_units d (λ j. (base_unit d j).runoff))
      +ℤ pos (over_units d (λ j. (unit_entries d t j).returns))
      +ℤ pos (over_units d (λ j. (base_unit d j).imports))
      +ℤ pos (over_titles t (λ e. brought_by e.title))
  -- Each unit's returns are its base ones and those of the titles in force that return to it, and no title's return is left out.
  pub returns : (j : ℕ)
      → (unit_entries d t j).returns ≡ (base_unit d j).returns + over_titles t (λ e. only naturals (eqb (return_unit e.title) (suc j)) e.back)
  pub all_returns : over_units d (λ j. (unit_entries d t j).returns) ≡ over_units d (λ j. (base_unit d j).returns) + over_titles t (λ e. e.back)
  -- Each aquifer loses the whole volumes of the titles in force whose water it gives, and no such title is left out.
  pub wells : (j : ℕ)
      → (aquifer_entries d t j).extraction
      ≡ (base_aquifer d j).extraction + over_titles t (λ e. only naturals (eqb (giving_aquifer e.title) (suc j)) (taken_by e.title))
  pub all_wells :
      over_aquifers d (λ j. (aquifer_entries d t j).extraction)
      ≡ over_aquifers d (λ j. (base_aquifer d j).extraction) + over_titles t (λ e. taken_by e.title)
  -- All the units' own reserves together equal those extractions, all exports in force and the evaporation plus the outlet commitments.
  pub reserves :
      over_units d (λ j. reserve_of f j)
      ≡ over_units d (λ j. (unit_entries d t j).extraction)
      + over_units d (λ j. (unit_entries d t j).exports)
      + over_units d (λ j. (base_unit d j).evaporation)
      + over_units d (λ j. only naturals (eqb (base_unit d j).downstream 0) (base_unit d j).commitment)
  -- Each unit's flow lies within half a thousand m³, per unit at or above it, of the flow worked from unrounded natural runoff with the
  -- same other entries: both multiplied by M, twice their difference is at most M times the number of units at or above.
  pub close : (j : ℕ) → j < length d.units
      → 2 * apart (times scale (flow_of f j)) (exact_flow (entries d t) (λ k. exact_mean (get_or d.units k no_unit)) j)
      ≤ scale * over_units d (λ k. only naturals (at_or_above (entries d t) j k) 1)

-- Demand 3 holds of a book with description d, opened as balance b, after every list of calls: the first call gets b, each later one the
-- balance that the one before returned, and the tally sees the description and what the calls ask.
abbrev pub HoldsAlways : Description → Balance → Type 0
HoldsAlways d b = (calls : List Call) → Demand3 d (tallied d start calls) (reported (after b calls))
