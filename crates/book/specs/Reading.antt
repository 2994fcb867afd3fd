-- Reading a description, record by record, and opening it (document 01, "What each operation refuses"; document 02 [1]). Assumes nothing.
use Rattle.std.specs.Prelude.{ℕ, zero, suc, ◌+◌, ◌-◌, not, List, [], ◌∷◌, ◌++◌, ltb, length, get_or, set, replicate, Option, Some, None, Ok, Err}
use Rattle.std.specs.Int.Signed.{non_neg}
use Rattle.laws.specs.Table.{table}
use Rattle.model.specs.declared.Refusal.{Refusal}
use Rattle.model.specs.declared.Refusal.TheVariants.{Short, BadDownstream, NegativeFlow}
use Rattle.model.specs.declared.Unit.{Unit}
use Rattle.model.specs.declared.Aquifer.{Aquifer}
use Rattle.model.specs.declared.Balance.{Balance}
use Rattle.model.specs.Fresh.{empty_unit, empty_aquifer, empty_place, fresh_balance}
use Rattle.model.specs.View.{view_of}
use Rattle.model.specs.Limits.{unit_limit, aquifer_limit, title_limit}
use Rattle.model.specs.Answers.{Answer, first}
use Rattle.river.specs.Flow.{flow}
use Rattle.record.specs.declared.UnitRecord.{UnitRecord}
use Rattle.record.specs.Described.{DescribedUnit, add_plot, add_year, no_unit, summed, unit_of}
use Rattle.record.specs.Entries.{Entry, unit_entry, soil_entry, year_entry, aquifer_entry, no_entry, failing, stands, entry_at}
use Rattle.record.specs.Fault.{closing_fault, unit_fault, soil_fault, year_fault, aquifer_fault}
use Rattle.book.specs.declared.Opened.{Opened}

-- A description: its units, each with its records, the last one open until it is closed, and its aquifers, in file order.
pub record Description : Type 0 where
  pub units : List DescribedUnit
  pub aquifers : List Aquifer

-- The open unit: the last one, and the counts and sums of its records.
abbrev pub last_unit : Description → DescribedUnit
last_unit d = get_or d.units (length d.units - 1) no_unit

abbrev pub last_sums : Description → UnitRecord
last_sums d = summed (last_unit d)

-- The balance that a description gives, each of its units giving a unit of the balance: its units and aquifers, and no titles. Unused
-- places are empty.
abbrev pub balance_by : (DescribedUnit → Unit) → Description → Balance
balance_by unit d =
    record {
      units = table unit_limit empty_unit (length d.units) (λ k. unit (get_or d.units k no_unit));
      unit_count = length d.units;
      aquifers = table aquifer_limit empty_aquifer (length d.aquifers) (λ k. get_or d.aquifers k empty_aquifer);
      aquifer_count = length d.aquifers;
      titles = replicate title_limit empty_place;
      given = 0;
    }

abbrev pub balance_of : Description → Balance
balance_of d = balance_by unit_of d

-- The outcome of reading: a description and the offset where it ends, or a refusal and its place.
pub data Outcome : Type 0 where
  read : Description → ℕ → Outcome
  refused : Refusal → ℕ → Outcome

-- A unit at fault in place of the offset: its number is one more than its index.
abbrev pub fault_at : Refusal → Option ℕ → Outcome → Outcome
fault_at r (Some j) rest = refused r (suc j)
fault_at r None rest = rest

-- The lowest-numbered unit whose downstream number is above the last unit, and the one whose flow is negative in a balance.
abbrev pub missing : Description → Option ℕ
missing d = first (length d.units) (λ j. ltb (length d.units) (get_or d.units j no_unit).downstream)

abbrev pub negative : Balance → Description → Option ℕ
negative b d = first (length d.units) (λ j. not (non_neg (flow (view_of b) j)))

-- The open unit's fault, with the offset of its UN mark, or else what follows.
abbrev pub closed_by : Answer → ℕ → Outcome → Outcome
closed_by (Ok u) place rest = rest
closed_by (Err r) place rest = refused r place

-- At the end, after closing: 8 downstream above the last unit, then 10 flow negative in this balance.
abbrev pub ended_by : Balance → Description → ℕ → Outcome
ended_by b d at =
    closed_by (closing_fault (length d.units) (last_sums d)) (last_unit d).at
    (fault_at BadDownstream (missing d) (fault_at NegativeFlow (negative b d) (read d at)))

abbrev pub ended : Description → ℕ → Outcome
ended d at = ended_by (balance_of d) d at

-- A UN adds a unit; SU, PR, PD and AF belong to the last UN; AC adds an aquifer.
abbrev pub with_unit : Description → DescribedUnit → Description
with_unit d u = record { units = d.units ++ (u ∷ []); aquifers = d.aquifers }

abbrev pub with_last : Description → DescribedUnit → Description
with_last d u = record { units = set d.units (length d.units - 1) u; aquifers = d.aquifers }

abbrev pub with_aquifer : Description → Aquifer → Description
with_aquifer d a = record { units = d.units; aquifers = d.aquifers ++ (a ∷ []) }

abbrev pub with_entry : Description → Entry → Description
with_entry d (unit_entry u) = with_unit d u
with_entry d (soil_entry p) = with_last d (add_plot (last_unit d) p)
with_entry d (year_entry y) = with_last d (add_year (last_unit d) y)
with_entry d (aquifer_entry a) = with_aquifer d a

-- Whether a record is refused: it is not, or it is with a place.
pub data Verdict : Type 0 where
  clear : Verdict
  faulty : Refusal → ℕ → Verdict

abbrev pub unless_faulty : Answer → ℕ → Verdict → Verdict
unless_faulty (Ok u) place rest = rest
unless_faulty (Err r) place rest = faulty r place

-- The record at an offset after a description. UN and AC first close the open unit, whose fault carries the offset of its UN mark; every
-- other fault of a record carries the record's own offset.
abbrev pub entry_verdict : Description → Entry → ℕ → Verdict
entry_verdict d (unit_entry u) at =
    unless_faulty (closing_fault (length d.units) (last_sums d)) (last_unit d).at
    (unless_faulty (unit_fault (length d.units) (length d.aquifers) (summed u)) at clear)
entry_verdict d (soil_entry p) at =
    unless_faulty (soil_fault (length d.units) (length d.aquifers) (last_sums d) p.cover p.soil p.hectares) at clear
entry_verdict d (year_entry y) at = unless_faulty (year_fault (length d.units) (length d.aquifers) (last_sums d) y) at clear
entry_verdict d (aquifer_entry a) at =
    unless_faulty (closing_fault (length d.units) (last_sums d)) (last_unit d).at
    (unless_faulty (aquifer_fault (length d.aquifers) a) at clear)

-- Reading from an offset on, at most so many records: a record is refused, or kept and the next one read.
unfoldable pub reading_from : ℕ → List ℕ → ℕ → Description → Outcome
reading_from zero s at d = refused Short at
reading_from (suc records) s at d =
    elim (entry_at s at) [
      | no_entry ↦ ended d at
      | failing n ↦ refused n at
      | stands e to ↦ elim (entry_verdict d e at) [ clear ↦ reading_from records s to (with_entry d e) | faulty n p ↦ refused n p ]
    ]

-- Reading a description. Each record takes bytes, so there are no more records than bytes.
abbrev pub reading : List ℕ → Outcome
reading s = reading_from (length s + 1) s 0 (record { units = []; aquifers = [] })

-- Opening a book: the balance and the offset where the description ends, or, refused, a number, its place and the fresh balance.
abbrev pub opened_by : (Description → Balance) → Outcome → Opened
opened_by balance (read d at) = record { answer = Ok tt; place = at; balance = balance d }
opened_by balance (refused n p) = record { answer = (Err n); place = p; balance = fresh_balance }

abbrev pub opened_as : Outcome → Opened
opened_as o = opened_by balance_of o

abbrev pub opened : List ℕ → Opened
opened s = opened_as (reading s)
