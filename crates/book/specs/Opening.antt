-- The balance while a description is being read. Assumes nothing.
use Rattle.std.specs.Prelude.{ℕ, suc, ◌-◌, ◌≤◌, ◌<◌, ◌≡◌, cond, not, ◌⊎◌, eqb, ltb, length, get_or, set, replicate, Option, Some, None, Ok, Err, Result}
use Rattle.std.specs.Int.Signed.{non_neg}
use Rattle.laws.specs.Table.{table}
use Rattle.model.specs.declared.Refusal.{Refusal}
use Rattle.model.specs.declared.Refusal.TheVariants.{BadDownstream, NegativeFlow}
use Rattle.model.specs.declared.Unit.{Unit}
use Rattle.model.specs.declared.Aquifer.{Aquifer}
use Rattle.model.specs.declared.Balance.{Balance}
use Rattle.model.specs.Fresh.{empty_unit, empty_aquifer, empty_place, fresh_balance}
use Rattle.model.specs.View.{View, view_of}
use Rattle.model.specs.Answers.{Answer, first}
use Rattle.model.specs.Limits.{unit_limit, aquifer_limit, title_limit, term_limit}
use Rattle.river.specs.Flow.{downstream, flow, gain, loss}
use Rattle.river.specs.Limits.{gain_limit}
use Rattle.record.specs.declared.UnitRecord.{UnitRecord}
use Rattle.record.specs.declared.Failure.{Failure}
use Rattle.book.specs.declared.Opened.{Opened}
use Rattle.record.specs.Record.{closed_unit}
use Rattle.record.specs.Described.{no_unit, unit_of}
use Rattle.record.specs.Fault.{Sane, Closed, closing_fault}
use Rattle.book.specs.Reading.{Description}

-- The balance with a unit, or an aquifer, put at an index.
abbrev pub put_unit : Balance → ℕ → Unit → Balance
put_unit b k u =
    record {
      units = set b.units k u;
      unit_count = b.unit_count;
      aquifers = b.aquifers;
      aquifer_count = b.aquifer_count;
      titles = b.titles;
      given = b.given;
    }

abbrev pub put_aquifer : Balance → ℕ → Aquifer → Balance
put_aquifer b k a =
    record {
      units = b.units;
      unit_count = b.unit_count;
      aquifers = set b.aquifers k a;
      aquifer_count = b.aquifer_count;
      titles = b.titles;
      given = b.given;
    }

abbrev pub counted : Balance → ℕ → ℕ → Balance
counted b n m =
    record {
      units = b.units;
      unit_count = n;
      aquifers = b.aquifers;
      aquifer_count = m;
      titles = b.titles;
      given = b.given;
    }

-- The balance with the open unit, the last of n, put in; with no unit yet it stays as it is.
abbrev pub stored : Balance → UnitRecord → ℕ → Balance
stored b u n = cond (eqb n 0) b (put_unit b (n - 1) (closed_unit u))

-- The balance that the units and aquifers read so far give, with the open unit put in and both counted.
abbrev pub full_of : Balance → UnitRecord → ℕ → ℕ → Balance
full_of b u n m = counted (stored b u n) n m

-- What the balance under construction holds of a description: its units but the open one, and its aquifers, not yet counted.
abbrev pub draft : Description → Balance
draft d =
    record {
      units = table unit_limit empty_unit (length d.units - 1) (λ k. unit_of (get_or d.units k no_unit));
      unit_count = 0;
      aquifers = table aquifer_limit empty_aquifer (length d.aquifers) (λ k. get_or d.aquifers k empty_aquifer);
      aquifer_count = 0;
      titles = replicate title_limit empty_place;
      given = 0;
    }

-- A refused opening: the number, its place and the fresh balance.
abbrev pub refused_with : Refusal → ℕ → Opened
refused_with n p = record { answer = Err n; place = p; balance = fresh_balance }

abbrev pub unless_at : Refusal → Option ℕ → Opened → Opened
unless_at n (Some j) rest = refused_with n (suc j)
unless_at n None rest = rest

-- The end of a description, from the balance under construction: closing, 8, 10, or accepted.
abbrev pub missing : View → Option ℕ
missing v = first v.units (λ j. ltb v.units (downstream v j))

abbrev pub negative : View → Option ℕ
negative v = first v.units (λ j. not (non_neg (flow v j)))

abbrev pub tested_with : Balance → ℕ → Opened
tested_with b at =
    unless_at BadDownstream (missing (view_of b)) (unless_at NegativeFlow (negative (view_of b)) (record { answer = Ok tt; place = at; balance = b }))

abbrev pub closed_with : Answer → ℕ → Opened → Opened
closed_with (Ok u) place rest = rest
closed_with (Err r) place rest = refused_with r place

-- What is handed back: the offset where the description ends and the balance, or the fresh balance with the refusal and its place.
abbrev pub handed_back : Result (ℕ × Balance) Failure → Opened
handed_back (Ok (at, b)) = record { answer = Ok tt; place = at; balance = b }
handed_back (Err f) = refused_with f.refusal f.place

abbrev pub ended_with : Balance → UnitRecord → ℕ → ℕ → ℕ → Opened
ended_with b u n m at =
    closed_with (closing_fault n u) u.at (tested_with (full_of b u n m) at)

-- Entries that can be added up, and a tree that drains onward, perhaps past the last unit.
pub record Bounded (v : View) : Type 0 where
  pub few : v.units ≤ unit_limit
  pub onward : (k : ℕ) → k < v.units → (downstream v k ≡ 0) ⊎ (suc k < downstream v k)
  pub gains : (k : ℕ) → k < v.units → gain (v.unit k) ≤ gain_limit
  pub losses : (k : ℕ) → k < v.units → loss (v.unit k) ≤ gain_limit
  pub commitments : (k : ℕ) → k < v.units → (v.unit k).commitment ≤ term_limit

-- What the end of a description finds: counts within their limits, and, if the open unit closes, entries that can be added up.
pub record EndReady (b : Balance) (u : UnitRecord) (n m : ℕ) : Type 0 where
  pub room : n ≤ unit_limit
  pub sane : Sane u
  pub full : closing_fault n u ≡ Ok tt → Bounded (view_of (full_of b u n m))
  pub closed : closing_fault n u ≡ Ok tt → (n ≡ 0 → ⊥) → Closed u
