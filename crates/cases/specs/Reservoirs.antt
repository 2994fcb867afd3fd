-- Two books of reservoirs (document 02 [6]), the balances that they go through, and what is printed for them. Assumes nothing.
use Rattle.std.specs.Prelude.{ℕ, ◌≤◌, ◌≡◌, refl, true, false, List, [], ◌∷◌, ◌++◌, length, replicate, ℤ, negsuc, Ok, Err}
use Rattle.std.proofs.Common.{sym, ap, ◌∙◌, arith}
use Rattle.laws.specs.Sum.{sum_of, every}
use Rattle.laws.specs.Gather.{gather, gather_to}
use Rattle.laws.specs.Table.{table, tabulate, indexed}
use Rattle.model.specs.declared.Refusal.TheVariants.{NoWater}
use Rattle.model.specs.declared.Unit.{Unit}
use Rattle.model.specs.declared.Place.{Place}
use Rattle.model.specs.declared.Title.{Title}
use Rattle.model.specs.declared.Title.TheVariants.{UnitWithdrawal}
use Rattle.model.specs.declared.Call.{Call}
use Rattle.model.specs.declared.Call.TheVariants.{Grant}
use Rattle.model.specs.declared.Balance.{Balance}
use Rattle.model.specs.Fresh.{empty_unit, empty_aquifer, empty_place}
use Rattle.model.specs.Entries.{place_of}
use Rattle.model.specs.View.{view_of}
use Rattle.model.specs.Answers.{first_from}
use Rattle.runoff.specs.Soil.{coefficient, coefficients}
use Rattle.runoff.specs.Year.{rain_year}
use Rattle.runoff.specs.Mean.{rounded}
use Rattle.runoff.specs.Record.{area_of, weighted_of, years_sum}
use Rattle.river.specs.Flow.{flow}
use Rattle.river.specs.Reserve.{committed_to, committed}
use Rattle.basin.specs.Sound.{sound}
use Rattle.reach.specs.Reach.{outlet_to, outlet}
use Rattle.book.specs.Reading.{reading_from, opened}
use Rattle.record.specs.Calls.{call_at, calls_from, calls_of, ending_from, ending_of}
use Rattle.record.specs.Entries.{entry_at}
use Rattle.effect.specs.Granted.{granted}
use Rattle.refusal.specs.Grant.{no_water}
use Rattle.register.specs.Reply.{grant_reply}
use Rattle.register.proofs.Replies.{reply_given, reply_dry}
use Rattle.text.specs.Text.{ascii, decimal_below, decimal, signed}
use Rattle.report.specs.Lines.{unit_line, call_given, call_refused}
use Rattle.listing.specs.Listing.{lines_of, table_text, printed}
use Rattle.listing.proofs.Tables.{table_is}
use Rattle.cases.specs.OneUnit.{unit_with}
use Rattle.cases.specs.Printed.{reservoir_description, reservoir_calls, reservoir_book, dry_reservoir_book}
use Rattle.cases.specs.Lines.{Runs, runs_none, runs_more, book_printed}

-- A reservoir at the outlet with this evaporation, storage change, commitment and natural runoff, and 0 in all other entries.
abbrev pub lake_with : ℕ → ℤ → ℕ → ℕ → Unit
lake_with evaporation storage commitment runoff =
    record {
      downstream = 0;
      extraction = 0;
      exports = 0;
      imports = 0;
      returns = 0;
      evaporation = evaporation;
      storage = storage;
      commitment = commitment;
      runoff = runoff;
    }

-- The balance of so many units, with these titles and numbers given.
abbrev units_balance : List Unit → ℕ → List Place → ℕ → Balance
units_balance units count titles given =
    record {
      units = units;
      unit_count = count;
      aquifers = replicate 32 empty_aquifer;
      aquifer_count = 0;
      titles = titles;
      given = given;
    }

-- Withdrawals from the unit above the reservoir, of which a fifth returns there.
abbrev larger_title : Title
larger_title = UnitWithdrawal 1 1 728

abbrev smaller_title : Title
smaller_title = UnitWithdrawal 1 1 727

abbrev asked : List Call
asked = Grant larger_title ∷ Grant smaller_title ∷ []

-- What the book opens, and what its calls leave.
unfoldable reservoir_balance : Balance
reservoir_balance =
    units_balance (unit_with 2 0 0 0 0 1540 ∷ lake_with 1000 (negsuc 999) 1500 1540 ∷ replicate 62 empty_unit) 2 (replicate 256 empty_place) 0

unfoldable drawn_balance : Balance
drawn_balance =
    units_balance (unit_with 2 727 0 145 0 1540 ∷ lake_with 1000 (negsuc 999) 1500 1540 ∷ replicate 62 empty_unit) 2
    (place_of smaller_title true ∷ replicate 255 empty_place) 1

reservoir_opens : opened reservoir_book ≡ record { answer = Ok tt; place = 238; balance = reservoir_balance }
unfolding reservoir_book reservoir_description reservoir_calls reservoir_balance reading_from entry_at table tabulate first_from flow gather gather_to sum_of years_sum area_of weighted_of rain_year coefficient coefficients rounded
reservoir_opens = refl

reservoir_asks : calls_of reservoir_book 238 ≡ asked
unfolding reservoir_book reservoir_description reservoir_calls calls_from call_at
reservoir_asks = refl

reservoir_ends : ending_of reservoir_book 238 ≡ Ok tt
unfolding reservoir_book reservoir_description reservoir_calls ending_from call_at
reservoir_ends = refl

reservoir_sound : sound (view_of reservoir_balance) ≡ true
unfolding sound reservoir_balance flow gather gather_to sum_of every
reservoir_sound = refl

-- The larger is refused: of unit 1's flow, which would be 957, the reservoir's demand of 2500 would commit 958.
larger_water : no_water (granted (view_of reservoir_balance) larger_title) larger_title ≡ true
unfolding reservoir_balance flow gather gather_to sum_of committed committed_to every outlet outlet_to
larger_water = refl

larger_reply : grant_reply reservoir_balance larger_title ≡ record { answer = Err NoWater; number = 0; balance = reservoir_balance }
unfolding reservoir_balance
larger_reply = sym (reply_dry reservoir_balance larger_title reservoir_sound refl larger_water)

-- The smaller is given.
smaller_water : no_water (granted (view_of reservoir_balance) smaller_title) smaller_title ≡ false
unfolding reservoir_balance flow gather gather_to sum_of committed committed_to every outlet outlet_to
smaller_water = refl

smaller_reply : grant_reply reservoir_balance smaller_title ≡ record { answer = Ok tt; number = 1; balance = drawn_balance }
unfolding reservoir_balance drawn_balance indexed
smaller_reply = sym (reply_given reservoir_balance smaller_title reservoir_sound refl smaller_water)

drawn_sound : sound (view_of drawn_balance) ≡ true
unfolding sound drawn_balance flow gather gather_to sum_of every
drawn_sound = refl

-- The lines.
abbrev calls_text : List ℕ
calls_text = ascii "call 1 refused 17\ncall 2 given 1\n"

abbrev figures_text : List ℕ
figures_text = ascii "unit 1 958 958 1685 0\nunit 2 2498 1500 1542 998\n"

runs : Runs 1 reservoir_balance asked calls_text drawn_balance
unfolding call_given call_refused decimal decimal_below
runs = runs_more (Grant larger_title) larger_reply (runs_more (Grant smaller_title) smaller_reply runs_none)

drawn_lines : table_text (view_of drawn_balance) ≡ figures_text
unfolding drawn_balance lines_of flow gather gather_to sum_of committed committed_to unit_line signed decimal decimal_below
drawn_lines = sym (table_is (view_of drawn_balance) drawn_sound)

reservoir_short : length reservoir_book ≤ 65536
unfolding reservoir_book reservoir_description reservoir_calls
reservoir_short = omega arith

pub reservoir_printed : printed reservoir_book ≡ calls_text ++ figures_text
reservoir_printed =
    book_printed reservoir_book asked calls_text drawn_balance reservoir_short reservoir_opens reservoir_asks reservoir_ends runs
    ∙ ap (λ (l : List ℕ). calls_text ++ l) drawn_lines

-- The reservoir without any contributor: all of its demand is its own reserve.
unfoldable dry_balance : Balance
dry_balance = units_balance (lake_with 30 (negsuc 99) 20 0 ∷ replicate 63 empty_unit) 1 (replicate 256 empty_place) 0

dry_opens : opened dry_reservoir_book ≡ record { answer = Ok tt; place = 711; balance = dry_balance }
unfolding dry_reservoir_book dry_balance reading_from entry_at table tabulate first_from flow gather gather_to sum_of years_sum area_of weighted_of rounded
dry_opens = refl

dry_asks : calls_of dry_reservoir_book 711 ≡ []
unfolding dry_reservoir_book calls_from call_at
dry_asks = refl

dry_ends : ending_of dry_reservoir_book 711 ≡ Ok tt
unfolding dry_reservoir_book ending_from call_at
dry_ends = refl

dry_sound : sound (view_of dry_balance) ≡ true
unfolding sound dry_balance flow gather gather_to sum_of every
dry_sound = refl

dry_lines : table_text (view_of dry_balance) ≡ ascii "unit 1 70 20 50 50\n"
unfolding dry_balance lines_of flow gather gather_to sum_of committed committed_to unit_line signed decimal decimal_below
dry_lines = sym (table_is (view_of dry_balance) dry_sound)

dry_short : length dry_reservoir_book ≤ 65536
unfolding dry_reservoir_book
dry_short = omega arith

pub dry_reservoir_printed : printed dry_reservoir_book ≡ ascii "unit 1 70 20 50 50\n"
dry_reservoir_printed =
    book_printed dry_reservoir_book [] [] dry_balance dry_short dry_opens dry_asks dry_ends runs_none ∙ dry_lines
