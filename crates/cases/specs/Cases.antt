-- The cases of document 01 ("Cases for the proof table"), two of rain in tenths, two of well water that comes back and two of reservoirs as
-- one group of theorems of the definitions. Assumes nothing.
use Rattle.std.specs.Prelude.{ℕ, ◌+◌, ◌-◌, ◌*◌, ◌/◌, ◌≡◌, refl, true, List, [], ◌∷◌, length, replicate, pos, Ok, Err}
use Rattle.std.proofs.Common.{sym, ap, ◌∙◌}
use Rattle.laws.specs.Sum.{sum_of}
use Rattle.laws.specs.Gather.{gather, gather_to}
use Rattle.laws.specs.Table.{table, tabulate}
use Rattle.model.specs.declared.Refusal.{Refusal}
use Rattle.model.specs.declared.Refusal.TheVariants.{ReceiverBelow}
use Rattle.model.specs.declared.Title.TheVariants.{UnitWithdrawal, AquiferWithdrawal, UnitTransfer, AquiferTransfer, ReturningWithdrawal}
use Rattle.model.specs.declared.Call.TheVariants.{Grant, Cancel}
use Rattle.model.specs.declared.Balance.{Balance}
use Rattle.model.specs.View.{View, view_of}
use Rattle.runoff.specs.Soil.{coefficient, coefficients}
use Rattle.runoff.specs.Year.{in_tenths, rain_year, rain_parts}
use Rattle.runoff.specs.Mean.{rounded}
use Rattle.runoff.specs.declared.Plot.{Plot}
use Rattle.runoff.specs.declared.Rain.{Rain}
use Rattle.runoff.specs.Record.{area_of, weighted_of, rain_of}
use Rattle.river.specs.Flow.{flow}
use Rattle.river.specs.Reserve.{contribution, inflow, total, demand, committed_to, committed, own_reserve}
use Rattle.figures.specs.Figures.{unit_figures, aquifer_figures, no_unit_figures, no_aquifer_figures}
use Rattle.figures.specs.declared.UnitFigures.{UnitFigures}
use Rattle.figures.specs.declared.AquiferFigures.{AquiferFigures}
use Rattle.basin.specs.Sound.{sound}
use Rattle.basin.specs.Figures.{figures_reply}
use Rattle.basin.specs.declared.Figures.{Figures}
use Rattle.basin.proofs.Replies.{accepted_reply}
use Rattle.book.specs.declared.Opened.{Opened}
use Rattle.book.specs.Reading.{opened}
use Rattle.record.specs.Calls.{calls_of}
use Rattle.titles.specs.Adds.{returned}
use Rattle.register.specs.declared.Reply.{Reply}
use Rattle.register.specs.Reply.{grant_reply}
use Rattle.register.specs.Calls.{after}
use Rattle.text.specs.Text.{ascii}
use Rattle.listing.specs.Listing.{printed}
use Rattle.cases.specs.Printed.{millimetres, printed_description, printed_book, returning_book, released_book, reservoir_book, dry_reservoir_book}
use Rattle.cases.specs.OneUnit.{meadow, forest, half, under, tequisistlan, steady, uneven, mixed, both_marks, tequisistlan_years, gauges, rain_book, gauged_book, opens_one, opens_a, opens_b, opens_c, opens_d, opens_e, opens_mixed, opens_both, opens_tequisistlan, opens_gauged}
use Rattle.cases.specs.Balances.{first_title, printed_balance, first_balance, printed_opens, printed_sound, first_sound, calls_are, downstream_reply, seven_title, eight_title, cancelled_balance, after_cancelled}
use Rattle.cases.specs.Returning.{returning_opens, returning_asks}
use Rattle.cases.specs.Lines.{after_first, printed_is, returning_printed, released_printed}
use Rattle.cases.specs.Reservoirs.{reservoir_printed, dry_reservoir_printed}

-- The rain of some years together, in tenths.
abbrev pub rain_total : List Rain → ℕ
rain_total [] = 0
rain_total (r ∷ years) = in_tenths r.measure r.depth + rain_total years

-- What a year of so many mm yields on soils, in 6,000,000,000ths of a thousand m³.
abbrev pub year_on : List Plot → ℕ → ℕ
year_on plots mm = rain_of (area_of plots) (weighted_of plots) (millimetres mm)

-- A unit's row of the table: flow, committed, own reserve, availability. An aquifer's: recharge, availability.
abbrev pub unit_row : ℕ → ℕ → ℕ → ℕ → UnitFigures
unit_row flow committed reserve availability =
    record { flow = pos flow; committed = committed; reserve = reserve; availability = pos availability }

abbrev pub aquifer_row : ℕ → ℕ → AquiferFigures
aquifer_row recharge availability = record { recharge = pos recharge; availability = pos availability }

-- The view of the balance that the printed book opens.
abbrev pub printed_view : View
printed_view = view_of (opened printed_book).balance

-- The table of three units and an aquifer, with 0 in the unused places.
abbrev pub table_with : UnitFigures → UnitFigures → UnitFigures → AquiferFigures → Figures
table_with first second third well =
    record {
      answer = Ok tt;
      units = first ∷ second ∷ third ∷ replicate 61 no_unit_figures;
      aquifers = well ∷ replicate 31 no_aquifer_figures;
    }

-- The table of the printed book before any call, and after call 1.
abbrev pub before_calls : Figures
before_calls =
    table_with (unit_row 10080 3063 3063 7017) (unit_row 1540 468 468 1072) (unit_row 10160 1000 469 9160) (aquifer_row 2000 200)

abbrev pub after_first_call : Figures
after_first_call =
    table_with (unit_row 10080 4460 4460 5620) (unit_row 1540 681 681 859) (unit_row 8560 1000 859 7560) (aquifer_row 2000 200)

-- What a contributor of c would get of unit 3's demand if its share were floored alone.
abbrev pub floored_alone : View → ℕ → ℕ
floored_alone v c = demand (v.unit 2) (committed v 2) * c / total v 2

-- The cases, by their letters.
pub record CasesHold : Type 0 where
  -- (a) cover 14 soil 2, twenty years of 800 mm; (b) cover 8 soil 1. The book of such a unit is accepted and opens this natural runoff.
  pub a : opened (rain_book meadow (steady 800)) ≡ opens_one 119 10080
  pub b : opened (rain_book forest (steady 800)) ≡ opens_one 119 1540
  -- (c) as b, ten years 400 mm, ten 1200. The formula applied to the mean rain, which is 800 mm, would give 1540.
  pub c : opened (rain_book forest uneven) ≡ opens_one 119 2100
  pub c_mean : rain_total uneven ≡ 20 * 8000
  pub c_mean_rain : rounded (year_on forest 800) rain_parts ≡ 1540
  -- (d) 500 m³ a year, so 1.
  pub d_year : 1000 * year_on half 500 ≡ 500 * rain_parts
  pub d : opened (rain_book half (steady 500)) ≡ opens_one 127 1
  -- (e) 493.75 m³ a year, so 0.
  pub e_year : 100000 * year_on under 500 ≡ 49375 * rain_parts
  pub e : opened (rain_book under (steady 500)) ≡ opens_one 127 0
  -- Rounded once: on the soils of (d) nineteen years of 500 m³ and one of 240 give 0, though each year rounded would give 1.
  pub rounded_once : opened (rain_book half mixed) ≡ opens_one 127 0
  pub each_year_rounded : rounded (19 * rounded (year_on half 500) rain_parts + rounded (year_on half 400) rain_parts) 20 ≡ 1
  -- Tenths: with ten of the years of (d) at 499.9 mm the mean is below 500 m³, so 0; rounded to 500 mm first they would give 1, as in (d).
  pub tenths_count : opened (rain_book half both_marks) ≡ opens_one 127 0
  -- Appendix D of 000, which prints 264.96 million m³.
  pub appendix_d : opened (rain_book tequisistlan tequisistlan_years) ≡ opens_one 135 264955
  -- Gauged years: nineteen of 1000 − 200 + 30 + 40 − 50 − 60 + 7 − 8 = 759 and one of 769. Their mean is 759.5, and a half goes up.
  pub gauged : opened (gauged_book gauges) ≡ opens_one 711 760
  -- (f) the printed book before any call: it is accepted, its description ends where the calls begin, and its figures are
  -- those of the table.
  pub f_accepted : (opened printed_book).answer ≡ Ok tt
  pub f_place : (opened printed_book).place ≡ length printed_description
  pub f : figures_reply printed_view ≡ before_calls
  -- Unit 3's demand is 4000. What its contributors get sums to it; each share floored alone would lose 1.
  pub f_demand : demand (printed_view.unit 2) (committed printed_view 2) ≡ 4000
  pub f_shares : committed printed_view 0 + committed printed_view 1 + own_reserve printed_view 2 ≡ 4000
  pub f_floored_alone :
      floored_alone printed_view (contribution printed_view 0) + floored_alone printed_view (contribution printed_view 1)
      + floored_alone printed_view (inflow (printed_view.unit 2))
      ≡ 3999
  -- (g) the printed book's figures after call 1.
  pub g : figures_reply (view_of (after (opened printed_book).balance (Grant (UnitWithdrawal 3 1 2000) ∷ []))) ≡ after_first_call
  -- (h) the printed book's calls, and all that is printed for it.
  pub h_calls :
      calls_of printed_book (opened printed_book).place
      ≡ Grant (UnitWithdrawal 3 1 2000) ∷ Grant (UnitWithdrawal 2 1 2000) ∷ Grant (AquiferWithdrawal 1 250) ∷ Grant (AquiferTransfer 1 3 200) ∷ []
  pub h :
      printed printed_book
      ≡ ascii
      "call 1 given 1\ncall 2 refused 17\ncall 3 refused 17\ncall 4 given 2\nunit 1 10080 4395 4395 5685\nunit 2 1540 671 671 869\nunit 3 8760 1000 934 7760\naquifer 1 2000 0\n"
  -- A transfer from unit 1 to unit 3, which lies below it, is refused.
  pub transfer_downstream :
      grant_reply (opened printed_book).balance (UnitTransfer 1 3 100)
      ≡ record { answer = Err ReceiverBelow; number = 0; balance = (opened printed_book).balance }
  -- Withdrawals of 7 and 8 for agriculture return 1 each; with the second cancelled 1 is left. Worked from their sum, which returns 3, the
  -- second's return would be 2 and none would be left.
  pub cancelled_return :
      ((view_of (after (opened printed_book).balance (Grant (UnitWithdrawal 3 1 7) ∷ Grant (UnitWithdrawal 3 1 8) ∷ Cancel 2 ∷ []))).unit 2).returns ≡ 1
  pub cancelled_from_the_sum : returned 1 7 + returned 1 8 - (returned 1 (7 + 8) - returned 1 7) ≡ 0
  -- Well water that comes back: 200 from aquifer 1, of which 150 go to unit 2. The aquifer loses all 200, so that 1 more is refused though
  -- all of it would return; and with unit 2's water used the title cannot be cancelled.
  pub returning_calls_lem :
      calls_of returning_book (opened returning_book).place
      ≡ Grant (ReturningWithdrawal 1 2 2 200) ∷ Grant (ReturningWithdrawal 1 2 6 1) ∷ Grant (UnitWithdrawal 2 1 1938) ∷ Cancel 1 ∷ []
  pub returning :
      printed returning_book
      ≡ ascii
      "call 1 given 1\ncall 2 refused 17\ncall 3 given 2\ncall 4 refused 20\nunit 1 10080 3428 3428 6652\nunit 2 139 48 1986 91\nunit 3 8759 1000 524 7759\naquifer 1 2000 0\n"
  -- Cancelled before that, it leaves the figures of (f).
  pub returning_cancelled :
      printed released_book
      ≡ ascii
      "call 1 given 1\ncall 2 cancelled 1\nunit 1 10080 3063 3063 7017\nunit 2 1540 468 468 1072\nunit 3 10160 1000 469 9160\naquifer 1 2000 200\n"
  -- A reservoir at the outlet falls by the 1000 that it evaporates; it has 1540 of its own, 1540 from unit 1 and commitment 1500. Its
  -- demand of 2500 reaches unit 1: after 728, of which 145 return, 958 of its 957 would be committed; after 727, 958 of its 958 are.
  pub reservoir :
      printed reservoir_book ≡ ascii "call 1 refused 17\ncall 2 given 1\nunit 1 958 958 1685 0\nunit 2 2498 1500 1542 998\n"
  -- One without any contributor, that falls by 100, of which 30 evaporate, with commitment 20: T is 0, and its own reserve is 50.
  pub dry_reservoir : printed dry_reservoir_book ≡ ascii "unit 1 70 20 50 50\n"

-- What the misreadings of (c), (d) and (e) would give.
case_c_mean : rain_total uneven ≡ 20 * 8000
case_c_mean = refl

case_c_mean_rain : rounded (year_on forest 800) rain_parts ≡ 1540
unfolding rain_year area_of weighted_of coefficient coefficients rounded
case_c_mean_rain = refl

case_d_year : 1000 * year_on half 500 ≡ 500 * rain_parts
unfolding rain_year area_of weighted_of coefficient coefficients
case_d_year = refl

case_e_year : 100000 * year_on under 500 ≡ 49375 * rain_parts
unfolding rain_year area_of weighted_of coefficient coefficients
case_e_year = refl

case_each : rounded (19 * rounded (year_on half 500) rain_parts + rounded (year_on half 400) rain_parts) 20 ≡ 1
unfolding rain_year area_of weighted_of coefficient coefficients rounded
case_each = refl

-- (f) and (g): the figures of a view of three units and an aquifer.
three_units : (f : ℕ → UnitFigures) → table 64 no_unit_figures 3 f ≡ f 0 ∷ f 1 ∷ f 2 ∷ replicate 61 no_unit_figures
unfolding table tabulate
three_units f = refl

one_aquifer : (f : ℕ → AquiferFigures) → table 32 no_aquifer_figures 1 f ≡ f 0 ∷ replicate 31 no_aquifer_figures
unfolding table tabulate
one_aquifer f = refl

abbrev table_from : View → Figures
table_from v = table_with (unit_figures v 0) (unit_figures v 1) (unit_figures v 2) (aquifer_figures v 0)

figures_are : (v : View) → sound v ≡ true → v.units ≡ 3 → v.aquifers ≡ 1 → figures_reply v ≡ table_from v
figures_are v s three one =
    sym (accepted_reply v _ _ s
    (sym (ap (λ (n : ℕ). table 64 no_unit_figures n (unit_figures v)) three ∙ three_units (unit_figures v)))
    (sym (ap (λ (n : ℕ). table 32 no_aquifer_figures n (aquifer_figures v)) one ∙ one_aquifer (aquifer_figures v))))

-- (f).
table_before : table_from (view_of printed_balance) ≡ before_calls
unfolding printed_balance flow gather gather_to sum_of committed committed_to
table_before = refl

figures_before : figures_reply (view_of printed_balance) ≡ before_calls
unfolding printed_balance
figures_before = figures_are (view_of printed_balance) printed_sound refl refl ∙ table_before

is_view : printed_view ≡ view_of printed_balance
is_view = ap (λ (o : Opened). view_of o.balance) printed_opens

ends : 379 ≡ length printed_description
unfolding printed_description
ends = refl

-- Its shares.
written_demand : demand ((view_of printed_balance).unit 2) (committed (view_of printed_balance) 2) ≡ 4000
unfolding printed_balance committed committed_to flow gather gather_to sum_of
written_demand = refl

written_shares : committed (view_of printed_balance) 0 + committed (view_of printed_balance) 1 + own_reserve (view_of printed_balance) 2 ≡ 4000
unfolding printed_balance committed committed_to flow gather gather_to sum_of
written_shares = refl

written_floored_alone :
    floored_alone (view_of printed_balance) (contribution (view_of printed_balance) 0) + floored_alone (view_of printed_balance) (contribution (view_of printed_balance) 1)
    + floored_alone (view_of printed_balance) (inflow ((view_of printed_balance).unit 2))
    ≡ 3999
unfolding printed_balance committed committed_to flow gather gather_to sum_of
written_floored_alone = refl

-- (g).
table_after_lem : table_from (view_of first_balance) ≡ after_first_call
unfolding first_balance flow gather gather_to sum_of committed committed_to
table_after_lem = refl

figures_after : figures_reply (view_of first_balance) ≡ after_first_call
unfolding first_balance
figures_after = figures_are (view_of first_balance) first_sound refl refl ∙ table_after_lem

-- A refused call.
abbrev refused_reply : Refusal → Balance → Reply
refused_reply n b = record { answer = Err n; number = 0; balance = b }

returns_left : ((view_of cancelled_balance).unit 2).returns ≡ 1
unfolding cancelled_balance
returns_left = refl

-- The cases hold.
pub cases_hold : CasesHold
cases_hold =
    record {
      a = opens_a;
      b = opens_b;
      c = opens_c;
      c_mean = case_c_mean;
      c_mean_rain = case_c_mean_rain;
      d_year = case_d_year;
      d = opens_d;
      e_year = case_e_year;
      e = opens_e;
      rounded_once = opens_mixed;
      each_year_rounded = case_each;
      tenths_count = opens_both;
      appendix_d = opens_tequisistlan;
      gauged = opens_gauged;
      f_accepted = ap (λ (o : Opened). o.answer) printed_opens;
      f_place = ap (λ (o : Opened). o.place) printed_opens ∙ ends;
      f = ap figures_reply is_view ∙ figures_before;
      f_demand = ap (λ (v : View). demand (v.unit 2) (committed v 2)) is_view ∙ written_demand;
      f_shares = ap (λ (v : View). committed v 0 + committed v 1 + own_reserve v 2) is_view ∙ written_shares;
      f_floored_alone =
          ap (λ (v : View). floored_alone v (contribution v 0) + floored_alone v (contribution v 1) + floored_alone v (inflow (v.unit 2))) is_view
          ∙ written_floored_alone;
      g =
          ap (λ (o : Opened). figures_reply (view_of (after o.balance (Grant first_title ∷ [])))) printed_opens
          ∙ ap (λ (b : Balance). figures_reply (view_of b)) after_first
          ∙ figures_after;
      h_calls = ap (λ (o : Opened). calls_of printed_book o.place) printed_opens ∙ calls_are;
      h = printed_is;
      transfer_downstream =
          ap (λ (o : Opened). grant_reply o.balance (UnitTransfer 1 3 100)) printed_opens
          ∙ downstream_reply
          ∙ sym (ap (λ (o : Opened). refused_reply ReceiverBelow o.balance) printed_opens);
      cancelled_return =
          ap (λ (o : Opened). ((view_of (after o.balance (Grant seven_title ∷ Grant eight_title ∷ Cancel 2 ∷ []))).unit 2).returns) printed_opens
          ∙ ap (λ (b : Balance). ((view_of b).unit 2).returns) after_cancelled
          ∙ returns_left;
      cancelled_from_the_sum = refl;
      returning_calls_lem = ap (λ (o : Opened). calls_of returning_book o.place) returning_opens ∙ returning_asks;
      returning = returning_printed;
      returning_cancelled = released_printed;
      reservoir = reservoir_printed;
      dry_reservoir = dry_reservoir_printed;
    }
