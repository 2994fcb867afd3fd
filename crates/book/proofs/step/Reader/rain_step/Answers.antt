-- `book::rain_step` meets its contract. Assumes nothing.
use Rattle.std.proofs.Common.{◌≡◌, ◌∙◌, ◌≤◌, Ok, pos, arith, rules}
use Rattle.std.proofs.lemmas.Int.{to_z_pos}
use mir.Syntax.{w64}
use mir.Val.{to_z, of_z}
use Rattle.laws.proofs.Signs.{whole_ok}
use Rattle.runoff.specs.declared.Measure.TheVariants.{Tenths}
use Rattle.runoff.specs.Year.{RainRange}
use Rattle.runoff.proofs.RainBounds.{rain_within}
use Rattle.record.specs.Fault.{rain_fault}
use Rattle.record.proofs.Faults.{rain_clean}
use Rattle.book.proofs.step.Reader.rain_step.Goals as goal
use Rattle.book.proofs.step.Reader.rain_step.Goals.{After-rain_year-year, After-cast_signed}

-- A year with no fault is inside its values.
in-range : (c : After-rain_year-year) → RainRange c.args.self.now.progress.now.open.hectares c.args.self.now.progress.now.open.weighted c.in_tenths-tenths.result
in-range c =
    let p = c.args.self.now.progress.now in
    let clean : rain_fault p.units p.aquifers p.open Tenths c.in_tenths-tenths.result ≡ Ok tt = search rules in
    record {
      area_to = c.args.self.now.sane.area;
      weighted_to = c.args.self.now.sane.weight;
      rain_to = (rain_clean p.units p.aquifers p.open Tenths c.in_tenths-tenths.result clean).most;
    }

most : (c : After-rain_year-year) → c.rain_year-year.result ≤ 60000000000000000
most c = omega (arith, c.rain_year-year.ensures, rain_within _ _ _ (in-range c))

-- The year leaves room for the sign.
signed : (c : After-cast_signed) → to_z w64 (of_z w64 c.cast_signed.result) ≡ pos c.rain_year-year.result
signed c =
    whole_ok c.cast_signed.result c.cast_signed.type_inv ∙ c.cast_signed.ensures
    ∙ to_z_pos w64 c.rain_year-year.result (omega (arith, most (goal.at.After-cast_signed c).After-rain_year-year))

pub with_year-requires-clause-year_range : goal.with_year-requires-clause-year_range
with_year-requires-clause-year_range c =
    rw (signed (goal.at.with_year-requires-clause-year_range c).After-cast_signed)
    (record { gain = most (goal.at.with_year-requires-clause-year_range c).After-rain_year-year; loss = omega arith })

pub returns : goal.returns
returns c =
    let grown = rw (signed (goal.at.returns c).After-cast_signed, c.rain_year-year.ensures) at c.with_year.ensures in
    search rules
