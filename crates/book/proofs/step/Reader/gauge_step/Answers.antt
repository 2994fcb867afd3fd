-- `book::gauge_step` meets its contract. Assumes nothing.
use Rattle.std.specs.Prelude.{◌≡◌, Ok}
use Rattle.std.proofs.Common.{arith, rules}
use Rattle.laws.proofs.Signs.{whole_ok}
use Rattle.record.specs.Fault.{gauged_outside, gauge_fault}
use Rattle.record.proofs.Faults.{gauge_clean, gauged_range, gauged_storage}
use Rattle.book.proofs.step.Reader.gauge_step.Goals as goal

-- An AF with no fault is inside its values, and its year is small enough to be added up.
pub year-requires : goal.year-requires
year-requires c =
    let p = c.args.self.now.progress.now in
    let y = c.gauged_record-gauged.result in
    let clean : gauge_fault p.units p.aquifers p.open (gauged_outside y) ≡ Ok tt = search rules in
    let z = gauged_storage y (gauge_clean p.units p.aquifers p.open _ clean).inside in
    record { above_to = omega arith; below_to = omega arith }

pub with_year-requires-clause-year_range : goal.with_year-requires-clause-year_range
with_year-requires-clause-year_range c =
    let p = c.args.self.now.progress.now in
    let y = c.gauged_record-gauged.result in
    let clean : gauge_fault p.units p.aquifers p.open (gauged_outside y) ≡ Ok tt = search rules in
    rw (whole_ok c.year.result c.year.type_inv, c.year.ensures) (gauged_range y (gauge_clean p.units p.aquifers p.open _ clean).inside)
