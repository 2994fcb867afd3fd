-- `record::unit_of` meets its contract. Assumes nothing.
use mathlib.Core.Path.{◌≡◌, ap, ◌∙◌}
use Prim.Native.Nat.{◌<◌, ◌^◌}
use lib.Signed.{mag}
use mir.Syntax.{w64}
use mir.Val.{SFits}
use native.Mathlib.Omega.{arith}
use Rattle.laws.proofs.Signs.{whole, whole_ok}
use Rattle.laws.proofs.Parts.{parts_fit}
use Rattle.runoff.specs.Mean.{natural_runoff}
use Rattle.runoff.proofs.Rounding.{natural_within}
use Rattle.record.specs.Record.{is_gauged}
use Rattle.record.proofs.fields.unit_of.Goals as goal
use Rattle.record.proofs.fields.unit_of.Goals.{After-natural_runoff-runoff, Start}

sum_fits : (c : Start) → SFits w64 c.args.u.sum
sum_fits c =
    parts_fit c.args.u.sum (omega (arith, c.requires.sane.gains, c.requires.sane.short)) (omega (arith, c.requires.sane.losses, c.requires.sane.short))

worked : (c : After-natural_runoff-runoff)
    → c.natural_runoff-runoff.result
    ≡ natural_runoff (is_gauged c.args.u) c.args.u.years c.args.u.sum
worked c =
    c.natural_runoff-runoff.ensures
    ∙ ap (natural_runoff (is_gauged c.args.u) c.args.u.years) (whole c.args.u.sum (sum_fits (goal.at.After-natural_runoff-runoff c).Start))

pub natural_runoff-runoff-requires : goal.natural_runoff-runoff-requires
natural_runoff-runoff-requires c =
    rw (whole c.args.u.sum (sum_fits (goal.at.natural_runoff-runoff-requires c).Start))
    (record {
      years_from = omega (arith, c.requires.enough);
      years_to = c.requires.sane.short;
      sum_to = omega (arith, c.requires.sane.gains, c.requires.sane.short);
    })

pub overflow_cast-result : goal.overflow_cast-result
overflow_cast-result c =
    record {
      fits = omega (arith, worked c, natural_within (is_gauged c.args.u) c.args.u.years c.args.u.sum (omega (arith, c.requires.enough)) c.requires.mean);
    }

pub returns : goal.returns
returns c =
    let stored : mag c.args.u.storage < 2 ^ 63 = omega arith in
    rw (whole_ok c.args.u.storage stored, worked (goal.at.returns c).After-natural_runoff-runoff)
