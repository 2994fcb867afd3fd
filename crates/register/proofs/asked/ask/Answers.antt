-- `register::ask` meets its contract. Assumes nothing.
use Rattle.std.specs.Prelude.{Ok}
use mathlib.Core.Path.{◌≡◌, sym, ◌∙◌}
use Rattle.model.specs.View.{view_of}
use Rattle.basin.proofs.Soundness.{soundness}
use Rattle.register.specs.Calls.{call_reply}
use Rattle.register.proofs.Keeping.{refused_keeps, accepted_number, accepted_from_sound}
use Rattle.register.proofs.asked.ask.Goals as goal
use Rattle.register.proofs.asked.ask.Goals.{In-Ok}

-- The call is accepted.
accepted : (c : In-Ok) → let start = c in (call_reply start.args.b start.args.c).answer ≡ Ok tt
accepted c = sym c.in-Ok.ensures

pub number_of-requires : goal.number_of-requires
number_of-requires c =
    let start = c in
    (soundness (view_of start.args.b) (accepted_from_sound start.args.b start.args.c (accepted c))).few_titles

pub perform-requires : goal.perform-requires
perform-requires c =
    accepted (goal.at.perform-requires c).In-Ok

pub returns-in-Ok : goal.returns-in-Ok
returns-in-Ok c =
    let start = c in
    let e = accepted (goal.at.returns-in-Ok c).In-Ok in
    λ i.
    record {
      answer = sym e i;
      number = (c.number_of.ensures ∙ sym (accepted_number start.args.b start.args.c e)) i;
      balance = c.perform.ensures.value i;
    }

pub returns-in-Err : goal.returns-in-Err
returns-in-Err c =
    let start = c in
    let e = sym c.in-Err.ensures in
    let k = refused_keeps start.args.b start.args.c _ e in
    c.refused.ensures ∙ (λ i. record { answer = sym e i; number = sym k.1 i; balance = sym k.0 i })
