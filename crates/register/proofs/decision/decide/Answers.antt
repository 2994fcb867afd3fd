-- `register::decide` meets its contract. Assumes nothing.
use mathlib.Core.Path.{sym, ap, ◌∙◌}
use Rattle.model.specs.declared.Call.{Call}
use Rattle.register.specs.Calls.{call_reply}
use Rattle.register.specs.declared.Reply.{Reply}
use Rattle.register.proofs.Keeping.{call_unsound}
use Rattle.register.proofs.decision.decide.Goals as goal

pub returns-then-not-sound : goal.returns-then-not-sound
returns-then-not-sound c =
    let start = c in
    ap (λ (r : Reply). r.answer) (call_unsound start.args.b.now start.args.c (sym start.requires ∙ c.if-not-sound.true))

pub grant_answer-requires : goal.grant_answer-requires
grant_answer-requires c =
    sym c.requires ∙ c.if-not-sound.false

pub cancel_answer-requires : goal.cancel_answer-requires
cancel_answer-requires c =
    sym c.requires ∙ c.if-not-sound.false

pub returns-in-Grant : goal.returns-in-Grant
returns-in-Grant c =
    let start = c in
    c.grant_answer.ensures ∙ ap (λ (x : Call). (call_reply start.args.b.now x).answer) (sym c.in-Grant.is)

pub returns-in-Cancel : goal.returns-in-Cancel
returns-in-Cancel c =
    let start = c in
    c.cancel_answer.ensures ∙ ap (λ (x : Call). (call_reply start.args.b.now x).answer) (sym c.in-Cancel.is)
