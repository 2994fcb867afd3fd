-- `register::perform` meets its contract. Assumes nothing.
use Rattle.std.specs.Prelude.{Ok}
use mathlib.Core.Path.{◌≡◌, sym, ap, subst, ◌∙◌}
use native.Mathlib.Omega.{arith}
use Rattle.model.specs.declared.Balance.{Balance}
use Rattle.model.specs.declared.Call.{Call}
use Rattle.model.specs.View.{view_of}
use Rattle.basin.specs.Sound.{sound}
use Rattle.basin.proofs.Soundness.{soundness}
use Rattle.effect.specs.Granted.{Sized}
use Rattle.register.specs.Calls.{call_reply}
use Rattle.register.specs.declared.Reply.{Reply}
use Rattle.register.proofs.Replies.{grantable_of}
use Rattle.register.proofs.Staying.{Given, grant_given, given_reply}
use Rattle.register.proofs.Cancelling.{in_force_of}
use Rattle.register.proofs.Leaving.{Released, cancel_released, released_reply}
use Rattle.register.proofs.Keeping.{call_keeps}
use Rattle.register.proofs.Trial.{takable}
use Rattle.register.proofs.outcome.perform.Goals as goal
use Rattle.register.proofs.outcome.perform.Goals.{Start, In-Cancel, In-Grant}

-- The arrays have their full length.
sized : (c : Start) → Sized c.args.b
sized c = record { units = omega arith; aquifers = omega arith; titles = omega arith }

-- A balance handed back is as sound as the one handed in.
kept : (b : Balance) (c : Call) (r : Balance) → Sized b → r ≡ (call_reply b c).balance
    → record { value : r ≡ (call_reply b c).balance; b_value : sound (view_of b) ≡ sound (view_of r) }
kept b c r z e = record { value = e; b_value = call_keeps b c z ∙ ap (λ (x : Balance). sound (view_of x)) (sym e) }

-- What holds of the accepted call, by its kind.
granted : (c : In-Grant) → Given c.args.b c.in-Grant.title
granted c =
    let start = c in
    grant_given start.args.b _ (subst (λ (x : Call). (call_reply start.args.b x).answer ≡ Ok tt) c.in-Grant.is start.requires)

released : (c : In-Cancel) → Released c.args.b c.in-Cancel.number
released c =
    let start = c in
    cancel_released start.args.b _ (subst (λ (x : Call). (call_reply start.args.b x).answer ≡ Ok tt) c.in-Cancel.is start.requires)

pub post-requires : goal.post-requires
post-requires c =
    let start = c in
    let g = granted c in
    grantable_of start.args.b c.in-Grant.title g.sound_before g.none_early

pub take_back-requires : goal.take_back-requires
take_back-requires c =
    let start = c in
    let n = c.in-Cancel.number in
    let v = view_of start.args.b in
    let r = released c in
    let f = in_force_of v n r.stands in
    (f.given.positive, omega (arith, f.given.within, (soundness v r.sound_before).few_titles), takable start.args.b n r.sound_before r.stands)

pub returns-in-Grant : goal.returns-in-Grant
returns-in-Grant c =
    let start = c in
    let t = c.in-Grant in
    kept start.args.b start.args.c _ (sized (goal.at.returns-in-Grant c).Start)
    (c.post.ensures ∙ ap (λ (r : Reply). r.balance) (given_reply start.args.b t.title (granted (goal.at.returns-in-Grant c).In-Grant))
    ∙ ap (λ (x : Call). (call_reply start.args.b x).balance) (sym t.is))

pub returns-in-Cancel : goal.returns-in-Cancel
returns-in-Cancel c =
    let start = c in
    let n = c.in-Cancel in
    kept start.args.b start.args.c _ (sized (goal.at.returns-in-Cancel c).Start)
    (c.take_back.ensures ∙ ap (λ (r : Reply). r.balance) (released_reply start.args.b n.number (released (goal.at.returns-in-Cancel c).In-Cancel))
    ∙ ap (λ (x : Call). (call_reply start.args.b x).balance) (sym n.is))
