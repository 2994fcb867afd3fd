-- Opening a journal, by the tests that are made. Assumes nothing.
use Rattle.std.specs.Prelude.{Err, None}
use Prim.Native.Nat.{ℕ, ◌-◌, ◌≤◌, ◌<◌}
use mathlib.Core.Path.{◌≡◌, sym, ap, ◌∙◌}
use mathlib.Core.Bool.{Bool, true, false, cond}
use mathlib.Core.List.{List}
use lib.ListN.{length}
use native.Mathlib.Omega.{arith}
use borrow.Author.Tests.{lt-ltb, le-ltb}
use Rattle.laws.proofs.Every.{both}
use Rattle.model.specs.declared.Refusal.TheVariants.{TooLong}
use Rattle.model.specs.Answers.{Answer}
use Rattle.model.specs.Fresh.{fresh_balance}
use Rattle.planning.specs.declared.Opened.{Opened}
use Rattle.planning.specs.State.{nothing_kept}
use Rattle.requests.specs.Records.{own_at}
use Rattle.replay.specs.Journal.{is_own, unknown, ends_there, journal_opened, journal_limit, begun_by, begun}

-- No mark stands past the end.
pub past_end : (s : List ℕ) (a : Answer) (place : ℕ) → length s < place → ends_there s a place ≡ true → ⊥
past_end s a place h e =
    let none : own_at s place ≡ None = rw (lt-ltb (length s - place) 2 (omega arith)) in
    let w : false ≡ true = sym (ap is_own none) ∙ (both (unknown a) (is_own (own_at s place)) e).1 in
    let z : ◌≡◌ {A = ℕ} 0 1 = cc in
    absurd (omega arith)

-- How a journal that is not too long begins, by the answer of its opening.
pub begun_opened : (s : List ℕ) (o : Opened) (a : Answer) → length s ≤ journal_limit → o ≡ journal_opened s → o.answer ≡ a
    → begun_by a o.place o.state ≡ begun s
begun_opened s o a h e q =
    ap (λ (x : Answer). begun_by x o.place o.state) (sym q)
    ∙ ap (λ (x : Opened). begun_by x.answer x.place x.state) e
    ∙ sym (ap (λ (t : Bool). cond t (begun_by (Err TooLong) journal_limit (nothing_kept fresh_balance)) (begun_by (journal_opened s).answer (journal_opened s).place (journal_opened s).state)) (le-ltb journal_limit (length s) h))
