-- The loop that writes the pages of a journal: the places of its records stay small, and it ends. Assumes nothing.
use Prim.Native.Nat.{ℕ, suc, ◌+◌, ◌-◌, ◌*◌, ◌≤◌, ◌<◌}
use mathlib.Core.Path.{◌≡◌, sym, subst, ◌∙◌}
use mathlib.Core.Bool.{Bool, true, cond}
use mathlib.Core.List.{List}
use lib.ListN.{length}
use native.Mathlib.Omega.{arith}
use Rattle.laws.proofs.Cases.{by_bool, by_lt}
use Rattle.planning.specs.declared.State.{State}
use Rattle.replay.specs.declared.Replayed.{Replayed}
use Rattle.replay.specs.Page.{page_limit, page_within, Replied}
use Rattle.replay.specs.Journal.{journal_limit}
use Rattle.transcript.proofs.Pages.{GoesOn, page_onward, Fitting, fitting}

-- Before a page: a journal that goes on is not too long, each record before it took at least four bytes, and its first place is small.
pub record Turn (s : List ℕ) (at k : ℕ) (more : Bool) : Type 0 where
  pub short : more ≡ true → length s ≤ journal_limit
  pub place : 4 * k ≤ at + 4
  pub low : k ≤ 262145

-- What is left to read.
abbrev pub left : List ℕ → ℕ → Bool → ℕ
left s at more = cond more (suc (length s - at)) 0

module _ (s : List ℕ) (at k : ℕ) (st : State) (old new : List ℕ) (r : Replayed) (w : Replied (page_within page_limit 0 k st s at) old new r) where
  -- The records that fit on the page.
  fits : Fitting page_limit 0 k st s at
  fits = fitting page_limit 0 k st s at

  goes : GoesOn fits.most at s (page_within page_limit 0 k st s at)
  goes = subst (GoesOn fits.most at s) (sym fits.same) (page_onward fits.most k st s at)

  pub few : r.count ≤ page_limit
  few = omega (arith, w.count, goes.few, fits.few)

  far : at + 4 * r.count ≤ r.next
  far = omega (arith, w.count, w.next, goes.far)

  inside : 0 < r.count → r.next ≤ length s
  inside h = omega (arith, w.next, goes.inside (omega (arith, w.count)))

  module _ (more : Bool) (on : more ≡ true) (t : Turn s at k more) where
    -- The next place is as small.
    pub next_low : k + r.count ≤ 262145
    next_low =
        by_lt 0 r.count
        (λ h. omega (arith, t.place, far, inside h, t.short on))
        (λ h. omega (arith, t.low))

    pub turn_on : Turn s r.next (k + r.count) r.more
    turn_on = record { short = λ e. t.short on; place = omega (arith, t.place, far); low = next_low }

    -- Less is left to read.
    pub turn_less : left s r.next r.more < left s at more
    turn_less =
        by_bool r.more
        (λ e.
        let c : 0 < r.count = omega (arith, w.count, goes.full (sym w.more ∙ e), fits.some (omega arith) (omega arith)) in
        rw (e, on) (omega (arith, c, far, inside (omega (arith, c)))))
        (λ e. rw (e, on) (omega arith))
