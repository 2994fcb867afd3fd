-- The lines of a moving window. Assumes nothing.
use Rattle.std.proofs.Common.{◌≡◌, ◌∙◌, ℕ, ◌≤◌, List, length, take, get_or, refl, ap, arith, Ok, Err}
use Rattle.std.proofs.lemmas.List.{get_or-take, length-take-le}
use Rattle.listing.specs.Listing.{lines_of}
use Rattle.listing.proofs.Rows.{lines_same}
use Rattle.model.specs.Answers.{Answer}
use Rattle.report.specs.Calls.{count_line}
use Rattle.runoff.specs.declared.Plot.{Plot}
use Rattle.window.specs.Refused.{windows_refusal}
use Rattle.window.specs.Window.{replied, windows_reply}
use Rattle.window.proofs.Accepted.{accepted_handed}
use Rattle.planning.specs.declared.State.{State}
use Rattle.requests.specs.Watched.{Watched, watched_reply}
use Rattle.requests.specs.Requests.{watch}
use Rattle.replies.specs.Reply.{windows_line, count_by, window_text, windows_text, reply_text}

-- The lines of as many places as there are windows.
abbrev pub lines_in : List ℕ → ℕ → List ℕ
lines_in runoffs n = lines_of n (λ k. window_text (get_or runoffs k 0) k)

pub lines_taken : (n : ℕ) (runoffs : List ℕ) → n ≤ length runoffs → lines_in (take n runoffs) (length (take n runoffs)) ≡ lines_in runoffs n
lines_taken n runoffs h =
    ap (lines_in (take n runoffs)) (length-take-le n runoffs h)
    ∙ lines_same n _ _ (λ k g. ap (λ (r : ℕ). window_text r k) (get_or-take n runoffs k 0 g))

-- The line of a moving window is that of what it came to.
pub told_line : (k : ℕ) (a : Answer) (count : ℕ) → count_line k (count_by a count) ≡ windows_line k a count
told_line k (Ok u) count = refl
told_line k (Err r) count = refl

-- A reply has no more windows than places.
few_by : (plots : List Plot) (years : List ℕ) (width : ℕ) (a : Answer) → windows_refusal plots years width ≡ a → (replied a plots years width).count ≤ 181
few_by plots years width (Ok u) e = let h = accepted_handed plots years width e in omega (arith, h.width_from, h.years_to)
few_by plots years width (Err r) e = omega arith

pub few_windows : (plots : List Plot) (years : List ℕ) (width : ℕ) → (windows_reply plots years width).count ≤ 181
few_windows plots years width = few_by plots years width (windows_refusal plots years width) refl

-- The lines of a moving window follow from its answer.
lines_by : (k : ℕ) (a : Answer) (plots : List Plot) (years : List ℕ) (width : ℕ)
    → windows_text k (replied a plots years width) ≡ windows_text k (replied (replied a plots years width).answer plots years width)
lines_by k (Ok u) plots years width = refl
lines_by k (Err r) plots years width = refl

pub windows_said : (k : ℕ) (st : State) (w : Watched) → windows_text k (watched_reply w) ≡ reply_text k st (watch w)
windows_said k st w = lines_by k (windows_refusal w.plots w.years w.width) w.plots w.years w.width
