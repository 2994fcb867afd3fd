-- What the moving window promises. Assumes nothing.
use mathlib.Core.Logic.{◌↔◌}
use mathlib.Core.Path.{subst⁻¹}
use lib.ListN.{length-replicate}
use Rattle.std.proofs.Common.{◌≡◌, ◌∙◌, ℕ, ◌<◌, List, length, take, sym, ap, refl, arith, ◌≤◌, Ok, Err, get_or}
use Rattle.std.proofs.lemmas.Bool.{lt-ltb, le-ltb, ne_eqb}
use Rattle.std.proofs.lemmas.List.{take_all, length-take-le}
use Rattle.laws.proofs.Arrays.{get_or_empty, table_filled}
use Rattle.laws.proofs.Cases.{by_bool, by_lt}
use Rattle.model.specs.declared.Refusal.{Refusal}
use Rattle.model.specs.declared.Refusal.TheVariants.{BadWindow, TooMany}
use Rattle.model.specs.Answers.{Answer, refuse}
use Rattle.model.proofs.Answers.{by_answer}
use Rattle.runoff.specs.declared.Plot.{Plot}
use Rattle.window.specs.Refused.{bad_window, windows_refusal}
use Rattle.window.specs.Window.{window_runoff, window_count, window_limit, windows_reply, replied}
use Rattle.window.specs.Handed.{Handed, EachWindow, NoWindow}
use Rattle.window.proofs.Accepted.{accepted_handed, handed_accepted}
use Rattle.window.proofs.Means.{window_runoff_within}

-- The answer of a reply is the answer that it is made from.
replied_answer : (a : Answer) (plots : List Plot) (years : List ℕ) (width : ℕ) → (replied a plots years width).answer ≡ a
replied_answer (Ok u) plots years width = refl
replied_answer (Err r) plots years width = refl

module _ (plots : List Plot) (years : List ℕ) (width : ℕ) where
  -- Accepted is exactly what may be handed in.
  pub accepted_exactly : ((windows_reply plots years width).answer ≡ Ok tt) ↔ Handed plots years width
  accepted_exactly =
      let answer = replied_answer (windows_refusal plots years width) plots years width in
      (λ e. accepted_handed plots years width (sym answer ∙ e), λ h. answer ∙ handed_accepted plots years width h)

  -- An accepted reply gives the natural runoff of each window.
  pub each_window : (windows_reply plots years width).answer ≡ Ok tt → EachWindow plots years width (windows_reply plots years width)
  each_window e =
      let h = accepted_exactly.0 e in
      let p = table_filled window_limit 0 (window_count years width) (window_runoff plots years width) (omega (arith, h.years_to, h.width_from)) in
      subst⁻¹ (λ (a : Answer). EachWindow plots years width (replied a plots years width)) (handed_accepted plots years width h)
      (record { number = refl; count = omega (arith, h.years_from); places = p.long; each = p.done; unused = p.rest })

  -- A refused reply gives none.
  pub no_window : (r : Refusal) → (windows_reply plots years width).answer ≡ Err r → NoWindow (windows_reply plots years width)
  no_window r e =
      subst⁻¹ (λ (a : Answer). NoWindow (replied a plots years width))
      (sym (replied_answer (windows_refusal plots years width) plots years width) ∙ e)
      (record { number = refl; count = refl; places = length-replicate {A = ℕ} window_limit 0; unused = λ i. get_or_empty {A = ℕ} window_limit i 0 })

  -- No place holds more than 10,000,000.
  pub runoff_within : (i : ℕ) → get_or (windows_reply plots years width).runoffs i 0 ≤ 10000000
  runoff_within i =
      by_answer (windows_reply plots years width).answer
      (λ e. let w = each_window e in
      let h = accepted_exactly.0 e in
      by_lt i (windows_reply plots years width).count
      (λ l. let m = window_runoff_within plots years width i h (omega (arith, w.count, h.years_from)) in omega (arith, w.each i l))
      (λ l. omega (arith, w.unused i l)))
      (λ r e. omega (arith, (no_window r e).unused i))

-- A record of more than 200 years, and more than 16 soil records, are refused whatever else is handed in.
long_refused : (plots : List Plot) (years : List ℕ) (width : ℕ) → 200 < length years → windows_refusal plots years width ≡ Err BadWindow
long_refused plots years width h =
    by_lt width 20
    (λ a. rw (lt-ltb width 20 a))
    (λ a. by_lt 50 width
    (λ b. rw (le-ltb width 20 a, lt-ltb 50 width b))
    (λ b. rw (le-ltb width 20 a, le-ltb 50 width b, le-ltb (length years) width (omega arith), lt-ltb 200 (length years) h)))

many_refused : (plots : List Plot) (years : List ℕ) (width : ℕ) → 16 < length plots
    → windows_refusal plots years width ≡ refuse BadWindow (bad_window width (length years)) (Err TooMany)
many_refused plots years width h = rw (ne_eqb (length plots) 0 (omega arith), lt-ltb 16 (length plots) h)

-- Refused under one number, two replies are one.
refused_alike : (r : Refusal) (plots others : List Plot) (years rest : List ℕ) (width : ℕ) → windows_refusal plots years width ≡ Err r
    → windows_refusal others rest width ≡ Err r → windows_reply plots years width ≡ windows_reply others rest width
refused_alike r plots others years rest width e g =
    ap (λ (a : Answer). replied a plots years width) e ∙ sym (ap (λ (a : Answer). replied a others rest width) g)

many_alike : (plots others : List Plot) (years : List ℕ) (width : ℕ) → 16 < length plots → 16 < length others
    → windows_reply plots years width ≡ windows_reply others years width
many_alike plots others years width h g =
    by_bool (bad_window width (length years)) (λ b. alike BadWindow (λ i. refuse BadWindow (b i) (Err TooMany)))
    (λ b. alike TooMany (λ i. refuse BadWindow (b i) (Err TooMany)))
  where
    alike : (r : Refusal) → refuse BadWindow (bad_window width (length years)) (Err TooMany) ≡ Err r
        → windows_reply plots years width ≡ windows_reply others years width
    alike r e = refused_alike r plots others years years width (many_refused plots years width h ∙ e) (many_refused others years width g ∙ e)

-- A caller that hands in no more than the first 17 soil records and the first 201 years has the same reply.
pub cut_alike : (plots : List Plot) (years : List ℕ) (width : ℕ) → windows_reply plots years width ≡ windows_reply (take 17 plots) (take 201 years) width
cut_alike plots years width =
    by_lt 200 (length years)
    (λ h. refused_alike BadWindow plots (take 17 plots) years (take 201 years) width (long_refused plots years width h)
    (long_refused (take 17 plots) (take 201 years) width (omega (arith, length-take-le 201 years (omega arith)))))
    (λ h. rw (take_all 201 years (omega arith))
    (by_lt 16 (length plots)
    (λ g. many_alike plots (take 17 plots) years width g (omega (arith, length-take-le 17 plots (omega arith))))
    (λ g. rw (take_all 17 plots (omega arith)))))
