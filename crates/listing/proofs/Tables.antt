-- The table of a balance, from the reply of its figures. Assumes nothing.
use Rattle.std.specs.Prelude.{Ok, Err}
use Prim.Native.Nat.{ℕ, ◌≤◌, ◌<◌}
use mathlib.Core.Path.{◌≡◌, sym, ap, ◌∙◌}
use mathlib.Core.Bool.{Bool, true, false, cond}
use mathlib.Core.List.{List, [], ◌++◌}
use lib.ListN.{length}
use native.Mathlib.Omega.{arith}
use borrow.Author.Tests.{lt-ltb, le-ltb}
use Rattle.laws.proofs.Cases.{by_bool}
use Rattle.model.specs.declared.Refusal.{Refusal}
use Rattle.model.specs.declared.Refusal.TheVariants.{Unsound}
use Rattle.model.specs.Answers.{Answer, number}
use Rattle.model.specs.View.{View}
use Rattle.figures.specs.Figures.{unit_figures, all_unit_figures, aquifer_figures, all_aquifer_figures}
use Rattle.basin.specs.Sound.{sound}
use Rattle.basin.specs.declared.Figures.{Figures}
use Rattle.basin.specs.Figures.{figures_reply}
use Rattle.basin.proofs.Soundness.{soundness}
use Rattle.book.specs.Reading.{opened}
use Rattle.report.specs.Lines.{refused_line}
use Rattle.listing.specs.Listing.{lines_of, unit_text, aquifer_text, table_text, run_text, answer_text, printed}

-- A reply is accepted exactly when the balance is sound.
pub figures_sound : (v : View) → (figures_reply v).answer ≡ Ok tt → sound v ≡ true
figures_sound v e = by_bool (sound v) (λ q. q) (λ q. let z : Err Unsound ≡ Ok tt = rw q at e in let w : ◌≡◌ {A = ℕ} 0 1 = cc in absurd (omega arith))

pub refused_unsound : (v : View) (n : Refusal) → (figures_reply v).answer ≡ Err n → sound v ≡ false
refused_unsound v n e = by_bool (sound v) (λ q. let z : (Ok tt) ≡ Err n = rw q at e in let w : ◌≡◌ {A = ℕ} 0 1 = cc in absurd (omega arith)) (λ q. q)

module _ (v : View) (s : sound v ≡ true) where
  pub few_units : v.units ≤ 64
  few_units = (soundness v s).few_units

  pub few_aquifers : v.aquifers ≤ 32
  few_aquifers = (soundness v s).few_aquifers

  pub units_are : (r : Figures) → r ≡ figures_reply v → r.units ≡ all_unit_figures v
  units_are r e = let us : r.units ≡ (figures_reply v).units = ap (λ (x : Figures). x.units) e in rw s at us

  pub aquifers_are : (r : Figures) → r ≡ figures_reply v → r.aquifers ≡ all_aquifer_figures v
  aquifers_are r e = let ws : r.aquifers ≡ (figures_reply v).aquifers = ap (λ (x : Figures). x.aquifers) e in rw s at ws

  pub table_is : lines_of v.units (λ k. unit_text (unit_figures v k) k) ++ lines_of v.aquifers (λ k. aquifer_text (aquifer_figures v k) k) ≡ table_text v
  table_is = rw s

pub no_table : (v : View) → sound v ≡ false → [] ≡ table_text v
no_table v s = rw s

-- What is printed for a book, by its length and its answer.
pub printed_long : (s : List ℕ) → 65536 < length s → refused_line 21 65536 ≡ printed s
printed_long s h = rw (lt-ltb 65536 (length s) h)

module _ (s : List ℕ) (h : length s ≤ 65536) (a : Answer) (e : (opened s).answer ≡ a) where
  by_answer : answer_text s a (opened s).place (opened s).balance ≡ printed s
  by_answer =
      sym (ap (λ (t : Bool). cond t (refused_line 21 65536) (answer_text s (opened s).answer (opened s).place (opened s).balance)) (le-ltb 65536 (length s) h)
      ∙ ap (λ (x : Answer). answer_text s x (opened s).place (opened s).balance) e)

pub printed_accepted : (s : List ℕ) → length s ≤ 65536 → (opened s).answer ≡ Ok tt → run_text s (opened s).place (opened s).balance ≡ printed s
printed_accepted s h e = by_answer s h (Ok tt) e

pub printed_refused : (s : List ℕ) (n : Refusal) → length s ≤ 65536 → (opened s).answer ≡ Err n → refused_line (number n) (opened s).place ≡ printed s
printed_refused s n h e = by_answer s h (Err n) e
