-- What was written of a journal, and what is left to write, are all that is printed for it. Assumes nothing.
use Prim.Native.Nat.{ℕ, ◌+◌}
use mathlib.Core.Path.{◌≡◌, refl, sym, ap, ap₂, subst, ◌∙◌}
use mathlib.Core.Bool.{Bool, true, false, cond}
use mathlib.Core.List.{List, [], ◌++◌, append_assoc}
use lib.ListN.{length, take}
use native.Mathlib.Omega.{arith}
use Rattle.std.specs.declared.option.Option.{Option}
use Rattle.std.specs.declared.result.Result.{Result}
use Rattle.std.specs.Io.KnownBytes.{Appends}
use Rattle.std.proofs.KnownBytes.{Appends-nil, Appends-trans}
use Rattle.model.specs.View.{view_of}
use Rattle.planning.specs.declared.State.{State}
use Rattle.text.specs.Text.{Written}
use Rattle.text.proofs.Writing.{front}
use Rattle.listing.specs.Listing.{table_text}
use Rattle.replay.specs.declared.Replayed.{Replayed}
use Rattle.replay.specs.Page.{Page, joined, onward, page_limit, page_of, page_within, Replied}
use Rattle.replay.specs.Journal.{begun, replies_text, journal_text}
use Rattle.transcript.proofs.Pages.{pages_join, fitting, enough_records}
use Rattle.transcript.proofs.Whole.{whole_text}
use Rattle.output.specs.Appending.{AppendsBeginning, Appended}
use Rattle.output.specs.Left.{left_text}
use Rattle.output.proofs.Beginnings.{beginning_of_more, beginning_after, appended_after}

-- Records and then others are printed one after the other.
onward_by : (t : Bool) (p q : Page) → replies_text (cond t (joined p q) p) ≡ p.text ++ cond t (replies_text q) (table_text (view_of p.state.balance))
onward_by true p q = append_assoc p.text q.text (table_text (view_of q.state.balance))
onward_by false p q = refl

onward_text : (p q : Page) → replies_text (onward p q) ≡ p.text ++ cond p.more (replies_text q) (table_text (view_of p.state.balance))
onward_text p q = onward_by p.more p q

-- How a journal begins, and what is then left.
begun_text : (s : List ℕ) → (begun s).text ++ left_text s (begun s).next 1 (begun s).state (begun s).more ≡ journal_text s
begun_text s = sym (onward_text (begun s) (page_of (length s + 1) 1 (begun s).state s (begun s).next)) ∙ sym (whole_text s)

-- A page, and what is then left.
page_text : (s : List ℕ) (at k : ℕ) (st : State) (n : ℕ) (p : Page) → p ≡ page_of n k st s at
    → p.text ++ left_text s p.next (k + p.count) p.state p.more ≡ replies_text (page_of (length s + 1) k st s at)
page_text s at k st n p e =
    let q = page_of n k st s at in
    let many : n + (length s + 1) ≡ length s + 1 + n = omega arith in
    ap (λ (x : Page). x.text ++ left_text s x.next (k + x.count) x.state x.more) e
    ∙ sym (onward_text q (page_of (length s + 1) (k + q.count) q.state s q.next))
    ∙ ap replies_text
    (sym (pages_join n (length s + 1) k st s at)
    ∙ ap (λ (m : ℕ). page_of m k st s at) many
    ∙ enough_records s n k st at)

-- What is left after records, by what the code hands back.
left_so : (s : List ℕ) (k : ℕ) (p : Page) {old new : List ℕ} (r : Replayed) → Replied p old new r
    → left_text s r.next (k + r.count) r.state r.more ≡ left_text s p.next (k + p.count) p.state p.more
left_so s k p r w = λ j. left_text s (w.next j) (k + w.count j) (w.state j) (w.more j)

-- The beginning is written, and what is then left: that is all.
pub journal_put : (s : List ℕ) {buffer out : List ℕ} (r : Replayed) → Replied (begun s) buffer out r
    → take r.length out ++ left_text s r.next 1 r.state r.more ≡ journal_text s
journal_put s r w =
    ap₂ (λ (l m : List ℕ). l ++ m) (front w.text) (λ j. left_text s (w.next j) 1 (w.state j) (w.more j)) ∙ begun_text s

-- What was written so far, and that with what is left it is all.
pub record Putting (s all : List ℕ) (old now : Option (List ℕ)) (at k : ℕ) (st : State) (more : Bool) : Type 0 where
  pub text : List ℕ
  pub appended : Appends old now text
  pub whole : text ++ left_text s at k st more ≡ all

pub putting_start : (s : List ℕ) (old : Option (List ℕ)) (at k : ℕ) (st : State) (more : Bool)
    → Putting s (left_text s at k st more) old old at k st more
putting_start s old at k st more = record { text = []; appended = Appends-nil old; whole = refl }

module _ (s all : List ℕ) (at k : ℕ) (st : State) (more : Bool) (old mid : Option (List ℕ)) (g : Putting s all old mid at k st more) where
  -- A page more, and what is then left, are what was left.
  page_left : more ≡ true → {buffer out : List ℕ} (r : Replayed) → Replied (page_within page_limit 0 k st s at) buffer out r
      → g.text ++ (take r.length out ++ left_text s r.next (k + r.count) r.state r.more) ≡ all
  page_left on r w =
      let p = page_within page_limit 0 k st s at in
      let f = fitting page_limit 0 k st s at in
      ap₂ (λ (l m : List ℕ). g.text ++ (l ++ m)) (front w.text) (left_so s k p r w)
      ∙ ap (λ (l : List ℕ). g.text ++ l) (page_text s at k st f.most p f.same)
      ∙ ap (λ (t : Bool). g.text ++ left_text s at k st t) (sym on)
      ∙ g.whole

  module _ (now : Option (List ℕ)) (on : more ≡ true) {buffer out : List ℕ} (r : Replayed) (w : Replied (page_within page_limit 0 k st s at) buffer out r) where
    -- It is written.
    pub putting_on : Appends mid now (take r.length out) → Putting s all old now r.next (k + r.count) r.state r.more
    putting_on a =
        record {
          text = g.text ++ take r.length out;
          appended = Appends-trans old mid now g.text (take r.length out) g.appended a;
          whole = append_assoc g.text (take r.length out) _ ∙ page_left on r w;
        }

    -- A beginning of it is written.
    pub putting_failed : AppendsBeginning mid now (take r.length out) → AppendsBeginning old now all
    putting_failed b =
        subst (AppendsBeginning old now) (page_left on r w)
        (beginning_after old mid now g.text _ g.appended (beginning_of_more mid now (take r.length out) _ b))

  -- The table is written, or a beginning of it, and that is all, or a beginning of all.
  pub putting_end : more ≡ false → {m n : ℕ} {buffer out : List ℕ} → Written m buffer 0 (table_text (view_of st.balance)) out n
      → (now : Option (List ℕ)) {T E : Type 0} (result : Result T E) → Appended mid now result (take n out) → Appended old now result all
  putting_end off w now result a =
      subst (Appended old now result)
      (ap (λ (l : List ℕ). g.text ++ l) (front w) ∙ ap (λ (t : Bool). g.text ++ left_text s at k st t) (sym off) ∙ g.whole)
      (appended_after old mid now g.text _ g.appended result a)
