-- Laws of texts written into a buffer: one after another, wider bounds, and what is then in front. Assumes nothing.
use mathlib.Core.Path.{◌≡◌, refl, sym, ap, ◌∙◌}
use mathlib.Core.List.{List, [], ◌∷◌, ◌++◌, append_assoc}
use Prim.Native.Nat.{ℕ, ◌+◌, ◌≤◌, ◌<◌}
use native.Mathlib.Nat.{add_assoc, le_refl}
use native.Mathlib.Numerals.{add-one}
use native.Mathlib.Omega.{arith}
use lib.ListN.{length, take, drop, set, length-append}
use Rattle.std.proofs.Common.{length-set}
use borrow.Rule.Slice.PartMut.{put_mid}
use Rattle.std.proofs.lemmas.Slice.{put_mid-paste}
use lib.Seq.{paste, paste-zero, take-length, length-take-le, length-paste, take-paste, drop-paste, drop-drop, set_split, append_snoc}
use Rattle.text.specs.Text.{written, Written}

written_parts : (old : List ℕ) (at : ℕ) (text : List ℕ) → written old at text ≡ take at old ++ text ++ drop (at + length text) old
unfolding written
written_parts old at text = refl

-- a text written is a copy of all its bytes
pub written_paste : (old : List ℕ) (at : ℕ) (text : List ℕ) → written old at text ≡ paste old at text (length text)
unfolding written
written_paste old at text = rw take-length

module _ (old : List ℕ) (at : ℕ) (text : List ℕ) (fits : at + length text ≤ length old) where
  pub written_length : length (written old at text) ≡ length old
  written_length = rw written_paste (length-paste old at text (length text) fits (le_refl _))

  pub written_front : take (at + length text) (written old at text) ≡ take at old ++ text
  written_front =
      rw written_paste
      (take-paste old at text (length text) (omega arith) (le_refl _) ∙ rw take-length)

  written_behind : drop (at + length text) (written old at text) ≡ drop (at + length text) old
  written_behind = rw written_paste (drop-paste old at text (length text) (omega arith) (le_refl _))

  pub written_again : (more : List ℕ) → written (written old at text) (at + length text) more ≡ written old at (text ++ more)
  written_again more =
      written_parts (written old at text) (at + length text) more
      ∙ ap (λ (l : List ℕ). l ++ more ++ drop (at + length text + length more) (written old at text)) written_front
      ∙ ap (λ (l : List ℕ). take at old ++ text ++ more ++ l) behind
      ∙ (simp (append_assoc, length-append, add_assoc))
      ∙ sym (written_parts old at (text ++ more))
    where
      behind : drop (at + length text + length more) (written old at text) ≡ drop (at + length text + length more) old
      behind =
          sym (drop-drop (length more) (at + length text) (written old at text))
          ∙ ap (λ (l : List ℕ). drop (length more) l) written_behind
          ∙ drop-drop (length more) (at + length text) old

-- no text at all
pub nothing : (old : List ℕ) (at : ℕ) → at ≤ length old → Written 0 old at [] old at
nothing old at h = record {
  short = omega arith;
  fits = omega arith;
  buffer = paste-zero old at [] ∙ sym (written_paste old at []);
  place = omega arith;
}

module _ {m : ℕ} {old : List ℕ} {at : ℕ} {s mid : List ℕ} {n : ℕ} (first : Written m old at s mid n) where
  -- a wider bound on the text's length
  pub widen : {k : ℕ} → m ≤ k → Written k old at s mid n
  widen h = record { short = omega arith; fits = first.fits; buffer = first.buffer; place = first.place }

  -- the same text, given in another way
  pub restate : {t : List ℕ} → s ≡ t → Written m old at t mid n
  restate e = rw (← e) first

  -- the buffer keeps its length
  pub kept_length : length mid ≡ length old
  kept_length = ap length first.buffer ∙ written_length old at s first.fits

  -- the text stands in front of the next place
  pub front : take n mid ≡ take at old ++ s
  front = rw (first.buffer, first.place) (written_front old at s first.fits)

  -- the next place counts bytes at the start of the buffer, as `&out[..next]` asks
  pub counts : (n ≤ length mid) × (n ≡ length (take n mid))
  counts = let inside : n ≤ length mid = omega (arith, kept_length) in (inside, sym (length-take-le n mid inside))

  -- one text and then another are the two together
  pub then : {k : ℕ} {t new : List ℕ} {r : ℕ} → Written k mid n t new r → Written (m + k) old at (s ++ t) new r
  then second = record {
    short = rw length-append (omega arith);
    fits = rw length-append (omega (arith, kept_length));
    buffer =
        second.buffer
        ∙ (rw (first.buffer, first.place) (written_again old at s first.fits _));
    place = rw length-append (omega arith);
  }

-- one byte stored
pub byte_stored : (old : List ℕ) (at b : ℕ) → at < length old → Written 1 old at (b ∷ []) (set old at b) (at + 1)
byte_stored old at b h = record {
  short = omega arith;
  fits = omega arith;
  buffer = set_split old at b h ∙ sym (written_parts old at (b ∷ []) ∙ append_snoc (take at old) b _ ∙ (rw add-one));
  place = refl;
}

-- what a store of one byte needs
pub ruleset stores = (byte_stored, length-set)

-- all bytes of a text copied over a part of its length
pub word_stored : (old : List ℕ) (at n : ℕ) (text part : List ℕ) → at + length text ≤ length old → n ≡ length text → part ≡ text
    → Written (length text) old at text (put_mid at n old part) (at + length text)
word_stored old at n text part h k e = record {
  short = le_refl _;
  fits = h;
  buffer = put_mid-paste at n old part text (length text) e (omega arith) refl ∙ sym (written_paste old at text);
  place = refl;
}
