-- The steps of a loop over the register that adds its titles up. Assumes nothing.
use Prim.Native.Nat.{ℕ, ◌+◌, ◌≤◌}
use mathlib.Core.Path.{◌≡◌, refl, sym, ap, ◌∙◌}
use mathlib.Core.Bool.{true, false}
use mathlib.Core.List.{List}
use lib.ListN.{get_or, replicate, get_or-replicate}
use native.Mathlib.Omega.{arith}
use Rattle.model.specs.declared.Place.{Place}
use Rattle.model.specs.Fresh.{empty_place}
use Rattle.titles.specs.Slot.{Slot, Extraction, Exports, Imports, Returns, WellExtraction}
use Rattle.titles.specs.declared.Sums.{Sums}
use Rattle.titles.specs.Posting.{Posting, nothing, posts}
use Rattle.titles.specs.Adds.{place_adds}
use Rattle.titles.specs.Titled.{Titled, HasRoom, Raised, AllHaveRoom, RaisedAll, TitledAll, no_sums}
use Rattle.titles.proofs.Adding.{places_none, places_more, in_force_lem, out_of_force}

-- Sums to which nothing is posted stay as they are.
pub raised_none : (xs : List ℕ) → HasRoom xs → Raised xs nothing xs
raised_none xs r = record { places = r.places; within = λ j. omega arith; sums = λ j h. omega arith }

-- What holds of each of the five entries holds of all of them.
by_slot : (P : Slot → Type 0) → P Extraction → P Exports → P Imports → P Returns → P WellExtraction → (s : Slot) → P s
by_slot P a b c d e Extraction = a
by_slot P a b c d e Exports = b
by_slot P a b c d e Imports = c
by_slot P a b c d e Returns = d
by_slot P a b c d e WellExtraction = e

-- Each of the five entries has room where all have.
pub record Rooms (r : Sums) : Type 0 where
  pub extraction : HasRoom r.extraction
  pub exports : HasRoom r.exports
  pub imports : HasRoom r.imports
  pub returns : HasRoom r.returns
  pub wells : HasRoom r.wells

pub rooms : {r : Sums} → AllHaveRoom r → Rooms r
rooms h =
    record {
      extraction = h Extraction;
      exports = h Exports;
      imports = h Imports;
      returns = h Returns;
      wells = h WellExtraction;
    }

module _ (titles : List Place) where
  -- Before the first place the sums are all 0.
  titled_none : (s : Slot) → Titled titles 0 s (replicate 64 0)
  titled_none s =
      record {
        places = refl;
        sums = λ j h. get_or-replicate {A = ℕ} 64 j 0 0 h ∙ sym (places_none s j (λ k. get_or titles k empty_place));
        within = λ j h. omega (arith, get_or-replicate {A = ℕ} 64 j 0 0 h);
      }

  pub all_none : TitledAll titles 0 no_sums
  all_none =
      by_slot _ (titled_none Extraction) (titled_none Exports) (titled_none Imports) (titled_none Returns) (titled_none WellExtraction)

  module _ (n : ℕ) where
    -- What stands for up to 256 places leaves room.
    pub all_have_room : (xs : Sums) → n ≤ 256 → TitledAll titles n xs → AllHaveRoom xs
    all_have_room xs h t s = record { places = (t s).places; room = λ j l. omega (arith, (t s).within j l) }

    -- One more place's posting is added.
    titled_more : (s : Slot) (xs r : List ℕ) (p : Posting) → Titled titles n s xs
        → ((j : ℕ) → posts p j ≡ place_adds (get_or titles n empty_place) s j) → Raised xs p r → Titled titles (n + 1) s r
    titled_more s xs r p t e raised =
        record {
          places = raised.places;
          sums =
              λ j h. omega (arith, raised.sums j h, t.sums j h, places_more s j n (λ k. get_or titles k empty_place), e j);
          within = λ j h. omega (arith, raised.within j, raised.sums j h, t.within j h);
        }

    -- A place whose title is in force adds what that posts, and any other nothing.
    pub all_more : (xs r : Sums) (p : Place) → p ≡ get_or titles n empty_place → p.in_force ≡ true → TitledAll titles n xs
        → RaisedAll p.title xs r → TitledAll titles (n + 1) r
    all_more xs r p e f t raised s =
        titled_more s _ _ _ (t s) (λ j. sym (in_force_lem s j p f) ∙ ap (λ (z : Place). place_adds z s j) e) (raised s)

    pub all_kept : (xs : Sums) (p : Place) → p ≡ get_or titles n empty_place → p.in_force ≡ false → n ≤ 256 → TitledAll titles n xs
        → TitledAll titles (n + 1) xs
    all_kept xs p e f h t s =
        titled_more s _ _ nothing (t s) (λ j. sym (out_of_force s j p f) ∙ ap (λ (z : Place). place_adds z s j) e)
        (raised_none _ (all_have_room xs h t s))
