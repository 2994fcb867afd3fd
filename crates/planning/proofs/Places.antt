-- What the library says of a list, said of its places; and the places in use of a state. Assumes nothing.
use Prim.Native.Nat.{ℕ, zero, suc, ◌≤◌, ◌<◌}
use mathlib.Core.Path.{◌≡◌, refl, sym, ap, ◌∙◌}
use mathlib.Core.Bool.{Bool, not, ◌&&◌}
use mathlib.Core.List.{List}
use lib.Dec.{ltb}
use lib.ListN.{length, get_or, take}
use lib.Seq.{get_or-take, length-take-le, take-length}
use native.Mathlib.Omega.{arith}
use native.Mathlib.Numerals.{add-one}
use borrow.Author.Tests.{ltb-false}
use Rattle.std.specs.declared.option.Option.{Option}
use Rattle.std.specs.declared.option.Option.TheVariants.{Some, None}
use Rattle.std.specs.List.{list_all, position, position_or_len, range_with_len}
use Rattle.std.proofs.lemmas.List.Folds.{list_all_more}
use Rattle.std.proofs.lemmas.List.FromFn.{length-range_with_len, get_or-range_with_len}
use Rattle.std.proofs.lemmas.List.Quantifiers.{position-Some}
use Rattle.std.proofs.lemmas.List.Sums.{fails_before_first}
use Rattle.laws.specs.Sum.{every}
use Rattle.laws.proofs.Cases.{by_bool}
use Rattle.laws.proofs.Every.{every_same}
use Rattle.model.specs.Answers.{first}
use Rattle.model.specs.View.{view_of}
use Rattle.river.proofs.Firsts.{first_at, first_nothing, first_same}
use Rattle.basin.specs.Sound.{sound}
use Rattle.planning.specs.declared.Name.{Name}
use Rattle.planning.specs.declared.Kept.{Kept}
use Rattle.planning.specs.Names.{same_name, place_of, distinct}
use Rattle.planning.specs.State.{no_kept, name_at, kept_sound}

module _ {X : Type 0} (p : X → Bool) (xs : List X) (d : X) where
  -- The position of an element in a list is the first of its places.
  position_at : (i : ℕ) → position p xs ≡ Some i → first (length xs) (λ k. p (get_or xs k d)) ≡ Some i
  position_at i e = let f = position-Some p xs i d e in first_at _ (length xs) i f.0 f.2 f.1

  position_nothing : position p xs ≡ None → first (length xs) (λ k. p (get_or xs k d)) ≡ None
  position_nothing e =
      by_bool (ltb (position_or_len p xs) (length xs))
      (λ q. let z : Some (position_or_len p xs) ≡ None = rw q at e in cc)
      (λ q.
      let long : length xs ≤ position_or_len p xs = ltb-false _ _ q in
      first_nothing _ (length xs) (λ k h. fails_before_first p xs k d (omega arith)))

  position_by : (f : Option ℕ) → position p xs ≡ f → position p xs ≡ first (length xs) (λ k. p (get_or xs k d))
  position_by (Some i) e = e ∙ sym (position_at i e)
  position_by None e = e ∙ sym (position_nothing e)

  pub position_first : position p xs ≡ first (length xs) (λ k. p (get_or xs k d))
  position_first = position_by (position p xs) refl

  -- A test holds of each element exactly where it holds at every place.
  taken_every : (n : ℕ) → n ≤ length xs → list_all p (take n xs) ≡ every n (λ k. p (get_or xs k d))
  unfolding every
  taken_every zero h = refl
  taken_every (suc n) h =
      ap (λ (m : ℕ). list_all p (take m xs)) (sym (add-one n))
      ∙ list_all_more p xs n d h
      ∙ (λ i. taken_every n (omega arith) i && p (get_or xs n d))

  pub all_every : list_all p xs ≡ every (length xs) (λ k. p (get_or xs k d))
  all_every = ap (list_all p) (sym (take-length xs)) ∙ taken_every (length xs) (omega arith)

-- So it does of the numbers below one.
pub below_every : (t : ℕ → Bool) (n : ℕ) → list_all t (range_with_len 0 n) ≡ every n t
below_every t n =
    all_every t (range_with_len 0 n) 0
    ∙ ap (λ (m : ℕ). every m (λ k. t (get_or (range_with_len 0 n) k 0))) (length-range_with_len 0 n)
    ∙ every_same n _ t (λ k h. ap t (get_or-range_with_len 0 n k 0 h ∙ omega arith))

-- The places in use are the first ones of all.
module _ (kept : List Kept) (n : ℕ) (h : n ≤ length kept) where
  long : length (take n kept) ≡ n
  long = length-take-le n kept h

  held : (k : ℕ) → k < n → get_or (take n kept) k no_kept ≡ get_or kept k no_kept
  held k g = get_or-take n kept k no_kept g

  pub place_taken : (name : Name) → place_of (name_at (take n kept)) (length (take n kept)) name ≡ place_of (name_at kept) n name
  place_taken name =
      ap (λ (m : ℕ). place_of (name_at (take n kept)) m name) long
      ∙ first_same n _ _ (λ k g. ap (λ (x : Kept). same_name x.name name) (held k g))

  pub sound_taken : kept_sound (take n kept) (length (take n kept)) ≡ kept_sound kept n
  unfolding kept_sound
  sound_taken =
      ap (kept_sound (take n kept)) long
      ∙ every_same n _ _ (λ k g. ap (λ (x : Kept). sound (view_of x.balance)) (held k g))

  pub distinct_taken : distinct (name_at (take n kept)) (length (take n kept)) ≡ distinct (name_at kept) n
  unfolding distinct
  distinct_taken =
      ap (distinct (name_at (take n kept))) long
      ∙ every_same n _ _ (λ k g. every_same k _ _ (λ j l i. not (same_name (held j (omega arith) i).name (held k g i).name)))
