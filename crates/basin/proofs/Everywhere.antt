-- What `all` and `any` answer over the numbers below one and over pairs: whether the test holds at every place, and at some place. Assumes nothing.
use Prim.Native.Nat.{ℕ, zero, suc, ◌≤◌}
use mathlib.Core.Path.{◌≡◌, refl, sym, ap, ◌∙◌}
use mathlib.Core.Bool.{Bool, true, false, not, ◌&&◌, ◌||◌}
use mathlib.Core.List.{List, [], ◌∷◌}
use lib.ListN.{length, get_or, take}
use lib.Seq.{take-length}
use denote.Param.Members.{Mut}
use native.Mathlib.Omega.{arith}
use native.Mathlib.Numerals.{add-one}
use Rattle.std.proofs.iter.Yields.{nat_range_steps}
use Rattle.std.specs.declared.option.Option.{Option}
use Rattle.std.specs.Fn.{Called}
use Rattle.std.specs.Iterator.{YieldsThen}
use Rattle.std.specs.List.{list_all, list_any, range_with_len, zip, FoldsTo}
use Rattle.std.specs.Option.{MatchOption}
use Rattle.std.specs.declared.ops.Range.{Range}
use Rattle.std.proofs.lemmas.Iterator.{YieldsList-from_range}
use Rattle.std.proofs.lemmas.Iterator.Search.{all_from_yields_List}
use Rattle.std.proofs.lemmas.List.Folds.{list_all_more}
use Rattle.std.proofs.lemmas.List.FromFn.{length-range_with_len, get_or-range_with_len}
use Rattle.std.proofs.lemmas.Slice.Zip.{length-zip, get_or-zip}
use Rattle.laws.specs.Sum.{every}
use Rattle.laws.proofs.Every.{every_same}

module _ {X : Type 0} (p : X → Bool) (xs : List X) (d : X) where
  -- A test holds of each element exactly where it holds at every place.
  taken_every : (n : ℕ) → n ≤ length xs → list_all p (take n xs) ≡ every n (λ k. p (get_or xs k d))
  unfolding every
  taken_every zero h = refl
  taken_every (suc n) h =
      ap (λ (m : ℕ). list_all p (take m xs)) (sym (add-one n))
      ∙ list_all_more p xs n d h
      ∙ (λ i. taken_every n (omega arith) i && p (get_or xs n d))

  pub all_every : list_all p xs ≡ every (length xs) (λ k. p (get_or xs k d))
  all_every = ap (list_all p) (sym (take-length xs)) ∙ taken_every (length xs) (omega arith)

-- A test of pairs holds of each of the first n pairs of two lists exactly where it holds at each of the first n places.
pub zip_taken : {A B : Type 0} (p : A × B → Bool) (ks : List A) (vs : List B) (a : A) (b : B) (n : ℕ) → n ≤ length ks → n ≤ length vs
    → list_all p (take n (zip ks vs)) ≡ every n (λ k. p (get_or ks k a, get_or vs k b))
zip_taken p ks vs a b n g h =
    taken_every p (zip ks vs) (a, b) n (omega (arith, length-zip ks vs))
    ∙ every_same n _ _ (λ k l. ap p (get_or-zip ks vs k (a, b) (omega arith) (omega arith)))

-- And of every pair where the first list is no longer than the second.
pub zip_every : {A B : Type 0} (p : A × B → Bool) (ks : List A) (vs : List B) (a : A) (b : B) → length ks ≤ length vs
    → list_all p (zip ks vs) ≡ every (length ks) (λ k. p (get_or ks k a, get_or vs k b))
zip_every p ks vs a b h =
    ap (list_all p) (sym (take-length (zip ks vs)) ∙ ap (λ (m : ℕ). take m (zip ks vs)) (length-zip ks vs ∙ omega arith))
    ∙ zip_taken p ks vs a b (length ks) (omega arith) h

-- So it does of the numbers below one.
pub below_every : (t : ℕ → Bool) (n : ℕ) → list_all t (range_with_len 0 n) ≡ every n t
below_every t n =
    all_every t (range_with_len 0 n) 0
    ∙ ap (λ (m : ℕ). every m (λ k. t (get_or (range_with_len 0 n) k 0))) (length-range_with_len 0 n)
    ∙ every_same n _ t (λ k h. ap t (get_or-range_with_len 0 n k 0 h ∙ omega arith))

-- The answer of `all` on the numbers below n, by a closure that computes a test.
pub every_from_all : {F : Type 0} {g : Mut F (ℕ × Unit {0}) Bool} {u : Range ℕ} (test : ℕ → Bool) (n : ℕ) (f : F) (r : Bool)
    → (xs : List ℕ) × (o : Option ℕ) × (j : F) × YieldsThen nat_range_steps (record { start = 0; end = n }) xs o u
    × FoldsTo (λ p x q. Called g p (x, tt) true q) f xs j × MatchOption o (r ≡ true) (λ x. (r ≡ false) × ((h : F) × Called g j (x, tt) false h))
    → ((x : ℕ) (b : Bool) (q : F) → Called g f (x, tt) b q → (q ≡ f) × (b ≡ test x)) → r ≡ every n test
every_from_all {u = u} test n f r ran answers =
    all_from_yields_List test u f r ran (YieldsList-from_range 0 n n refl (omega arith)) answers ∙ below_every test n

-- A test holds of some element exactly where it does not fail of every one.
some_not : (a b c : Bool) → b ≡ not c → (a || b) ≡ not (not a && c)
some_not true b c e = refl
some_not false b c e = e

any_every : {X : Type 0} (t : X → Bool) (xs : List X) → list_any t xs ≡ not (list_all (λ x. not (t x)) xs)
any_every t [] = refl
any_every t (x ∷ xs) = some_not (t x) _ _ (any_every t xs)

-- So a test of pairs holds of some pair of two lists, where the first is no longer than the second.
pub zip_some : {A B : Type 0} (p : A × B → Bool) (ks : List A) (vs : List B) (a : A) (b : B) → length ks ≤ length vs
    → list_any p (zip ks vs) ≡ not (every (length ks) (λ k. not (p (get_or ks k a, get_or vs k b))))
zip_some p ks vs a b h = any_every p (zip ks vs) ∙ ap not (zip_every (λ q. not (p q)) ks vs a b h)
