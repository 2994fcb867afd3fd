-- Names: when two are the same, and which are kept. Assumes nothing.
use Rattle.std.specs.Prelude.{Option, Some, None}
use Rattle.std.specs.Option.{is_some}
use Prim.Native.Nat.{ℕ}
use mathlib.Core.Path.{◌≡◌, sym, ap, ◌∙◌}
use mathlib.Core.Logic.{◌↔◌}
use mathlib.Core.Bool.{Bool, true, false, not}
use mathlib.Core.List.{List}
use Rattle.std.specs.Cmp.Lexicographic.{bytes_decides}
use Rattle.std.proofs.lemmas.Cmp.{nat_list_eq_equiv}
use Rattle.laws.specs.Sum.{every}
use Rattle.laws.proofs.Every.{each_every, every_fails}
use Rattle.river.proofs.Firsts.{nothing_passed, at_first}
use Rattle.planning.specs.declared.Name.{Name}
use Rattle.planning.specs.Names.{same_name, place_of}

-- A name is the same as itself; names that are the same are so either way round, and through a third.
pub same_self : (a : Name) → same_name a a ≡ true
same_self a = nat_list_eq_equiv.refl a.bytes

pub same_sym : (a b : Name) → same_name a b ≡ true → same_name b a ≡ true
same_sym a b e = nat_list_eq_equiv.symm b.bytes a.bytes ∙ e

pub same_through : (a b c : Name) → same_name a b ≡ true → same_name b c ≡ true → same_name a c ≡ true
same_through a b c e f = nat_list_eq_equiv.congr a.bytes b.bytes c.bytes e ∙ f

-- Two names are the same exactly when they are equal.
pub same_exactly : (a b : Name) → (same_name a b ≡ true) ↔ (a ≡ b)
same_exactly a b = (
  λ e. ap (λ (l : List ℕ). record { bytes = l }) ((bytes_decides a.bytes b.bytes).0 e),
  λ e. (bytes_decides a.bytes b.bytes).1 (ap (λ (n : Name). n.bytes) e),
)

-- No place before one has a name exactly where the search of the name among them finds nothing.
none_before : (names : ℕ → Name) (k : ℕ) (n : Name) → place_of names k n ≡ None → every k (λ j. not (same_name (names j) n)) ≡ true
none_before names k n e = each_every _ k (λ j h. ap not (nothing_passed _ k e j h))

some_before : (names : ℕ → Name) (k i : ℕ) (n : Name) → place_of names k n ≡ Some i → every k (λ j. not (same_name (names j) n)) ≡ false
some_before names k i n e = let f = at_first _ k i e in every_fails _ k i f.0 (ap not f.2)

pub new_by : (names : ℕ → Name) (k : ℕ) (n : Name) (f : Option ℕ) (new : Bool) → place_of names k n ≡ f → is_some f ≡ not new
    → new ≡ every k (λ j. not (same_name (names j) n))
new_by names k n (Some i) true e p = cc
new_by names k n (Some i) false e p = sym (some_before names k i n e)
new_by names k n None true e p = sym (none_before names k n e)
new_by names k n None false e p = cc
