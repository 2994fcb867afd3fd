-- Names kept in a list: where one is found, and what holds of what was asked. Assumes nothing.
use Rattle.std.specs.Prelude.{Option, Some, None, Ok}
use Prim.Native.Nat.{ℕ, zero, suc, ◌≤◌, ◌<◌}
use mathlib.Core.Path.{◌≡◌, refl, sym, ap, ◌∙◌}
use mathlib.Core.Bool.{Bool, true, false, cond, not, ◌&&◌, ◌||◌, true≢false}
use mathlib.Core.List.{List, [], ◌∷◌, ◌++◌}
use lib.Dec.{leb}
use lib.ListN.{length, length-append, get_or-append}
use lib.Seq.{get_or-append_seam}
use native.Mathlib.Omega.{arith}
use Rattle.laws.proofs.Cases.{by_bool, by_eq}
use Rattle.model.specs.declared.Refusal.TheVariants.{FifthName, NoSuchName}
use Rattle.model.specs.Answers.{refuse}
use Rattle.river.proofs.Firsts.{at_first, nothing_passed}
use Rattle.planning.specs.declared.Name.{Name}
use Rattle.planning.specs.Names.{place_limit, same_name, place_of}
use Rattle.planning.proofs.Naming.{same_sym, same_through}
use Rattle.requests.specs.Requests.{keep, back}
use Rattle.history.specs.Asked.{Asked, nothing_asked, name_at, among, unless_refused, asking}

-- A name is found in a list, or it is at no place of it.
pub data Sought (ms : List Name) (n : Name) : Type 0 where
  found : (k : ℕ) → place_of (name_at ms) (length ms) n ≡ Some k → k < length ms → same_name (name_at ms k) n ≡ true → among ms n ≡ true → Sought ms n
  absent : place_of (name_at ms) (length ms) n ≡ None → ((k : ℕ) → k < length ms → same_name (name_at ms k) n ≡ false) → among ms n ≡ false → Sought ms n

or_second : (a b : Bool) → b ≡ true → a || b ≡ true
or_second true b e = refl
or_second false b e = e

at_among : (ms : List Name) (n : Name) (k : ℕ) → k < length ms → same_name (name_at ms k) n ≡ true → among ms n ≡ true
unfolding among
at_among [] n k h e = absurd (omega arith)
at_among (m ∷ ms) n zero h e = ap (λ (t : Bool). t || among ms n) e
at_among (m ∷ ms) n (suc k) h e = or_second (same_name m n) (among ms n) (at_among ms n k (omega arith) e)

none_among : (ms : List Name) (n : Name) → ((k : ℕ) → k < length ms → same_name (name_at ms k) n ≡ false) → among ms n ≡ false
unfolding among
none_among [] n f = refl
none_among (m ∷ ms) n f = λ i. f 0 (omega arith) i || none_among ms n (λ k h. f (suc k) (omega arith)) i

sought_by : (ms : List Name) (n : Name) (f : Option ℕ) → place_of (name_at ms) (length ms) n ≡ f → Sought ms n
sought_by ms n (Some k) e = let p = at_first _ (length ms) k e in found k e p.0 p.2 (at_among ms n k p.0 p.2)
sought_by ms n None e = let p = nothing_passed _ (length ms) e in absent e p (none_among ms n p)

pub sought : (ms : List Name) (n : Name) → Sought ms n
sought ms n = sought_by ms n (place_of (name_at ms) (length ms) n) refl

-- What was asked: at most four names are kept, no two of them the same, and names that are the same have the same list of calls.
pub record Well (a : Asked) : Type 0 where
  pub few : length a.names ≤ place_limit
  pub apart : (k j : ℕ) → k < length a.names → j < k → same_name (name_at a.names j) (name_at a.names k) ≡ false
  pub steady : (m n : Name) → same_name m n ≡ true → a.line m ≡ a.line n

pub well_start : Well nothing_asked
well_start = record { few = omega arith; apart = λ k j h g. absurd (omega arith); steady = λ m n e. refl }

-- Names that are the same are both the same as a third, or neither is.
same_either : (l m n : Name) → same_name m n ≡ true → same_name m l ≡ same_name n l
same_either l m n e =
    by_bool (same_name m l)
    (λ p. p ∙ sym (same_through n m l (same_sym m n e) p))
    (λ p. by_bool (same_name n l) (λ q. absurd (true≢false (sym (same_through m n l e q) ∙ p))) (λ q. p ∙ sym q))

steady_line : (a : Asked) (l : Name) → Well a → (m n : Name) → same_name m n ≡ true
    → cond (same_name m l) a.current (a.line m) ≡ cond (same_name n l) a.current (a.line n)
steady_line a l w m n e = λ i. cond (same_either l m n e i) a.current (w.steady m n e i)

-- The names with one more at the end.
pub name_before : (ms : List Name) (n : Name) (k : ℕ) → k < length ms → name_at (ms ++ (n ∷ [])) k ≡ name_at ms k
name_before ms n k h = get_or-append ms (n ∷ []) _ k h

pub name_last : (ms : List Name) (n : Name) → name_at (ms ++ (n ∷ [])) (length ms) ≡ n
name_last ms n = get_or-append_seam ms n [] _

pub one_longer : (ms : List Name) (n : Name) → length (ms ++ (n ∷ [])) ≡ suc (length ms)
one_longer ms n = omega (arith, length-append ms (n ∷ []))

apart_more : (ms : List Name) (n : Name) → ((k j : ℕ) → k < length ms → j < k → same_name (name_at ms j) (name_at ms k) ≡ false)
    → ((k : ℕ) → k < length ms → same_name (name_at ms k) n ≡ false)
    → (k j : ℕ) → k < suc (length ms) → j < k → same_name (name_at (ms ++ (n ∷ [])) j) (name_at (ms ++ (n ∷ [])) k) ≡ false
apart_more ms n f g k j h i =
    by_eq k (length ms)
    (λ e.
    rw (e, name_last ms n, name_before ms n j (omega arith)) (g j (omega arith)))
    (λ e. rw (name_before ms n k (omega arith), name_before ms n j (omega arith)) (f k j (omega arith) i))

-- Keeping and going back by whether the name is used and whether four are kept.
abbrev keep_by : Asked → Name → Bool → Bool → Asked
keep_by a n used full =
    unless_refused (refuse FifthName (not used && full) (Ok tt))
    (record {
      current = a.current;
      names = cond used a.names (a.names ++ (n ∷ []));
      line = λ m. cond (same_name m n) a.current (a.line m);
    }) a

abbrev pub replacing : Asked → Name → Asked
replacing a n = keep_by a n true false

abbrev pub adding : Asked → Name → Asked
adding a n = keep_by a n false false

module _ (a : Asked) (n : Name) where
  pub kept_again : among a.names n ≡ true → asking a (keep n) ≡ replacing a n
  kept_again e = λ i. keep_by a n (e i) (leb place_limit (length a.names))

  pub kept_new : among a.names n ≡ false → leb place_limit (length a.names) ≡ false → asking a (keep n) ≡ adding a n
  kept_new e f = λ i. keep_by a n (e i) (f i)

  pub kept_fifth : among a.names n ≡ false → leb place_limit (length a.names) ≡ true → asking a (keep n) ≡ a
  kept_fifth e f = λ i. keep_by a n (e i) (f i)

  pub back_found : among a.names n ≡ true → asking a (back n) ≡ record { current = a.line n; names = a.names; line = a.line }
  back_found e = λ i. unless_refused (refuse NoSuchName (not (e i)) (Ok tt)) (record { current = a.line n; names = a.names; line = a.line }) a

  pub back_absent : among a.names n ≡ false → asking a (back n) ≡ a
  back_absent e = λ i. unless_refused (refuse NoSuchName (not (e i)) (Ok tt)) (record { current = a.line n; names = a.names; line = a.line }) a

  pub well_replacing : Well a → Well (replacing a n)
  well_replacing w = record { few = w.few; apart = w.apart; steady = steady_line a n w }

  pub well_adding : Well a → length a.names < place_limit → ((k : ℕ) → k < length a.names → same_name (name_at a.names k) n ≡ false)
      → Well (adding a n)
  well_adding w h f =
      record {
        few = omega (arith, one_longer a.names n);
        apart = λ k j g i. apart_more a.names n w.apart f k j (omega (arith, one_longer a.names n)) i;
        steady = steady_line a n w;
      }
