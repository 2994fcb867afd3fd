-- What opening, keeping and going back promise of every state. Assumes nothing.
use Rattle.std.specs.Prelude.{Option, Some, None, Ok, Err}
use Prim.Native.Nat.{ℕ, ◌+◌, ◌<◌}
use mathlib.Core.Path.{◌≡◌, refl, sym, ap, subst⁻¹, ◌∙◌}
use mathlib.Core.Logic.{◌↔◌}
use mathlib.Core.Bool.{true, not}
use mathlib.Core.List.{List}
use lib.ListN.{length, get_or, set, length-set}
use lib.Seq.{get_or-set_same, get_or-set_other}
use native.Mathlib.Omega.{arith}
use Rattle.laws.specs.Sum.{every}
use Rattle.laws.proofs.Cases.{by_bool, by_eq, by_lt}
use Rattle.laws.proofs.Every.{every_each, each_every}
use Rattle.model.specs.declared.Refusal.{Refusal}
use Rattle.model.specs.declared.Balance.{Balance}
use Rattle.model.specs.Answers.{Answer}
use Rattle.model.specs.View.{view_of}
use Rattle.river.proofs.Firsts.{nothing_passed}
use Rattle.basin.specs.Sound.{sound}
use Rattle.book.proofs.Promises.{opening_sound}
use Rattle.planning.specs.declared.Name.{Name}
use Rattle.planning.specs.declared.Kept.{Kept}
use Rattle.planning.specs.declared.State.{State}
use Rattle.planning.specs.declared.Reply.{Reply}
use Rattle.planning.specs.Names.{place_limit, same_name, place_of, distinct}
use Rattle.planning.specs.State.{Sized, no_kept, name_at, kept_sound, sound_state}
use Rattle.planning.specs.Calls.{place_in, keep_refusal, back_refusal, kept_in, keeping, returned_to, going_back, replied, keep_reply, back_reply, opened_state}
use Rattle.planning.proofs.Replying.{standing, stands, keep_faulty, keep_again, keep_fifth, keep_new, back_faulty, back_none, back_to, place_within}

-- Nothing kept is sound, and no name is kept twice.
none_sound : (kept : List Kept) → kept_sound kept 0 ≡ true
unfolding kept_sound every
none_sound kept = refl

none_twice : (names : ℕ → Name) → distinct names 0 ≡ true
unfolding distinct every
none_twice names = refl

-- Opening never hands out a state that falls under 0, whether the book is accepted or refused.
pub opened_sound : (s : List ℕ) → sound_state (opened_state s).state ≡ true
opened_sound s =
    stands (opened_state s).state (record { current = opening_sound s; few = omega arith; kept = none_sound _; apart = none_twice _ })

-- A sound balance that is put in a place leaves all in use sound.
kept_put : (kept : List Kept) (n m k : ℕ) (x : Kept) → k < length kept → sound (view_of x.balance) ≡ true → kept_sound kept n ≡ true
    → ((j : ℕ) → j < m → (j ≡ k → ⊥) → j < n) → kept_sound (set kept k x) m ≡ true
unfolding kept_sound
kept_put kept n m k x h e all used =
    each_every _ m
    (λ j g.
    by_eq j k
    (λ q. subst⁻¹ (λ (y : Kept). sound (view_of y.balance) ≡ true) (ap (λ (i : ℕ). get_or (set kept k x) i no_kept) q ∙ get_or-set_same kept k x _ h) e)
    (λ q. subst⁻¹ (λ (y : Kept). sound (view_of y.balance) ≡ true) (get_or-set_other kept k j x _ q) (every_each _ n all j (used j g q))))

-- Names that are all different stay so where one is put in its own place.
names_same : (kept : List Kept) (k : ℕ) (b : Balance) → k < length kept → name_at (set kept k (record { name = name_at kept k; balance = b })) ≡ name_at kept
names_same kept k b h = λ i j. each j i
  where
    each : (j : ℕ) → name_at (set kept k (record { name = name_at kept k; balance = b })) j ≡ name_at kept j
    each j =
        by_eq j k
        (λ q. rw q (ap (λ (x : Kept). x.name) (get_or-set_same kept k _ _ h)))
        (λ q. ap (λ (x : Kept). x.name) (get_or-set_other kept k j _ _ q))

-- A name that is not yet kept leaves all names different.
names_put : (kept : List Kept) (n : ℕ) (x : Kept) → n < length kept → distinct (name_at kept) n ≡ true → place_of (name_at kept) n x.name ≡ None
    → distinct (name_at (set kept n x)) (n + 1) ≡ true
unfolding distinct
names_put kept n x h all new =
    each_every _ (n + 1)
    (λ k g.
    each_every _ k
    (λ j i.
    let other : name_at (set kept n x) j ≡ name_at kept j = ap (λ (y : Kept). y.name) (get_or-set_other kept n j x _ (λ q. omega arith)) in
    by_eq k n
    (λ q.
    (λ t. not (same_name (other t) ((ap (name_at (set kept n x)) q ∙ ap (λ (y : Kept). y.name) (get_or-set_same kept n x _ h)) t)))
    ∙ ap not (nothing_passed _ n new j (omega arith)))
    (λ q.
    let here : name_at (set kept n x) k ≡ name_at kept k = ap (λ (y : Kept). y.name) (get_or-set_other kept n k x _ q) in
    (λ t. not (same_name (other t) (here t))) ∙ every_each _ k (every_each _ n all k (omega arith)) j i)))

module _ (s : State) (n : Name) (z : Sized s) (e : sound_state s ≡ true) where
  kept_again_sound : (k : ℕ) → place_in s n ≡ Some k → sound_state (keep_reply s n).state ≡ true
  kept_again_sound k p =
      let w = standing s e in
      let h = place_within s n k p in
      let l : k < length s.kept = omega (arith, z.kept, w.few) in
      subst⁻¹ (λ (r : Reply). sound_state r.state ≡ true) (keep_again s n e k p)
      (stands _
      (record {
        current = w.current;
        few = w.few;
        kept = kept_put s.kept s.count s.count k _ l w.current w.kept (λ j g q. g);
        apart = ap (λ (f : ℕ → Name). distinct f s.count) (names_same s.kept k s.balance l) ∙ w.apart;
      }))

  kept_new_sound : place_in s n ≡ None → s.count < place_limit → sound_state (keep_reply s n).state ≡ true
  kept_new_sound p h =
      let w = standing s e in
      let l : s.count < length s.kept = omega (arith, z.kept) in
      subst⁻¹ (λ (r : Reply). sound_state r.state ≡ true) (keep_new s n e p h)
      (stands _
      (record {
        current = w.current;
        few = omega arith;
        kept = kept_put s.kept s.count (s.count + 1) s.count _ l w.current w.kept (λ j g q. omega arith);
        apart = names_put s.kept s.count _ l w.apart p;
      }))

  kept_sound_by : (f : Option ℕ) → place_in s n ≡ f → sound_state (keep_reply s n).state ≡ true
  kept_sound_by (Some k) p = kept_again_sound k p
  kept_sound_by None p =
      by_lt s.count place_limit (kept_new_sound p)
      (λ h. subst⁻¹ (λ (r : Reply). sound_state r.state ≡ true) (keep_fifth s n e p h) e)

  back_sound_by : (f : Option ℕ) → place_in s n ≡ f → sound_state (back_reply s n).state ≡ true
  unfolding kept_sound
  back_sound_by (Some k) p =
      let w = standing s e in
      subst⁻¹ (λ (r : Reply). sound_state r.state ≡ true) (back_to s n e k p)
      (stands _ (record { current = every_each _ s.count w.kept k (place_within s n k p); few = w.few; kept = w.kept; apart = w.apart }))
  back_sound_by None p = subst⁻¹ (λ (r : Reply). sound_state r.state ≡ true) (back_none s n e p) e

-- Keeping and going back hand back a state that is sound exactly if the one handed in is.
module _ (s : State) (n : Name) (z : Sized s) where
  pub keep_keeps : sound_state (keep_reply s n).state ≡ sound_state s
  keep_keeps =
      by_bool (sound_state s)
      (λ e. kept_sound_by s n z e (place_in s n) refl ∙ sym e)
      (λ e. ap (λ (r : Reply). sound_state r.state) (keep_faulty s n e))

  pub back_keeps : sound_state (back_reply s n).state ≡ sound_state s
  back_keeps =
      by_bool (sound_state s)
      (λ e. back_sound_by s n z e (place_in s n) refl ∙ sym e)
      (λ e. ap (λ (r : Reply). sound_state r.state) (back_faulty s n e))

-- What a reply says: accepted exactly if no refusal applies; refused, the state is the old one.
replied_exactly : (r : Answer) (old new : State) → ((replied r old new).answer ≡ Ok tt) ↔ (r ≡ Ok tt)
replied_exactly (Ok u) old new = (λ e. refl, λ e. refl)
replied_exactly (Err k) old new = (λ e. cc, λ e. cc)

replied_refused : (r : Answer) (old new : State) (k : Refusal) → (replied r old new).answer ≡ Err k → (replied r old new).state ≡ old
replied_refused (Ok u) old new k e = cc
replied_refused (Err m) old new k e = refl

-- On every state keeping and going back are accepted exactly when none of their refusals applies, 0 included.
pub keep_accepted_exactly : (s : State) (n : Name) → ((keep_reply s n).answer ≡ Ok tt) ↔ (keep_refusal s n ≡ Ok tt)
keep_accepted_exactly s n = replied_exactly (keep_refusal s n) s (keeping s n)

pub back_accepted_exactly : (s : State) (n : Name) → ((back_reply s n).answer ≡ Ok tt) ↔ (back_refusal s n ≡ Ok tt)
back_accepted_exactly s n = replied_exactly (back_refusal s n) s (going_back s n)

-- A refused one hands back the very state that was handed in.
pub keep_refused_lem : (s : State) (n : Name) (k : Refusal) → (keep_reply s n).answer ≡ Err k → (keep_reply s n).state ≡ s
keep_refused_lem s n k e = replied_refused (keep_refusal s n) s (keeping s n) k e

pub back_refused_lem : (s : State) (n : Name) (k : Refusal) → (back_reply s n).answer ≡ Err k → (back_reply s n).state ≡ s
back_refused_lem s n k e = replied_refused (back_refusal s n) s (going_back s n) k e

-- Keeping leaves the current balance, and both leave as many places as there were.
replied_holds : (P : State → Type 0) (r : Answer) (old new : State) → P old → P new → P (replied r old new).state
replied_holds P (Ok u) old new a b = b
replied_holds P (Err k) old new a b = a

kept_in_stays : (s : State) (n : Name) (f : Option ℕ) → ((kept_in s n f).balance ≡ s.balance) × (length (kept_in s n f).kept ≡ length s.kept)
kept_in_stays s n (Some k) = (refl, length-set s.kept k _)
kept_in_stays s n None = (refl, length-set s.kept s.count _)

returned_to_stays : (s : State) (f : Option ℕ) → length (returned_to s f).kept ≡ length s.kept
returned_to_stays s (Some k) = refl
returned_to_stays s None = refl

pub keep_stays : (s : State) (n : Name) → ((keep_reply s n).state.balance ≡ s.balance) × (length (keep_reply s n).state.kept ≡ length s.kept)
keep_stays s n =
    replied_holds (λ x. (x.balance ≡ s.balance) × (length x.kept ≡ length s.kept)) (keep_refusal s n) s (keeping s n) (refl, refl)
    (kept_in_stays s n (place_in s n))

pub back_stays : (s : State) (n : Name) → length (back_reply s n).state.kept ≡ length s.kept
back_stays s n =
    replied_holds (λ x. length x.kept ≡ length s.kept) (back_refusal s n) s (going_back s n) refl (returned_to_stays s (place_in s n))
