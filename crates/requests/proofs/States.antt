-- What a request does to the state: what ordinary calls leave, what a keeping puts under its name, and what going back brings. Assumes
-- nothing.
use Rattle.std.specs.Prelude.{Option, Some, None, Ok, Err}
use Prim.Native.Nat.{ℕ, ◌+◌, ◌<◌}
use mathlib.Core.Path.{◌≡◌, refl, sym, ap, subst⁻¹, ◌∙◌}
use mathlib.Core.Bool.{true, false, true≢false}
use mathlib.Core.List.{List, [], ◌∷◌, map}
use lib.ListN.{set}
use lib.Seq.{get_or-set_same, get_or-set_other}
use native.Mathlib.Omega.{arith}
use borrow.Author.Tests.{not-true}
use Rattle.laws.proofs.Cases.{by_bool, by_lt}
use Rattle.laws.proofs.Every.{every_each}
use Rattle.model.specs.declared.Refusal.{Refusal}
use Rattle.model.specs.declared.Balance.{Balance}
use Rattle.model.specs.declared.Call.{Call}
use Rattle.model.specs.Answers.{Answer}
use Rattle.river.proofs.Firsts.{at_first, first_at}
use Rattle.register.specs.Calls.{after}
use Rattle.planning.specs.declared.Name.{Name}
use Rattle.planning.specs.declared.Kept.{Kept}
use Rattle.planning.specs.declared.State.{State}
use Rattle.planning.specs.declared.Reply.{Reply}
use Rattle.planning.specs.Names.{place_limit, same_name, distinct}
use Rattle.planning.specs.State.{Sized, name_at, no_kept, sound_state}
use Rattle.planning.specs.Calls.{place_in, with_current, keep_reply, back_reply}
use Rattle.planning.proofs.Naming.{same_self, same_sym, same_through}
use Rattle.planning.proofs.Replying.{standing, keep_faulty, keep_again, keep_fifth, keep_new, back_faulty, back_none, back_to, place_within}
use Rattle.requests.specs.Requests.{ask, keep, back, state_after, states_after}
use Rattle.requests.specs.Under.{Under}

-- After ordinary calls alone the current balance is the one after these calls on the balance that was current, and all that is kept is as it
-- was.
pub calls_alone : (s : State) (cs : List Call) → states_after s (map ask cs) ≡ with_current s (after s.balance cs)
unfolding states_after after
calls_alone s [] = refl
calls_alone s (c ∷ cs) = calls_alone (state_after s (ask c)) cs

-- No answer is both accepted and refused.
not_both : {X : Type 0} (k : Refusal) (a : Answer) → a ≡ Err k → a ≡ Ok tt → X
not_both k a e p = let q : Err k ≡ Ok tt = sym e ∙ p in let z : ◌≡◌ {A = ℕ} 0 1 = cc in absurd (omega arith)

module _ (s : State) (n : Name) where
  -- What holds of the state after a keeping, by the test and by the place of the name.
  kept_by : (P : State → Type 0) → P s
      → ((e : sound_state s ≡ true) (k : ℕ) (p : place_in s n ≡ Some k) → P (keep_reply s n).state)
      → ((e : sound_state s ≡ true) → place_in s n ≡ None → s.count < place_limit → P (keep_reply s n).state)
      → P (state_after s (keep n))
  kept_by P old again new =
      by_bool (sound_state s)
      (λ e. by_place e (place_in s n) refl)
      (λ e. subst⁻¹ (λ (r : Reply). P r.state) (keep_faulty s n e) old)
    where
      by_place : sound_state s ≡ true → (f : Option ℕ) → place_in s n ≡ f → P (keep_reply s n).state
      by_place e (Some k) p = again e k p
      by_place e None p = by_lt s.count place_limit (new e p) (λ h. subst⁻¹ (λ (r : Reply). P r.state) (keep_fifth s n e p h) old)

  -- Going back leaves all that is kept.
  pub going_back_leaves_the_kept : ((state_after s (back n)).kept ≡ s.kept) × ((state_after s (back n)).count ≡ s.count)
  going_back_leaves_the_kept =
      by_bool (sound_state s)
      (λ e. by_place e (place_in s n) refl)
      (λ e. (ap (λ (r : Reply). r.state.kept) (back_faulty s n e), ap (λ (r : Reply). r.state.count) (back_faulty s n e)))
    where
      by_place : sound_state s ≡ true → (f : Option ℕ) → place_in s n ≡ f
          → ((back_reply s n).state.kept ≡ s.kept) × ((back_reply s n).state.count ≡ s.count)
      by_place e (Some k) p = let r = back_to s n e k p in (ap (λ (x : Reply). x.state.kept) r, ap (λ (x : Reply). x.state.count) r)
      by_place e None p = let r = back_none s n e p in (ap (λ (x : Reply). x.state.kept) r, ap (λ (x : Reply). x.state.count) r)

  -- In a sound state the place that has a name is the one that a search for it finds.
  found_under : (b : Balance) → sound_state s ≡ true → (u : Under s n b) → place_in s n ≡ Some u.place
  unfolding distinct
  found_under b e u = first_at _ s.count u.place u.used others u.named
    where
      others : (j : ℕ) → j < u.place → same_name (name_at s.kept j) n ≡ false
      others j h =
          let x = name_at s.kept j in
          let y = name_at s.kept u.place in
          let apart = not-true (same_name x y) (every_each _ u.place (every_each _ s.count (standing s e).apart u.place u.used) j h) in
          by_bool (same_name x n)
          (λ p. absurd (true≢false (sym (same_through x n y p (same_sym y n u.named)) ∙ apart)))
          (λ p. p)

  -- Going back makes the balance that is kept under the name the current one.
  pub going_back_brings : (b : Balance) → sound_state s ≡ true → Under s n b → (state_after s (back n)).balance ≡ b
  going_back_brings b e u = ap (λ (r : Reply). r.state.balance) (back_to s n e u.place (found_under b e u)) ∙ u.held

module _ (s : State) (n : Name) (z : Sized s) where
  -- A keeping that is accepted finds the current balance under its name.
  pub keeping_puts : (keep_reply s n).answer ≡ Ok tt → Under (state_after s (keep n)) n s.balance
  keeping_puts a =
      by_bool (sound_state s)
      (λ e. by_place e (place_in s n) refl)
      (λ e. not_both _ _ (ap (λ (r : Reply). r.answer) (keep_faulty s n e)) a)
    where
      by_place : sound_state s ≡ true → (f : Option ℕ) → place_in s n ≡ f → Under (keep_reply s n).state n s.balance
      by_place e (Some k) p =
          let h = place_within s n k p in
          let put = get_or-set_same s.kept k (record { name = name_at s.kept k; balance = s.balance }) no_kept (omega (arith, z.kept, (standing s e).few)) in
          subst⁻¹ (λ (r : Reply). Under r.state n s.balance) (keep_again s n e k p)
          (record {
            place = k;
            used = h;
            named = ap (λ (x : Kept). same_name x.name n) put ∙ (at_first _ s.count k p).2;
            held = ap (λ (x : Kept). x.balance) put;
          })
      by_place e None p =
          by_lt s.count place_limit
          (λ h.
          let put = get_or-set_same s.kept s.count (record { name = n; balance = s.balance }) no_kept (omega (arith, z.kept)) in
          subst⁻¹ (λ (r : Reply). Under r.state n s.balance) (keep_new s n e p h)
          (record {
            place = s.count;
            used = omega arith;
            named = ap (λ (x : Kept). same_name x.name n) put ∙ same_self n;
            held = ap (λ (x : Kept). x.balance) put;
          }))
          (λ h. not_both _ _ (ap (λ (r : Reply). r.answer) (keep_fifth s n e p h)) a)

module _ (s : State) (n m : Name) (b : Balance) (apart : same_name m n ≡ false) (u : Under s m b) where
  -- A keeping leaves what is kept under every other name.
  pub keeping_leaves_others : Under (state_after s (keep n)) m b
  keeping_leaves_others =
      kept_by s n (λ (x : State). Under x m b) u
      (λ e k p.
      subst⁻¹ (λ (r : Reply). Under r.state m b) (keep_again s n e k p)
      (elsewhere k (record { name = name_at s.kept k; balance = s.balance }) s.count u.used (other k (at_first _ s.count k p).2)))
      (λ e p h.
      subst⁻¹ (λ (r : Reply). Under r.state m b) (keep_new s n e p h)
      (elsewhere s.count (record { name = n; balance = s.balance }) (s.count + 1) (omega (arith, u.used)) (λ q. omega (arith, u.used))))
    where
      elsewhere : (k : ℕ) (x : Kept) (count : ℕ) → u.place < count → (u.place ≡ k → ⊥)
          → Under (record { balance = s.balance; kept = set s.kept k x; count = count }) m b
      elsewhere k x count h q =
          let same = get_or-set_other s.kept k u.place x no_kept q in
          record {
            place = u.place;
            used = h;
            named = ap (λ (y : Kept). same_name y.name m) same ∙ u.named;
            held = ap (λ (y : Kept). y.balance) same ∙ u.held;
          }

      other : (k : ℕ) → same_name (name_at s.kept k) n ≡ true → u.place ≡ k → ⊥
      other k e q =
          let y = name_at s.kept u.place in
          let found : same_name y n ≡ true = ap (λ (j : ℕ). same_name (name_at s.kept j) n) q ∙ e in
          true≢false (sym (same_through m y n (same_sym y m u.named) found) ∙ apart)
