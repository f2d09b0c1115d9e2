-- The step that the search finds is the next step.
-- Shown, for the rules switched on: the search finds nothing exactly when nothing follows; what it finds follows, and nothing that follows comes before
-- it; there is only one such step. Assumes nothing.
use mathlib.Core.Path.{◌≡◌, refl, sym, ◌∙◌, subst}
use mathlib.Core.Logic.{◌↔◌, ◌⊎◌, inl, inr}
use mathlib.Core.List.Memᴰ
use mathlib.Core.List.{List, [], ◌∷◌, ◌++◌, Memᴰ}
use Prim.Native.Nat.{ℕ, ◌≤◌, ◌<◌}
use native.Mathlib.Omega.{arith}
use Rattle.deduction.specs.Setting.{Setting}
use Rattle.deduction.specs.Entry.{Entry, term_at, Downward}
use Rattle.deduction.specs.Standard.{set_at, rep_at}
use Rattle.deduction.specs.Step.{Step, Open, Follows, FollowsIn, Before, IsNext}
use Rattle.deduction.specs.Run.{knowledge, no_step, all_offers, is_sum_of, next_number, expand, next_step}
use Rattle.deduction.proofs.Elimination.{learnt_all}
use Rattle.deduction.proofs.Elimination.State.{Learnt}
use Rattle.deduction.proofs.Steps.Head.{Heads, head_rep}
use Rattle.deduction.proofs.Steps.Numbers.{number_of, least_under, least_one}
use Rattle.deduction.proofs.Steps.Found.{offered_found}
use Rattle.deduction.proofs.Steps.Offers.{follows_offered, follows_expand}
use Rattle.deduction.proofs.Steps.Order.{Source, Small, small_below, before_number, agree}

-- the gained head of a step that follows is open
pub follows_open : (e : ℕ → Entry) (n : ℕ) {es : List ℕ} {s : Step} → Follows (term_at e) n es s → Open (term_at e) n es s.head
follows_open e n (Follows.first b o m q) = o
follows_open e n (Follows.second a o m q) = o
follows_open e n (Follows.decrypt o m c q) = o
follows_open e n (Follows.join o m c q) = o
follows_open e n (Follows.encrypt o m c q) = o
follows_open e n (Follows.sum u o f q) = o
follows_open e n (Follows.adecrypt s a o m c q r) = o
follows_open e n (Follows.aencrypt s a o m c q r) = o

module _ (e : ℕ → Entry) (n : ℕ) (down : Downward e n) where
  -- with the head of a step that follows, heads stay heads
  pub heads_more : (es : List ℕ) (s : Step) → Heads e n es → Follows (term_at e) n es s → Heads e n (es ++ (s.head ∷ []))
  heads_more es s hs f i m = elim (Memᴰ.append_cases es m) [ inl c ↦ hs i c | inr c ↦ subst (λ (j : ℕ). (j < n) × (rep_at e j ≡ j)) (sym (Memᴰ.eq_of_singleton c)) own ]
    where
      own : (s.head < n) × (rep_at e s.head ≡ s.head)
      own = let o = follows_open e n f in (o.0.0, head_rep e n down s.head o.0)

module _ (e : ℕ → Entry) (n : ℕ) (down : Downward e n) (es : List ℕ) (heads : Heads e n es) where
  -- what is known after learning the heads
  pub knowledge_learnt : Learnt (set_at e) n es (knowledge e es)
  unfolding knowledge
  knowledge_learnt = learnt_all (set_at e) n es (λ i m. (heads i m).0)

  -- "The next rung" is one step
  pub next_unique : (on : Setting) (s r : Step) → IsNext on (term_at e) n es s → IsNext on (term_at e) n es r → s ≡ r
  next_unique on s r (fs, ls) (fr, lr) =
      let (h, q, i) = agree s r (lr s fs) (ls r fr) in
      follows_expand e n down knowledge_learnt heads fs.1 ∙ (λ t. expand e n (knowledge e es) (h t) (q t) (i t)) ∙ sym (follows_expand e n down knowledge_learnt heads fr.1)

  module _ (small : n ≤ 256) where
    follows_small : {s : Step} → Follows (term_at e) n es s → Small s
    follows_small {s} f = (let b = (follows_open e n f).0.0 in omega arith, rule f, source f)
      where
        known : (i : ℕ) → Memᴰ i es → i < 256
        known i m = let b = (heads i m).0 in omega arith

        rule : {r : Step} → Follows (term_at e) n es r → r.rule < 256
        rule (Follows.first b o m q) = omega arith
        rule (Follows.second a o m q) = omega arith
        rule (Follows.decrypt o m c q) = omega arith
        rule (Follows.join o m c q) = omega arith
        rule (Follows.encrypt o m c q) = omega arith
        rule (Follows.sum u o g q) = omega arith
        rule (Follows.adecrypt s a o m c q r) = omega arith
        rule (Follows.aencrypt s a o m c q r) = omega arith

        source : {r : Step} → Follows (term_at e) n es r → Source r
        source (Follows.first {i = i} b o m q) = inl (λ x. omega arith, known i m)
        source (Follows.second {i = i} a o m q) = inl (λ x. omega arith, known i m)
        source (Follows.decrypt {i = i} o m c q) = inl (λ x. omega arith, known i m)
        source (Follows.join {i = i} o m c q) = inl (λ x. omega arith, known i m)
        source (Follows.encrypt {i = i} o m c q) = inl (λ x. omega arith, known i m)
        source (Follows.sum u o g q) = inr (refl, refl)
        source (Follows.adecrypt {i = i} s a o m c q r) = inl (λ x. omega arith, known i m)
        source (Follows.aencrypt {i = i} s a o m c q r) = inl (λ x. omega arith, known i m)

    module _ (on : Setting) where
      -- the search's number is at most that of any step that follows
      next_under : {s : Step} → FollowsIn on (term_at e) n es s → next_number on e n (knowledge e es) ≤ number_of s
      unfolding next_number
      next_under {s} f = least_under no_step _ (number_of s) (follows_offered e n down knowledge_learnt heads on f.0 f.1)

      found_next : (next_number on e n (knowledge e es) ≡ no_step) ⊎ (FollowsIn on (term_at e) n es (next_step on e n es) × (number_of (next_step on e n es) ≡ next_number on e n (knowledge e es)))
      unfolding next_number next_step
      found_next = go (least_one no_step (all_offers on e n (knowledge e es).known (is_sum_of e (knowledge e es)) n))
        where
          go : (next_number on e n (knowledge e es) ≡ no_step) ⊎ Memᴰ (next_number on e n (knowledge e es)) (all_offers on e n (knowledge e es).known (is_sum_of e (knowledge e es)) n)
              → (next_number on e n (knowledge e es) ≡ no_step) ⊎ (FollowsIn on (term_at e) n es (next_step on e n es) × (number_of (next_step on e n es) ≡ next_number on e n (knowledge e es)))
          go (inl p) = inl p
          go (inr m) = inr (offered_found on e n down small knowledge_learnt m)

      -- nothing is found exactly when nothing follows
      pub next_none : (next_number on e n (knowledge e es) ≡ no_step) ↔ ((s : Step) → ¬ (FollowsIn on (term_at e) n es s))
      next_none = (λ p s f. let b = next_under f in let c = small_below s (follows_small f.1) in omega arith, λ f. elim found_next [ inl p ↦ p | inr (g, q) ↦ absurd (f (next_step on e n es) g) ])

      -- what is found is the next step
      pub next_is_next : ¬ (next_number on e n (knowledge e es) ≡ no_step) → IsNext on (term_at e) n es (next_step on e n es)
      next_is_next some = elim found_next [ inl p ↦ absurd (some p) | inr (g, q) ↦ (g, λ r f b. later r f g q b) ]
        where
          later : (r : Step) → FollowsIn on (term_at e) n es r → FollowsIn on (term_at e) n es (next_step on e n es) → number_of (next_step on e n es) ≡ next_number on e n (knowledge e es) → ¬ (Before r (next_step on e n es))
          later r f g q b = let u = next_under f in let v = before_number r (next_step on e n es) (follows_small f.1) (follows_small g.1) b in omega arith
