-- Every number that the search goes through is the number of a step that follows by a rule that is switched on.
-- Defined: `Found`, a number that stands for such a step and has this number.
-- Shown: what a known entry gives is found, what an open one is built by is found, and so every offer is. Assumes nothing.
use mathlib.Core.Path.{◌≡◌, refl, sym, ap, ◌∙◌, subst}
use mathlib.Core.Bool.{Bool, true, false, true≢false, cond, ◌&&◌}
use mathlib.Core.Logic.{◌⊎◌, inl, inr}
use mathlib.Core.List.Memᴰ
use mathlib.Core.List.{List, [], ◌∷◌, ◌++◌, Memᴰ}
use Prim.Native.Nat.{ℕ, zero, suc, ◌≤◌, ◌<◌}
use native.Mathlib.Omega.{arith}
use lib.Dec.{eqb}
use borrow.Author.Tests.{eqb-true}
use Rattle.bitset.specs.Set.{member}
use Rattle.deduction.specs.Term.{Side, opposite, Term, pair, half, ◌≈◌, in_aenc, same, flip, then}
use Rattle.deduction.specs.Setting.{Setting}
use Rattle.deduction.specs.Entry.{Entry, Zero, Atom, Pair, Enc, Sum, Half, Aenc, build, term_at, parts, Downward}
use Rattle.deduction.specs.Standard.{set_at, rep_at}
use Rattle.deduction.specs.Elimination.{Knowledge, reduce}
use Rattle.deduction.specs.Step.{Step, step, unused, Open, Follows, FollowsIn}
use Rattle.deduction.specs.Run.{number, opener, any_half, by_rule, offer, opened, built, offers, all_offers, is_sum_of, second_part, expand, step_at}
use Rattle.deduction.proofs.Terms.{term_at_build}
use Rattle.deduction.proofs.Forms.{Form, pairs, encs, aencs, form, form_entry, in_form, form_build, form_listed}
use Rattle.deduction.proofs.Elimination.{used_independent}
use Rattle.deduction.proofs.Elimination.State.{Learnt}
use Rattle.deduction.proofs.Standard.{rep_le, rep_same}
use Rattle.deduction.proofs.Standard.First.{both_true}
use Rattle.deduction.proofs.Standard.SumTest.{sum_test_used}
use Rattle.deduction.proofs.Steps.Head.{rep_is_head, rep_head, rep_below, half_term}
use Rattle.deduction.proofs.Steps.Opener.{any_half_lem, opener_found}
use Rattle.deduction.proofs.Steps.Numbers.{number_of, number_head, number_rule, number_first, chosen}
use Rattle.deduction.proofs.Steps.Drawn.{drawn_independent}

-- an offer is an offer of one of the first m entries
pub all_offers_lem : (on : Setting) (e : ℕ → Entry) (n g : ℕ) (f : ℕ → Bool) (m : ℕ) {x : ℕ} → Memᴰ x (all_offers on e n g f m) → (i : ℕ) × (i < m) × Memᴰ x (offers on e n g f i)
unfolding all_offers
all_offers_lem on e n g f zero o = absurd (Memᴰ.not-nil o)
all_offers_lem on e n g f (suc m) {x} o = go (Memᴰ.append_cases (all_offers on e n g f m) o) (λ q. all_offers_lem on e n g f m q)
  where
    go : Memᴰ x (all_offers on e n g f m) ⊎ Memᴰ x (offers on e n g f m) → (Memᴰ x (all_offers on e n g f m) → (i : ℕ) × (i < m) × Memᴰ x (offers on e n g f i))
        → (i : ℕ) × (i < suc m) × Memᴰ x (offers on e n g f i)
    go (inl q) ih = let r = ih q in (r.0, omega arith, r.2)
    go (inr q) ih = (m, omega arith, q)

-- a list that a test leaves empty
pub only_if : (b : Bool) (xs : List ℕ) {x : ℕ} → Memᴰ x (cond b xs []) → (b ≡ true) × Memᴰ x xs
only_if b xs m = elim (chosen b xs [] m) [ inl q ↦ q | inr q ↦ absurd (Memᴰ.not-nil q.1) ]

pub only_unless : (b : Bool) (xs : List ℕ) {x : ℕ} → Memᴰ x (cond b [] xs) → (b ≡ false) × Memᴰ x xs
only_unless b xs m = elim (chosen b [] xs m) [ inl q ↦ absurd (Memᴰ.not-nil q.1) | inr q ↦ q ]

-- a number by a rule is of that rule, which is on
pub ruled_as : (on : Setting) (x h r i : ℕ) → Memᴰ x (by_rule on h r i) → (on r ≡ true) × (x ≡ number h r i)
unfolding by_rule
ruled_as on x h r i m = let (a, q) = only_if _ _ m in (a, Memᴰ.eq_of_singleton q)

module _ (on : Setting) (e : ℕ → Entry) (n : ℕ) (down : Downward e n) (small : n ≤ 256) {es : List ℕ} {k : Knowledge} (l : Learnt (set_at e) n es k) where
  abbrev pub Found : ℕ → Type 0
  Found x = FollowsIn on (term_at e) n es (step_at e n k x) × (number_of (step_at e n k x) ≡ x)

  found : (x h r i : ℕ) (s : Step) → x ≡ number h r i → r < 256 → i < 256 → expand e n k h r i ≡ s → FollowsIn on (term_at e) n es s → number_of s ≡ number h r i → Found x
  unfolding step_at
  found x h r i s p lr li q f c = (subst (FollowsIn on (term_at e) n es) (sym whole) f, ap number_of whole ∙ c ∙ sym p)
    where
      whole : step_at e n k x ≡ s
      whole = ap (step_at e n k) p ∙ (λ t. expand e n k (number_head h r i lr li t) (number_rule h r i lr li t) (number_first h r i lr li t)) ∙ q

  is_known : (i : ℕ) → member k.known i ≡ true → Memᴰ i es
  is_known i m = (l.members i).0 m

  -- the representative of a part is open where the known set lacks it
  rep_open : (x : ℕ) → x < n → member k.known (rep_at e x) ≡ false → Open (term_at e) n es (rep_at e x)
  rep_open x lx q = (rep_is_head e n down x lx, λ m. true≢false (sym ((l.members (rep_at e x)).1 m) ∙ q))

  offered_as : (x h r i : ℕ) → Memᴰ x (offer on e n k.known h r i) → (member k.known h ≡ false) × (on r ≡ true) × (x ≡ number h r i)
  unfolding offer
  offered_as x h r i m = let (q, b) = only_unless (member k.known h) (by_rule on h r i) m in let (a, y) = ruled_as on x h r i b in (q, a, y)

  module _ (x i : ℕ) (li : i < n) where
    -- the term of entry i, by its record
    term_of : (d : Entry) → e i ≡ d → term_at e i ≡ build (term_at e) d
    term_of d p = term_at_build e n down i li ∙ ap (build (term_at e)) p

    part_below : (d : Entry) → e i ≡ d → (j : ℕ) → Memᴰ j (parts d) → j < n
    part_below d p j m = let q = down i j li (subst (λ (c : Entry). Memᴰ j (parts c)) (sym p) m) in omega arith

    two_term : (f : Form) (a b : ℕ) → e i ≡ form_entry f a b → (a < n) × (b < n) × (term_at e i ≈ form f (term_at e (rep_at e a)) (term_at e (rep_at e b)))
    two_term f a b p =
        let la = below a (Memᴰ.head refl) in let lb = below b (Memᴰ.tail (Memᴰ.head refl)) in
        (la, lb, rw (term_of (form_entry f a b) p ∙ form_build (term_at e) f a b) (in_form f (flip (rep_same e n down a la)) (flip (rep_same e n down b lb))))
      where
        below : (j : ℕ) → Memᴰ j (a ∷ b ∷ []) → j < n
        below j m = part_below (form_entry f a b) p j (subst (λ (js : List ℕ). Memᴰ j js) (sym (form_listed f a b)) m)

    -- the representative of a part that is a half has the half's term
    half_part : (b : ℕ) (s : Side) (a : ℕ) → b < n → e b ≡ Half s a → term_at e b ≈ half s a
    half_part b s a lb p = subst (λ (u : Term). term_at e b ≈ u) (half_term e n down b s a lb p) same

    found_opened : Memᴰ i es → (d : Entry) → e i ≡ d → Memᴰ x (opened on e n k.known i d) → Found x
    unfolding opened expand second_part number_of
    found_opened m Zero p o = absurd (Memᴰ.not-nil o)
    found_opened m (Atom a) p o = absurd (Memᴰ.not-nil o)
    found_opened m (Pair a b) p o = go (Memᴰ.append_cases (offer on e n k.known (rep_at e a) 1 i) o) (two_term pairs a b p)
      where
        go : Memᴰ x (offer on e n k.known (rep_at e a) 1 i) ⊎ Memᴰ x (offer on e n k.known (rep_at e b) 2 i)
            → (a < n) × (b < n) × (term_at e i ≈ pair (term_at e (rep_at e a)) (term_at e (rep_at e b))) → Found x
        go (inl q) (la, lb, t) =
            let f = offered_as x (rep_at e a) 1 i q in
            found x (rep_at e a) 1 i (step (rep_at e a) 1 i unused 0) f.2 (omega arith) (omega arith) refl (f.1, Follows.first (term_at e (rep_at e b)) (rep_open a la f.0) m t) refl
        go (inr q) (la, lb, t) =
            let f = offered_as x (rep_at e b) 2 i q in
            found x (rep_at e b) 2 i (step (rep_at e b) 2 i unused 0) f.2 (omega arith) (omega arith) refl (f.1, Follows.second (term_at e (rep_at e a)) (rep_open b lb f.0) m t) refl
    found_opened m (Enc a b) p o =
        let (la, lb, t) = two_term encs a b p in
        let c = only_if (member k.known (rep_at e b)) (offer on e n k.known (rep_at e a) 3 i) o in
        let f = offered_as x (rep_at e a) 3 i c.1 in
        found x (rep_at e a) 3 i (step (rep_at e a) 3 i (rep_at e b) 0) f.2 (omega arith) (omega arith)
        (ap (λ (d : Entry). step (rep_at e a) 3 i (rep_at e (second_part d)) 0) p) (f.1, Follows.decrypt (rep_open a la f.0) m (is_known (rep_at e b) c.0) t) refl
    found_opened m (Sum items) p o = absurd (Memᴰ.not-nil o)
    found_opened m (Half s a) p o = absurd (Memᴰ.not-nil o)
    found_opened m (Aenc a b) p o =
        let (la, lb, t) = two_term aencs a b p in
        let j = opener e n (e (rep_at e b)) in
        let c = only_if (member k.known j) (offer on e n k.known (rep_at e a) 7 i) o in
        let f = offered_as x (rep_at e a) 7 i c.1 in
        let mj = is_known j c.0 in
        let (s, z, key, other) = opener_found e n down (rep_at e b) (l.below j mj) in
        found x (rep_at e a) 7 i (step (rep_at e a) 7 i j 0) f.2 (omega arith) (omega arith)
        (ap (λ (d : Entry). step (rep_at e a) 7 i (opener e n (e (rep_at e (second_part d)))) 0) p)
        (f.1, Follows.adecrypt s z (rep_open a la f.0) m mj (then t (in_aenc same (half_part (rep_at e b) s z (rep_below e n down b lb) key))) (half_part j (opposite s) z (l.below j mj) other))
        refl

    module _ (op : Open (term_at e) n es i) where
      rep_small : (a : ℕ) → a < n → rep_at e a < 256
      rep_small a la = omega (arith, rep_le e a)

      found_built : (d : Entry) → e i ≡ d → Memᴰ x (built on e n k.known i d) → Found x
      unfolding built expand second_part number_of
      found_built Zero p o = absurd (Memᴰ.not-nil o)
      found_built (Atom a) p o = absurd (Memᴰ.not-nil o)
      found_built (Pair a b) p o =
          let (la, lb, t) = two_term pairs a b p in
          let c = only_if (member k.known (rep_at e a) && member k.known (rep_at e b)) (by_rule on i 4 (rep_at e a)) o in
          let (w, y) = ruled_as on x i 4 (rep_at e a) c.1 in
          let f = both_true (member k.known (rep_at e a)) (member k.known (rep_at e b)) c.0 in
          found x i 4 (rep_at e a) (step i 4 (rep_at e a) (rep_at e b) 0) y (omega arith) (rep_small a la)
          (ap (λ (d : Entry). step i 4 (rep_at e a) (rep_at e (second_part d)) 0) p) (w, Follows.join op (is_known (rep_at e a) f.0) (is_known (rep_at e b) f.1) t) refl
      found_built (Enc a b) p o =
          let (la, lb, t) = two_term encs a b p in
          let c = only_if (member k.known (rep_at e a) && member k.known (rep_at e b)) (by_rule on i 5 (rep_at e a)) o in
          let (w, y) = ruled_as on x i 5 (rep_at e a) c.1 in
          let f = both_true (member k.known (rep_at e a)) (member k.known (rep_at e b)) c.0 in
          found x i 5 (rep_at e a) (step i 5 (rep_at e a) (rep_at e b) 0) y (omega arith) (rep_small a la)
          (ap (λ (d : Entry). step i 5 (rep_at e a) (rep_at e (second_part d)) 0) p) (w, Follows.encrypt op (is_known (rep_at e a) f.0) (is_known (rep_at e b) f.1) t) refl
      found_built (Sum items) p o = absurd (Memᴰ.not-nil o)
      found_built (Half s a) p o = absurd (Memᴰ.not-nil o)
      found_built (Aenc a b) p o =
          let (la, lb, t) = two_term aencs a b p in
          let c = only_if (any_half (e (rep_at e b)) && (member k.known (rep_at e a) && member k.known (rep_at e b))) (by_rule on i 8 (rep_at e a)) o in
          let (w, y) = ruled_as on x i 8 (rep_at e a) c.1 in
          let (h, g) = both_true (any_half (e (rep_at e b))) (member k.known (rep_at e a) && member k.known (rep_at e b)) c.0 in
          let f = both_true (member k.known (rep_at e a)) (member k.known (rep_at e b)) g in
          let (s, z, key) = any_half_lem (e (rep_at e b)) h in
          found x i 8 (rep_at e a) (step i 8 (rep_at e a) (rep_at e b) 0) y (omega arith) (rep_small a la)
          (ap (λ (d : Entry). step i 8 (rep_at e a) (rep_at e (second_part d)) 0) p)
          (w, Follows.aencrypt s z op (is_known (rep_at e a) f.0) (is_known (rep_at e b) f.1) t (half_part (rep_at e b) s z (rep_below e n down b lb) key)) refl

      found_sum : (reduce k.rows (set_at e i)).remainder ≡ 0 → on 6 ≡ true → x ≡ number i 6 0 → Found x
      unfolding expand number_of
      found_sum z w p =
          found x i 6 0 (step i 6 unused unused (reduce k.rows (set_at e i)).used) p (omega arith) (omega arith) refl
          (w, Follows.sum (reduce k.rows (set_at e i)).used op (λ j m. (drawn_independent e n down es l.below j).1 (used_independent l (set_at e i) j m)) (sum_test_used e n down l i li z))
          refl

  pub offered_found : {x : ℕ} → Memᴰ x (all_offers on e n k.known (is_sum_of e k) n) → Found x
  unfolding offers is_sum_of
  offered_found {x} o =
      let (i, li, m) = all_offers_lem on e n k.known (is_sum_of e k) n o in
      let (p, q) = only_if (eqb (rep_at e i) i) _ m in
      go i li (eqb-true (rep_at e i) i p) (chosen (member k.known i) _ _ q)
    where
      more : ℕ → List ℕ
      more i = cond (is_sum_of e k i) (by_rule on i 6 0) []

      go : (i : ℕ) → i < n → rep_at e i ≡ i
          → ((member k.known i ≡ true) × Memᴰ x (opened on e n k.known i (e i))) ⊎ ((member k.known i ≡ false) × Memᴰ x (built on e n k.known i (e i) ++ more i))
          → Found x
      go i li h (inl (c, q)) = found_opened x i li (is_known i c) (e i) refl q
      go i li h (inr (c, q)) = either (Memᴰ.append_cases (built on e n k.known i (e i)) q)
        where
          op : Open (term_at e) n es i
          op = (rep_head e n down i li h, λ m. true≢false (sym ((l.members i).1 m) ∙ c))

          either : Memᴰ x (built on e n k.known i (e i)) ⊎ Memᴰ x (more i) → Found x
          either (inl b) = found_built x i li op (e i) refl b
          either (inr b) = let (d, c) = only_if (is_sum_of e k i) (by_rule on i 6 0) b in let (w, y) = ruled_as on x i 6 0 c in found_sum x i li op (eqb-true _ 0 d) w y
