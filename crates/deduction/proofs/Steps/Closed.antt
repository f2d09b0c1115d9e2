-- Where no step follows, the known entries are closed.
-- Shown: an open head that is a sum of known ones follows by a sum of the entries that sums draw on; where nothing follows, the entries
-- whose heads are known are closed under the rules switched on within the sheet, and so everything derivable is known. Assumes nothing.
use mathlib.Core.Path.{◌≡◌, refl, sym, ◌∙◌}
use mathlib.Core.Bool.{Bool, true, false, true≢false}
use mathlib.Core.List.Memᴰ
use mathlib.Core.List.{List, [], ◌∷◌, map, Memᴰ}
use Prim.Native.Nat.{ℕ, ◌<◌}
use Rattle.bitset.specs.Set.{member}
use Rattle.deduction.specs.Term.{sum_of, ◌≈◌, in_pair, in_enc, in_aenc, in_sum, same, flip, then}
use Rattle.deduction.specs.Setting.{Setting}
use Rattle.deduction.specs.Entry.{Entry, term_at, Downward}
use Rattle.deduction.specs.Standard.{set_at, rep_at}
use Rattle.deduction.specs.Elimination.{reduce}
use Rattle.deduction.specs.Derivation.{Derivable}
use Rattle.deduction.proofs.Exactness.{exactness}
use Rattle.deduction.proofs.Exactness.Within.{Closed}
use Rattle.deduction.specs.Step.{Step, step, unused, Open, Follows, Allowed, FollowsIn}
use Rattle.deduction.specs.Run.{knowledge}
use Rattle.deduction.proofs.Elimination.{used_independent}
use Rattle.deduction.proofs.Elimination.State.{Learnt}
use Rattle.deduction.proofs.Standard.{rep_rep, rep_same}
use Rattle.deduction.proofs.Standard.SumTest.{sum_test, sum_test_used}
use Rattle.deduction.proofs.Steps.Head.{Heads, rep_is_head, rep_below, rep_of}
use Rattle.deduction.proofs.Steps.Drawn.{drawn_independent}
use Rattle.deduction.proofs.Steps.Next.{knowledge_learnt}

module _ (e : ℕ → Entry) (n : ℕ) (down : Downward e n) where
  -- a sum of entries' terms is the sum of their heads' terms
  pub sum_heads : (js : List ℕ) → ((j : ℕ) → Memᴰ j js → j < n) → sum_of (map (term_at e) js) ≈ sum_of (map (term_at e) (map (rep_at e) js))
  unfolding sum_of
  sum_heads [] low = same
  sum_heads (j ∷ js) low = in_sum (flip (rep_same e n down j (low j (Memᴰ.head refl)))) (sum_heads js (λ i m. low i (Memᴰ.tail m)))

  module _ (es : List ℕ) (heads : Heads e n es) where
    state : Learnt (set_at e) n es (knowledge e es)
    state = knowledge_learnt e n down es heads

    -- the known set decides which heads are known
    pub known_or_not : (i : ℕ) → Dec (Memᴰ i es)
    known_or_not i = go (member (knowledge e es).known i) refl
      where
        go : (b : Bool) → member (knowledge e es).known i ≡ b → Dec (Memᴰ i es)
        go true p = yes ((state.members i).0 p)
        go false p = no (λ m. true≢false (sym ((state.members i).1 m) ∙ p))

    -- an open head that is a sum of known ones follows
    pub sum_follows : (h : ℕ) (js : List ℕ) → Open (term_at e) n es h → ((j : ℕ) → Memᴰ j js → Memᴰ j es) → term_at e h ≈ sum_of (map (term_at e) js)
        → (u : ℕ) × Follows (term_at e) n es (step h 6 unused unused u)
    sum_follows h js o f q =
        let z = (sum_test e n down state h o.0.0).1 (js, f, q) in
        let u = (reduce (knowledge e es).rows (set_at e h)).used in
        (u, Follows.sum u o (λ j m. (drawn_independent e n down es state.below j).1 (used_independent state (set_at e h) j m)) (sum_test_used e n down state h o.0.0 z))

    module _ (on : Setting) (stuck : (s : Step) → ¬ (FollowsIn on (term_at e) n es s)) where
      -- a head that would follow is known
      gain : (i : ℕ) → i < n → (Open (term_at e) n es (rep_at e i) → (s : Step) × Allowed on s × Follows (term_at e) n es s) → Memᴰ (rep_at e i) es
      gain i l f = elim (known_or_not (rep_at e i)) [ yes m ↦ m | no m ↦ absurd (let (s, w, g) = f (rep_is_head e n down i l, m) in stuck s (w, g)) ]

      pub closed : Closed on (term_at e) n (λ i. Memᴰ (rep_at e i) es)
      closed =
          record {
            same = λ i j hi hj m q. Memᴰ.cast (rep_of e n down i (rep_at e j) hi (rep_below e n down j hj) (rep_rep e j) (then q (flip (rep j hj)))) m;
            first = λ i j b w hi hj m q. gain j hj (λ o. (_, w, Follows.first b o m (then (rep i hi) (then q (in_pair (flip (rep j hj)) same)))));
            second = λ i j a w hi hj m q. gain j hj (λ o. (_, w, Follows.second a o m (then (rep i hi) (then q (in_pair same (flip (rep j hj)))))));
            decrypt = λ i j k w hi hj hk m c q. gain j hj (λ o. (_, w, Follows.decrypt o m c (then (rep i hi) (then q (in_enc (flip (rep j hj)) (flip (rep k hk)))))));
            join = λ i j k w hi hj hk m c q. gain i hi (λ o. (_, w, Follows.join o m c (then (rep i hi) (then q (in_pair (flip (rep j hj)) (flip (rep k hk)))))));
            encrypt = λ i j k w hi hj hk m c q. gain i hi (λ o. (_, w, Follows.encrypt o m c (then (rep i hi) (then q (in_enc (flip (rep j hj)) (flip (rep k hk)))))));
            sum = λ i js w hi f q.
                gain i hi
                (λ o. let (u, g) = sum_follows (rep_at e i) (map (rep_at e) js) o (among js (λ j m. (f j m).1)) (then (rep i hi) (then q (sum_heads js (λ j m. (f j m).0)))) in (_, w, g));
            adecrypt = λ i j k s a w hi hj hk m c q r. gain j hj (λ o. (_, w, Follows.adecrypt s a o m c (then (rep i hi) (then q (in_aenc (flip (rep j hj)) same))) (then (rep k hk) r)));
            aencrypt = λ i j k s a w hi hj hk m c q r. gain i hi (λ o. (_, w, Follows.aencrypt s a o m c (then (rep i hi) (then q (in_aenc (flip (rep j hj)) (flip (rep k hk))))) (then (rep k hk) r)));
          }
        where
          rep : (i : ℕ) → i < n → term_at e (rep_at e i) ≈ term_at e i
          rep i h = rep_same e n down i h

          among : (js : List ℕ) → ((j : ℕ) → Memᴰ j js → Memᴰ (rep_at e j) es) → (j : ℕ) → Memᴰ j (map (rep_at e) js) → Memᴰ j es
          among js f j m = let (i, c, p) = Memᴰ.of_map (rep_at e) js m in Memᴰ.cast (sym p) (f i c)

      -- so what is derivable from a start of known heads is known
      pub stuck_has : (start : List ℕ) → ((j : ℕ) → Memᴰ j start → Memᴰ j es) → (i : ℕ) → i < n → Derivable on (map (term_at e) start) (term_at e i) → Memᴰ (rep_at e i) es
      stuck_has start from i l (g, d, h) =
          exactness on e n down (λ j. Memᴰ (rep_at e j) es) closed start (λ j m. ((heads j (from j m)).0, Memᴰ.cast (heads j (from j m)).1 (from j m))) g d i l h
