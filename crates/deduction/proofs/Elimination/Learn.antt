-- Learning one more entry.
-- Shown: a state that has learnt a list has, after one more entry, learnt the list with this entry at its end; and so for a list of
-- more entries. Assumes nothing.
use mathlib.Core.Path.{◌≡◌, refl, sym, ap, ap₂, ◌∙◌, subst}
use mathlib.Core.Bool.{Bool, true, false, true≢false, cond}
use mathlib.Core.Logic.{◌↔◌, ◌⊎◌, inl, inr}
use mathlib.Core.List.Memᴰ
use mathlib.Core.List.{List, [], ◌∷◌, ◌++◌, map, append-nil, append_assoc, Memᴰ}
use Prim.Native.Nat.{ℕ, ◌^◌, ◌≤◌, ◌<◌}
use native.Mathlib.Nat.{le_refl}
use native.Mathlib.Omega.{arith}
use lib.Bits.{bit_xor}
use lib.Count.{ones}
use lib.Dec.{eqb}
use lib.ListN.{length-append}
use borrow.Author.Tests.{eqb-true, eqb-false}
use Rattle.bitset.specs.Set.{member, insert}
use Rattle.bitset.proofs.Laws.Member.{member_single}
use Rattle.bitset.proofs.Laws.Sums.{member_part, member_new, member_old, insert_cases, insert_own, insert_old, ones_insert}
use Rattle.deduction.specs.Elimination.{Reduced, reduce, Knowledge, add_row, learn, learn_as, learn_all}
use Rattle.deduction.proofs.Elimination.Spans.{Span, Independent}
use Rattle.deduction.proofs.Elimination.Rows.{row_of, one_more, rows_kept, row_own}
use Rattle.deduction.proofs.Elimination.State.{Learnt, independent_learnt, zero_span, span_zero}

-- a list with one more entry at its end, split anywhere: at that entry, or before it
last_split : (es : List ℕ) (e : ℕ) (before after : List ℕ) (x : ℕ) → es ++ (e ∷ []) ≡ before ++ (x ∷ after)
    → ((before ≡ es) × (x ≡ e)) ⊎ ((rest : List ℕ) × (es ≡ before ++ (x ∷ rest)))
last_split [] e [] after x h = inl (refl, cc)
last_split [] e (b ∷ before) after x h = absurd (no_end before (cc))
  where
    no_end : (l : List ℕ) → ◌≡◌ {A = List ℕ} [] (l ++ (x ∷ after)) → ⊥
    no_end [] p = let z : ◌≡◌ {A = ℕ} 0 1 = cc in omega arith
    no_end (y ∷ l) p = let z : ◌≡◌ {A = ℕ} 0 1 = cc in omega arith
last_split (y ∷ es) e [] after x h = inr (es, cc)
last_split (y ∷ es) e (b ∷ before) after x h = go (cc) (last_split es e before after x (cc))
  where
    go : y ≡ b → ((before ≡ es) × (x ≡ e)) ⊎ ((rest : List ℕ) × (es ≡ before ++ (x ∷ rest)))
        → ((b ∷ before ≡ y ∷ es) × (x ≡ e)) ⊎ ((rest : List ℕ) × (y ∷ es ≡ b ∷ (before ++ (x ∷ rest))))
    go p (inl q) = inl (ap₂ ◌∷◌ (sym p) q.0, q.1)
    go p (inr q) = inr (q.0, ap₂ ◌∷◌ p q.1)

-- the independent entries of a list with one more entry
independent_kept : {s : ℕ → ℕ} {es : List ℕ} {x : ℕ} (t : List ℕ) → Independent s es x → Independent s (es ++ t) x
independent_kept {s} {es} {x} t h = (h.0, h.1 ++ t, ap (λ (l : List ℕ). l ++ t) h.2 ∙ append_assoc h.0 (x ∷ h.1) t, h.3)

independent_last : (s : ℕ → ℕ) (es : List ℕ) (e x : ℕ) → Independent s (es ++ (e ∷ [])) x → Independent s es x ⊎ ((x ≡ e) × (¬ Span (map s es) (s e)))
independent_last s es e x h = go (last_split es e h.0 h.1 x h.2)
  where
    go : ((h.0 ≡ es) × (x ≡ e)) ⊎ ((rest : List ℕ) × (es ≡ h.0 ++ (x ∷ rest))) → Independent s es x ⊎ ((x ≡ e) × (¬ Span (map s es) (s e)))
    go (inl q) = inr (q.1, λ p. h.3 (subst (λ (l : List ℕ). Span (map s l) (s x)) (sym q.0) (subst (λ (y : ℕ). Span (map s es) (s y)) (sym q.1) p)))
    go (inr q) = inl (h.0, q.0, q.1, h.3)

last_mem : {x : ℕ} (es : List ℕ) (e : ℕ) → Memᴰ x (es ++ (e ∷ [])) → Memᴰ x es ⊎ (x ≡ e)
last_mem es e m = elim (Memᴰ.append_cases es m) [ inl i ↦ inl i | inr i ↦ inr (Memᴰ.eq_of_singleton i) ]

last_own : (es : List ℕ) (e : ℕ) → Memᴰ e (es ++ (e ∷ []))
last_own es e = Memᴰ.append_right es (Memᴰ.head refl)

module _ {s : ℕ → ℕ} {n : ℕ} {es : List ℕ} {k : Knowledge} (l : Learnt s n es k) (e : ℕ) (small : e < n) where
  below' : (x : ℕ) → Memᴰ x (es ++ (e ∷ [])) → x < n
  below' x m = elim (last_mem es e m) [ inl i ↦ l.below x i | inr i ↦ subst (λ (y : ℕ). y < n) (sym i) small ]

  -- an entry that is a sum of those before it adds no row
  dependent : (reduce k.rows (s e)).remainder ≡ 0 → (known : ℕ) → ((x : ℕ) → (member known x ≡ true) ↔ Memᴰ x (es ++ (e ∷ []))) → ones k.known ≤ ones known
      → Learnt s n (es ++ (e ∷ [])) (record { known = known; rows = k.rows })
  dependent h known mem c =
      record {
        free = l.free;
        built = l.built;
        members = mem;
        settled = λ x m. elim (last_mem es e m) [ inl i ↦ l.settled x i | inr i ↦ ap (λ (y : ℕ). (reduce k.rows (s y)).remainder) i ∙ h ];
        below = below';
        independent = λ x. (λ m. independent_kept (e ∷ []) ((l.independent x).0 m), still x);
        count = let b = l.count in omega arith;
      }
    where
      still : (x : ℕ) → Independent s (es ++ (e ∷ [])) x → member l.free x ≡ true
      still x i = elim (independent_last s es e x i) [ inl j ↦ (l.independent x).1 j | inr j ↦ absurd (j.1 (zero_span l (s e) h)) ]

  inserted : (x : ℕ) → (member (insert k.known e) x ≡ true) ↔ Memᴰ x (es ++ (e ∷ []))
  inserted x = (to, from)
    where
      to : member (insert k.known e) x ≡ true → Memᴰ x (es ++ (e ∷ []))
      to m = elim (insert_cases k.known e x m) [ inl i ↦ Memᴰ.append_left (e ∷ []) ((l.members x).0 i) | inr i ↦ Memᴰ.cast i (last_own es e) ]

      from : Memᴰ x (es ++ (e ∷ [])) → member (insert k.known e) x ≡ true
      from m = elim (last_mem es e m) [ inl i ↦ insert_old k.known e x ((l.members x).1 i) | inr i ↦ ap (member (insert k.known e)) i ∙ insert_own k.known e ]

  -- an entry that is no sum of those before it adds a row
  fresh : ¬ ((reduce k.rows (s e)).remainder ≡ 0) → member k.known e ≡ false
      → Learnt s n (es ++ (e ∷ [])) (record { known = insert k.known e; rows = k.rows ++ (row_of s k.rows e ∷ []) })
  fresh h new =
      record {
        free = bit_xor l.free (2 ^ e);
        built = one_more e l.built small own h;
        members = inserted;
        settled = λ x m. elim (last_mem es e m) [ inl i ↦ old x (l.settled x i) | inr i ↦ ap left i ∙ ap (λ (z : Reduced). z.remainder) (row_own s n k.rows e h) ];
        below = below';
        independent = λ x. (to x, from x);
        count = let b = l.count in simp length-append (omega (arith, ones_insert k.known e new));
      }
    where
      known_free : (b : Bool) → member l.free e ≡ b → b ≡ false
      known_free false p = refl
      known_free true p = absurd (true≢false (sym ((l.members e).1 (independent_learnt ((l.independent e).0 p))) ∙ new))

      own : member l.free e ≡ false
      own = known_free (member l.free e) refl

      left : ℕ → ℕ
      left x = (reduce (k.rows ++ (row_of s k.rows e ∷ [])) (s x)).remainder

      old : (x : ℕ) → (reduce k.rows (s x)).remainder ≡ 0 → left x ≡ 0
      old x p = ap (λ (z : Reduced). z.remainder) (rows_kept s n k.rows (row_of s k.rows e) (s x) p) ∙ p

      to : (x : ℕ) → member (bit_xor l.free (2 ^ e)) x ≡ true → Independent s (es ++ (e ∷ [])) x
      to x m =
          elim (member_part l.free (2 ^ e) x m) [
            | inl i ↦ independent_kept (e ∷ []) ((l.independent x).0 i)
            | inr i ↦ subst (Independent s (es ++ (e ∷ []))) (eqb-true e x (sym (member_single e x) ∙ i)) (es, [], refl, λ p. h (span_zero l p))
          ]

      from : (x : ℕ) → Independent s (es ++ (e ∷ [])) x → member (bit_xor l.free (2 ^ e)) x ≡ true
      from x i =
          elim (independent_last s es e x i)
          [ inl j ↦ member_old l.free e own x ((l.independent x).1 j) | inr j ↦ ap (member (bit_xor l.free (2 ^ e))) j.0 ∙ member_new l.free e own ]

  -- learning one more entry
  pub learn_learnt : Learnt s n (es ++ (e ∷ [])) (learn s k e)
  unfolding learn_as add_row
  learn_learnt = go (member k.known e) refl (eqb (reduce k.rows (s e)).remainder 0) refl
    where
      again : member k.known e ≡ true → (x : ℕ) → (member k.known x ≡ true) ↔ Memᴰ x (es ++ (e ∷ []))
      again p x = (λ m. Memᴰ.append_left (e ∷ []) ((l.members x).0 m), λ m. elim (last_mem es e m) [ inl i ↦ (l.members x).1 i | inr i ↦ ap (member k.known) i ∙ p ])

      go : (b : Bool) → member k.known e ≡ b → (c : Bool) → eqb (reduce k.rows (s e)).remainder 0 ≡ c
          → Learnt s n (es ++ (e ∷ [])) (cond b k (record { known = insert k.known e; rows = cond c k.rows (k.rows ++ (row_of s k.rows e ∷ [])) }))
      go true p c q = dependent (l.settled e ((l.members e).0 p)) k.known (again p) (le_refl (ones k.known))
      go false p true q = dependent (eqb-true (reduce k.rows (s e)).remainder 0 q) (insert k.known e) inserted (omega (arith, ones_insert k.known e p))
      go false p false q = fresh (eqb-false (reduce k.rows (s e)).remainder 0 q) p

-- learning a list in order
pub learn_all_learnt : {s : ℕ → ℕ} {n : ℕ} {before : List ℕ} {k : Knowledge} (es : List ℕ) → Learnt s n before k → ((e : ℕ) → Memᴰ e es → e < n)
    → Learnt s n (before ++ es) (learn_all s k es)
unfolding learn_all
learn_all_learnt {s} {n} {before} {k} [] l h = subst (λ (x : List ℕ). Learnt s n x k) (sym (append-nil before)) l
learn_all_learnt {s} {n} {before} {k} (e ∷ es) l h =
    subst (λ (x : List ℕ). Learnt s n x (learn_all s (learn s k e) es)) (append_assoc before (e ∷ []) es)
    (learn_all_learnt {before = before ++ (e ∷ [])} es (learn_learnt l e (h e (Memᴰ.head refl))) (λ x m. h x (Memᴰ.tail m)))
