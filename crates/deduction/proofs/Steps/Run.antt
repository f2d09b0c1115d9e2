-- The run, described once: every step was the next, and what steps, learnt heads, verdict and budget have to do with each other.
-- Defined: `Ran`, that description.
-- Shown: every run has it; what each verdict says of the last state; a step adds one to the number of known heads, which is at most n.
-- Assumes nothing.
use mathlib.Core.Path.{◌≡◌, refl, sym, ap, ap₂, ◌∙◌}
use mathlib.Core.Bool.{Bool, true, false, true≢false, cond, not, ◌&&◌}
use mathlib.Core.Logic.{◌⊎◌, inl, inr}
use mathlib.Core.List.{List, [], ◌∷◌, ◌++◌, map, append-nil, append_assoc}
use Prim.Native.Nat.{ℕ, zero, suc, ◌+◌, ◌≤◌}
use native.Mathlib.Omega.{arith}
use lib.Count.{ones, ones-le}
use lib.Dec.{eqb}
use lib.ListN.{length}
use borrow.Author.Tests.{eqb-true, eqb-false, not-true}
use Rattle.bitset.specs.Set.{member, insert}
use Rattle.bitset.proofs.Laws.Sums.{ones_insert}
use Rattle.deduction.specs.Setting.{Setting}
use Rattle.deduction.specs.Entry.{Entry, term_at, Downward}
use Rattle.deduction.specs.Standard.{set_at, rep_at}
use Rattle.deduction.specs.Elimination.{Row, Knowledge, learn_as, nothing}
use Rattle.deduction.specs.Step.{Step, Follows, IsNext}
use Rattle.deduction.specs.Run.{knowledge, no_step, next_number, derivable, underivable, exhausted, Outcome, after, reached, next_step, goes_on, ended, run}
use Rattle.deduction.proofs.Elimination.{learn_all_more, known_below}
use Rattle.deduction.proofs.Standard.First.{both_true}
use Rattle.deduction.proofs.Steps.Head.{Heads}
use Rattle.deduction.proofs.Steps.Offers.{not_known}
use Rattle.deduction.proofs.Steps.Next.{follows_open, heads_more, knowledge_learnt, next_is_next}
use Rattle.deduction.proofs.Steps.InOrder.{Made}

-- the gained heads of steps
abbrev pub heads : List Step → List ℕ
heads ss = map (λ (s : Step). s.head) ss

-- what each verdict says of its two tests
verdict_derivable : (a c : Bool) → cond a derivable (cond c underivable exhausted) ≡ derivable → a ≡ true
verdict_derivable true c p = refl
verdict_derivable false true p = let z : ◌≡◌ {A = ℕ} 0 1 = cc in absurd (omega arith)
verdict_derivable false false p = let z : ◌≡◌ {A = ℕ} 0 1 = cc in absurd (omega arith)

verdict_underivable : (a c : Bool) → cond a derivable (cond c underivable exhausted) ≡ underivable → (a ≡ false) × (c ≡ true)
verdict_underivable true c p = let z : ◌≡◌ {A = ℕ} 0 1 = cc in absurd (omega arith)
verdict_underivable false true p = (refl, refl)
verdict_underivable false false p = let z : ◌≡◌ {A = ℕ} 0 1 = cc in absurd (omega arith)

verdict_exhausted : (a c : Bool) → cond a derivable (cond c underivable exhausted) ≡ exhausted → (a ≡ false) × (c ≡ false)
verdict_exhausted true c p = let z : ◌≡◌ {A = ℕ} 0 1 = cc in absurd (omega arith)
verdict_exhausted false true p = let z : ◌≡◌ {A = ℕ} 0 1 = cc in absurd (omega arith)
verdict_exhausted false false p = (refl, refl)

-- and so of the last state
module _ (on : Setting) (e : ℕ → Entry) (n goal : ℕ) (es : List ℕ) where
  pub ended_derivable : (ended on e n goal es).verdict ≡ derivable → member (knowledge e es).known (rep_at e goal) ≡ true
  unfolding ended reached
  ended_derivable p = verdict_derivable (reached e goal (knowledge e es)) (eqb (next_number on e n (knowledge e es)) no_step) p

  pub ended_underivable : (ended on e n goal es).verdict ≡ underivable → (member (knowledge e es).known (rep_at e goal) ≡ false) × (next_number on e n (knowledge e es) ≡ no_step)
  unfolding ended reached
  ended_underivable p =
      let q = verdict_underivable (reached e goal (knowledge e es)) (eqb (next_number on e n (knowledge e es)) no_step) p in
      (q.0, eqb-true (next_number on e n (knowledge e es)) no_step q.1)

  pub ended_exhausted : (ended on e n goal es).verdict ≡ exhausted → (member (knowledge e es).known (rep_at e goal) ≡ false) × (¬ (next_number on e n (knowledge e es) ≡ no_step))
  unfolding ended reached
  ended_exhausted p =
      let q = verdict_exhausted (reached e goal (knowledge e es)) (eqb (next_number on e n (knowledge e es)) no_step) p in
      (q.0, eqb-false (next_number on e n (knowledge e es)) no_step q.1)

-- one more head, and the known set
learn_new : (k : Knowledge) (h v : ℕ) → member k.known h ≡ false → (learn_as k h v).known ≡ insert k.known h
unfolding learn_as
learn_new k h v p = go (member k.known h) _ p
  where
    go : (b : Bool) (rows : List Row) → b ≡ false → (cond b k (record { known = insert k.known h; rows = rows })).known ≡ insert k.known h
    go false rows q = refl
    go true rows q = absurd (true≢false q)

pub known_more : (e : ℕ → Entry) (es : List ℕ) (h : ℕ) → member (knowledge e es).known h ≡ false → (knowledge e (es ++ (h ∷ []))).known ≡ insert (knowledge e es).known h
unfolding knowledge
known_more e es h p = ap (λ (k : Knowledge). k.known) (learn_all_more (set_at e) nothing es h) ∙ learn_new (knowledge e es) h (set_at e h) p

module _ (e : ℕ → Entry) (n : ℕ) (down : Downward e n) where
  -- a step that follows adds one to the number of known heads, and there are at most n
  pub count_more : (es : List ℕ) (s : Step) → Heads e n es → Follows (term_at e) n es s → ones (knowledge e (es ++ (s.head ∷ []))).known ≡ suc (ones (knowledge e es).known)
  count_more es s hs f =
      let new = not_known e n down (knowledge_learnt e n down es hs) hs s.head (follows_open e n f).1 in
      ap ones (known_more e es s.head new) ∙ ones_insert (knowledge e es).known s.head new

  pub count_le : (es : List ℕ) → Heads e n es → ones (knowledge e es).known ≤ n
  count_le es hs = ones-le n (knowledge e es).known (known_below (knowledge_learnt e n down es hs))

-- The rules that are switched on are those of `on`
module _ (on : Setting) (e : ℕ → Entry) (n : ℕ) (down : Downward e n) where
  -- the outcome o of a run with budget b from the heads es
  pub record Ran (goal b : ℕ) (es : List ℕ) (o : Outcome) : Type 0 where
    pub made : Made on (term_at e) n es o.steps
    pub learnt : o.learnt ≡ es ++ heads o.steps
    pub all_heads : Heads e n o.learnt
    pub budget : length o.steps ≤ b
    pub verdict : o.verdict ≡ (ended on e n goal o.learnt).verdict
    pub stopped : o.verdict ≡ exhausted → length o.steps ≡ b
    pub count : ones (knowledge e es).known + length o.steps ≡ ones (knowledge e o.learnt).known

  module _ (goal : ℕ) where
    -- no step more
    ran_ended : (b : ℕ) (es : List ℕ) → Heads e n es → (b ≡ 0) ⊎ (goes_on on e n goal es ≡ false) → Ran goal b es (ended on e n goal es)
    unfolding ended goes_on
    ran_ended b es hs w =
        record {
          made = Made.none;
          learnt = sym (append-nil es);
          all_heads = hs;
          budget = omega arith;
          verdict = refl;
          stopped = λ p. go w (verdict_exhausted (reached e goal (knowledge e es)) (eqb (next_number on e n (knowledge e es)) no_step) p);
          count = omega arith;
        }
      where
        go : (b ≡ 0) ⊎ (goes_on on e n goal es ≡ false) → (reached e goal (knowledge e es) ≡ false) × (eqb (next_number on e n (knowledge e es)) no_step ≡ false) → 0 ≡ b
        go (inl p) q = sym p
        go (inr p) (q, r) = absurd (true≢false (sym (ap₂ (λ (x y : Bool). not x && not y) q r) ∙ p))

    -- one step more
    ran_after : (b : ℕ) (es : List ℕ) (s : Step) (o : Outcome) → Heads e n es → IsNext on (term_at e) n es s → Ran goal b (es ++ (s.head ∷ [])) o → Ran goal (suc b) es (after s o)
    unfolding after
    ran_after b es s o hs f r =
        record {
          made = Made.more f r.made;
          learnt = r.learnt ∙ append_assoc es (s.head ∷ []) (heads o.steps);
          all_heads = r.all_heads;
          budget = let l = r.budget in omega arith;
          verdict = r.verdict;
          stopped = λ p. ap suc (r.stopped p);
          count = let c = r.count in omega (arith, count_more e n down es s hs f.0.1);
        }

    module _ (small : n ≤ 256) where
      pub ran : (b : ℕ) (es : List ℕ) → Heads e n es → Ran goal b es (run on e n goal b es)
      unfolding run goes_on
      ran zero es hs = ran_ended zero es hs (inl refl)
      ran (suc b) es hs = go (goes_on on e n goal es) refl (λ l. ran b (es ++ ((next_step on e n es).head ∷ [])) l)
        where
          go : (c : Bool) → goes_on on e n goal es ≡ c → (Heads e n (es ++ ((next_step on e n es).head ∷ [])) → Ran goal b (es ++ ((next_step on e n es).head ∷ [])) (run on e n goal b (es ++ ((next_step on e n es).head ∷ []))))
              → Ran goal (suc b) es (elim c as (λ x. Outcome) [ true ↦ after (next_step on e n es) (run on e n goal b (es ++ ((next_step on e n es).head ∷ []))) | false ↦ ended on e n goal es ])
          go true p ih = ran_after b es (next_step on e n es) _ hs next (ih (heads_more e n down es (next_step on e n es) hs next.0.1))
            where
              next : IsNext on (term_at e) n es (next_step on e n es)
              next =
                  next_is_next e n down es hs small on
                  (eqb-false (next_number on e n (knowledge e es)) no_step
                  (not-true _ (both_true (not (reached e goal (knowledge e es))) (not (eqb (next_number on e n (knowledge e es)) no_step)) p).1))
          go false p ih = ran_ended (suc b) es hs (inr p)
