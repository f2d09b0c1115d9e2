-- The course of the work: there is one, the run makes it, and what it says of its steps.
-- Shown: `course_unique`; `course_settled`, of two budgets; `run_course`; the steps of a course are each the next one where it was made, there are at most as many as the budget, and
-- before each of them, and at the end unless the goal is reached, the goal wasn't known. Assumes nothing.
use mathlib.Core.Path.{◌≡◌, refl, sym, ap₂, ◌∙◌, subst}
use mathlib.Core.Bool.{Bool, true, false, true≢false, cond, not, ◌&&◌}
use mathlib.Core.Logic.{◌⊎◌, inl, inr, ◌↔◌}
use mathlib.Core.List.Memᴰ
use mathlib.Core.List.{List, [], ◌∷◌, ◌++◌, append-nil, append_assoc, Memᴰ}
use Prim.Native.Nat.{ℕ, zero, suc, ◌+◌, ◌≤◌, ◌<◌}
use native.Mathlib.Omega.{arith}
use lib.Dec.{eqb}
use lib.ListN.{length, take}
use borrow.Author.Tests.{eqb-true, eqb-false, not-true}
use Rattle.bitset.specs.Set.{member}
use Rattle.deduction.specs.Term.{Term, ◌≈◌, flip}
use Rattle.deduction.specs.Setting.{Setting}
use Rattle.deduction.specs.Entry.{Entry, term_at, Downward}
use Rattle.deduction.specs.Standard.{rep_at}
use Rattle.deduction.specs.Step.{Step, FollowsIn, IsNext}
use Rattle.deduction.specs.Course.{Verdict, derivable, underivable, exhausted, Gained, Course}
use Rattle.deduction.specs.Run.{knowledge, no_step, next_number, reached, next_step, goes_on, ended, run, Outcome, after}
use Rattle.deduction.proofs.Standard.{rep_same}
use Rattle.deduction.proofs.Standard.First.{both_true}
use Rattle.deduction.proofs.Steps.Head.{Heads, rep_of}
use Rattle.deduction.proofs.Steps.Next.{heads_more, knowledge_learnt, next_none, next_is_next, next_unique}
use Rattle.deduction.proofs.Steps.InOrder.{Made}
use Rattle.deduction.proofs.Steps.Run.{heads}

-- the steps of a course, over any terms
module _ {on : Setting} {t : ℕ → Term} {n goal : ℕ} where
  pub course_made : {b : ℕ} {es : List ℕ} {ss : List Step} {v : Verdict} → Course on t n goal b es ss v → Made on t n es ss
  course_made (Course.reached g) = Made.none
  course_made (Course.stuck k f) = Made.none
  course_made (Course.stopped k f) = Made.none
  course_made (Course.more k x c) = Made.more x (course_made c)

  -- at most as many as the budget
  pub course_budget : {b : ℕ} {es : List ℕ} {ss : List Step} {v : Verdict} → Course on t n goal b es ss v → length ss ≤ b
  course_budget (Course.reached g) = omega arith
  course_budget (Course.stuck k f) = omega arith
  course_budget (Course.stopped k f) = omega arith
  course_budget (Course.more k x c) = let l = course_budget c in omega arith

  -- a course that isn't stopped is that of every budget of at least its steps
  pub course_enough : {b : ℕ} {es : List ℕ} {ss : List Step} {v : Verdict} (c : ℕ) → Course on t n goal b es ss v → ¬ (v ≡ exhausted) → length ss ≤ c
      → Course on t n goal c es ss v
  course_enough c (Course.reached g) p l = Course.reached g
  course_enough c (Course.stuck k f) p l = Course.stuck k f
  course_enough c (Course.stopped k f) p l = absurd (p refl)
  course_enough zero (Course.more k x d) p l = absurd (omega arith)
  course_enough (suc c) (Course.more k x d) p l = Course.more k x (course_enough c d p (omega arith))

  -- before a step the goal isn't known: not at the start if there is a step, and not after a proper prefix
  pub course_before : {b : ℕ} {es : List ℕ} {ss : List Step} {v : Verdict} → Course on t n goal b es ss v
      → (k : ℕ) → k < length ss → ¬ Gained t n goal (es ++ heads (take k ss))
  course_before (Course.reached g) k l = absurd (omega arith)
  course_before (Course.stuck u f) k l = absurd (omega arith)
  course_before (Course.stopped u f) k l = absurd (omega arith)
  course_before {es} (Course.more u x c) zero l = λ g. u (subst (Gained t n goal) (append-nil es) g)
  course_before {es} (Course.more {s = s} {ss = ss} u x c) (suc k) l =
      λ g. course_before c k (omega arith) (subst (Gained t n goal) (sym (append_assoc es (s.head ∷ []) (heads (take k ss)))) g)

  -- at the end, by the verdict
  pub course_reached : {b : ℕ} {es : List ℕ} {ss : List Step} {v : Verdict} → Course on t n goal b es ss v → v ≡ derivable → Gained t n goal (es ++ heads ss)
  course_reached {es} (Course.reached g) p = subst (Gained t n goal) (sym (append-nil es)) g
  course_reached (Course.stuck u f) p = absurd (let z : ◌≡◌ {A = ℕ} 0 1 = cc in omega arith)
  course_reached (Course.stopped u f) p = absurd (let z : ◌≡◌ {A = ℕ} 0 1 = cc in omega arith)
  course_reached {es} (Course.more {s = s} {ss = ss} u x c) p = subst (Gained t n goal) (append_assoc es (s.head ∷ []) (heads ss)) (course_reached c p)

  pub course_stuck : {b : ℕ} {es : List ℕ} {ss : List Step} {v : Verdict} → Course on t n goal b es ss v → v ≡ underivable
      → (¬ Gained t n goal (es ++ heads ss)) × ((s : Step) → ¬ FollowsIn on t n (es ++ heads ss) s)
  course_stuck (Course.reached g) p = absurd (let z : ◌≡◌ {A = ℕ} 0 1 = cc in omega arith)
  course_stuck {es} (Course.stuck u f) p = subst (λ (l : List ℕ). (¬ Gained t n goal l) × ((s : Step) → ¬ FollowsIn on t n l s)) (sym (append-nil es)) (u, f)
  course_stuck (Course.stopped u f) p = absurd (let z : ◌≡◌ {A = ℕ} 0 1 = cc in omega arith)
  course_stuck {es} (Course.more {s = s} {ss = ss} u x c) p =
      subst (λ (l : List ℕ). (¬ Gained t n goal l) × ((r : Step) → ¬ FollowsIn on t n l r)) (append_assoc es (s.head ∷ []) (heads ss)) (course_stuck c p)

  pub course_stopped : {b : ℕ} {es : List ℕ} {ss : List Step} {v : Verdict} → Course on t n goal b es ss v → v ≡ exhausted
      → (length ss ≡ b) × (¬ Gained t n goal (es ++ heads ss)) × ((s : Step) × FollowsIn on t n (es ++ heads ss) s)
  course_stopped (Course.reached g) p = absurd (let z : ◌≡◌ {A = ℕ} 0 1 = cc in omega arith)
  course_stopped (Course.stuck u f) p = absurd (let z : ◌≡◌ {A = ℕ} 0 1 = cc in omega arith)
  course_stopped {es} (Course.stopped {s = s} u f) p =
      let rest = subst (λ (l : List ℕ). (¬ Gained t n goal l) × ((r : Step) × FollowsIn on t n l r)) (sym (append-nil es)) (u, (s, f)) in
      (refl, rest.0, rest.1)
  course_stopped {es} (Course.more {s = s} {ss = ss} u x c) p =
      let (q, u', f) = course_stopped c p in
      let rest = subst (λ (l : List ℕ). (¬ Gained t n goal l) × ((r : Step) × FollowsIn on t n l r)) (append_assoc es (s.head ∷ []) (heads ss)) (u', f) in
      (omega arith, rest.0, rest.1)

-- over the entries of a sheet
module _ (e : ℕ → Entry) (n : ℕ) (down : Downward e n) (goal : ℕ) where
  -- one setting, one start and one budget have one course
  pub course_unique : {on : Setting} {b : ℕ} {es : List ℕ} {ss rs : List Step} {v w : Verdict} → Heads e n es
      → Course on (term_at e) n goal b es ss v → Course on (term_at e) n goal b es rs w → (ss ≡ rs) × (v ≡ w)
  course_unique hs (Course.reached g) (Course.reached h) = (refl, refl)
  course_unique hs (Course.reached g) (Course.stuck u f) = absurd (u g)
  course_unique hs (Course.reached g) (Course.stopped u f) = absurd (u g)
  course_unique hs (Course.reached g) (Course.more u x c) = absurd (u g)
  course_unique hs (Course.stuck u f) (Course.reached g) = absurd (u g)
  course_unique hs (Course.stuck u f) (Course.stuck h k) = (refl, refl)
  course_unique hs (Course.stuck u f) (Course.stopped {s = s} h k) = absurd (f s k)
  course_unique hs (Course.stuck u f) (Course.more {s = s} h x c) = absurd (f s x.0)
  course_unique hs (Course.stopped u f) (Course.reached g) = absurd (u g)
  course_unique hs (Course.stopped {s = s} u f) (Course.stuck h k) = absurd (k s f)
  course_unique hs (Course.stopped u f) (Course.stopped h k) = (refl, refl)
  course_unique hs (Course.more u x c) (Course.reached g) = absurd (u g)
  course_unique hs (Course.more {s = s} u x c) (Course.stuck h k) = absurd (k s x.0)
  course_unique {on = on} {es = es} hs (Course.more {b = b} {s = s} {v = v} u x c) (Course.more {s = r} {ss = rs} {v = w} h y d) =
      let p : s ≡ r = next_unique e n down es hs on s r x y in
      let (q, z) = course_unique (heads_more e n down es s hs x.0.1) c (subst (λ (a : Step). Course on (term_at e) n goal b (es ++ (a.head ∷ [])) rs w) (sym p) d) in
      (ap₂ (λ (a : Step) (l : List Step). a ∷ l) p q, z)

  -- two budgets: where neither course is stopped, they are one
  pub course_settled : {on : Setting} {b c : ℕ} {es : List ℕ} {ss rs : List Step} {v w : Verdict} → Heads e n es
      → Course on (term_at e) n goal b es ss v → Course on (term_at e) n goal c es rs w → ¬ (v ≡ exhausted) → ¬ (w ≡ exhausted) → (ss ≡ rs) × (v ≡ w)
  course_settled {b = b} {c = c} hs x y p q =
      course_unique hs (course_enough (b + c) x p (let l = course_budget x in omega arith)) (course_enough (b + c) y q (let l = course_budget y in omega arith))

  -- what is known at its end are heads
  pub course_heads : {on : Setting} {b : ℕ} {es : List ℕ} {ss : List Step} {v : Verdict} → Heads e n es → Course on (term_at e) n goal b es ss v → Heads e n (es ++ heads ss)
  course_heads {es = es} hs (Course.reached g) = subst (Heads e n) (sym (append-nil es)) hs
  course_heads {es = es} hs (Course.stuck u f) = subst (Heads e n) (sym (append-nil es)) hs
  course_heads {es = es} hs (Course.stopped u f) = subst (Heads e n) (sym (append-nil es)) hs
  course_heads {es = es} hs (Course.more {s = s} {ss = ss} u x c) =
      subst (Heads e n) (append_assoc es (s.head ∷ []) (heads ss)) (course_heads (heads_more e n down es s hs x.0.1) c)

  -- the goal is known exactly when its head is
  module _ (low : goal < n) (es : List ℕ) (hs : Heads e n es) where
    pub gained_head : Gained (term_at e) n goal es → Memᴰ (rep_at e goal) es
    gained_head (u, m, p) =
        let (i, k, q) = Memᴰ.of_map (term_at e) es m in
        Memᴰ.cast (rep_of e n down goal i low (hs i k).0 (hs i k).1 (flip (subst (λ (x : Term). x ≈ term_at e goal) (sym q) p))) k

    pub head_gained : Memᴰ (rep_at e goal) es → Gained (term_at e) n goal es
    head_gained m = (term_at e (rep_at e goal), Memᴰ.map (term_at e) m, rep_same e n down goal low)

  -- the run makes the course
  module _ (on : Setting) (low : goal < n) (small : n ≤ 256) where
    ended_course : (b : ℕ) (es : List ℕ) → Heads e n es → (b ≡ 0) ⊎ (goes_on on e n goal es ≡ false)
        → Course on (term_at e) n goal b es [] (ended on e n goal es).verdict
    unfolding ended goes_on reached
    ended_course b es hs w = go (member (knowledge e es).known (rep_at e goal)) (eqb (next_number on e n (knowledge e es)) no_step) refl refl w
      where
        members : (i : ℕ) → (member (knowledge e es).known i ≡ true) ↔ Memᴰ i es
        members = (knowledge_learnt e n down es hs).members

        open_goal : member (knowledge e es).known (rep_at e goal) ≡ false → ¬ Gained (term_at e) n goal es
        open_goal p g = true≢false (sym ((members (rep_at e goal)).1 (gained_head low es hs g)) ∙ p)

        go : (a c : Bool) → member (knowledge e es).known (rep_at e goal) ≡ a → eqb (next_number on e n (knowledge e es)) no_step ≡ c → (b ≡ 0) ⊎ (not a && not c ≡ false)
            → Course on (term_at e) n goal b es [] (cond a derivable (cond c underivable exhausted))
        go true c p q h = Course.reached (head_gained low es hs ((members (rep_at e goal)).0 p))
        go false true p q h = Course.stuck (open_goal p) ((next_none e n down es hs small on).0 (eqb-true (next_number on e n (knowledge e es)) no_step q))
        go false false p q (inr h) = absurd (true≢false h)
        go false false p q (inl h) =
            subst (λ (k : ℕ). Course on (term_at e) n goal k es [] exhausted) (sym h)
            (Course.stopped (open_goal p) (next_is_next e n down es hs small on (eqb-false (next_number on e n (knowledge e es)) no_step q)).0)

    pub run_course : (b : ℕ) (es : List ℕ) → Heads e n es → Course on (term_at e) n goal b es (run on e n goal b es).steps (run on e n goal b es).verdict
    unfolding run after ended goes_on reached
    run_course zero es hs = ended_course zero es hs (inl refl)
    run_course (suc b) es hs = go (goes_on on e n goal es) refl (λ l. run_course b (es ++ ((next_step on e n es).head ∷ [])) l)
      where
        Makes : ℕ → Outcome → Type 0
        Makes k o = Course on (term_at e) n goal k es o.steps o.verdict

        rest : Outcome
        rest = run on e n goal b (es ++ ((next_step on e n es).head ∷ []))

        go : (c : Bool) → goes_on on e n goal es ≡ c → (Heads e n (es ++ ((next_step on e n es).head ∷ [])) → Course on (term_at e) n goal b (es ++ ((next_step on e n es).head ∷ [])) rest.steps rest.verdict)
            → Makes (suc b) (elim c as (λ x. Outcome) [ true ↦ after (next_step on e n es) rest | false ↦ ended on e n goal es ])
        go true p ih =
            let (k, f) = both_true (not (reached e goal (knowledge e es))) (not (eqb (next_number on e n (knowledge e es)) no_step)) p in
            let next : IsNext on (term_at e) n es (next_step on e n es) = next_is_next e n down es hs small on (eqb-false (next_number on e n (knowledge e es)) no_step (not-true _ f)) in
            Course.more (λ g. true≢false (sym (((knowledge_learnt e n down es hs).members (rep_at e goal)).1 (gained_head low es hs g)) ∙ not-true _ k)) next (ih (heads_more e n down es (next_step on e n es) hs next.0.1))
        go false p ih = ended_course (suc b) es hs (inr p)
