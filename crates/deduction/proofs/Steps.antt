-- The run: its steps, its bounds and its verdicts, for any rules switched on, any entries that refer downwards, any start of heads, any goal and any
-- budget.
-- Shown: the step made is the next one of document 01's order; the steps replay and extend a derivation from the start; there are at
-- most n of them and at most the budget; each verdict says what document 01 says, and with a budget of at least n the verdict is
-- underivable exactly when no derivation from the start holds the goal's term. Assumes nothing.
use mathlib.Core.Path.{◌≡◌, refl, sym, ◌∙◌, subst}
use mathlib.Core.Bool.{true, true≢false}
use mathlib.Core.Logic.{◌↔◌}
use mathlib.Core.List.Memᴰ
use mathlib.Core.List.{List, ◌++◌, map, Memᴰ}
use Prim.Native.Nat.{ℕ, ◌≤◌, ◌<◌}
use native.Mathlib.Omega.{arith}
use lib.ListN.{length}
use Rattle.bitset.specs.Set.{member}
use Rattle.deduction.specs.Term.{Term, same}
use Rattle.deduction.specs.Setting.{Setting}
use Rattle.deduction.specs.Entry.{Entry, term_at, Downward}
use Rattle.deduction.specs.Standard.{rep_at}
use Rattle.deduction.specs.Derivation.{Holds, Derivation, Derivable}
use Rattle.deduction.specs.Step.{Step, FollowsIn}
use Rattle.deduction.specs.Run.{knowledge, next_step, Verdict, derivable, underivable, exhausted, run}
use Rattle.deduction.specs.Replay.{Replays}
use Rattle.deduction.proofs.Standard.{rep_same}
pub use Head.{Heads}
pub use Next.{next_none, next_is_next, next_unique}
pub use InOrder.{Made, made_unique}
pub use Course.{course_unique, run_course}
pub use Closed.{closed, stuck_has}
pub use Replay.{replay_derivation, replay_derivable}
pub use Start.{trace_heads, trace_derivable, trace_replays, trace_end}
use Next.{knowledge_learnt, heads_more}
use Replay.{end_state, end_exact, made_replays_from}
use Run.{Ran, ran, count_more, count_le, ended_derivable, ended_underivable, ended_exhausted}
pub mod Head
pub mod Opener
pub mod Numbers
pub mod Drawn
pub mod Found
pub mod Offers
pub mod Order
pub mod Next
pub mod InOrder
pub mod Closed
pub mod Held
pub mod Replay
pub mod Run
pub mod Start
pub mod Course
pub mod Fields
pub mod Missing

module _ (on : Setting) (e : ℕ → Entry) (n : ℕ) (down : Downward e n) where
  -- steps in a row, each the next, replay from the terms of the known heads
  pub made_replays : (es : List ℕ) (ss : List Step) → Heads e n es → Made on (term_at e) n es ss → Replays on (term_at e) n (map (term_at e) es) ss (end_state (term_at e) (map (term_at e) es) ss)
  made_replays es ss hs = made_replays_from (term_at e) n (map (term_at e) es) (λ i m. ((hs i m).0, (term_at e i, Memᴰ.map (term_at e) m, same)))

  -- and extend a derivation, which holds exactly the terms of the known heads and of the gained ones
  pub sound : (es : List ℕ) (ss : List Step) → Heads e n es → Made on (term_at e) n es ss
      → (g : List Term) × Derivation on (map (term_at e) es) g × ((u : Term) → Holds g u ↔ Holds (end_state (term_at e) (map (term_at e) es) ss) u)
  sound es ss hs m = replay_derivation (term_at e) n (made_replays es ss hs m)

  pub sound_heads : (es : List ℕ) (ss : List Step) → Heads e n es → Made on (term_at e) n es ss
      → (i : ℕ) → Memᴰ i (es ++ map (λ (s : Step). s.head) ss) → Derivable on (map (term_at e) es) (term_at e i)
  sound_heads es ss hs m i c = replay_derivable (term_at e) n (made_replays es ss hs m) (term_at e i) ((end_exact (term_at e) es ss (term_at e i)).1 (i, c, same))

  module _ (small : n ≤ 256) (goal b : ℕ) (start : List ℕ) (hs : Heads e n start) where
    whole : Ran on e n down goal b start (run on e n goal b start)
    whole = ran on e n down goal small b start hs

    -- the steps, each the next where it was made, and the heads learnt
    pub made : Made on (term_at e) n start (run on e n goal b start).steps
    made = whole.made

    pub learnt_steps : (run on e n goal b start).learnt ≡ start ++ map (λ (s : Step). s.head) (run on e n goal b start).steps
    learnt_steps = whole.learnt

    pub learnt_heads : Heads e n (run on e n goal b start).learnt
    learnt_heads = whole.all_heads

    -- the known set at the end is exactly the learnt heads
    pub known_set : (i : ℕ) → (member (knowledge e (run on e n goal b start).learnt).known i ≡ true) ↔ Memᴰ i (run on e n goal b start).learnt
    known_set i = (knowledge_learnt e n down (run on e n goal b start).learnt learnt_heads).members i

    -- bounds
    pub steps_budget : length (run on e n goal b start).steps ≤ b
    steps_budget = whole.budget

    pub steps_le : length (run on e n goal b start).steps ≤ n
    steps_le = omega (arith, whole.count, count_le e n down (run on e n goal b start).learnt learnt_heads)

    -- "*stopped* if it isn't, exactly b rungs were made and another follows"
    pub exhausted_exact : (run on e n goal b start).verdict ≡ exhausted
        → (length (run on e n goal b start).steps ≡ b) × (¬ (Memᴰ (rep_at e goal) (run on e n goal b start).learnt)) × ((s : Step) × FollowsIn on (term_at e) n (run on e n goal b start).learnt s)
    exhausted_exact p =
        let q = ended_exhausted on e n goal (run on e n goal b start).learnt (sym whole.verdict ∙ p) in (
          whole.stopped p,
          λ m. true≢false (sym ((known_set (rep_at e goal)).1 m) ∙ q.0),
          (next_step on e n (run on e n goal b start).learnt, (next_is_next e n down (run on e n goal b start).learnt learnt_heads small on q.1).0),
        )

    -- "With b at least n nothing is stopped"
    pub run_enough : n ≤ b → ¬ ((run on e n goal b start).verdict ≡ exhausted)
    run_enough l p =
        let (q, f, (s, g)) = exhausted_exact p in
        omega (arith, whole.count, count_more e n down (run on e n goal b start).learnt s learnt_heads g.1, count_le e n down _ (heads_more e n down (run on e n goal b start).learnt s learnt_heads g.1))

    -- "*reached* if the goal is gained"
    pub derivable_known : (run on e n goal b start).verdict ≡ derivable → Memᴰ (rep_at e goal) (run on e n goal b start).learnt
    derivable_known p = (known_set (rep_at e goal)).0 (ended_derivable on e n goal (run on e n goal b start).learnt (sym whole.verdict ∙ p))

    module _ (low : goal < n) where
      -- the replay of the steps has no wrong one, and holds the goal's term at its end
      pub run_replays : (run on e n goal b start).verdict ≡ derivable
          → Replays on (term_at e) n (map (term_at e) start) (run on e n goal b start).steps (end_state (term_at e) (map (term_at e) start) (run on e n goal b start).steps)
          × Holds (end_state (term_at e) (map (term_at e) start) (run on e n goal b start).steps) (term_at e goal)
      run_replays p = (
        made_replays start (run on e n goal b start).steps hs made,
        (end_exact (term_at e) start (run on e n goal b start).steps (term_at e goal)).1
            (rep_at e goal, subst (λ (l : List ℕ). Memᴰ (rep_at e goal) l) learnt_steps (derivable_known p), rep_same e n down goal low),
      )

      pub derivable_sound : (run on e n goal b start).verdict ≡ derivable → Derivable on (map (term_at e) start) (term_at e goal)
      derivable_sound p = let (r, h) = run_replays p in replay_derivable (term_at e) n r (term_at e goal) h

      -- "*out of reach* if it isn't and no rung follows": then no derivation at all holds the goal's term
      pub underivable_exact : (run on e n goal b start).verdict ≡ underivable → ¬ Derivable on (map (term_at e) start) (term_at e goal)
      underivable_exact p d =
          let q = ended_underivable on e n goal (run on e n goal b start).learnt (sym whole.verdict ∙ p) in
          let stuck = (next_none e n down (run on e n goal b start).learnt learnt_heads small on).0 q.1 in
          let m = stuck_has e n down (run on e n goal b start).learnt learnt_heads on stuck start from goal low d in
          true≢false (sym ((known_set (rep_at e goal)).1 m) ∙ q.0)
        where
          from : (i : ℕ) → Memᴰ i start → Memᴰ i (run on e n goal b start).learnt
          from i m = subst (λ (l : List ℕ). Memᴰ i l) (sym learnt_steps) (Memᴰ.append_left _ m)

      -- with a budget of at least n the verdict decides
      pub underivable_iff : n ≤ b → ((run on e n goal b start).verdict ≡ underivable) ↔ (¬ Derivable on (map (term_at e) start) (term_at e goal))
      underivable_iff l = (underivable_exact, λ f. go f (run on e n goal b start).verdict refl)
        where
          go : ¬ Derivable on (map (term_at e) start) (term_at e goal) → (v : Verdict) → (run on e n goal b start).verdict ≡ v → (run on e n goal b start).verdict ≡ underivable
          go f derivable p = absurd (f (derivable_sound p))
          go f underivable p = p
          go f exhausted p = absurd (run_enough l p)

      pub derivable_iff : n ≤ b → ((run on e n goal b start).verdict ≡ derivable) ↔ Derivable on (map (term_at e) start) (term_at e goal)
      derivable_iff l = (derivable_sound, λ d. go d (run on e n goal b start).verdict refl)
        where
          go : Derivable on (map (term_at e) start) (term_at e goal) → (v : Verdict) → (run on e n goal b start).verdict ≡ v → (run on e n goal b start).verdict ≡ derivable
          go d derivable p = p
          go d underivable p = absurd (underivable_exact p d)
          go d exhausted p = absurd (run_enough l p)

  -- the same for a start of any entries heard, each learnt as its head: the replay and the derivations start from the terms heard
  module _ (small : n ≤ 256) (goal b : ℕ) (trace : List ℕ) (below : (i : ℕ) → Memᴰ i trace → i < n) (low : goal < n) where
    pub trace_run_replays : (run on e n goal b (map (rep_at e) trace)).verdict ≡ derivable
        → Replays on (term_at e) n (map (term_at e) trace) (run on e n goal b (map (rep_at e) trace)).steps (end_state (term_at e) (map (term_at e) trace) (run on e n goal b (map (rep_at e) trace)).steps)
        × Holds (end_state (term_at e) (map (term_at e) trace) (run on e n goal b (map (rep_at e) trace)).steps) (term_at e goal)
    trace_run_replays p =
        let (r, h) = run_replays small goal b (map (rep_at e) trace) (trace_heads e n down trace below) low p in
        ((trace_replays e n down trace below (run on e n goal b (map (rep_at e) trace)).steps).1 r, (trace_end e n down trace below (run on e n goal b (map (rep_at e) trace)).steps (term_at e goal)).1 h)

    pub trace_underivable_exact : (run on e n goal b (map (rep_at e) trace)).verdict ≡ underivable → ¬ Derivable on (map (term_at e) trace) (term_at e goal)
    trace_underivable_exact p d =
        underivable_exact small goal b (map (rep_at e) trace) (trace_heads e n down trace below) low p ((trace_derivable e n down trace below (term_at e goal)).0 d)

    pub trace_underivable_iff : n ≤ b → ((run on e n goal b (map (rep_at e) trace)).verdict ≡ underivable) ↔ (¬ Derivable on (map (term_at e) trace) (term_at e goal))
    trace_underivable_iff l = (
      trace_underivable_exact,
      λ f. (underivable_iff small goal b (map (rep_at e) trace) (trace_heads e n down trace below) low l).1 (λ d. f ((trace_derivable e n down trace below (term_at e goal)).1 d)),
    )
