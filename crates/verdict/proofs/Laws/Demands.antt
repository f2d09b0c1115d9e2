-- The demands of a call that isn't refused, from the theorems over steps and derivations.
-- Shown: `meets`, for a good sheet and the outcome of its run, in a buffer of its known set, its steps and whatever follows. Assumes nothing.
use mathlib.Core.Path.{◌≡◌, refl, sym, ap, ap₂, ◌∙◌, subst}
use mathlib.Core.Bool.{Bool, true, false}
use mathlib.Core.Logic.{⊎_elim, ◌↔◌}
use mathlib.Core.List.Memᴰ
use mathlib.Core.List.{List, ◌++◌, map, Memᴰ, append_assoc}
use Prim.Native.Nat.{ℕ, ◌+◌, ◌*◌, ◌^◌, ◌≤◌, ◌<◌}
use native.Mathlib.Nat.{le_trans, lt_of_lt_of_le}
use native.Mathlib.Omega.{arith}
use lib.ListN.{length, drop, length-append}
use lib.Pow.{pow_mono, pow_pos}
use lib.Seq.{drop_at}
use Rattle.bitset.specs.Set.{member}
use Rattle.bitset.proofs.Laws.Sums.{below_members}
use Rattle.deduction.specs.Term.{Term}
use Rattle.deduction.specs.Setting.{Setting}
use Rattle.deduction.specs.Derivation.{Holds, Derivable}
use Rattle.deduction.specs.Entry.{Entry, term_at, Downward}
use Rattle.deduction.specs.Standard.{set_at, OwnSet}
use Rattle.deduction.specs.Elimination.{Reduced, reduce}
use Rattle.deduction.specs.Missing.{Missing}
use Rattle.deduction.specs.Step.{Step, Follows, FollowsIn}
use Rattle.deduction.specs.Course.{Verdict, derivable, underivable, exhausted, Course}
use Rattle.deduction.specs.Run.{Outcome, knowledge}
use Rattle.deduction.specs.Replay.{Replays}
use Rattle.deduction.proofs.Steps.{Heads, Made, made, learnt_steps, learnt_heads, known_set, steps_le, run_enough, run_course, trace_run_replays, trace_underivable_exact, trace_underivable_iff, trace_heads}
use Rattle.deduction.proofs.Standard.{set_sum, set_unique}
use Rattle.deduction.proofs.Standard.Independent.{set_standard}
use Rattle.deduction.proofs.Elimination.State.{Learnt}
use Rattle.deduction.proofs.Steps.Next.{follows_open, knowledge_learnt}
use Rattle.deduction.proofs.Steps.Drawn.{drawn_known}
use Rattle.deduction.proofs.Steps.Course.{course_stuck}
use Rattle.deduction.proofs.Steps.Missing.{missing_found, missing_is, missing_some}
use Rattle.deduction.proofs.Steps.Replay.{end_state}
use Rattle.dag.specs.Sheet.{count_of, goal_of, trace_length}
use Rattle.dag.specs.Record.{entry_at}
use Rattle.dag.specs.Refusal.{refusal}
use Rattle.dag.proofs.Laws.Good.{Good, good}
use Rattle.derive.specs.Bytes.{steps_bytes}
use Rattle.derive.proofs.Laws.Buffer.{steps_length}
use Rattle.verdict.specs.Buffer.{front, gained_in, used_in, remainder_in, steps_in}
use Rattle.verdict.specs.Answer.{outcome_of, missing_as, missing_by, missing_of, front_of}
use Rattle.start.specs.Start.{start_entries, start_heads, start_terms}
use Rattle.start.proofs.Laws.Heads.{start_below}
use Rattle.verdict.specs.Demands.{verdict_code, goal_term, Meets}
use Rattle.verdict.proofs.Laws.Readback.{Narrow, read_back, front_length, gained_read, used_read, remainder_read}

-- the set of a step that follows has members below n only
follows_narrow : (t : ℕ → Term) (n : ℕ) → n ≤ 256 → (es : List ℕ) → ((i : ℕ) → Memᴰ i es → i < n) → {s : Step} → Follows t n es s → Narrow s
follows_narrow t n few es below (Follows.first b o k p) = pow_pos 256
follows_narrow t n few es below (Follows.second a o k p) = pow_pos 256
follows_narrow t n few es below (Follows.decrypt o k j p) = pow_pos 256
follows_narrow t n few es below (Follows.join o k j p) = pow_pos 256
follows_narrow t n few es below (Follows.encrypt o k j p) = pow_pos 256
follows_narrow t n few es below (Follows.adecrypt x a o k j p q) = pow_pos 256
follows_narrow t n few es below (Follows.aencrypt x a o k j p q) = pow_pos 256
follows_narrow t n few es below (Follows.sum u o d p) = lt_of_lt_of_le (below_members n u (λ j m. below j (drawn_known t n es j (d j m)))) (pow_mono few)

-- so has every step made
made_narrow : {on : Setting} (e : ℕ → Entry) (n : ℕ) → Downward e n → n ≤ 256 → {es : List ℕ} {ss : List Step} → Made on (term_at e) n es ss → ((i : ℕ) → Memᴰ i es → i < n) → (s : Step) → Memᴰ s ss → Narrow s
made_narrow e n down few Made.none below s m = absurd (Memᴰ.not-nil m)
made_narrow e n down few (Made.more {es = es} {s = r} next rest) below s m =
    ⊎_elim (λ p. subst Narrow (sym p) (follows_narrow (term_at e) n few es below next.0.1))
    (λ q. made_narrow e n down few rest (λ i h. ⊎_elim (below i) (λ z. subst (λ (x : ℕ). x < n) (sym (Memᴰ.eq_of_singleton z)) (follows_open e n next.0.1).0.0) (Memᴰ.append_cases es h)) s q)
    (Memᴰ.cases_cons m)

-- what stands after two pieces of a buffer
front_kept : (a b rest : List ℕ) (n : ℕ) → length a + length b ≡ n → drop n (a ++ (b ++ rest)) ≡ rest
front_kept a b rest n l = ap (drop n) (sym (append_assoc a b rest)) ∙ drop_at (a ++ b) rest n (length-append a b ∙ l)

module _ (on : Setting) (s : List ℕ) (cut budget : ℕ) (ok : refusal s ≡ 0) (within : cut ≤ trace_length s) where
  g : Good s
  g = good s ok

  -- the outcome of the run
  abbrev o : Outcome
  o = outcome_of on s cut budget

  -- what the theorems say of the run
  below : (i : ℕ) → Memᴰ i (start_entries s cut) → i < count_of s
  below = start_below s ok cut within

  pub start_is_heads : Heads (entry_at s) (count_of s) (start_heads s cut)
  start_is_heads = trace_heads (entry_at s) (count_of s) g.downward (start_entries s cut) below

  run_made : Made on (term_at (entry_at s)) (count_of s) (start_heads s cut) o.steps
  unfolding outcome_of
  run_made = made on (entry_at s) (count_of s) g.downward g.few (goal_of s) budget (start_heads s cut) start_is_heads

  run_narrow : (r : Step) → Memᴰ r o.steps → Narrow r
  run_narrow = made_narrow (entry_at s) (count_of s) g.downward g.few run_made (λ i m. (start_is_heads i m).0)

  -- the set of the known heads, and the bytes that hold it
  abbrev gained : ℕ
  gained = (knowledge (entry_at s) o.learnt).known

  run_learnt : o.learnt ≡ start_heads s cut ++ map (λ (r : Step). r.head) o.steps
  unfolding outcome_of
  run_learnt = learnt_steps on (entry_at s) (count_of s) g.downward g.few (goal_of s) budget (start_heads s cut) start_is_heads

  run_known : (e : ℕ) → (member gained e ≡ true) ↔ Memᴰ e o.learnt
  unfolding outcome_of
  run_known = known_set on (entry_at s) (count_of s) g.downward g.few (goal_of s) budget (start_heads s cut) start_is_heads

  all_heads : Heads (entry_at s) (count_of s) o.learnt
  unfolding outcome_of
  all_heads = learnt_heads on (entry_at s) (count_of s) g.downward g.few (goal_of s) budget (start_heads s cut) start_is_heads

  -- a set of entries is below this
  narrow : (u : ℕ) → ((e : ℕ) → member u e ≡ true → e < count_of s) → u < 2 ^ 256
  narrow u low = lt_of_lt_of_le (below_members (count_of s) u low) (pow_mono g.few)

  run_below : gained < 2 ^ 256
  run_below = narrow gained (λ e m. (all_heads e ((run_known e).0 m)).0)

  -- what the sum test finds of the goal at the end of the run is what is missing of it
  run_learnt_all : Learnt (set_at (entry_at s)) (count_of s) o.learnt (knowledge (entry_at s) o.learnt)
  run_learnt_all = knowledge_learnt (entry_at s) (count_of s) g.downward o.learnt all_heads

  abbrev tested : Reduced
  tested = reduce (knowledge (entry_at s) o.learnt).rows (set_at (entry_at s) (goal_of s))

  run_missing : Missing (entry_at s) (count_of s) o.learnt (goal_of s) tested.used tested.remainder
  run_missing = missing_found (entry_at s) (count_of s) g.downward run_learnt_all (goal_of s) g.goal

  -- what the rules switched on leave missing: with sum that, and without it the goal's own set
  abbrev lacked : Reduced
  lacked = missing_by on (knowledge (entry_at s) o.learnt).rows (set_at (entry_at s) (goal_of s))

  with_sum : on 6 ≡ true → lacked ≡ tested
  unfolding missing_by
  with_sum w = rw w

  without_sum : on 6 ≡ false → lacked ≡ record { remainder = set_at (entry_at s) (goal_of s); used = 0 }
  unfolding missing_by
  without_sum w = rw w

  missing_out : o.verdict ≡ underivable → missing_of on s cut budget ≡ lacked
  unfolding missing_of missing_as
  missing_out p = ap (λ (v : Verdict). missing_as v lacked) p

  missing_none : ¬ (o.verdict ≡ underivable) → missing_of on s cut budget ≡ record { remainder = 0; used = 0 }
  unfolding missing_of missing_as
  missing_none n = go o.verdict refl
    where
      go : (v : Verdict) → o.verdict ≡ v → missing_as v lacked ≡ record { remainder = 0; used = 0 }
      go derivable p = refl
      go underivable p = absurd (n p)
      go exhausted p = refl

  -- the goal's own set
  own_set : OwnSet (entry_at s) (count_of s) (goal_of s) (set_at (entry_at s) (goal_of s))
  own_set = (set_standard (entry_at s) (count_of s) g.downward (goal_of s) g.goal, set_sum (entry_at s) (count_of s) g.downward (goal_of s) g.goal)

  abbrev Small : Reduced → Type 0
  Small x = (x.used < 2 ^ 256) × (x.remainder < 2 ^ 256)

  missing_narrow : ((missing_of on s cut budget).used < 2 ^ 256) × ((missing_of on s cut budget).remainder < 2 ^ 256)
  unfolding missing_of missing_as
  missing_narrow = go o.verdict
    where
      either : (b : Bool) → on 6 ≡ b → Small lacked
      either true w = subst Small (sym (with_sum w)) (
        narrow tested.used (λ e m. (all_heads e (drawn_known (term_at (entry_at s)) (count_of s) o.learnt e (run_missing.drawn e m))).0),
        narrow tested.remainder (λ e m. (run_missing.standards e m).0),
      )
      either false w = subst Small (sym (without_sum w)) (pow_pos 256, narrow (set_at (entry_at s) (goal_of s)) (λ e m. (own_set.0 e m).0))

      go : (v : Verdict) → ((missing_as v lacked).used < 2 ^ 256) × ((missing_as v lacked).remainder < 2 ^ 256)
      go derivable = (pow_pos 256, pow_pos 256)
      go underivable = either (on 6) refl
      go exhausted = (pow_pos 256, pow_pos 256)

  -- the sets and the steps, read back from a buffer
  pub known_read : (rest : List ℕ) → gained_in (front_of on s cut budget ++ rest) ≡ gained
  unfolding front_of
  known_read rest = gained_read gained (missing_of on s cut budget).used (missing_of on s cut budget).remainder rest run_below

  missing_read : (rest : List ℕ) → (used_in (front_of on s cut budget ++ rest) ≡ (missing_of on s cut budget).used) × (remainder_in (front_of on s cut budget ++ rest) ≡ (missing_of on s cut budget).remainder)
  unfolding front_of
  missing_read rest = (
    used_read gained (missing_of on s cut budget).used (missing_of on s cut budget).remainder rest missing_narrow.0,
    remainder_read gained (missing_of on s cut budget).used (missing_of on s cut budget).remainder rest missing_narrow.1,
  )

  front_size : length (front_of on s cut budget) ≡ front
  unfolding front_of
  front_size = front_length gained (missing_of on s cut budget).used (missing_of on s cut budget).remainder

  pub steps_read : (rest : List ℕ) → steps_in (front_of on s cut budget ++ (steps_bytes o.steps ++ rest)) (length o.steps) ≡ o.steps
  steps_read rest = read_back (front_of on s cut budget) o.steps rest front_size run_narrow

  run_few : length o.steps ≤ count_of s
  unfolding outcome_of
  run_few = steps_le on (entry_at s) (count_of s) g.downward g.few (goal_of s) budget (start_heads s cut) start_is_heads

  pub few_steps : length o.steps ≤ 256
  few_steps = le_trans run_few g.few

  run_passes : o.verdict ≡ derivable → (end : List Term) × Replays on (term_at (entry_at s)) (count_of s) (start_terms s cut) o.steps end × Holds end (goal_term s)
  unfolding outcome_of
  run_passes p =
      let (r, h) = trace_run_replays on (entry_at s) (count_of s) g.downward g.few (goal_of s) budget (start_entries s cut) below g.goal p in
      (end_state (term_at (entry_at s)) (start_terms s cut) o.steps, r, h)

  run_out : o.verdict ≡ underivable → ¬ Derivable on (start_terms s cut) (goal_term s)
  unfolding outcome_of
  run_out = trace_underivable_exact on (entry_at s) (count_of s) g.downward g.few (goal_of s) budget (start_entries s cut) below g.goal

  pub run_iff : count_of s ≤ budget → (o.verdict ≡ underivable) ↔ (¬ Derivable on (start_terms s cut) (goal_term s))
  unfolding outcome_of
  run_iff = trace_underivable_iff on (entry_at s) (count_of s) g.downward g.few (goal_of s) budget (start_entries s cut) below g.goal

  pub run_ends : count_of s ≤ budget → ¬ (o.verdict ≡ exhausted)
  unfolding outcome_of
  run_ends = run_enough on (entry_at s) (count_of s) g.downward g.few (goal_of s) budget (start_heads s cut) start_is_heads

  pub run_is_course : Course on (term_at (entry_at s)) (count_of s) (goal_of s) budget (start_heads s cut) o.steps o.verdict
  unfolding outcome_of
  run_is_course = run_course (entry_at s) (count_of s) g.downward (goal_of s) on g.goal g.few budget (start_heads s cut) start_is_heads

  settled : count_of s ≤ budget → ¬ (o.verdict ≡ underivable) → (v : Verdict) → o.verdict ≡ v → o.verdict ≡ derivable
  settled l n derivable p = p
  settled l n underivable p = absurd (n p)
  settled l n exhausted p = absurd (run_ends l p)

  -- at out of reach something is missing, where sum is on
  run_lacking : on 6 ≡ true → o.verdict ≡ underivable → ¬ (tested.remainder ≡ 0)
  run_lacking w p =
      let (unknown, stuck) = course_stuck run_is_course p in
      missing_some (entry_at s) (count_of s) g.downward run_learnt_all (goal_of s) g.goal run_missing on w
      (subst (λ (es : List ℕ). ¬ Holds (map (term_at (entry_at s)) es) (goal_term s)) (sym run_learnt) unknown)
      (subst (λ (es : List ℕ). (r : Step) → ¬ FollowsIn on (term_at (entry_at s)) (count_of s) es r) (sym run_learnt) stuck)

  as_missing : {u r : ℕ} → u ≡ tested.used → r ≡ tested.remainder → Missing (entry_at s) (count_of s) o.learnt (goal_of s) u r
  as_missing {u} {r} p q =
      subst (λ (x : ℕ). Missing (entry_at s) (count_of s) o.learnt (goal_of s) x r) (sym p)
      (subst (λ (x : ℕ). Missing (entry_at s) (count_of s) o.learnt (goal_of s) tested.used x) (sym q) run_missing)

  -- whatever is said to be missing, as the demands say it, is what the sum test finds, or without sum the goal's own set
  pub missing_only : {v : Verdict} {u r : ℕ} → v ≡ o.verdict
      → (on 6 ≡ true → v ≡ underivable → Missing (entry_at s) (count_of s) (start_heads s cut ++ map (λ (x : Step). x.head) o.steps) (goal_of s) u r)
      → (on 6 ≡ false → v ≡ underivable → (u ≡ 0) × OwnSet (entry_at s) (count_of s) (goal_of s) r)
      → (¬ (v ≡ underivable) → (u ≡ 0) × (r ≡ 0)) → (u ≡ (missing_of on s cut budget).used) × (r ≡ (missing_of on s cut budget).remainder)
  missing_only {v} {u} {r} is found own none = go v refl
    where
      both : (x : Reduced) → missing_of on s cut budget ≡ x → (u ≡ x.used) × (r ≡ x.remainder) → (u ≡ (missing_of on s cut budget).used) × (r ≡ (missing_of on s cut budget).remainder)
      both x e (a, b) = (a ∙ sym (ap (λ (y : Reduced). y.used) e), b ∙ sym (ap (λ (y : Reduced). y.remainder) e))

      other : {w : Verdict} → v ≡ w → ¬ (w ≡ underivable) → ¬ (v ≡ underivable)
      other p n z = n (sym p ∙ z)

      rest : ¬ (v ≡ underivable) → (u ≡ (missing_of on s cut budget).used) × (r ≡ (missing_of on s cut budget).remainder)
      rest n = both _ (missing_none (λ z. n (is ∙ z))) (none n)

      out : (b : Bool) → on 6 ≡ b → v ≡ underivable → (u ≡ (missing_of on s cut budget).used) × (r ≡ (missing_of on s cut budget).remainder)
      out true w p =
          both _ (missing_out (sym is ∙ p) ∙ with_sum w)
          (missing_is (entry_at s) (count_of s) g.downward run_learnt_all (goal_of s) g.goal
          (subst (λ (es : List ℕ). Missing (entry_at s) (count_of s) es (goal_of s) u r) (sym run_learnt) (found w p)))
      out false w p =
          let (z, (set, sum)) = own w p in
          both _ (missing_out (sym is ∙ p) ∙ without_sum w) (z, set_unique (entry_at s) (count_of s) g.downward (goal_of s) r g.goal set sum)

      go : (w : Verdict) → v ≡ w → (u ≡ (missing_of on s cut budget).used) × (r ≡ (missing_of on s cut budget).remainder)
      go derivable p = rest (other p (λ z. let e : ◌≡◌ {A = ℕ} 0 1 = cc in omega arith))
      go underivable p = out (on 6) refl p
      go exhausted p = rest (other p (λ z. let e : ◌≡◌ {A = ℕ} 0 1 = cc in omega arith))

  -- the demands, read off the buffer
  pub meets : (old : List ℕ) → Meets on s cut budget old (front_of on s cut budget ++ (steps_bytes o.steps ++ drop (front + 40 * length o.steps) old)) (verdict_code o.verdict + length o.steps)
  meets old =
      let rest = drop (front + 40 * length o.steps) old in
      let out = front_of on s cut budget ++ (steps_bytes o.steps ++ rest) in
      let back : o.steps ≡ steps_in out (length o.steps) = sym (steps_read rest) in
      let heads : o.learnt ≡ start_heads s cut ++ map (λ (r : Step). r.head) (steps_in out (length o.steps)) =
      run_learnt ∙ ap (λ (ss : List Step). start_heads s cut ++ map (λ (r : Step). r.head) ss) back in
      let (used, remainder) = missing_read (steps_bytes o.steps ++ rest) in
      record {
        verdict = o.verdict;
        count = length o.steps;
        coded = refl;
        course = subst (λ (ss : List Step). Course on (term_at (entry_at s)) (count_of s) (goal_of s) budget (start_heads s cut) ss o.verdict) back run_is_course;
        known = subst (λ (es : List ℕ). (e : ℕ) → (member (gained_in out) e ≡ true) ↔ Memᴰ e es) heads
            (subst (λ (u : ℕ). (e : ℕ) → (member u e ≡ true) ↔ Memᴰ e o.learnt) (sym (known_read (steps_bytes o.steps ++ rest))) run_known);
        missing = λ w p.
            let e : missing_of on s cut budget ≡ tested = missing_out p ∙ with_sum w in
            subst (λ (es : List ℕ). Missing (entry_at s) (count_of s) es (goal_of s) (used_in out) (remainder_in out)) heads
            (as_missing (used ∙ ap (λ (x : Reduced). x.used) e) (remainder ∙ ap (λ (x : Reduced). x.remainder) e));
        lacking = λ w p z. run_lacking w p (sym (ap (λ (x : Reduced). x.remainder) (missing_out p ∙ with_sum w)) ∙ sym remainder ∙ z);
        own = λ w p.
            let e = missing_out p ∙ without_sum w in (
              used ∙ ap (λ (x : Reduced). x.used) e,
              subst (OwnSet (entry_at s) (count_of s) (goal_of s)) (sym (remainder ∙ ap (λ (x : Reduced). x.remainder) e)) own_set,
            );
        others = λ n. (used ∙ ap (λ (x : Reduced). x.used) (missing_none n), remainder ∙ ap (λ (x : Reduced). x.remainder) (missing_none n));
        kept = front_kept (front_of on s cut budget) (steps_bytes o.steps) rest (front + 40 * length o.steps) (ap₂ ◌+◌ front_size (steps_length o.steps));
        exact = run_iff;
        otherwise = λ l n. settled l n o.verdict refl;
        passes = λ p. subst (λ (ss : List Step). (end : List Term) × Replays on (term_at (entry_at s)) (count_of s) (start_terms s cut) ss end × Holds end (goal_term s)) back (run_passes p);
        few = run_few;
        out_of_reach = run_out;
      }
