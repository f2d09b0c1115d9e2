-- What a caller may conclude from the number that comes back, for every good sheet. Each statement is drawn from a field of `Meets` alone.
-- Shown: `passes_derivable`; `answer_judged`, which numbers are no refusal; `reached_derivable`; `out_underivable`; `out_gained`, what the gained set says; `public_reached`, where the goal is a public atom; `out_exact`, `reached_exact`, with a
-- budget of at least the number of entries; `stopped_used_up`, `steps_few`, `steps_fields`; what the used set and the remainder mean, `out_missing`,
-- `missing_ungained`, `missing_underivable`, `missing_suffices`, `missing_highest`, `reached_nothing`, `stopped_nothing`. Assumes nothing.
use mathlib.Core.Path.{◌≡◌, refl, sym, ap, ◌∙◌}
use mathlib.Core.Bool.{true}
use mathlib.Core.Logic.{◌↔◌, by_cases}
use mathlib.Core.List.Memᴰ
use mathlib.Core.List.{List, ◌∷◌, Memᴰ}
use Prim.Native.Nat.{ℕ, ◌+◌, ◌≤◌, ◌<◌}
use native.Mathlib.Decide.{ℕ_discrete}
use native.Mathlib.Omega.{arith}
use lib.ListN.{length}
use Rattle.bitset.specs.Set.{member}
use Rattle.deduction.specs.Term.{Term}
use Rattle.deduction.specs.Setting.{Setting}
use Rattle.deduction.specs.Derivation.{Derivable, begin}
use Rattle.deduction.specs.Entry.{Atom, term_at}
use Rattle.deduction.specs.Standard.{rep_at, StandardSet, sum_of_set}
use Rattle.deduction.specs.Step.{Step, FollowsIn}
use Rattle.deduction.specs.Course.{Verdict, derivable, underivable, exhausted, Course}
use Rattle.deduction.specs.Missing.{Missing}
use Rattle.deduction.proofs.Exactness.Derive.{derive_same}
use Rattle.deduction.proofs.Standard.{rep_same}
use Rattle.deduction.proofs.Steps.{replay_derivable, sound_heads, stuck_has, trace_derivable}
use Rattle.deduction.proofs.Steps.Course.{course_made, course_heads, course_stuck, course_stopped, course_unique, head_gained}
use Rattle.deduction.proofs.Steps.Drawn.{drawn_known}
use Rattle.deduction.proofs.Steps.Held.{held_newest, held_older, derivable_kept}
use Rattle.deduction.proofs.Steps.Missing.{remainder_unknown, missing_enough, missing_widest}
use Rattle.deduction.proofs.Steps.Fields.{Fields, replays_fields}
use Rattle.dag.specs.Sheet.{count_of, goal_of, trace_length}
use Rattle.dag.specs.Record.{entry_at}
use Rattle.dag.specs.Refusal.{refusal}
use Rattle.dag.proofs.Laws.Good.{good}
use Rattle.start.specs.Start.{start_entries, start_heads, start_terms}
use Rattle.start.proofs.Laws.Heads.{start_below}
use Rattle.start.proofs.Public.{public_start}
use Rattle.verdict.specs.Buffer.{gained_in, used_in, remainder_in, steps_in}
use Rattle.verdict.specs.Refused.{refusal_of}
use Rattle.verdict.specs.Demands.{verdict_code, goal_term, gained_heads, Passes, Meets, Demanded}
use Rattle.verdict.proofs.Laws.Answered.{refused_le}
use Rattle.verdict.proofs.Laws.Demands.{start_is_heads}
use Rattle.verdict.proofs.Unique.{steps_count}

-- what passes the replay is derivable
pub passes_derivable : (on : Setting) (s : List ℕ) (cut k : ℕ) (out : List ℕ) → Passes on s cut k out → Derivable on (start_terms s cut) (goal_term s)
passes_derivable on s cut k out (end, r, h) = replay_derivable (term_at (entry_at s)) (count_of s) r (goal_term s) h

-- a number over 12 is no refusal
pub answer_judged : {on : Setting} {limit : ℕ} {s : List ℕ} {cut budget : ℕ} {old out : List ℕ} {answer : ℕ} → Demanded on limit s cut budget old out answer
    → 12 < answer → refusal_of limit s cut budget (length old) ≡ 0
answer_judged {on} {limit} {s} {cut} {budget} {old} d h =
    by_cases (ℕ_discrete (refusal_of limit s cut budget (length old)) 0) (λ p. p) (λ n. absurd (omega (arith, (d.refused n).0, refused_le limit s cut budget (length old))))

module _ {on : Setting} {s : List ℕ} {cut budget : ℕ} {old out : List ℕ} {answer : ℕ} (ok : refusal s ≡ 0) (m : Meets on s cut budget old out answer) where
  -- the number names the verdict
  pub at_most : m.count ≤ 256
  at_most = omega (arith, m.few, (good s ok).few)

  pub named : (v : Verdict) → m.verdict ≡ v → answer ≡ verdict_code v + m.count
  named v p = m.coded ∙ ap (λ (w : Verdict). verdict_code w + m.count) p

  is_reached_lem : answer < 2000 → m.verdict ≡ derivable
  is_reached_lem h = go m.verdict refl
    where
      go : (v : Verdict) → m.verdict ≡ v → m.verdict ≡ derivable
      go derivable p = p
      go underivable p = absurd (omega (arith, named underivable p))
      go exhausted p = absurd (omega (arith, named exhausted p))

  pub is_out : 2000 ≤ answer → answer < 3000 → m.verdict ≡ underivable
  is_out l h = go m.verdict refl
    where
      go : (v : Verdict) → m.verdict ≡ v → m.verdict ≡ underivable
      go derivable p = absurd (omega (arith, named derivable p, at_most))
      go underivable p = p
      go exhausted p = absurd (omega (arith, named exhausted p))

  is_stopped : 3000 ≤ answer → m.verdict ≡ exhausted
  is_stopped l = go m.verdict refl
    where
      go : (v : Verdict) → m.verdict ≡ v → m.verdict ≡ exhausted
      go derivable p = absurd (omega (arith, named derivable p, at_most))
      go underivable p = absurd (omega (arith, named underivable p, at_most))
      go exhausted p = p

  -- for every budget
  pub reached_derivable : answer < 2000 → Derivable on (start_terms s cut) (goal_term s)
  reached_derivable h = passes_derivable on s cut m.count out (m.passes (is_reached_lem h))

  pub out_underivable : 2000 ≤ answer → answer < 3000 → ¬ Derivable on (start_terms s cut) (goal_term s)
  out_underivable l h = m.out_of_reach (is_out l h)

  -- the gained set: every head in it is derivable, and at out of reach it has the head of every entry that is
  module _ (within : cut ≤ trace_length s) where
    heads_derivable : (j : ℕ) → Memᴰ j (gained_heads s cut m.count out) → Derivable on (start_terms s cut) (term_at (entry_at s) j)
    heads_derivable j c =
        (trace_derivable (entry_at s) (count_of s) (good s ok).downward (start_entries s cut) (start_below s ok cut within) (term_at (entry_at s) j)).1
        (sound_heads on (entry_at s) (count_of s) (good s ok).downward (start_heads s cut) (steps_in out m.count) (start_is_heads on s cut budget ok within) (course_made m.course) j c)

    pub out_gained : 2000 ≤ answer → answer < 3000 → (i : ℕ) → i < count_of s
        → (member (gained_in out) (rep_at (entry_at s) i) ≡ true) ↔ Derivable on (start_terms s cut) (term_at (entry_at s) i)
    out_gained l h i low = (
      λ g. derive_same (heads_derivable (rep_at (entry_at s) i) ((m.known (rep_at (entry_at s) i)).0 g)) (rep_same (entry_at s) (count_of s) (good s ok).downward i low),
      λ d. (m.known (rep_at (entry_at s) i)).1
          (stuck_has (entry_at s) (count_of s) (good s ok).downward (gained_heads s cut m.count out)
          (course_heads (entry_at s) (count_of s) (good s ok).downward (goal_of s) (start_is_heads on s cut budget ok within) m.course) on (course_stuck m.course (is_out l h)).1
          (start_heads s cut) (λ j c. Memᴰ.append_left _ c) i low
          ((trace_derivable (entry_at s) (count_of s) (good s ok).downward (start_entries s cut) (start_below s ok cut within) (term_at (entry_at s) i)).0 d)),
    )

  pub stopped_used_up : 3000 ≤ answer → (answer ≡ 3000 + budget) × ((r : Step) × FollowsIn on (term_at (entry_at s)) (count_of s) (gained_heads s cut m.count out) r)
  stopped_used_up l =
      let (q, u, f) = course_stopped m.course (is_stopped l) in
      (named exhausted (is_stopped l) ∙ ap (λ (k : ℕ). 3000 + k) (sym (steps_count out m.count) ∙ q), f)

  -- document 02, E5: "what the stranger still lacks". At out of reach, where sum is on, of the goal the sum of the remainder's terms is missing: it
  -- can't be derived either, with it the goal can, and none of its entries is gained
  module _ (w : on 6 ≡ true) (l : 2000 ≤ answer) (h : answer < 3000) where
    abbrev lacked : Term
    lacked = sum_of_set (term_at (entry_at s)) (count_of s) (remainder_in out)

    pub out_missing : Missing (entry_at s) (count_of s) (gained_heads s cut m.count out) (goal_of s) (used_in out) (remainder_in out) × (¬ (remainder_in out ≡ 0))
    out_missing = (m.missing w (is_out l h), m.lacking w (is_out l h))

    pub missing_ungained : (e : ℕ) → member (remainder_in out) e ≡ true → ¬ (member (gained_in out) e ≡ true)
    missing_ungained e i g = remainder_unknown (entry_at s) (count_of s) (good s ok).downward out_missing.0 e i ((m.known e).0 g)

    -- what is used was gained
    used_derivable : cut ≤ trace_length s → (j : ℕ) → member (used_in out) j ≡ true → Derivable on (start_terms s cut) (term_at (entry_at s) j)
    used_derivable within j i =
        heads_derivable within j (drawn_known (term_at (entry_at s)) (count_of s) (gained_heads s cut m.count out) j (out_missing.0.drawn j i))

    pub missing_underivable : cut ≤ trace_length s → ¬ Derivable on (start_terms s cut) lacked
    missing_underivable within d =
        out_underivable l h (missing_enough (entry_at s) (count_of s) (good s ok).downward out_missing.0 w (start_terms s cut) (used_derivable within) d)

    pub missing_suffices : cut ≤ trace_length s → Derivable on (lacked ∷ start_terms s cut) (goal_term s)
    missing_suffices within =
        missing_enough (entry_at s) (count_of s) (good s ok).downward out_missing.0 w (lacked ∷ start_terms s cut)
        (λ j i. derivable_kept (held_older lacked) (term_at (entry_at s) j) (used_derivable within j i))
        (lacked ∷ start_terms s cut, begin, held_newest lacked)

    -- no entry of it is the highest-numbered one in any derivable term that is a sum of standard entries, through terms of any size
    pub missing_highest : cut ≤ trace_length s → (u j : ℕ) → StandardSet (entry_at s) (count_of s) u
        → Derivable on (start_terms s cut) (sum_of_set (term_at (entry_at s)) (count_of s) u) → member u j ≡ true → ((k : ℕ) → member u k ≡ true → k ≤ j)
        → ¬ (member (remainder_in out) j ≡ true)
    missing_highest within u j standards d =
        let g = good s ok in
        let heads = start_is_heads on s cut budget ok within in
        missing_widest (entry_at s) (count_of s) g.downward (gained_heads s cut m.count out) (course_heads (entry_at s) (count_of s) g.downward (goal_of s) heads m.course) (goal_of s) g.goal
        on (start_heads s cut) (λ i c. Memᴰ.append_left _ c) (course_stuck m.course (is_out l h)).1 out_missing.0 u j standards
        ((trace_derivable (entry_at s) (count_of s) g.downward (start_entries s cut) (start_below s ok cut within) (sum_of_set (term_at (entry_at s)) (count_of s) u)).0 d)

  -- "They are zero for the other verdicts"
  pub reached_nothing : answer < 2000 → (used_in out ≡ 0) × (remainder_in out ≡ 0)
  reached_nothing h = m.others (λ p. let e = named underivable p in omega arith)

  pub stopped_nothing : 3000 ≤ answer → (used_in out ≡ 0) × (remainder_in out ≡ 0)
  stopped_nothing l = m.others (λ p. let e = named underivable p in omega (arith, at_most))

  -- document 02, E2: "A stranger knows them without listening". A public atom as goal is reached at every cut, with every budget, without a rung
  pub public_reached : (a : ℕ) → entry_at s (goal_of s) ≡ Atom a → a < 256 → cut ≤ trace_length s → answer ≡ 1000
  public_reached a p l within =
      let g = good s ok in
      let heads = start_is_heads on s cut budget ok within in
      let gained = head_gained (entry_at s) (count_of s) g.downward (goal_of s) g.goal (start_heads s cut) heads (public_start s ok cut (goal_of s) a g.goal p l) in
      let (steps, v) = course_unique (entry_at s) (count_of s) g.downward (goal_of s) heads m.course (Course.reached gained) in
      named derivable v ∙ ap (λ (k : ℕ). 1000 + k) (sym (steps_count out m.count) ∙ ap length steps)

  -- "the rung count returned is at most the number of entries"
  pub steps_few : answer < 2000 → answer ≤ 1000 + count_of s
  steps_few h = omega (arith, named derivable (is_reached_lem h), m.few)

  -- each rung's fields are entries or hold their fixed values
  pub steps_fields : answer < 2000 → (r : Step) → Memᴰ r (steps_in out m.count) → Fields (count_of s) r
  steps_fields h = let (end, r, g) = m.passes (is_reached_lem h) in replays_fields (term_at (entry_at s)) (count_of s) r

  -- with a budget of at least the number of entries the number decides
  module _ (enough : count_of s ≤ budget) where
    pub out_exact : ((2000 ≤ answer) × (answer < 3000)) ↔ (¬ Derivable on (start_terms s cut) (goal_term s))
    out_exact = (
      λ (l, h). (m.exact enough).0 (is_out l h),
      λ n. let q = named underivable ((m.exact enough).1 n) in (omega arith, omega (arith, at_most)),
    )

    pub reached_exact : (answer < 2000) ↔ Derivable on (start_terms s cut) (goal_term s)
    reached_exact = (reached_derivable, λ d. let q = named derivable (m.otherwise enough (λ p. (m.exact enough).0 p d)) in omega (arith, at_most))
