-- The demands alone determine the call.
-- Shown: `meets_unique`, two answers and buffers that meet the demands for one sheet, cut and budget have equal numbers, rungs and sets;
-- `demands_equations`, for a buffer of bytes of the old length the demands hold exactly when answer and buffer are those of the equations with the run, refused or not;
-- `demands_unique`, so they determine every byte. So nobody has to believe the run or the elimination. Assumes nothing.
use mathlib.Core.Path.{◌≡◌, refl, sym, ap, ap₂, ◌∙◌, subst}
use mathlib.Core.Bool.{Bool, true, false}
use mathlib.Core.Logic.{◌↔◌, by_cases}
use mathlib.Core.List.{List, ◌++◌, map, Memᴰ}
use Prim.Native.Nat.{ℕ, zero, suc, ◌+◌, ◌*◌, ◌≤◌}
use native.Mathlib.Decide.{ℕ_discrete}
use native.Mathlib.Omega.{arith}
use lib.ListN.{length, drop, length-append}
use Rattle.bitset.specs.Set.{member}
use Rattle.bitset.proofs.Laws.Member.{same_members}
use Rattle.bitset.proofs.Laws.Words.{Below}
use Rattle.deduction.specs.Setting.{Setting}
use Rattle.deduction.specs.Step.{Step}
use Rattle.deduction.specs.Run.{Outcome, knowledge}
use Rattle.deduction.specs.Missing.{Missing}
use Rattle.deduction.proofs.Steps.{course_unique}
use Rattle.deduction.proofs.Steps.Course.{course_budget}
use Rattle.dag.specs.Sheet.{count_of, goal_of, trace_length}
use Rattle.dag.specs.Record.{entry_at}
use Rattle.dag.specs.Refusal.{refusal}
use Rattle.dag.proofs.Laws.Good.{good}
use Rattle.derive.specs.Bytes.{steps_bytes}
use Rattle.start.specs.Start.{start_heads}
use Rattle.verdict.specs.Buffer.{front, gained_in, used_in, remainder_in, steps_in}
use Rattle.verdict.specs.Refused.{refusal_of}
use Rattle.verdict.specs.Demands.{verdict_code, Meets, Demanded}
use Rattle.verdict.specs.Answer.{outcome_of, answer_of, missing_of, front_bytes, front_of, buffer_of}
use Rattle.verdict.proofs.Laws.Readback.{buffer_back}
use Rattle.verdict.proofs.Laws.Demands.{start_is_heads, run_is_course, missing_only}
use Rattle.verdict.proofs.Laws.Answered.{ok_sheet, ok_cut, ok_space, refused_answer, refused_buffer, equations_demand, accepted_answer, accepted_buffer, accepted_known, accepted_meets}

-- as many steps as are read
pub steps_count : (out : List ℕ) (k : ℕ) → length (steps_in out k) ≡ k
unfolding steps_in
steps_count out zero = refl
steps_count out (suc k) = length-append (steps_in out k) _ ∙ let q = steps_count out k in omega arith

-- sets with the same members in a list are equal
sets_equal : {es : List ℕ} (a b : ℕ) → ((e : ℕ) → (member a e ≡ true) ↔ Memᴰ e es) → ((e : ℕ) → (member b e ≡ true) ↔ Memᴰ e es) → a ≡ b
sets_equal a b f g = same_members a b (λ e. go (member a e) (member b e) (λ p. (g e).1 ((f e).0 p)) (λ p. (f e).1 ((g e).0 p)))
  where
    go : (x y : Bool) → (x ≡ true → y ≡ true) → (y ≡ true → x ≡ true) → x ≡ y
    go true y p q = sym (p refl)
    go false true p q = q refl
    go false false p q = refl

module _ (on : Setting) (s : List ℕ) (cut budget : ℕ) (ok : refusal s ≡ 0) (within : cut ≤ trace_length s) where
  -- what meets the demands is what the run makes
  module _ {old out : List ℕ} {answer : ℕ} (m : Meets on s cut budget old out answer) where
    pub as_run : (steps_in out m.count ≡ (outcome_of on s cut budget).steps) × (m.verdict ≡ (outcome_of on s cut budget).verdict)
    as_run =
        course_unique (entry_at s) (count_of s) (good s ok).downward (goal_of s) (start_is_heads on s cut budget ok within) m.course
        (run_is_course on s cut budget ok within)

    count_run : m.count ≡ length (outcome_of on s cut budget).steps
    count_run = sym (steps_count out m.count) ∙ ap length as_run.0

    pub answer_run : answer ≡ verdict_code (outcome_of on s cut budget).verdict + length (outcome_of on s cut budget).steps
    answer_run = m.coded ∙ ap₂ (λ v k. verdict_code v + k) as_run.1 count_run

    pub known_run : (e : ℕ) → (member (gained_in out) e ≡ true) ↔ Memᴰ e (start_heads s cut ++ map (λ (r : Step). r.head) (outcome_of on s cut budget).steps)
    known_run = subst (λ (ss : List Step). (e : ℕ) → (member (gained_in out) e ≡ true) ↔ Memᴰ e (start_heads s cut ++ map (λ (r : Step). r.head) ss)) as_run.0 m.known

    pub missing_run : (used_in out ≡ (missing_of on s cut budget).used) × (remainder_in out ≡ (missing_of on s cut budget).remainder)
    missing_run =
        missing_only on s cut budget ok within as_run.1
        (λ w p. subst (λ (ss : List Step). Missing (entry_at s) (count_of s) (start_heads s cut ++ map (λ (r : Step). r.head) ss) (goal_of s) (used_in out) (remainder_in out)) as_run.0 (m.missing w p)) m.own m.others

  -- one course, whatever the other budget: then the numbers, the rungs and the sets are equal
  module _ {budget' : ℕ} {old old' out out' : List ℕ} {answer answer' : ℕ} (m : Meets on s cut budget old out answer) (m' : Meets on s cut budget' old' out' answer')
      (steps : steps_in out m.count ≡ steps_in out' m'.count) (verdicts : m.verdict ≡ m'.verdict) where
    count_same : m.count ≡ m'.count
    count_same = sym (steps_count out m.count) ∙ ap length steps ∙ steps_count out' m'.count

    missing_same : (used_in out' ≡ (missing_of on s cut budget).used) × (remainder_in out' ≡ (missing_of on s cut budget).remainder)
    missing_same =
        missing_only on s cut budget ok within (sym verdicts ∙ (as_run m).1)
        (λ w p. subst (λ (ss : List Step). Missing (entry_at s) (count_of s) (start_heads s cut ++ map (λ (r : Step). r.head) ss) (goal_of s) (used_in out') (remainder_in out')) (sym steps ∙ (as_run m).0) (m'.missing w p)) m'.own m'.others

    pub same_work : (answer ≡ answer') × (steps_in out m.count ≡ steps_in out' m'.count) × (gained_in out ≡ gained_in out') × (used_in out ≡ used_in out') × (remainder_in out ≡ remainder_in out')
    same_work = (
      m.coded ∙ ap₂ (λ v k. verdict_code v + k) verdicts count_same ∙ sym m'.coded,
      steps,
      sets_equal _ _ m.known (subst (λ (ss : List Step). (e : ℕ) → (member (gained_in out') e ≡ true) ↔ Memᴰ e (start_heads s cut ++ map (λ (r : Step). r.head) ss)) (sym steps) m'.known),
      (missing_run m).0 ∙ sym missing_same.0,
      (missing_run m).1 ∙ sym missing_same.1,
    )

  module _ {old old' out out' : List ℕ} {answer answer' : ℕ} (m : Meets on s cut budget old out answer) (m' : Meets on s cut budget old' out' answer') where
    pub meets_unique : (answer ≡ answer') × (steps_in out m.count ≡ steps_in out' m'.count) × (gained_in out ≡ gained_in out') × (used_in out ≡ used_in out') × (remainder_in out ≡ remainder_in out')
    meets_unique =
        let (steps, verdicts) = course_unique (entry_at s) (count_of s) (good s ok).downward (goal_of s) (start_is_heads on s cut budget ok within) m.course m'.course in
        same_work m m' steps verdicts

-- a call that isn't refused, with a buffer of bytes: what was written is what is read back
module _ (on : Setting) (limit : ℕ) (s : List ℕ) (cut budget : ℕ) (old : List ℕ) (ok : refusal_of limit s cut budget (length old) ≡ 0) where
  sheet_ok : refusal s ≡ 0
  sheet_ok = ok_sheet limit s cut budget (length old) ok

  cut_ok : cut ≤ trace_length s
  cut_ok = ok_cut limit s cut budget (length old) ok

  abbrev o : Outcome
  o = outcome_of on s cut budget

  module _ (out : List ℕ) (bytes : Below 8 out) (size : length out ≡ length old) where
    written : {answer : ℕ} (m : Meets on s cut budget old out answer)
        → out ≡ front_bytes (gained_in out) (used_in out) (remainder_in out) ++ (steps_bytes (steps_in out m.count) ++ drop (front + 40 * m.count) old)
    written m =
        let b : length (steps_in out m.count) ≤ budget = course_budget m.course in
        let room : front + 40 * m.count ≤ length out = omega (arith, steps_count out m.count, ok_space limit s cut budget (length old) ok) in
        buffer_back out m.count room bytes ∙ ap (λ (rest : List ℕ). front_bytes (gained_in out) (used_in out) (remainder_in out) ++ (steps_bytes (steps_in out m.count) ++ rest)) m.kept

    -- the demands on such a call give the two equations
    meets_equations : (answer : ℕ) → Meets on s cut budget old out answer → (answer ≡ answer_of on limit s cut budget (length old)) × (out ≡ buffer_of on limit s cut budget old)
    unfolding front_of
    meets_equations answer m =
        let ss = (as_run on s cut budget sheet_ok cut_ok m).0 in
        let k = count_run on s cut budget sheet_ok cut_ok m in
        let u : gained_in out ≡ (knowledge (entry_at s) o.learnt).known = (meets_unique on s cut budget sheet_ok cut_ok m (accepted_meets on limit s cut budget old ok)).2 ∙ accepted_known on limit s cut budget old ok in
        let (used, remainder) = missing_run on s cut budget sheet_ok cut_ok m in (
          answer_run on s cut budget sheet_ok cut_ok m ∙ sym (accepted_answer on limit s cut budget old ok),
          written m ∙ (λ i. front_bytes (u i) (used i) (remainder i) ++ (steps_bytes (ss i) ++ drop (front + 40 * k i) old)) ∙ sym (accepted_buffer on limit s cut budget old ok),
        )

-- refused or not: an answer and a buffer of bytes are as demanded exactly when they are those of the equations
pub demands_equations : (on : Setting) (limit : ℕ) (s : List ℕ) (cut budget : ℕ) (old out : List ℕ) (answer : ℕ) → Below 8 out → length out ≡ length old
    → Demanded on limit s cut budget old out answer ↔ ((answer ≡ answer_of on limit s cut budget (length old)) × (out ≡ buffer_of on limit s cut budget old))
demands_equations on limit s cut budget old out answer bytes size = (
  λ d.
      by_cases (ℕ_discrete (refusal_of limit s cut budget (length old)) 0) (λ ok. meets_equations on limit s cut budget old ok out bytes size answer (d.judged ok))
      (λ n. ((d.refused n).0 ∙ refused_answer on limit s cut budget (length old) n, (d.refused n).1 ∙ refused_buffer on limit s cut budget old n)),
  λ (p, q). equations_demand on limit s cut budget old out answer p q,
)

-- so two answers and buffers of bytes that are as demanded after one buffer are equal, byte for byte
pub demands_unique : (on : Setting) (limit : ℕ) (s : List ℕ) (cut budget : ℕ) (old out out' : List ℕ) (answer answer' : ℕ) → Below 8 out → Below 8 out' → length out ≡ length old → length out' ≡ length old
    → Demanded on limit s cut budget old out answer → Demanded on limit s cut budget old out' answer' → (answer ≡ answer') × (out ≡ out')
demands_unique on limit s cut budget old out out' answer answer' b b' l l' d d' =
    let (p, q) = (demands_equations on limit s cut budget old out answer b l).0 d in
    let (p', q') = (demands_equations on limit s cut budget old out' answer' b' l').0 d' in
    (p ∙ sym p', q ∙ sym q')
