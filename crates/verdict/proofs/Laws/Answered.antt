-- The rows 8 to 10 after 1 to 7, and the answer of a call that is refused or not. Assumes nothing.
use mathlib.Core.Path.{◌≡◌, sym, ap, ap₂, ◌∙◌, subst}
use mathlib.Core.Bool.{Bool, cond}
use mathlib.Core.Logic.{⊎_elim, by_cases}
use mathlib.Core.List.{List, ◌++◌, append_assoc}
use Prim.Native.Nat.{ℕ, ◌+◌, ◌*◌, ◌≤◌, ◌<◌}
use native.Mathlib.Nat.{le_trans, le_of_eq}
use native.Mathlib.Decide.{ℕ_discrete}
use native.Mathlib.Omega.{arith}
use borrow.Author.Tests.{lt-ltb, le-ltb, ltb-false, eq-eqb, ne_eqb}
use lib.Dec.{ltb, eqb}
use lib.ListN.{length, take, drop, take-append-drop}
use lib.Seq.{length-take-le, drop-append-le}
use Rattle.deduction.specs.Setting.{Setting}
use Rattle.deduction.specs.Run.{Verdict, exhausted, Outcome, knowledge}
use Rattle.deduction.proofs.Steps.Course.{course_budget}
use Rattle.dag.specs.Sheet.{count_of, trace_length}
use Rattle.dag.specs.Record.{entry_at}
use Rattle.dag.specs.Refusal.{when, or_else, refusal}
use Rattle.dag.proofs.Laws.Refusal.{when_yes, when_no, when_zero, or_else_none, or_else_some, or_else_zero_left, or_else_zero_right}
use Rattle.dag.proofs.Laws.Table.{when_has, or_else_has, refusal_named_lem}
use Rattle.derive.specs.Bytes.{steps_bytes}
use Rattle.derive.specs.Inner.Ran.{verdict_of}
use Rattle.derive.specs.declared.run.Ended.{Ended}
use Rattle.verdict.specs.Buffer.{front, gained_in, steps_in}
use Rattle.verdict.specs.Refused.{refusal_of}
use Rattle.verdict.specs.Demands.{verdict_code, Meets, Demanded}
use Rattle.verdict.specs.Answer.{outcome_of, answer_of, front_of, buffer_of}
use Rattle.verdict.specs.Inner.Decide.{Decided}
use Rattle.verdict.proofs.Laws.Demands.{few_steps, known_read, steps_read, run_ends, run_is_course, meets}

module _ (limit : ℕ) (s : List ℕ) (cut budget space : ℕ) where
  row8 : ℕ
  row8 = when (ltb (trace_length s) cut) 8

  row9 : ℕ
  row9 = when (ltb limit budget) 9

  row10 : ℕ
  row10 = when (ltb space (front + 40 * budget)) 10

  pub refused_sheet : (refusal s ≡ 0 → ⊥) → refusal s ≡ refusal_of limit s cut budget space
  unfolding refusal_of row8 row9 row10
  refused_sheet n = sym (or_else_some (refusal s) (or_else row8 (or_else row9 row10)) n)

  past1 : refusal s ≡ 0 → or_else row8 (or_else row9 row10) ≡ refusal_of limit s cut budget space
  unfolding refusal_of row8 row9 row10
  past1 p = sym (or_else_none (refusal s) (or_else row8 (or_else row9 row10)) p)

  pub refused_cut : refusal s ≡ 0 → trace_length s < cut → 8 ≡ refusal_of limit s cut budget space
  unfolding row8
  refused_cut p h =
      let q : 8 ≡ row8 = when_yes 8 (lt-ltb (trace_length s) cut h) in
      q ∙ sym (or_else_some row8 (or_else row9 row10) (λ z. eight (q ∙ z))) ∙ past1 p
    where
      eight : ◌≡◌ {A = ℕ} 8 0 → ⊥
      eight r = omega arith

  past8 : refusal s ≡ 0 → cut ≤ trace_length s → or_else row9 row10 ≡ refusal_of limit s cut budget space
  unfolding row8
  past8 p h = sym (or_else_none row8 (or_else row9 row10) (sym (when_no 8 (le-ltb (trace_length s) cut h)))) ∙ past1 p

  pub refused_budget : refusal s ≡ 0 → cut ≤ trace_length s → limit < budget → 9 ≡ refusal_of limit s cut budget space
  unfolding row9
  refused_budget p h l =
      let q : 9 ≡ row9 = when_yes 9 (lt-ltb limit budget l) in
      q ∙ sym (or_else_some row9 row10 (λ z. nine (q ∙ z))) ∙ past8 p h
    where
      nine : ◌≡◌ {A = ℕ} 9 0 → ⊥
      nine r = omega arith

  past9 : refusal s ≡ 0 → cut ≤ trace_length s → budget ≤ limit → row10 ≡ refusal_of limit s cut budget space
  unfolding row9
  past9 p h l = sym (or_else_none row9 row10 (sym (when_no 9 (le-ltb limit budget l)))) ∙ past8 p h

  pub refused_space : refusal s ≡ 0 → cut ≤ trace_length s → budget ≤ limit → space < front + 40 * budget → 10 ≡ refusal_of limit s cut budget space
  unfolding row10
  refused_space p h l r = when_yes 10 (lt-ltb space (front + 40 * budget) r) ∙ past9 p h l

  pub accepted : refusal s ≡ 0 → cut ≤ trace_length s → budget ≤ limit → front + 40 * budget ≤ space → 0 ≡ refusal_of limit s cut budget space
  unfolding row10
  accepted p h l r = when_no 10 (le-ltb space (front + 40 * budget) r) ∙ past9 p h l

  -- no refusal has a number over 12
  pub refused_le : refusal_of limit s cut budget space ≤ 12
  unfolding refusal_of
  refused_le =
      either (refusal s) _ (⊎_elim (λ h. omega (arith, h)) (λ h. omega (arith, h)) (refusal_named_lem s))
      (either _ _ (row _ 8 (omega arith)) (either _ _ (row _ 9 (omega arith)) (row _ 10 (omega arith))))
    where
      row : (b : Bool) (k : ℕ) → k ≤ 12 → when b k ≤ 12
      row = when_has (λ n. n ≤ 12) (omega arith)

      either : (a b : ℕ) → a ≤ 12 → b ≤ 12 → or_else a b ≤ 12
      either = or_else_has (λ n. n ≤ 12) (omega arith)

  -- what a call that isn't refused was given
  module _ (ok : refusal_of limit s cut budget space ≡ 0) where
    pub ok_sheet : refusal s ≡ 0
    unfolding refusal_of
    ok_sheet = or_else_zero_left (refusal s) _ ok

    rest1 : or_else row8 (or_else row9 row10) ≡ 0
    unfolding refusal_of row8 row9 row10
    rest1 = or_else_zero_right (refusal s) _ ok

    pub ok_cut : cut ≤ trace_length s
    unfolding row8
    ok_cut = ltb-false (trace_length s) cut (when_zero _ 7 (or_else_zero_left row8 _ rest1))

    rest8 : or_else row9 row10 ≡ 0
    rest8 = or_else_zero_right row8 _ rest1

    pub ok_budget : budget ≤ limit
    unfolding row9
    ok_budget = ltb-false limit budget (when_zero _ 8 (or_else_zero_left row9 _ rest8))

    pub ok_space : front + 40 * budget ≤ space
    unfolding row10
    ok_space = ltb-false space (front + 40 * budget) (when_zero _ 9 (or_else_zero_right row9 _ rest8))

-- a refused call
pub refused_answer : (on : Setting) (limit : ℕ) (s : List ℕ) (cut budget space : ℕ) → (refusal_of limit s cut budget space ≡ 0 → ⊥) → refusal_of limit s cut budget space ≡ answer_of on limit s cut budget space
unfolding answer_of
refused_answer on limit s cut budget space n =
    sym
    (ap
    (λ (b : Bool).
    cond b (verdict_code (outcome_of on s cut budget).verdict + length (outcome_of on s cut budget).steps) (refusal_of limit s cut budget space))
    (ne_eqb (refusal_of limit s cut budget space) 0 n))

pub refused_buffer : (on : Setting) (limit : ℕ) (s : List ℕ) (cut budget : ℕ) (old : List ℕ) → (refusal_of limit s cut budget (length old) ≡ 0 → ⊥) → old ≡ buffer_of on limit s cut budget old
unfolding buffer_of
refused_buffer on limit s cut budget old n =
    sym
    (ap
    (λ (b : Bool).
    cond b
    (front_of on s cut budget
    ++ (steps_bytes (outcome_of on s cut budget).steps ++ drop (front + 40 * length (outcome_of on s cut budget).steps) old))
    old)
    (ne_eqb (refusal_of limit s cut budget (length old)) 0 n))

-- a call that isn't refused, by the definitions: its answer, its buffer, and what is read back from that
module _ (on : Setting) (limit : ℕ) (s : List ℕ) (cut budget : ℕ) (old : List ℕ) (ok : refusal_of limit s cut budget (length old) ≡ 0) where
  abbrev o : Outcome
  o = outcome_of on s cut budget

  abbrev gained : ℕ
  gained = (knowledge (entry_at s) o.learnt).known

  pub accepted_answer : answer_of on limit s cut budget (length old) ≡ verdict_code o.verdict + length o.steps
  unfolding answer_of
  accepted_answer =
      ap (λ (b : Bool). cond b (verdict_code o.verdict + length o.steps) (refusal_of limit s cut budget (length old)))
      (eq-eqb (refusal_of limit s cut budget (length old)) 0 ok)

  pub accepted_buffer : buffer_of on limit s cut budget old ≡ front_of on s cut budget ++ (steps_bytes o.steps ++ drop (front + 40 * length o.steps) old)
  unfolding buffer_of
  accepted_buffer =
      ap (λ (b : Bool). cond b (front_of on s cut budget ++ (steps_bytes o.steps ++ drop (front + 40 * length o.steps) old)) old)
      (eq-eqb (refusal_of limit s cut budget (length old)) 0 ok)

  pub accepted_few : length o.steps ≤ 256
  accepted_few = few_steps on s cut budget (ok_sheet limit s cut budget (length old) ok) (ok_cut limit s cut budget (length old) ok)

  pub accepted_known : gained_in (buffer_of on limit s cut budget old) ≡ gained
  accepted_known =
      ap gained_in accepted_buffer
      ∙ known_read on s cut budget (ok_sheet limit s cut budget (length old) ok) (ok_cut limit s cut budget (length old) ok) (steps_bytes o.steps ++ drop (front + 40 * length o.steps) old)

  pub accepted_steps : steps_in (buffer_of on limit s cut budget old) (length o.steps) ≡ o.steps
  accepted_steps =
      ap (λ (b : List ℕ). steps_in b (length o.steps)) accepted_buffer
      ∙ steps_read on s cut budget (ok_sheet limit s cut budget (length old) ok) (ok_cut limit s cut budget (length old) ok) (drop (front + 40 * length o.steps) old)

  pub accepted_meets : Meets on s cut budget old (buffer_of on limit s cut budget old) (answer_of on limit s cut budget (length old))
  accepted_meets =
      subst (λ (a : ℕ). Meets on s cut budget old (buffer_of on limit s cut budget old) a) (sym accepted_answer)
      (subst (λ (b : List ℕ). Meets on s cut budget old b (verdict_code o.verdict + length o.steps)) (sym accepted_buffer)
      (meets on s cut budget (ok_sheet limit s cut budget (length old) ok) (ok_cut limit s cut budget (length old) ok) old))

  pub accepted_ends : count_of s ≤ budget → ¬ (o.verdict ≡ exhausted)
  accepted_ends = run_ends on s cut budget (ok_sheet limit s cut budget (length old) ok) (ok_cut limit s cut budget (length old) ok)

-- a call that was decided: its answer and its buffer
pub answered_few : (on : Setting) (limit : ℕ) (s : List ℕ) (cut budget : ℕ) (out out' : List ℕ) (r : Ended) → Decided on s cut budget out out' r → refusal_of limit s cut budget (length out) ≡ 0 → r.made ≤ budget
answered_few on limit s cut budget out out' r d ok =
    le_trans (le_of_eq d.count) (course_budget (run_is_course on s cut budget (ok_sheet limit s cut budget (length out) ok) (ok_cut limit s cut budget (length out) ok)))

module _ (on : Setting) (limit : ℕ) (s : List ℕ) (cut budget : ℕ) (out out' : List ℕ) (r : Ended) (d : Decided on s cut budget out out' r) (ok : refusal_of limit s cut budget (length out) ≡ 0) where
  pub answered : verdict_code (verdict_of r.verdict) + r.made ≡ answer_of on limit s cut budget (length out)
  answered = ap₂ (λ (w : Verdict) (k : ℕ). verdict_code w + k) d.verdict d.count ∙ sym (accepted_answer on limit s cut budget out ok)

  pub answered_buffer : out' ≡ buffer_of on limit s cut budget out
  answered_buffer = d.bytes ∙ sym (accepted_buffer on limit s cut budget out ok)

-- what the equations give is as demanded, refused or not
pub equations_demand : (on : Setting) (limit : ℕ) (s : List ℕ) (cut budget : ℕ) (old out : List ℕ) (answer : ℕ) → answer ≡ answer_of on limit s cut budget (length old) → out ≡ buffer_of on limit s cut budget old → Demanded on limit s cut budget old out answer
equations_demand on limit s cut budget old out answer p q =
    record {
      refused = λ n. (p ∙ sym (refused_answer on limit s cut budget (length old) n), q ∙ sym (refused_buffer on limit s cut budget old n));
      judged = λ ok.
          subst (λ (a : ℕ). Meets on s cut budget old out a) (sym p)
          (subst (λ (b : List ℕ). Meets on s cut budget old b (answer_of on limit s cut budget (length old))) (sym q) (accepted_meets on limit s cut budget old ok));
    }

-- document 02, E7: "Otherwise its answer and bytes are the full call's at the same budget". Two limits that allow the budget: the same refusal or none, the
-- same answer and the same bytes
module _ (limit other : ℕ) (s : List ℕ) (cut budget : ℕ) (low : budget ≤ limit) (low' : budget ≤ other) where
  pub refusal_limits : (space : ℕ) → refusal_of limit s cut budget space ≡ refusal_of other s cut budget space
  unfolding refusal_of
  refusal_limits space =
      ap (λ (t : Bool). or_else (refusal s) (or_else (when (ltb (trace_length s) cut) 8) (or_else (when t 9) (when (ltb space (front + 40 * budget)) 10))))
      (le-ltb limit budget low ∙ sym (le-ltb other budget low'))

  pub answer_limits : (on : Setting) (space : ℕ) → answer_of on limit s cut budget space ≡ answer_of on other s cut budget space
  unfolding answer_of
  answer_limits on space =
      ap (λ (r : ℕ). cond (eqb r 0) (verdict_code (outcome_of on s cut budget).verdict + length (outcome_of on s cut budget).steps) r) (refusal_limits space)

  pub buffer_limits : (on : Setting) (old : List ℕ) → buffer_of on limit s cut budget old ≡ buffer_of on other s cut budget old
  unfolding buffer_of
  buffer_limits on old =
      ap
      (λ (r : ℕ).
      cond (eqb r 0)
      (front_of on s cut budget
      ++ (steps_bytes (outcome_of on s cut budget).steps ++ drop (front + 40 * length (outcome_of on s cut budget).steps) old))
      old)
      (refusal_limits (length old))

-- a buffer that is longer than the budget needs: the same answer, and the bytes past the need as they were
module _ (on : Setting) (limit : ℕ) (s : List ℕ) (cut budget : ℕ) where
  refusal_enough : (a b : ℕ) → front + 40 * budget ≤ a → front + 40 * budget ≤ b → refusal_of limit s cut budget a ≡ refusal_of limit s cut budget b
  unfolding refusal_of
  refusal_enough a b ha hb =
      ap (λ (t : Bool). or_else (refusal s) (or_else (when (ltb (trace_length s) cut) 8) (or_else (when (ltb limit budget) 9) (when t 10))))
      (le-ltb a (front + 40 * budget) ha ∙ sym (le-ltb b (front + 40 * budget) hb))

  pub answer_enough : (a b : ℕ) → front + 40 * budget ≤ a → front + 40 * budget ≤ b → answer_of on limit s cut budget a ≡ answer_of on limit s cut budget b
  unfolding answer_of
  answer_enough a b ha hb =
      ap (λ (r : ℕ). cond (eqb r 0) (verdict_code (outcome_of on s cut budget).verdict + length (outcome_of on s cut budget).steps) r) (refusal_enough a b ha hb)

  pub buffer_enough : (old : List ℕ) → front + 40 * budget ≤ length old → buffer_of on limit s cut budget (take (front + 40 * budget) old) ++ drop (front + 40 * budget) old ≡ buffer_of on limit s cut budget old
  buffer_enough old h = by_cases (ℕ_discrete (refusal_of limit s cut budget (length old)) 0) judged refused
    where
      need : ℕ
      need = front + 40 * budget

      part : List ℕ
      part = take need old

      same : refusal_of limit s cut budget (length part) ≡ refusal_of limit s cut budget (length old)
      same = refusal_enough (length part) (length old) (le_of_eq (sym (length-take-le need old h))) h

      refused : (refusal_of limit s cut budget (length old) ≡ 0 → ⊥) → buffer_of on limit s cut budget part ++ drop need old ≡ buffer_of on limit s cut budget old
      refused n =
          ap (λ (b : List ℕ). b ++ drop need old) (sym (refused_buffer on limit s cut budget part (λ p. n (sym same ∙ p))))
          ∙ take-append-drop need old ∙ refused_buffer on limit s cut budget old n

      judged : refusal_of limit s cut budget (length old) ≡ 0 → buffer_of on limit s cut budget part ++ drop need old ≡ buffer_of on limit s cut budget old
      judged ok =
          let o : Outcome = outcome_of on s cut budget in
          let first : List ℕ = front_of on s cut budget in
          let few : length o.steps ≤ budget = course_budget (run_is_course on s cut budget (ok_sheet limit s cut budget (length old) ok) (ok_cut limit s cut budget (length old) ok)) in
          let m : ℕ = front + 40 * length o.steps in
          ap (λ (b : List ℕ). b ++ drop need old) (accepted_buffer on limit s cut budget part (same ∙ ok))
          ∙ append_assoc first (steps_bytes o.steps ++ drop m part) (drop need old)
          ∙ ap (λ (b : List ℕ). first ++ b)
          (append_assoc (steps_bytes o.steps) (drop m part) (drop need old)
          ∙ ap (λ (b : List ℕ). steps_bytes o.steps ++ b) (sym (drop-append-le m part (drop need old) (omega (arith, length-take-le need old h))) ∙ ap (drop m) (take-append-drop need old)))
          ∙ sym (accepted_buffer on limit s cut budget old ok)
