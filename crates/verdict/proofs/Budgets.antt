-- Two calls on one sheet, at one cut and by the same rules, with any two limits, budgets and buffers (document 02, E7).
-- Shown, from the demands alone: `settled_same`, two answers that are neither refused nor stopped are the same number, with the same rungs, gained set, used
-- set and remainder; `demands_agree`, so each agrees with every other. By the law of two budgets, `course_settled`. `steps_within`: at most as many rungs as
-- the limit; `settled_enough`: a call with a budget of at least the number of entries is refused or settled; `settled_full`: so every settled answer is that of
-- the full call with budget 256. Assumes nothing.
use mathlib.Core.Path.{◌≡◌, refl, sym, ap, ◌∙◌}
use mathlib.Core.List.{List}
use Prim.Native.Nat.{ℕ, ◌+◌, ◌*◌, ◌≤◌}
use native.Mathlib.Omega.{arith}
use lib.ListN.{length, replicate, length-replicate}
use Rattle.deduction.specs.Setting.{Setting}
use Rattle.deduction.specs.Course.{Verdict, derivable, underivable, exhausted}
use Rattle.deduction.proofs.Steps.Course.{course_budget, course_settled}
use Rattle.dag.specs.Sheet.{count_of, goal_of, trace_length}
use Rattle.dag.specs.Record.{entry_at}
use Rattle.dag.specs.Refusal.{refusal}
use Rattle.dag.proofs.Laws.Good.{good}
use Rattle.verdict.specs.Buffer.{front, gained_in, used_in, remainder_in, steps_in}
use Rattle.verdict.specs.Refused.{full_limit, refusal_of}
use Rattle.verdict.specs.Demands.{verdict_code, Meets, Demanded}
use Rattle.verdict.specs.Agrees.{Settled, Agrees}
use Rattle.verdict.specs.Answer.{answer_of, buffer_of}
use Rattle.verdict.proofs.Laws.Answered.{ok_sheet, ok_cut, ok_budget, accepted, equations_demand}
use Rattle.verdict.proofs.Laws.Demands.{start_is_heads}
use Rattle.verdict.proofs.Reading.{answer_judged, at_most, named}
use Rattle.verdict.proofs.Unique.{steps_count, same_work}

-- a settled answer isn't that of a stopped call
settled_ends : {on : Setting} {s : List ℕ} {cut budget : ℕ} {old out : List ℕ} {answer : ℕ} → refusal s ≡ 0 → (m : Meets on s cut budget old out answer) → Settled answer → ¬ (m.verdict ≡ exhausted)
settled_ends ok m (l, h) p = omega (arith, named ok m exhausted p)

pub settled_same : {on : Setting} {s : List ℕ} {cut b c : ℕ} {old out old' out' : List ℕ} {answer answer' : ℕ} → refusal s ≡ 0 → cut ≤ trace_length s
    → (m : Meets on s cut b old out answer) (m' : Meets on s cut c old' out' answer') → Settled answer → Settled answer'
    → (answer ≡ answer') × (steps_in out m.count ≡ steps_in out' m'.count) × (gained_in out ≡ gained_in out') × (used_in out ≡ used_in out') × (remainder_in out ≡ remainder_in out')
settled_same {on} {s} {cut} {b} ok within m m' a a' =
    let (steps, verdicts) = course_settled (entry_at s) (count_of s) (good s ok).downward (goal_of s) (start_is_heads on s cut b ok within) m.course m'.course (settled_ends ok m a) (settled_ends ok m' a') in
    same_work on s cut b ok within m m' steps verdicts

-- "its reached and out of reach agree with the full call at any budget where that is neither refused nor stopped"
pub demands_agree : {on : Setting} {limit : ℕ} {s : List ℕ} {cut budget : ℕ} {old out : List ℕ} {answer : ℕ} → Demanded on limit s cut budget old out answer → Agrees on s cut answer
demands_agree {limit = l} {s} {cut} {budget = b} {old = o} d limit budget old out other d' a a' =
    let j = answer_judged d (omega (arith, a.0)) in
    let j' = answer_judged d' (omega (arith, a'.0)) in
    (settled_same (ok_sheet l s cut b (length o) j) (ok_cut l s cut b (length o) j) (d.judged j) (d'.judged j') a a').0

-- "a quick entry point of at most 64 rungs": a call that isn't refused makes at most as many rungs as its limit allows
pub steps_within : {on : Setting} {limit : ℕ} {s : List ℕ} {cut budget : ℕ} {old out : List ℕ} {answer : ℕ} (d : Demanded on limit s cut budget old out answer)
    (judged : refusal_of limit s cut budget (length old) ≡ 0) → (d.judged judged).count ≤ limit
steps_within {limit = limit} {s} {cut} {budget} {old} {out = out} d judged =
    let m = d.judged judged in omega (arith, steps_count out m.count, course_budget m.course, ok_budget limit s cut budget (length old) judged)

-- with a budget of at least the number of entries, a call that isn't refused isn't stopped
pub settled_enough : {on : Setting} {limit : ℕ} {s : List ℕ} {cut budget : ℕ} {old out : List ℕ} {answer : ℕ} → Demanded on limit s cut budget old out answer
    → refusal_of limit s cut budget (length old) ≡ 0 → count_of s ≤ budget → Settled answer
settled_enough {on} {limit} {s} {cut} {budget} {old} {out} {answer} d judged enough = go m.verdict refl
  where
    ok : refusal s ≡ 0
    ok = ok_sheet limit s cut budget (length old) judged

    m : Meets on s cut budget old out answer
    m = d.judged judged

    go : (v : Verdict) → m.verdict ≡ v → Settled answer
    go derivable p = (omega (arith, named ok m derivable p), omega (arith, named ok m derivable p, at_most ok m))
    go underivable p = (omega (arith, named ok m underivable p), omega (arith, named ok m underivable p, at_most ok m))
    go exhausted p = absurd (omega (arith, ap verdict_code (sym p ∙ m.otherwise enough (λ q. omega (arith, ap verdict_code (sym p ∙ q))))))

-- so a settled answer is that of the full call, whose budget of 256 is enough for every sheet
pub settled_full : {on : Setting} {limit : ℕ} {s : List ℕ} {cut budget : ℕ} {old out : List ℕ} {answer : ℕ} → Demanded on limit s cut budget old out answer → Settled answer
    → answer ≡ answer_of on full_limit s cut 256 (front + 40 * 256)
settled_full {on} {limit} {s} {cut} {budget} {old} d a =
    let j = answer_judged d (omega (arith, a.0)) in
    let ok = ok_sheet limit s cut budget (length old) j in
    let buffer : List ℕ = replicate (front + 40 * 256) 0 in
    let size : length buffer ≡ front + 40 * 256 = length-replicate {A = ℕ} (front + 40 * 256) 0 in
    let fine : refusal_of full_limit s cut 256 (length buffer) ≡ 0 = sym (accepted full_limit s cut 256 (length buffer) ok (ok_cut limit s cut budget (length old) j) (omega arith) (omega (arith, size))) in
    let full = equations_demand on full_limit s cut 256 buffer (buffer_of on full_limit s cut 256 buffer) (answer_of on full_limit s cut 256 (length buffer)) refl refl in
    demands_agree d full_limit 256 buffer (buffer_of on full_limit s cut 256 buffer) (answer_of on full_limit s cut 256 (length buffer)) full a (settled_enough full fine (good s ok).few)
    ∙ ap (answer_of on full_limit s cut 256) size
