-- `verdict::within` meets its contract for any limit up to 256: narrowed to what the budget needs, refused, or judged.
use mathlib.Core.Path.{◌≡◌, sym, ap, ◌∙◌}
use mathlib.Core.List.{List, ◌++◌}
use Prim.Native.Nat.{ℕ, ◌+◌, ◌*◌, ◌≤◌}
use native.Mathlib.Nat.{le_of_eq}
use native.Mathlib.Omega.{arith}
use lib.ListN.{length, take, drop}
use lib.Seq.{length-take-le}
use Rattle.std.proofs.lemmas.Result.{err_from_is_err_and}
use Rattle.deduction.specs.Setting.{Setting, switches}
use Rattle.dag.specs.Code.{code_of}
use Rattle.dag.specs.declared.Refusal.{Refusal}
use Rattle.dag.proofs.Laws.Code.{code_some}
use Rattle.dag.proofs.Laws.Good.{good}
use Rattle.verdict.specs.Buffer.{front}
use Rattle.verdict.specs.Refused.{full_limit, refusal_of}
use Rattle.verdict.specs.Demands.{Demanded}
use Rattle.verdict.specs.Answer.{answer_of, buffer_of}
use Rattle.verdict.proofs.Laws.Answered.{refused_sheet, ok_sheet, ok_cut, ok_budget, ok_space, refused_answer, refused_buffer, equations_demand, answer_limits, buffer_limits, answer_enough, buffer_enough}
use Rattle.verdict.proofs.Budgets.{demands_agree}
use Rattle.verdict.proofs.+within.Goals as goal

-- what was given to a call that isn't refused
at_most : (limit : ℕ) (sheet : List ℕ) (cut budget room : ℕ) → refusal_of limit sheet cut budget room ≡ 0 → cut ≤ 256
at_most limit sheet cut budget room fine = omega (arith, ok_cut limit sheet cut budget room fine, (good sheet (ok_sheet limit sheet cut budget room fine)).trace)

few : (limit : ℕ) (sheet : List ℕ) (cut budget room : ℕ) → limit ≤ 256 → refusal_of limit sheet cut budget room ≡ 0 → budget ≤ 256
few limit sheet cut budget room low fine = omega (arith, ok_budget limit sheet cut budget room fine)

pub returns-then-need-out : goal.returns-then-need-out
returns-then-need-out t c = let s = c.args in
    let e = c.within.ensures in
    let room : front + 40 * s.budget ≤ length s.out.now = omega arith in
    let need = front + 40 * s.budget in
    let a = e.answer ∙ answer_enough (switches s.rules) s.limit s.sheet.now s.cut s.budget (length (take need s.out.now)) (length s.out.now) (le_of_eq (sym (length-take-le need s.out.now room))) room in
    let b = ap (λ (x : List ℕ). x ++ drop need s.out.now) e.bytes ∙ buffer_enough (switches s.rules) s.limit s.sheet.now s.cut s.budget s.out.now room in
    let d = equations_demand (switches s.rules) s.limit s.sheet.now s.cut s.budget s.out.now (c.within.new.out ++ drop need s.out.now) _ a b in
    record { answer = a; few = e.few; bytes = b; demands = d; agrees = demands_agree d }

-- a call is refused with r
module _ (on : Setting) (limit : ℕ) (s : List ℕ) (cut budget : ℕ) (out : List ℕ) (r : Refusal) (why : code_of r ≡ refusal_of limit s cut budget (length out)) where
  some : refusal_of limit s cut budget (length out) ≡ 0 → ⊥
  some z = code_some r (why ∙ z)

  number_err : code_of r ≡ answer_of on limit s cut budget (length out)
  number_err = why ∙ refused_answer on limit s cut budget (length out) some

  bytes_err : out ≡ buffer_of on limit s cut budget out
  bytes_err = refused_buffer on limit s cut budget out some

  demands_err : Demanded on limit s cut budget out out (code_of r)
  demands_err = equations_demand on limit s cut budget out out (code_of r) number_err bytes_err

pub returns-in_err-good : goal.returns-in_err-good
returns-in_err-good t c = let s = c.args in
    let p = err_from_is_err_and c.from_residual.result c.from_residual.ensures.1 in
    let r = c.in_err-good.field-0.0 in
    let code = c.in_err-good.ensures.code in
    let why = code ∙ refused_sheet s.limit s.sheet.now s.cut s.budget (length s.out.now) (λ z. code_some r (code ∙ z)) in
    let d = demands_err (switches s.rules) s.limit s.sheet.now s.cut s.budget s.out.now r why in
    rw (p.1, p.2)
    (record { answer = number_err (switches s.rules) s.limit s.sheet.now s.cut s.budget s.out.now r why; few = omega arith; bytes = bytes_err (switches s.rules) s.limit s.sheet.now s.cut s.budget s.out.now r why; demands = d; agrees = demands_agree d })

pub returns-in_err-check_call : goal.returns-in_err-check_call
returns-in_err-check_call t c = let s = c.args in
    let p = err_from_is_err_and c.from_residual-in_err-check_call.result c.from_residual-in_err-check_call.ensures.1 in
    let r = c.in_err-check_call.field-0.0 in
    let why = c.in_err-check_call.ensures ∙ ap (λ (x : List ℕ). refusal_of s.limit x s.cut s.budget (length s.out.now)) c.in_ok-good.ensures.bytes in
    let d = demands_err (switches s.rules) s.limit s.sheet.now s.cut s.budget s.out.now r why in
    rw (p.1, p.2)
    (record { answer = number_err (switches s.rules) s.limit s.sheet.now s.cut s.budget s.out.now r why; few = omega arith; bytes = bytes_err (switches s.rules) s.limit s.sheet.now s.cut s.budget s.out.now r why; demands = d; agrees = demands_agree d })

pub overflow_cast-cut : goal.overflow_cast-cut
overflow_cast-cut t c = let s = c.args in
    omega (arith, at_most s.limit c.in_ok-good.good.bytes.now s.cut s.budget (length s.out.now) (sym c.in_ok-check_call.ensures))

pub overflow_cast-budget : goal.overflow_cast-budget
overflow_cast-budget t c = let s = c.args in
    omega (arith, few s.limit c.in_ok-good.good.bytes.now s.cut s.budget (length s.out.now) c.requires (sym c.in_ok-check_call.ensures))

pub judged-requires : goal.judged-requires
judged-requires t c = let s = c.args in
    let bytes = c.in_ok-good.good.bytes.now in
    let ok = sym c.in_ok-check_call.ensures in (
      ok_cut s.limit bytes s.cut s.budget (length s.out.now) ok,
      few s.limit bytes s.cut s.budget (length s.out.now) c.requires ok,
      ok_space s.limit bytes s.cut s.budget (length s.out.now) ok,
    )

pub returns : goal.returns
returns t c = let s = c.args in
    let bytes = c.in_ok-good.good.bytes.now in
    let same = c.in_ok-good.ensures.bytes in
    let on = switches s.rules in
    let e = c.judged.ensures in
    let fine = sym c.in_ok-check_call.ensures in
    let full = few s.limit bytes s.cut s.budget (length s.out.now) c.requires fine in
    let allowed = ok_budget s.limit bytes s.cut s.budget (length s.out.now) fine in
    let a = e.answer ∙ answer_limits full_limit s.limit bytes s.cut s.budget full allowed on (length s.out.now) ∙ ap (λ (x : List ℕ). answer_of on s.limit x s.cut s.budget (length s.out.now)) same in
    let b = e.bytes ∙ buffer_limits full_limit s.limit bytes s.cut s.budget full allowed on s.out.now ∙ ap (λ (x : List ℕ). buffer_of on s.limit x s.cut s.budget s.out.now) same in
    let d = equations_demand on s.limit s.sheet.now s.cut s.budget s.out.now c.judged.new.out _ a b in
    record { answer = a; few = omega (arith, e.few, allowed); bytes = b; demands = d; agrees = demands_agree d }
