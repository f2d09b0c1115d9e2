-- Two verdicts by two settings, one of which includes the other (document 02, E11: "turning a switch on").
-- Shown, for every good sheet and cut: a goal reached in the smaller is not out of reach in the larger, whatever the two budgets (`reached_not_out`), and with a
-- budget of at least the number of entries it is reached there (`reached_stays`); where the goal is out of reach in the larger, the gained set has every member
-- of the smaller's (`gained_stays`). Each is drawn from `Meets` alone. `switch_on` says both of the calls at budget 256. `steps_allowed`: every rung of a
-- call is by a rule that is on, whatever the verdict. Assumes nothing.
use mathlib.Core.Path.{◌≡◌, subst}
use mathlib.Core.Bool.{true}
use mathlib.Core.List.{List, Memᴰ}
use Prim.Native.Nat.{ℕ, ◌≤◌, ◌<◌}
use lib.ListN.{length}
use Rattle.bitset.specs.Set.{member}
use Rattle.deduction.specs.Setting.{Setting, Includes, switches}
use Rattle.deduction.specs.Entry.{term_at}
use Rattle.deduction.specs.Step.{Step, Allowed}
use Rattle.deduction.specs.Course.{Course}
use Rattle.deduction.proofs.Exactness.{derivable_more}
use Rattle.deduction.proofs.Settings.{made_allowed, gained_more}
use Rattle.deduction.proofs.Steps.Course.{course_made}
use Rattle.dag.specs.Sheet.{count_of, goal_of, trace_length}
use Rattle.dag.specs.Record.{entry_at}
use Rattle.dag.specs.Refusal.{refusal}
use Rattle.dag.proofs.Laws.Good.{good}
use Rattle.start.specs.Start.{start_heads}
use Rattle.verdict.specs.Buffer.{gained_in, steps_in}
use Rattle.verdict.specs.Refused.{full_limit, refusal_of}
use Rattle.verdict.specs.Code.{IsOut}
use Rattle.verdict.specs.Demands.{Meets, Demanded}
use Rattle.verdict.proofs.Laws.Answered.{ok_sheet, ok_cut}
use Rattle.verdict.proofs.Laws.Demands.{start_is_heads}
use Rattle.verdict.proofs.Reading.{is_out, reached_derivable, out_underivable, reached_exact}
use Rattle.limited.specs.Switch.{SwitchedIn}
use Rattle.limited.proofs.Switch.{switched_includes}

-- "a ladder returned uses no other": each rung is by a rule that is on, whatever the verdict
pub steps_allowed : {on : Setting} {s : List ℕ} {cut budget : ℕ} {old out : List ℕ} {answer : ℕ} (m : Meets on s cut budget old out answer)
    → (r : Step) → Memᴰ r (steps_in out m.count) → Allowed on r
steps_allowed m = made_allowed (course_made m.course)

module _ {s : List ℕ} {cut : ℕ} (ok : refusal s ≡ 0) (within : cut ≤ trace_length s) {on more : Setting} (includes : Includes on more)
    {b c : ℕ} {old out old' out' : List ℕ} {answer answer' : ℕ} (m : Meets on s cut b old out answer) (m' : Meets more s cut c old' out' answer') where
  -- "turning a switch on never turns reached into out of reach"
  pub reached_not_out : answer < 2000 → ¬ IsOut answer'
  reached_not_out h (l, u) = out_underivable ok m' l u (derivable_more includes (reached_derivable ok m h))

  pub reached_stays : count_of s ≤ c → answer < 2000 → answer' < 2000
  reached_stays enough h = (reached_exact ok m' enough).1 (derivable_more includes (reached_derivable ok m h))

  -- "where the goal stays out of reach no gained term is lost"
  pub gained_stays : IsOut answer' → (e : ℕ) → member (gained_in out) e ≡ true → member (gained_in out') e ≡ true
  gained_stays (l, u) e g =
      let stuck = subst (Course more (term_at (entry_at s)) (count_of s) (goal_of s) c (start_heads s cut) (steps_in out' m'.count)) (is_out ok m' l u) m'.course in
      (m'.known e).1
      (gained_more (entry_at s) (count_of s) (good s ok).downward (goal_of s) includes (start_is_heads on s cut b ok within) stuck m.course e ((m.known e).0 g))

-- the same of two calls that aren't refused: "At budget 256, turning a switch on never turns reached into out of reach, and where the goal stays out of reach no
-- gained term is lost"
pub switch_on : (s : List ℕ) (cut a b : ℕ) → SwitchedIn a b → (old out old' out' : List ℕ) (answer answer' : ℕ)
    → refusal_of full_limit s cut 256 (length old) ≡ 0 → refusal_of full_limit s cut 256 (length old') ≡ 0 → Demanded (switches a) full_limit s cut 256 old out answer → Demanded (switches b) full_limit s cut 256 old' out' answer'
    → (answer < 2000 → answer' < 2000) × (IsOut answer' → (e : ℕ) → member (gained_in out) e ≡ true → member (gained_in out') e ≡ true)
switch_on s cut a b f old out old' out' answer answer' p p' d d' =
    let ok = ok_sheet full_limit s cut 256 (length old) p in
    let within = ok_cut full_limit s cut 256 (length old) p in
    let includes = switched_includes a b f in
    (reached_stays ok within includes (d.judged p) (d'.judged p') (good s ok).few, gained_stays ok within includes (d.judged p) (d'.judged p'))
