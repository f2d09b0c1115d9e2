-- From the run over the tables to the verdict on a sheet. Assumes nothing.
use mathlib.Core.Path.{◌≡◌, refl, ap, ap₂, ◌∙◌}
use mathlib.Core.Bool.{true, ◌&&◌}
use mathlib.Core.List.{List, ◌++◌}
use Prim.Native.Nat.{ℕ, zero, suc, ◌+◌, ◌*◌, ◌≤◌, ◌<◌}
use native.Mathlib.Omega.{arith}
use lib.ListN.{length, get_or, take, drop, replicate}
use lib.Seq.{drop_at, length-take-le}
use borrow.Author.Tests.{eq-eqb, lt-ltb}
use Rattle.bitset.specs.Words.{packed, value}
use Rattle.deduction.specs.Setting.{Setting}
use Rattle.deduction.specs.Standard.{set_at, rep_at}
use Rattle.deduction.specs.Elimination.{reduce}
use Rattle.deduction.specs.Step.{Step}
use Rattle.deduction.specs.Run.{knowledge}
use Rattle.deduction.proofs.Standard.{rep_le, rep_rep, rep_set}
use Rattle.dag.specs.Sheet.{count_of, goal_of}
use Rattle.dag.specs.Record.{entry_at}
use Rattle.knowledge.specs.declared.lines.Lines.{Lines}
use Rattle.knowledge.specs.Inner.Lines.{set_in, line_at, head_in}
use Rattle.derive.specs.Bytes.{steps_bytes}
use Rattle.derive.specs.Inner.Machine.{Ended}
use Rattle.derive.specs.Inner.Ran.{verdict_of, end_of, Ran}
use Rattle.derive.specs.declared.run.Ended as program
use Rattle.derive.proofs.Laws.Machine.{as_ended, machine_run}
use Rattle.verdict.specs.Buffer.{front}
use Rattle.verdict.specs.Answer.{outcome_of, missing_as, missing_of, front_bytes, front_of}
use Rattle.start.specs.Start.{start_heads}
use Rattle.verdict.specs.Inner.Decide.{reduced_of, missing_in, Decided}
use Rattle.verdict.proofs.Laws.Front.{missing_by_rows}

-- a table of empty sets
pub table_zero : (n : ℕ) (x : List ℕ) → value x ≡ 0 → (i : ℕ) → set_in (replicate n x) i ≡ 0
unfolding packed
table_zero zero x z i = refl
table_zero (suc n) x z zero = z
table_zero (suc n) x z (suc i) = table_zero n x z i

module _ (on : Setting) (s : List ℕ) (cut budget : ℕ) where
  ends : end_of on s budget (knowledge (entry_at s) (start_heads s cut)) ≡ as_ended (entry_at s) (outcome_of on s cut budget)
  unfolding outcome_of
  ends = machine_run on (entry_at s) (count_of s) (goal_of s) budget (start_heads s cut)

  module _ (reps out : List ℕ) (r : program.Ended) (ls : Lines) (out' : List ℕ)
      (ran : Ran on s reps (knowledge (entry_at s) (start_heads s cut)) budget front out r ls out') where
    verdict : verdict_of r.verdict ≡ (outcome_of on s cut budget).verdict
    verdict = ran.verdict ∙ ap (λ (o : Ended). o.verdict) ends

    known : value r.known ≡ (knowledge (entry_at s) (outcome_of on s cut budget).learnt).known
    known = ran.known ∙ ap (λ (o : Ended). o.final.known) ends

    steps : (end_of on s budget (knowledge (entry_at s) (start_heads s cut))).steps ≡ (outcome_of on s cut budget).steps
    steps = ap (λ (o : Ended). o.steps) ends

    count : r.made ≡ length (outcome_of on s cut budget).steps
    count = ran.count ∙ ap length steps

    module _ (right : (i : ℕ) → i < count_of s → get_or reps i 0 ≡ rep_at (entry_at s) i) (within : goal_of s < count_of s) where
      -- the line of the goal's head is what the rows at the end leave of the goal's set
      goal_line_lem : line_at ls.remainders ls.used (rep_at (entry_at s) (goal_of s)) ≡ reduce (knowledge (entry_at s) (outcome_of on s cut budget).learnt).rows (set_at (entry_at s) (goal_of s))
      goal_line_lem =
          ran.lines.line (rep_at (entry_at s) (goal_of s)) live
          ∙ ap₂ (λ (o : Ended) (v : ℕ). reduce o.final.rows v) ends (rep_set (entry_at s) (goal_of s))
        where
          below : rep_at (entry_at s) (goal_of s) < count_of s
          below = omega (arith, rep_le (entry_at s) (goal_of s), within)

          live : head_in reps (count_of s) (rep_at (entry_at s) (goal_of s)) ≡ true
          live =
              ap₂ ◌&&◌ (lt-ltb (rep_at (entry_at s) (goal_of s)) (count_of s) below)
              (eq-eqb (get_or reps (rep_at (entry_at s) (goal_of s)) 0) (rep_at (entry_at s) (goal_of s)) (right (rep_at (entry_at s) (goal_of s)) below ∙ rep_rep (entry_at s) (goal_of s)))

      module _ (goal remainder used line-remainder line-used : List ℕ) (head : ℕ) (set : value goal ≡ set_at (entry_at s) (goal_of s))
          (at : head ≡ get_or reps (goal_of s) 0) (read : reduced_of line-remainder line-used ≡ line_at ls.remainders ls.used head)
          (found : reduced_of remainder used ≡ missing_as (verdict_of r.verdict) (missing_in on (reduced_of line-remainder line-used) (value goal))) where
        -- so what is missing of the goal is read off it
        missing : reduced_of remainder used ≡ missing_of on s cut budget
        unfolding missing_of
        missing =
            found
            ∙ ap₂ missing_as verdict
            (ap (missing_in on (reduced_of line-remainder line-used)) set
            ∙ missing_by_rows on (reduced_of line-remainder line-used) (knowledge (entry_at s) (outcome_of on s cut budget).learnt).rows (set_at (entry_at s) (goal_of s))
            (read ∙ ap (line_at ls.remainders ls.used) (at ∙ right (goal_of s) within) ∙ goal_line_lem))

        pub decided : front ≤ length out → (out'' : List ℕ) → out'' ≡ front_bytes (value r.known) (value used) (value remainder) ++ drop front out' → Decided on s cut budget out out'' r
        unfolding front_of
        decided space out'' written =
            let rest = steps_bytes (end_of on s budget (knowledge (entry_at s) (start_heads s cut))).steps ++ drop (front + 40 * r.made) out in
            record {
              verdict = verdict;
              count = count;
              bytes =
                  written
                  ∙ ap₂ ◌++◌ (λ i. front_bytes (known i) (missing i).used (missing i).remainder)
                  (ap (drop front) ran.bytes ∙ drop_at (take front out) rest front (length-take-le front out space)
                  ∙ ap₂ (λ (ss : List Step) (k : ℕ). steps_bytes ss ++ drop (front + 40 * k) out) steps count);
            }
