-- The invariant of the run's loop: what is done, and the run that remains.
-- Defined: `Safe`, what holds whatever state the tables hold; `Along`, what holds for a state k at the start. Shown: `offers_start`; `along_start`; `along_step`, after a step;
-- `along_derivable`, `along_underivable` and `along_exhausted`, at the end. Assumes nothing.
use Prim.Native.Nat.{ℕ, suc, ◌+◌, ◌-◌, ◌*◌, ◌/◌, ◌%◌, ◌≤◌, ◌<◌}
use mathlib.Core.Path.{◌≡◌, refl, sym, ap, ap₂, ◌∙◌, subst}
use mathlib.Core.Bool.{Bool, true, false, true≢false}
use mathlib.Core.List.{List, [], ◌∷◌, ◌++◌, append-nil}
use native.Mathlib.Nat.{add-zero, sub-zero}
use native.Mathlib.Omega.{arith}
use lib.ListN.{length, get_or, take, drop, length-append, take-append-drop}
use Rattle.bitset.specs.Set.{member, insert}
use Rattle.bitset.specs.Words.{value}
use Rattle.deduction.specs.Setting.{Setting, switches}
use Rattle.deduction.specs.Standard.{set_at, rep_at}
use Rattle.deduction.specs.Elimination.{Row, Knowledge, reduce, add_row, learn}
use Rattle.deduction.specs.Step.{Step}
use Rattle.deduction.specs.Run as theory
use Rattle.dag.specs.Sheet.{count_of, goal_of}
use Rattle.dag.specs.Record.{entry_at}
use Rattle.dag.specs.Refusal.{refusal}
use Rattle.canonical.proofs.Laws.Record.{Bytes}
use Rattle.knowledge.specs.declared.lines.Lines.{Lines}
use Rattle.knowledge.specs.Inner.Lines.{set_in, KeptIn, head_in}
use Rattle.knowledge.proofs.Laws.Learn.{learn_known, learn_rows}
use Rattle.derive.specs.Bytes.{step_bytes, steps_bytes}
use Rattle.offers.specs.declared.Search.{Search}
use Rattle.offers.specs.Inner.Users.{UsersOf}
use Rattle.offers.specs.Inner.Right.{Right}
use Rattle.offers.specs.Inner.Table.{Table, Adds, Kept}
use Rattle.offers.specs.Inner.Search.{Offered}
use Rattle.offers.specs.Inner.Offers.{key_offers, table_offers, set_offers}
use Rattle.offers.specs.Inner.Next.{next_in}
use Rattle.derive.specs.Inner.Step.{step_in}
use Rattle.derive.specs.Inner.Machine.{Ended, step_next}
use Rattle.derive.specs.Inner.Ran.{verdict_of, end_as, Learnt, Ready, LinesOf, end_of, Ran}
use Rattle.derive.specs.declared.run.Ended as program
use Rattle.derive.specs.declared.run.Verdict.{Verdict}
use Rattle.derive.specs.declared.run.Verdict.TheVariants.{Derivable, Underivable, Exhausted}
use Rattle.derive.proofs.Laws.Machine.{prepend, prepend_more, prepend_verdict, prepend_steps, prepend_final, ended_as, machine_derivable, machine_underivable, machine_exhausted, machine_step}
use Rattle.derive.proofs.Laws.Buffer.{written_more}
use Rattle.derive.proofs.Laws.Step.{Stepped, sheet_step}
use Rattle.derive.proofs.Laws.Lines.{live_head, sums_of, used_of}
use Rattle.offers.proofs.Laws.Table.{adds_as}
use Rattle.offers.proofs.Laws.Kept.{sheet_start, sheet_learn}
use Rattle.offers.proofs.Laws.Next.{sheet_least}

pub record Safe (s keys reps : List ℕ) (budget front : ℕ) (out₀ : List ℕ) (rules goal-head : ℕ) (users : List (List ℕ)) (q : Search) (made : ℕ) (out : List ℕ) : Type 0 where
  pub good : refusal s ≡ 0
  pub elements : Bytes s
  pub ready : Ready s keys reps budget front out₀
  pub goal : goal-head ≡ rep_at (entry_at s) (goal_of s)
  pub joined : (x : ℕ) → x < 256 → UsersOf (entry_at s) (count_of s) x (set_in users x)
  pub same : q.rules ≡ rules
  pub within : made ≤ budget
  pub long : length out ≡ length out₀

pub record Along (on : Setting) (s reps : List ℕ) (k : Knowledge) (budget front : ℕ) (out₀ : List ℕ) (ls : Lines) (q : Search) (made : ℕ) (out : List ℕ) : Type 0 where
  pub done : List Step
  pub state : Knowledge
  pub many : length done ≡ made
  pub rest : end_of on s budget k ≡ prepend done (end_of on s (budget - made) state)
  pub bytes : out ≡ take front out₀ ++ (steps_bytes done ++ drop (front + 40 * made) out₀)
  pub known : value q.known ≡ state.known
  pub lines : LinesOf s reps state.rows ls
  pub offers : Kept on (entry_at s) (count_of s) (value q.known) q.best q.ready

-- the offers of a search from what is known at the start and the switches
pub offers_start : (s : List ℕ) → refusal s ≡ 0 → Bytes s → (keys reps : List ℕ) → Right (entry_at s) (count_of s) keys reps → {known : List ℕ} {rules n : ℕ} {p q : Search} → n ≡ count_of s
    → p.known ≡ known → p.rules ≡ rules → Table p.best p.ready [] → Offered p q (table_offers (switches p.rules) (value p.known) keys reps n)
    → Kept (switches rules) (entry_at s) (count_of s) (value q.known) q.best q.ready
offers_start s ok elements keys reps right {known} {rules} {n} {p} {q} count same_known same_rules empty o =
    subst (λ (ws : List ℕ). Kept (switches rules) (entry_at s) (count_of s) (value ws) q.best q.ready) (sym (o.known ∙ same_known))
    (sheet_start (switches rules) s ok elements keys reps right (value known) count empty
    (adds_as (ap₂ (λ (r : ℕ) (ws : List ℕ). table_offers (switches r) (value ws) keys reps n) same_rules same_known) o.table))

pub along_start : (on : Setting) (s reps : List ℕ) (k : Knowledge) (budget front : ℕ) (out : List ℕ) {lines : Lines} {q : Search} → value q.known ≡ k.known
    → LinesOf s reps k.rows lines → Kept on (entry_at s) (count_of s) (value q.known) q.best q.ready → Along on s reps k budget front out lines q 0 out
unfolding prepend steps_bytes
along_start on s reps k budget front out known lines offers = record {
  done = [];
  state = k;
  many = refl;
  rest = ap (λ (b : ℕ). end_of on s b k) (sym (sub-zero budget));
  bytes = sym (take-append-drop front out) ∙ ap (λ (j : ℕ). take front out ++ drop j out) (sym (add-zero front));
  known = known;
  lines = lines;
  offers = offers;
}

module _ {s keys reps : List ℕ} {k : Knowledge} {budget front : ℕ} {out₀ : List ℕ} {rules goal-head : ℕ} {users : List (List ℕ)} {lines : Lines} {q : Search} {made : ℕ} {out : List ℕ}
    (z : Safe s keys reps budget front out₀ rules goal-head users q made out) (a : Along (switches rules) s reps k budget front out₀ lines q made out) where
  abbrev on : Setting
  on = switches rules

  -- the rest of the run is no step: the run ends here
  along_ended : (v : Verdict) → end_of on s (budget - made) a.state ≡ ended_as on (entry_at s) (count_of s) (goal_of s) a.state (verdict_of v)
      → Ran on s reps k budget front out₀ (end_as v made q.known) lines out
  along_ended v p =
      let o = ended_as on (entry_at s) (count_of s) (goal_of s) a.state (verdict_of v) in
      let e : end_of on s budget k ≡ prepend a.done o = a.rest ∙ ap (prepend a.done) p in
      let steps : (end_of on s budget k).steps ≡ a.done = ap (λ (x : Ended). x.steps) e ∙ prepend_steps a.done o ∙ append-nil a.done in
      let final : a.state ≡ (end_of on s budget k).final = sym (ap (λ (x : Ended). x.final) e ∙ prepend_final a.done o) in
      record {
        verdict = sym (ap (λ (x : Ended). x.verdict) e ∙ prepend_verdict a.done o);
        count = sym (ap length steps ∙ a.many);
        known = a.known ∙ ap (λ (x : Knowledge). x.known) final;
        lines = subst (λ (x : Knowledge). LinesOf s reps x.rows lines) final a.lines;
        bytes = a.bytes ∙ ap (λ (ss : List Step). take front out₀ ++ (steps_bytes ss ++ drop (front + 40 * made) out₀)) (sym steps);
      }

  along_end : {r : program.Ended} (v : Verdict) → r ≡ end_as v made q.known → end_of on s (budget - made) a.state ≡ ended_as on (entry_at s) (count_of s) (goal_of s) a.state (verdict_of v)
      → Ran on s reps k budget front out₀ r lines out
  along_end v same p = subst (λ (r : program.Ended). Ran on s reps k budget front out₀ r lines out) (sym same) (along_ended v p)

  -- the test whether the goal is known, and the number found, are the theory's
  module _ {t : Bool} (test : t ≡ member (value q.known) goal-head) where
    tested : theory.reached (entry_at s) (goal_of s) a.state ≡ t
    unfolding theory.reached
    tested = ap₂ member (sym a.known) (sym z.goal) ∙ sym test

    pub along_derivable : {r : program.Ended} → t ≡ true → r ≡ end_as Derivable made q.known → Ran on s reps k budget front out₀ r lines out
    along_derivable p same = along_end Derivable same (machine_derivable on (entry_at s) (count_of s) (goal_of s) a.state (budget - made) (tested ∙ p))

    module _ (unmet : t ≡ false) where
      -- the next number by the table
      abbrev n : ℕ
      n = next_in (switches q.rules) q.best (value q.ready) (value lines.empty) (value q.known)

      found : n ≡ theory.next_number on (entry_at s) (count_of s) a.state
      found =
          ap₂ (λ (r g : ℕ). next_in (switches r) q.best (value q.ready) (value lines.empty) g) z.same a.known
          ∙ sheet_least on s z.good a.state (value lines.empty) (subst (λ (g : ℕ). Kept on (entry_at s) (count_of s) g q.best q.ready) a.known a.offers)
          (sums_of (entry_at s) (count_of s) keys reps z.ready.right a.state a.lines)

      pub along_underivable : {r : program.Ended} → n ≡ theory.no_step → r ≡ end_as Underivable made q.known → Ran on s reps k budget front out₀ r lines out
      along_underivable p same = along_end Underivable same (machine_underivable on (entry_at s) (count_of s) (goal_of s) a.state (budget - made) (tested ∙ unmet) (sym found ∙ p))

      -- x is the number of the next step
      module _ {x : ℕ} (next : (x ≡ n) × (x < theory.no_step)) where
        is_next : x ≡ theory.next_number on (entry_at s) (count_of s) a.state
        is_next = next.0 ∙ found

        some : ¬ (x ≡ theory.no_step)
        some p = omega (arith, next.1, p)

        pub along_exhausted : {r : program.Ended} → made ≡ budget → r ≡ end_as Exhausted made q.known → Ran on s reps k budget front out₀ r lines out
        along_exhausted p same =
            let spent : budget - made ≡ 0 = omega (arith, p) in
            along_end Exhausted same (ap (λ (b : ℕ). end_of on s b a.state) spent ∙ machine_exhausted on (entry_at s) (count_of s) (goal_of s) a.state (tested ∙ unmet) (λ w. some (is_next ∙ w)))

        -- a step is made
        module _ (less : made < budget) where
          abbrev h : ℕ
          h = x / 65536 % 256

          abbrev learnt : Knowledge
          learnt = learn (set_at (entry_at s)) a.state h

          stepped : Stepped (entry_at s) (count_of s) a.state keys lines.used x
          stepped = sheet_step on s z.good z.elements keys reps z.ready.right a.state lines.used (used_of (entry_at s) (count_of s) keys reps z.ready.right a.state a.lines) x is_next some

          -- the rest of the run, after this step
          rest_after : end_of on s budget k ≡ prepend (a.done ++ (step_next on (entry_at s) (count_of s) a.state ∷ [])) (end_of on s (budget - (made + 1)) learnt)
          unfolding step_next
          rest_after =
              let s₁ = step_next on (entry_at s) (count_of s) a.state in
              let same : (theory.step_at (entry_at s) (count_of s) a.state x).head ≡ s₁.head = ap (λ (y : ℕ). (theory.step_at (entry_at s) (count_of s) a.state y).head) is_next in
              a.rest
              ∙ ap (λ (b : ℕ). prepend a.done (end_of on s b a.state)) left
              ∙ ap (prepend a.done) (machine_step on (entry_at s) (count_of s) (goal_of s) a.state (budget - (made + 1)) (tested ∙ unmet) (λ w. some (is_next ∙ w)))
              ∙ sym (prepend_more a.done s₁ (end_of on s (budget - (made + 1)) (learn (set_at (entry_at s)) a.state s₁.head)))
              ∙ ap (λ (j : ℕ). prepend (a.done ++ (s₁ ∷ [])) (end_of on s (budget - (made + 1)) (learn (set_at (entry_at s)) a.state j))) (sym (stepped.head ∙ same))
            where
              left : budget - made ≡ suc (budget - (made + 1))
              left = omega (arith, less)

          pub along_step : {lines' : Lines} {q' : Search} {out' : List ℕ}
              → out' ≡ take (front + 40 * made) out ++ (step_bytes (step_in keys lines.used x) ++ drop 40 (drop (front + 40 * made) out))
              → ((live : ℕ → Bool) (f : ℕ → ℕ) (rows : List Row) → live h ≡ true → KeptIn live f rows lines → KeptIn live f (add_row rows h (reduce rows (f h))) lines')
              → Learnt keys (set_in users h) h q q' → Along on s reps k budget front out₀ lines' q' (made + 1) out'
          unfolding step_next
          along_step {lines'} {q'} {out'} bytes swept l = record {
            done = a.done ++ (s₁ ∷ []);
            state = learnt;
            many = length-append a.done (s₁ ∷ []) ∙ ap (λ (m : ℕ). m + 1) a.many;
            rest = rest_after;
            bytes = written_more front out₀ a.done made a.many (omega (arith, z.ready.space)) out out' s₁ a.bytes
                (bytes ∙ ap (λ (r : Step). take (front + 40 * made) out ++ (step_bytes r ++ drop 40 (drop (front + 40 * made) out))) (stepped.same ∙ ap (theory.step_at (entry_at s) (count_of s) a.state) is_next));
            known = l.known ∙ ap (λ (g : ℕ). insert g h) a.known ∙ sym (learn_known a.state h (set_at (entry_at s) h));
            lines = subst (λ (rows : List Row). LinesOf s reps rows lines')
                (sym (learn_rows a.state h (set_at (entry_at s) h) (λ m. absurd (true≢false (sym m ∙ stepped.new)))))
                (swept (head_in reps (count_of s)) (set_at (entry_at s)) a.state.rows (live_head (entry_at s) (count_of s) keys reps z.ready.right h stepped.below stepped.own) a.lines);
            offers = subst (λ (g : ℕ). Kept on (entry_at s) (count_of s) g q'.best q'.ready) (sym l.known)
                (sheet_learn on s z.good z.elements keys reps z.ready.right (value q.known) h (set_in users h) stepped.below stepped.own (z.joined h (omega arith)) a.offers adds);
          }
            where
              s₁ : Step
              s₁ = step_next on (entry_at s) (count_of s) a.state

              adds : Adds q.best q.ready q'.best q'.ready (key_offers on (insert (value q.known) h) (get_or keys h 0) h ++ set_offers on (insert (value q.known) h) keys (set_in users h) 256)
              adds = subst (λ (r : ℕ). Adds q.best q.ready q'.best q'.ready (key_offers (switches r) (insert (value q.known) h) (get_or keys h 0) h ++ set_offers (switches r) (insert (value q.known) h) keys (set_in users h) 256)) z.same l.offers
