-- The demands on a verdict call, as a statement about whole derivations (document 01, "Rungs", "Ladders and their replay"). Reach, replay and the order
-- of the rungs start from one list, `start_entries` (`start/specs/Start.antt`): the public atoms on the sheet, then the messages before the cut.
-- Each takes the setting: which rules the stranger has (document 02, E11). `every` gives the promise of the calls that have every rule on.
-- Defined: `Passes`, the replay of the rungs that are read back from the returned bytes; `Meets`, demands 2 and 3 of an answer and its buffer, the
-- stop rule, what is missing and every byte; `Demanded`, the whole promise, for refused calls too. Nothing here names the search, the run or the
-- elimination, and the promise alone determines the answer and every byte (`demands_equations`, proofs/Unique.antt).
use Rattle.std.specs.Prelude.{ℕ, ◌+◌, ◌*◌, ◌≤◌, ◌≡◌, true, false, ◌↔◌, length, drop}
use mathlib.Core.List.{List, ◌++◌, map, Memᴰ}
use Rattle.bitset.specs.Set.{member}
use Rattle.deduction.specs.Term.{Term}
use Rattle.deduction.specs.Setting.{Setting}
use Rattle.deduction.specs.Derivation.{Holds, Derivable}
use Rattle.deduction.specs.Entry.{term_at}
use Rattle.deduction.specs.Standard.{OwnSet}
use Rattle.deduction.specs.Step.{Step}
use Rattle.deduction.specs.Course.{Verdict, derivable, underivable, exhausted, Course}
use Rattle.deduction.specs.Replay.{Replays}
use Rattle.deduction.specs.Missing.{Missing}
use Rattle.dag.specs.Sheet.{count_of, goal_of}
use Rattle.dag.specs.Record.{entry_at}
use Rattle.start.specs.Start.{start_heads, start_terms}
use Rattle.verdict.specs.Buffer.{front, gained_in, used_in, remainder_in, steps_in}
use Rattle.verdict.specs.Refused.{refusal_of}

-- "1,000 for reached, 2,000 for out of reach, 3,000 for stopped"
abbrev pub verdict_code : Verdict → ℕ
verdict_code derivable = 1000
verdict_code underivable = 2000
verdict_code exhausted = 3000

abbrev pub goal_term : List ℕ → Term
goal_term s = term_at (entry_at s) (goal_of s)

-- the heads gained at the start and by the first k rungs of a buffer, in order
abbrev pub gained_heads : List ℕ → ℕ → ℕ → List ℕ → List ℕ
gained_heads s cut k out = start_heads s cut ++ map (λ (r : Step). r.head) (steps_in out k)

-- "The replay is fed the sheet, the cut and the call's answers: the rung count and that many rungs of 40 bytes." It starts from the public atoms "and the
-- heard messages together" (document 02, E2). No rung is wrong, and "the goal is gained when its term is in the state at the end"
abbrev pub Passes : Setting → List ℕ → ℕ → ℕ → List ℕ → Type 0
Passes on s cut k out =
    (end : List Term) × Replays on (term_at (entry_at s)) (count_of s) (start_terms s cut) (steps_in out k) end × Holds end (goal_term s)

-- the rules switched on; an answer that isn't a refusal, and the buffer before and after the call
pub record Meets (on : Setting) (s : List ℕ) (cut budget : ℕ) (old out : List ℕ) (answer : ℕ) : Type 0 where
  -- "the rung count plus 1,000 for reached, 2,000 for out of reach, 3,000 for stopped"
  pub verdict : Verdict
  pub count : ℕ
  pub coded : answer ≡ verdict_code verdict + count
  -- demand 2, and the whole stop rule: each rung is the one that document 01's order names, and the work ends where and as document 01 says
  pub course : Course on (term_at (entry_at s)) (count_of s) (goal_of s) budget (start_heads s cut) (steps_in out count) verdict
  -- "32 bytes of gained set (bit of value 2 to the power e mod 8 in byte e div 8, for each gained head e)"
  pub known : (e : ℕ) → (member (gained_in out) e ≡ true) ↔ Memᴰ e (gained_heads s cut count out)
  -- document 02, E5: "For a goal that is out of reach .. the set of gained terms used and the exact remainder", which isn't empty: what is missing of
  -- the goal when the work has ended
  pub missing : on 6 ≡ true → verdict ≡ underivable → Missing (entry_at s) (count_of s) (gained_heads s cut count out) (goal_of s) (used_in out) (remainder_in out)
  pub lacking : on 6 ≡ true → verdict ≡ underivable → ¬ (remainder_in out ≡ 0)
  -- document 02, E11: "Without sum .. at out of reach the used set is then empty and the remainder is the goal's own set"
  pub own : on 6 ≡ false → verdict ≡ underivable → (used_in out ≡ 0) × OwnSet (entry_at s) (count_of s) (goal_of s) (remainder_in out)
  -- "They are zero for the other verdicts"
  pub others : ¬ (verdict ≡ underivable) → (used_in out ≡ 0) × (remainder_in out ≡ 0)
  -- "Later bytes keep their values"
  pub kept : drop (front + 40 * count) out ≡ drop (front + 40 * count) old
  -- demand 3, with a budget of at least the number of entries: "out of reach exactly when no finite ladder from the messages before the cut
  -- gains the goal, through terms of any size, on the sheet or not"; and document 02, E2: "Reach is measured .. from these atoms and the heard
  -- messages together", which are the terms of the start; and E11: "For every setting, out of reach stays exact for ladders made of the rules switched
  -- on"
  pub exact : count_of s ≤ budget → (verdict ≡ underivable) ↔ (¬ Derivable on (start_terms s cut) (goal_term s))
  -- "Otherwise it answers reached"
  pub otherwise : count_of s ≤ budget → ¬ (verdict ≡ underivable) → verdict ≡ derivable
  -- for every budget: "the ladder returned .. has no wrong rung and gains the goal, and the rung count returned is at most the number of entries"; and
  -- it "uses no other" rule than those switched on
  pub passes : verdict ≡ derivable → Passes on s cut count out
  pub few : count ≤ count_of s
  -- out of reach is exact for every budget
  pub out_of_reach : verdict ≡ underivable → ¬ Derivable on (start_terms s cut) (goal_term s)

-- the whole promise of a call: "A refusal returns its number alone; the buffer keeps every byte"; every other call meets the demands
pub record Demanded (on : Setting) (limit : ℕ) (s : List ℕ) (cut budget : ℕ) (old out : List ℕ) (answer : ℕ) : Type 0 where
  pub refused : ¬ (refusal_of limit s cut budget (length old) ≡ 0) → (answer ≡ refusal_of limit s cut budget (length old)) × (out ≡ old)
  pub judged : refusal_of limit s cut budget (length old) ≡ 0 → Meets on s cut budget old out answer
