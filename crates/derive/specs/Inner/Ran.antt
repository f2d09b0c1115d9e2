-- What a run needs and what it hands back.
-- Defined: `verdict_of`, the verdict that the program's answer names; `end_as`, the end of a run; `Learnt`, a head became known to the search; `Ready`, the tables and
-- the buffer at the start; `LinesOf`, the lines are right by the rows; `end_of`, the run from a state; `Ran`, all that holds at the end for a state k at the start:
-- verdict, count, the known set, the lines, and every byte of the buffer.
use Rattle.std.specs.Prelude.{ℕ, ◌+◌, ◌*◌, ◌≤◌, ◌≡◌, List, ◌++◌, length, take, drop, get_or}
use Rattle.bitset.specs.Set.{insert}
use Rattle.bitset.specs.Words.{value}
use Rattle.deduction.specs.Setting.{Setting, switches}
use Rattle.deduction.specs.Standard.{set_at}
use Rattle.deduction.specs.Elimination.{Row, Knowledge}
use Rattle.deduction.specs.Run as theory
use Rattle.dag.specs.Sheet.{count_of, goal_of}
use Rattle.dag.specs.Record.{entry_at}
use Rattle.knowledge.specs.declared.lines.Lines.{Lines}
use Rattle.knowledge.specs.Inner.Lines.{KeptIn, head_in}
use Rattle.offers.specs.declared.Search.{Search}
use Rattle.offers.specs.Inner.Right.{Right}
use Rattle.offers.specs.Inner.Offers.{key_offers, set_offers}
use Rattle.offers.specs.Inner.Table.{Adds}
use Rattle.derive.specs.Bytes.{steps_bytes}
use Rattle.derive.specs.Inner.Machine.{Ended, machine}
use Rattle.derive.specs.declared.run.Verdict.{Verdict}
use Rattle.derive.specs.declared.run.Verdict.TheVariants.{Derivable, Underivable, Exhausted}
use Rattle.derive.specs.declared.run.Ended as program

abbrev pub verdict_of : Verdict → theory.Verdict
verdict_of Derivable = theory.derivable
verdict_of Underivable = theory.underivable
verdict_of Exhausted = theory.exhausted

abbrev pub end_as : Verdict → ℕ → List ℕ → program.Ended
end_as v made known = record { verdict = v; made = made; known = known }

-- the head h, whose users are us, became known to the search s: its offers and those of its users were put into the table; the switches stayed
pub record Learnt (keys : List ℕ) (us h : ℕ) (s s' : Search) : Type 0 where
  pub known : value s'.known ≡ insert (value s.known) h
  pub rules : s'.rules ≡ s.rules
  pub offers : let g = insert (value s.known) h in
      Adds s.best s.ready s'.best s'.ready (key_offers (switches s.rules) g (get_or keys h 0) h ++ set_offers (switches s.rules) g keys us 256)

-- tables that are right for a good sheet, and room for the steps
pub record Ready (s keys reps : List ℕ) (budget front : ℕ) (out : List ℕ) : Type 0 where
  pub right : Right (entry_at s) (count_of s) keys reps
  pub limit : budget ≤ 256
  pub space : front + 40 * budget ≤ length out

-- the lines, columns and empty lines of the sheet's heads are right by the rows
abbrev pub LinesOf : List ℕ → List ℕ → List Row → Lines → Type 0
LinesOf s reps = KeptIn (head_in reps (count_of s)) (set_at (entry_at s))

-- the run from the state k
abbrev pub end_of : Setting → List ℕ → ℕ → Knowledge → Ended
end_of on s budget k = machine on (entry_at s) (count_of s) (goal_of s) budget k

pub record Ran (on : Setting) (s reps : List ℕ) (k : Knowledge) (budget front : ℕ) (out : List ℕ) (r : program.Ended) (ls : Lines) (out' : List ℕ) : Type 0 where
  pub verdict : verdict_of r.verdict ≡ (end_of on s budget k).verdict
  pub count : r.made ≡ length (end_of on s budget k).steps
  pub known : value r.known ≡ (end_of on s budget k).final.known
  pub lines : LinesOf s reps (end_of on s budget k).final.rows ls
  -- "40 bytes a rung .. Later bytes keep their values". The steps begin at byte `front`
  pub bytes : out' ≡ take front out ++ (steps_bytes (end_of on s budget k).steps ++ drop (front + 40 * r.made) out)
