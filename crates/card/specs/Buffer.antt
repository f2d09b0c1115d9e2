-- What printing a card into a buffer does, and how a rung is read.
-- Defined: `Printed`, text at the front, and nothing where the buffer is too short; `HasRoom`, the room behind a text; `step_of`, the step of a rung.
use Rattle.std.specs.Prelude.{◌≡◌, ℕ, ◌+◌, ◌≤◌, List, ◌++◌, cond, leb, length, drop}
use Rattle.bitset.specs.Words.{value}
use Rattle.deduction.specs.Step.{Step}
use Rattle.line.specs.declared.Rung.{Rung}
use Rattle.line.specs.declared.Text.{Text}

-- the buffer d became d': the text stands at its front, every later byte is as before, and r is the text's length;
-- where d has fewer bytes than `space` it is as before, and r is 0
pub record Printed (space : ℕ) (text d d' : List ℕ) (r : ℕ) : Type 0 where
  pub answer : r ≡ cond (leb space (length d)) (length text) 0
  pub bytes : d' ≡ cond (leb space (length d)) (text ++ drop (length text) d) d
  pub within : r ≤ length d

-- the buffer has room for n bytes behind the text
abbrev pub HasRoom : Text → ℕ → Type 0
HasRoom t n = t.len + n ≤ length t.out.now

-- the step that a rung is
abbrev pub step_of : Rung → Step
step_of r = record { head = r.head; rule = r.rule; first = r.first; second = r.second; set = value r.set }
