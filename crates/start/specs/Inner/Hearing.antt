-- Heads heard one by one.
-- Defined: `Held`, what holds after some heads; `Hearable`, what hearing more of them needs, and `Hears`, what it does; `Hearing` and `HeldAll`, need and promise for a
-- list of heads, from nothing.
use Rattle.std.specs.Prelude.{ℕ, ◌≡◌, Bool, true}
use mathlib.Core.List.{List, [], ◌++◌, Memᴰ}
use Rattle.deduction.specs.Elimination.{nothing, learn_all}
use Rattle.knowledge.specs.Inner.State.{Holds}
use Rattle.knowledge.specs.Inner.Lines.{KeptIn}
use Rattle.knowledge.specs.declared.Knowledge.{Knowledge}
use Rattle.knowledge.specs.declared.lines.Lines.{Lines}

-- the heads are live
abbrev pub Live : (ℕ → Bool) → List ℕ → Type 0
Live live heads = (h : ℕ) → Memᴰ h heads → live h ≡ true

-- after the heads `es`, with sets f, the state is what is known of them, and the lines are kept for the live entries
pub record Held (live : ℕ → Bool) (f : ℕ → ℕ) (es : List ℕ) (x : Knowledge) (l : Lines) : Type 0 where
  pub state : Holds (learn_all f nothing es) x.known x.rows x.len
  pub kept : KeptIn live f (learn_all f nothing es).rows l

-- there are heads after which this holds, and more heads that are live
pub record Hearable (heads : List ℕ) (x : Knowledge) (l : Lines) : Type 0 where
  pub live : ℕ → Bool
  pub sets : ℕ → ℕ
  pub before : List ℕ
  pub lives : Live live heads
  pub held : Held live sets before x l

abbrev pub Hears : List ℕ → Knowledge → Lines → Knowledge → Lines → Type 0
Hears heads x l x' l' = (live : ℕ → Bool) (f : ℕ → ℕ) (es : List ℕ) → Live live heads → Held live f es x l → Held live f (es ++ heads) x' l'

-- the heads of a list are live, and the lines are those of no row
pub record Hearing (heads : List ℕ) (l : Lines) : Type 0 where
  pub live : ℕ → Bool
  pub sets : ℕ → ℕ
  pub lives : Live live heads
  pub kept : KeptIn live sets [] l

abbrev pub HeldAll : List ℕ → Lines → Knowledge → Lines → Type 0
HeldAll heads l x' l' = (live : ℕ → Bool) (f : ℕ → ℕ) → Live live heads → KeptIn live f [] l → Held live f heads x' l'
