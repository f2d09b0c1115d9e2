-- What a method of `Text` does.
-- Defined: `Fits`, the room that a text needs, and `Adds`, what is added.
use Rattle.std.specs.Prelude.{◌≡◌, ℕ, ◌+◌, ◌≤◌, List, length}
use Rattle.line.specs.declared.Text.{Text}
use Rattle.line.specs.Buffer.{Appended}

-- the buffer of t has room for w behind the text
abbrev pub Fits : Text → List ℕ → Type 0
Fits t w = t.len + length w ≤ length t.out.now

-- t became u: w stands behind the text, every other byte of the buffer is as before, and the buffer is the one that was lent
pub record Adds (t : Text) (w : List ℕ) (u : Text) : Type 0 where
  pub text : Appended t.out.now t.len w u.out.now u.len
  pub same_reference : u.out.ghost_name ≡ t.out.ghost_name
