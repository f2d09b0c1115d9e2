-- What is gained at the start of a call.
-- Document 02, E2: "the board's names, coded as atoms 0 to 255. .. Every such atom on the sheet is gained at the start, in rising entry order, ahead of
-- the heard messages and also at cut 0. Reach is measured, and the replay starts, from these atoms and the heard messages together."
-- Document 01, "Rungs": the heard messages before the cut, "in order, each as its head".
-- Defined: `is_public`, is an entry one of these atoms; `public_heads`, those of a sheet; `start_entries`, all that is gained at the start, in order;
-- `start_heads` and `start_terms`, their heads and their terms.
use Rattle.std.specs.Prelude.{ℕ, zero, suc, Bool, false, ◌&&◌, cond, List, [], ◌∷◌, ◌++◌, map, eqb, ltb}
use Rattle.deduction.specs.Term.{Term}
use Rattle.deduction.specs.Entry.{Entry, Zero, Atom, Pair, Enc, Sum, Half, Aenc, term_at}
use Rattle.deduction.specs.Standard.{rep_at}
use Rattle.dag.specs.Sheet.{count_of, trace_of}
use Rattle.dag.specs.Record.{entry_at}

-- "atoms 0 to 255": no other kind of entry is one, zero neither, and of the halves "neither is public knowledge"
unfoldable pub is_public : Entry → Bool
is_public Zero = false
is_public (Atom a) = ltb a 256
is_public (Pair l r) = false
is_public (Enc m k) = false
is_public (Sum items) = false
is_public (Half s a) = false
is_public (Aenc m k) = false

-- those among the first n entries, "in rising entry order". One that stands again is gained once, as its head, so that heads alone are listed
unfoldable pub public_heads : (ℕ → Entry) → ℕ → List ℕ
public_heads e zero = []
public_heads e (suc n) = public_heads e n ++ cond (is_public (e n) && eqb (rep_at e n) n) (n ∷ []) []

-- "ahead of the heard messages and also at cut 0"
abbrev pub start_entries : List ℕ → ℕ → List ℕ
start_entries s cut = public_heads (entry_at s) (count_of s) ++ trace_of s cut

abbrev pub start_heads : List ℕ → ℕ → List ℕ
start_heads s cut = map (rep_at (entry_at s)) (start_entries s cut)

abbrev pub start_terms : List ℕ → ℕ → List Term
start_terms s cut = map (term_at (entry_at s)) (start_entries s cut)
