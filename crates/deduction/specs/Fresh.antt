-- Atoms of the intruder's own making (document 02, E14: "Atoms of his own making").
-- Defined: `Occurs`, an atom stands somewhere in a term; `Fresh`, it stands in the term of no entry; `start_with`, the terms of a start and atoms beside them.
use Rattle.std.specs.Prelude.{ℕ, ◌<◌, ◌≡◌, ◌⊎◌, List, ◌++◌, map}
use Rattle.deduction.specs.Term.{Term, 𝟎, atom, pair, enc, half, aenc, ◌⊕◌}
use Rattle.deduction.specs.Entry.{Entry, term_at}

-- the atom with the number a stands somewhere in a term, as the term is written. The number of a key pair is no atom
abbrev pub Occurs : ℕ → Term → Type 0
Occurs a 𝟎 = ⊥
Occurs a (atom b) = a ≡ b
Occurs a (pair x y) = Occurs a x ⊎ Occurs a y
Occurs a (enc m k) = Occurs a m ⊎ Occurs a k
Occurs a (half s b) = ⊥
Occurs a (aenc m k) = Occurs a m ⊎ Occurs a k
Occurs a (x ⊕ y) = Occurs a x ⊎ Occurs a y

-- "atoms that occur in no entry of the sheet": in none of the first n
abbrev pub Fresh : (ℕ → Entry) → ℕ → ℕ → Type 0
Fresh e n a = (i : ℕ) → i < n → ¬ Occurs a (term_at e i)

-- "the stranger also starts with any finite set of atoms": the terms of the entries `start`, and the atoms with the numbers `atoms`
abbrev pub start_with : (ℕ → Entry) → List ℕ → List ℕ → List Term
start_with e start atoms = map (term_at e) start ++ map atom atoms
