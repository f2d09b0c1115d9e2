-- Entries and their terms. A sheet's entries are a function from numbers and a count; each refers to lower numbers only.
-- Defined: `Entry`, what a record holds; `term_at`, the term of an entry, as a fold over the entries below it; `Downward`.
use Rattle.std.specs.Prelude.{ℕ, zero, suc, ◌<◌, get_or}
use mathlib.Core.List.{List, [], ◌∷◌, ◌++◌, map, Memᴰ}
use Rattle.deduction.specs.Term.{Side, Term, 𝟎, atom, pair, enc, half, aenc, sum_of}

-- "A record is its kind byte and then: nothing (zero); the atom's number; left and right; message and key; or the sum's items". Document
-- 02, E6: a half's number; a lock's message and key
pub data Entry : Type 0 where
  Zero : Entry
  Atom : ℕ → Entry
  Pair : ℕ → ℕ → Entry
  Enc : ℕ → ℕ → Entry
  Sum : List ℕ → Entry
  Half : Side → ℕ → Entry
  Aenc : ℕ → ℕ → Entry

-- the term of an entry, from the terms of the entries that it refers to
unfoldable pub build : (ℕ → Term) → Entry → Term
build t Zero = 𝟎
build t (Atom a) = atom a
build t (Pair l r) = pair (t l) (t r)
build t (Enc m k) = enc (t m) (t k)
build t (Sum items) = sum_of (map t items)
build t (Half s a) = half s a
build t (Aenc m k) = aenc (t m) (t k)

-- the terms of the first n entries, each built from those before it
unfoldable pub terms : (ℕ → Entry) → ℕ → List Term
terms e zero = []
terms e (suc n) = terms e n ++ (build (λ j. get_or (terms e n) j 𝟎) (e n) ∷ [])

-- the term of entry i
unfoldable pub term_at : (ℕ → Entry) → ℕ → Term
term_at e i = build (λ j. get_or (terms e i) j 𝟎) (e i)

-- the entry numbers in a record; "an atom's number is none", and a key pair's is none
unfoldable pub parts : Entry → List ℕ
parts Zero = []
parts (Atom a) = []
parts (Pair l r) = l ∷ r ∷ []
parts (Enc m k) = m ∷ k ∷ []
parts (Sum items) = items
parts (Half s a) = []
parts (Aenc m k) = m ∷ k ∷ []

-- "Every entry number in a record is below the record's own": the first n entries refer downwards
abbrev pub Downward : (ℕ → Entry) → ℕ → Type 0
Downward e n = (i j : ℕ) → i < n → Memᴰ j (parts (e i)) → j < i
