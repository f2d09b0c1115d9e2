-- The terms of a sheet's entries.
-- Shown: the list `terms e n` has n items, and item j is `term_at e j`; where the entries refer downwards, the term of an entry is built
-- from the terms of the entries that it names; the term of an atom's entry is the atom. Assumes nothing.
use mathlib.Core.Path.{◌≡◌, refl, ap, ap₂, ◌∙◌}
use mathlib.Core.Logic.{by_cases}
use mathlib.Core.List.{List, [], ◌∷◌, map, Memᴰ}
use Prim.Native.Nat.{ℕ, zero, suc, ◌<◌}
use native.Mathlib.Decide.{dec_lt}
use native.Mathlib.Omega.{arith}
use lib.ListN.{length, get_or, length-append, get_or-append}
use lib.Seq.{get_or_at}
use Rattle.deduction.specs.Term.{Term, 𝟎, atom, pair, enc, aenc, sum_of}
use Rattle.deduction.specs.Entry.{Entry, Zero, Atom, Pair, Enc, Sum, Half, Aenc, build, terms, term_at, parts, Downward}

pub terms_length : (e : ℕ → Entry) (n : ℕ) → length (terms e n) ≡ n
unfolding terms term_at
terms_length e zero = refl
terms_length e (suc n) = length-append (terms e n) (term_at e n ∷ []) ∙ omega (arith, terms_length e n)

pub terms_at : (e : ℕ → Entry) (n j : ℕ) → j < n → get_or (terms e n) j 𝟎 ≡ term_at e j
unfolding terms term_at
terms_at e zero j h = absurd (omega arith)
terms_at e (suc n) j h =
    by_cases (dec_lt j n) (λ q. get_or-append (terms e n) (term_at e n ∷ []) 𝟎 j (omega (arith, terms_length e n)) ∙ terms_at e n j q)
    (λ q. let last : n ≡ j = omega arith in get_or_at (terms e n) (term_at e n) [] 𝟎 j (terms_length e n ∙ last) ∙ ap (term_at e) last)

-- an entry's term depends on the terms of its parts alone
pub build_same : (f g : ℕ → Term) (d : Entry) → ((j : ℕ) → Memᴰ j (parts d) → f j ≡ g j) → build f d ≡ build g d
unfolding build parts
build_same f g Zero h = refl
build_same f g (Atom a) h = refl
build_same f g (Pair l r) h = ap₂ pair (h l (Memᴰ.head refl)) (h r (Memᴰ.tail (Memᴰ.head refl)))
build_same f g (Enc m k) h = ap₂ enc (h m (Memᴰ.head refl)) (h k (Memᴰ.tail (Memᴰ.head refl)))
build_same f g (Sum items) h = ap sum_of (map_same items h)
  where
    map_same : (js : List ℕ) → ((j : ℕ) → Memᴰ j js → f j ≡ g j) → map f js ≡ map g js
    map_same [] h = refl
    map_same (j ∷ js) h = ap₂ ◌∷◌ (h j (Memᴰ.head refl)) (map_same js (λ i m. h i (Memᴰ.tail m)))
build_same f g (Half s a) h = refl
build_same f g (Aenc m k) h = ap₂ aenc (h m (Memᴰ.head refl)) (h k (Memᴰ.tail (Memᴰ.head refl)))

pub term_at_build : (e : ℕ → Entry) (n : ℕ) → Downward e n → (i : ℕ) → i < n → term_at e i ≡ build (term_at e) (e i)
unfolding term_at
term_at_build e n down i h = build_same (λ j. get_or (terms e i) j 𝟎) (term_at e) (e i) (λ j m. terms_at e i j (down i j h m))

-- the term of an atom's entry
pub atom_term : (e : ℕ → Entry) (i a : ℕ) → e i ≡ Atom a → term_at e i ≡ atom a
unfolding term_at build
atom_term e i a q = ap (build (λ j. get_or (terms e i) j 𝟎)) q
