-- Each entry's set of standard entries and its representative (document 01: head), computed from the entries alone.
-- Defined: `set_at`, `rep_at`, `standard`, `StandardSet`, `sum_of_set`, `OwnSet`. A set of entries is one number (crate `bitset`).
use Rattle.std.specs.Prelude.{ℕ, zero, suc, ◌^◌, ◌<◌, ◌≡◌, Bool, true, ◌&&◌, not, cond, List, [], ◌∷◌, ◌++◌, eqb, ltb, get_or}
use Rattle.std.specs.Int.Bits.{bit_xor}
use Rattle.bitset.specs.Set.{member}
use Rattle.deduction.specs.Term.{Side, private, public, Term, 𝟎, ◌⊕◌, ◌≈◌}
use Rattle.deduction.specs.Entry.{Entry, Zero, Atom, Pair, Enc, Sum, Half, Aenc, term_at}

-- what tells two terms of kinds 1 to 3 and 5 to 7 apart: the kind, and the number or the sets of the two parts. Kind 0 for zero and sums
pub record Shape : Type 0 where
  pub kind : ℕ
  pub left : ℕ
  pub right : ℕ

-- the kind of a half
unfoldable pub half_kind : Side → ℕ
half_kind private = 5
half_kind public = 6

unfoldable pub shape : (ℕ → ℕ) → Entry → Shape
shape s Zero = record { kind = 0; left = 0; right = 0 }
shape s (Atom a) = record { kind = 1; left = a; right = 0 }
shape s (Pair l r) = record { kind = 2; left = s l; right = s r }
shape s (Enc m k) = record { kind = 3; left = s m; right = s k }
shape s (Sum items) = record { kind = 0; left = 0; right = 0 }
shape s (Half x a) = record { kind = half_kind x; left = a; right = 0 }
shape s (Aenc m k) = record { kind = 7; left = s m; right = s k }

unfoldable pub alike : Shape → Shape → Bool
alike x y = eqb x.kind y.kind && (eqb x.left y.left && eqb x.right y.right)

-- the lowest number below n that passes the test, and n where none does
unfoldable pub least : (ℕ → Bool) → ℕ → ℕ
least p zero = zero
least p (suc n) = cond (ltb (least p n) n) (least p n) (cond (p n) n (suc n))

-- the exclusive or of the sets of a sum's items
unfoldable pub xor_all : (ℕ → ℕ) → List ℕ → ℕ
xor_all s [] = 0
xor_all s (i ∷ items) = bit_xor (s i) (xor_all s items)

-- the set of a term of these kinds at entry n: that of the first earlier entry built alike, or else n alone
unfoldable pub first_alike : (ℕ → ℕ) → (ℕ → Entry) → ℕ → ℕ
first_alike s e n = least (λ j. alike (shape s (e j)) (shape s (e n))) n

unfoldable pub standard_set : (ℕ → ℕ) → (ℕ → Entry) → ℕ → ℕ
standard_set s e n = cond (ltb (first_alike s e n) n) (s (first_alike s e n)) (2 ^ n)

-- the set of entry n, from the sets of the entries below it
unfoldable pub build_set : (ℕ → ℕ) → (ℕ → Entry) → ℕ → Entry → ℕ
build_set s e n Zero = 0
build_set s e n (Atom a) = standard_set s e n
build_set s e n (Pair l r) = standard_set s e n
build_set s e n (Enc m k) = standard_set s e n
build_set s e n (Sum items) = xor_all s items
build_set s e n (Half x a) = standard_set s e n
build_set s e n (Aenc m k) = standard_set s e n

-- the sets of the first n entries, each from those before it
unfoldable pub sets : (ℕ → Entry) → ℕ → List ℕ
sets e zero = []
sets e (suc n) = sets e n ++ (build_set (λ j. get_or (sets e n) j 0) e n (e n) ∷ [])

-- "Every entry's term is the sum of exactly one set of standard entries, possibly none": that set
unfoldable pub set_at : (ℕ → Entry) → ℕ → ℕ
set_at e i = build_set (λ j. get_or (sets e i) j 0) e i (e i)

-- "An entry's head is the lowest-numbered entry that is the same term"
unfoldable pub rep_at : (ℕ → Entry) → ℕ → ℕ
rep_at e i = least (λ j. eqb (set_at e j) (set_at e i)) i

-- "A standard entry is a head of kind 1, 2 or 3"; of kinds 5, 6 and 7, "All three are standard"
unfoldable pub standard : (ℕ → Entry) → ℕ → Bool
standard e i = eqb (rep_at e i) i && not (eqb (shape (set_at e) (e i)).kind 0)

-- a set of standard entries below n
abbrev pub StandardSet : (ℕ → Entry) → ℕ → ℕ → Type 0
StandardSet e n u = (k : ℕ) → member u k ≡ true → (k < n) × (standard e k ≡ true)

-- the sum of the terms of a set's members below n
unfoldable pub sum_of_set : (ℕ → Term) → ℕ → ℕ → Term
sum_of_set t zero s = 𝟎
sum_of_set t (suc n) s = cond (member s n) (t n ⊕ sum_of_set t n s) (sum_of_set t n s)

-- "Every entry's term is the sum of exactly one set of standard entries", over terms: u is the own set of entry i
abbrev pub OwnSet : (ℕ → Entry) → ℕ → ℕ → ℕ → Type 0
OwnSet e n i u = StandardSet e n u × (term_at e i ≈ sum_of_set (term_at e) n u)
