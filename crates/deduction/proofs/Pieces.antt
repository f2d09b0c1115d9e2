-- Terms with one code are ≈. With `same_code` this makes the code a complete test for ≈.
-- Defined: `Piece s p`, s is a term of one place, which is p; `Part t p`, a piece taken out of t and what is left.
-- Shown: a member of t's code is the place of a part of t; `code_same`; ≈ is decidable. The proof takes two parts with one place out of a
-- term whose code is empty; their own parts are ≈ by induction on the size, so the two cancel. Assumes nothing.
use mathlib.Core.Path.{◌≡◌, refl, sym, ap, ◌∙◌, subst, subst₂}
use mathlib.Core.Bool.{true}
use mathlib.Core.Logic.Dec
use mathlib.Core.Logic.Iff
use mathlib.Core.Logic.{◌⊎◌, inl, inr, ⊎_elim, ◌↔◌}
use Prim.Native.Nat.{ℕ, zero, suc, ◌+◌, ◌≤◌, ◌<◌}
use native.Mathlib.Decide.{ℕ_discrete}
use native.Mathlib.Omega.{arith}
use lib.Bits.{bit_xor, xor_self}
use Rattle.bitset.specs.Set.{member}
use Rattle.deduction.specs.Term.{Side, Term, 𝟎, atom, pair, enc, half, aenc, ◌⊕◌, ◌≈◌, assoc, comm, unit, self, in_pair, in_enc, in_aenc, in_sum, same, flip, then}
use Rattle.deduction.proofs.Coding.{bit, bit_own, bit_only, empty_none, member_one, place, place_same, side_place, half_place, side_same, side_range, code, code_atom, code_pair, code_enc, code_half, code_aenc, code_sum, zero_none, sum_either, same_code}

pub zero_sum : {t : Term} → 𝟎 ⊕ t ≈ t
zero_sum = then comm unit

-- two terms whose sum is zero are ≈
pub sum_zero_same : {a b : Term} → a ⊕ b ≈ 𝟎 → a ≈ b
sum_zero_same h = then (flip unit) (then (in_sum same (flip self)) (then assoc (then (in_sum h same) zero_sum)))

-- a term that is met twice cancels
pub twice_gone : {s s' r : Term} → s ≈ s' → s ⊕ (s' ⊕ r) ≈ r
twice_gone h = then assoc (then (in_sum (then (in_sum h same) self) same) zero_sum)

-- the number of atoms, pairs, halves and encryptions in a term
size : Term → ℕ
size 𝟎 = 0
size (atom a) = 1
size (pair a b) = size a + size b + 1
size (enc m k) = size m + size k + 1
size (half s a) = 1
size (aenc m k) = size m + size k + 1
size (a ⊕ b) = size a + size b

data Piece : Term → ℕ → Type 0 where
  atom_piece : (a : ℕ) → Piece (atom a) (place 0 a 0)
  pair_piece : (a b : Term) → Piece (pair a b) (place 1 (code a) (code b))
  enc_piece : (m k : Term) → Piece (enc m k) (place 2 (code m) (code k))
  half_piece : (s : Side) (a : ℕ) → Piece (half s a) (half_place s a)
  aenc_piece : (m k : Term) → Piece (aenc m k) (place 6 (code m) (code k))

piece_code : {s : Term} {p : ℕ} → Piece s p → code s ≡ bit p
piece_code (atom_piece a) = code_atom a
piece_code (pair_piece a b) = code_pair a b
piece_code (enc_piece m k) = code_enc m k
piece_code (half_piece s a) = code_half s a
piece_code (aenc_piece m k) = code_aenc m k

piece_size : {s : Term} {p : ℕ} → Piece s p → 1 ≤ size s
unfolding size
piece_size (atom_piece a) = omega arith
piece_size (pair_piece a b) = omega arith
piece_size (enc_piece m k) = omega arith
piece_size (half_piece s a) = omega arith
piece_size (aenc_piece m k) = omega arith

record Part (t : Term) (p : ℕ) : Type 0 where
  piece : Term
  rest : Term
  stands : Piece piece p
  whole : t ≈ piece ⊕ rest
  smaller : size piece + size rest ≤ size t

-- a piece is its own part
piece_part : {s : Term} {p : ℕ} → Piece s p → Part s p
unfolding size
piece_part {s} h = record { piece = s; rest = 𝟎; stands = h; whole = flip unit; smaller = omega arith }

left_part : {a b : Term} {p : ℕ} → Part a p → Part (a ⊕ b) p
unfolding size
left_part {b} h = record { piece = h.piece; rest = h.rest ⊕ b; stands = h.stands; whole = then (in_sum h.whole same) (flip assoc); smaller = omega (arith, h.smaller) }

right_part : {a b : Term} {p : ℕ} → Part b p → Part (a ⊕ b) p
unfolding size
right_part {a} h = record { piece = h.piece; rest = h.rest ⊕ a; stands = h.stands; whole = then comm (then (in_sum h.whole same) (flip assoc)); smaller = omega (arith, h.smaller) }

-- the only place of a piece
only_part : {s : Term} {p q : ℕ} → Piece s q → member (code s) p ≡ true → Part s p
only_part {s} {p} {q} h m = subst (Part s) (bit_only q p (ap (λ (x : ℕ). member x p) (sym (piece_code h)) ∙ m)) (piece_part h)

-- a member of a term's code is the place of a part
part_at : (t : Term) (p : ℕ) → member (code t) p ≡ true → Part t p
part_at 𝟎 p h = absurd (zero_none p h)
part_at (atom a) p h = only_part (atom_piece a) h
part_at (pair a b) p h = only_part (pair_piece a b) h
part_at (enc m k) p h = only_part (enc_piece m k) h
part_at (half s a) p h = only_part (half_piece s a) h
part_at (aenc m k) p h = only_part (aenc_piece m k) h
part_at (a ⊕ b) p h = ⊎_elim (λ q. left_part (part_at a p q)) (λ q. right_part (part_at b p q)) (sum_either a b p h)

-- a term is ≈ zero or has a part
some_part : (t : Term) → (t ≈ 𝟎) ⊎ ((p : ℕ) × Part t p)
some_part 𝟎 = inl same
some_part (atom a) = inr (_, piece_part (atom_piece a))
some_part (pair a b) = inr (_, piece_part (pair_piece a b))
some_part (enc m k) = inr (_, piece_part (enc_piece m k))
some_part (half s a) = inr (_, piece_part (half_piece s a))
some_part (aenc m k) = inr (_, piece_part (aenc_piece m k))
some_part (a ⊕ b) = go (some_part a) (some_part b)
  where
    go : (a ≈ 𝟎) ⊎ ((p : ℕ) × Part a p) → (b ≈ 𝟎) ⊎ ((p : ℕ) × Part b p) → (a ⊕ b ≈ 𝟎) ⊎ ((p : ℕ) × Part (a ⊕ b) p)
    go (inr h) y = inr (h.0, left_part h.1)
    go (inl x) (inr h) = inr (h.0, right_part h.1)
    go (inl x) (inl y) = inl (then (in_sum x y) unit)

-- pieces with one place are ≈, where their own parts with one code are
pieces_same : {s s' : Term} {p p' : ℕ} → Piece s p → Piece s' p' → p ≡ p'
    → ((a b : Term) → size a + size b < size s + size s' → code a ≡ code b → a ≈ b) → s ≈ s'
unfolding size
pieces_same (atom_piece a) (atom_piece a') e below = subst (λ (x : ℕ). atom a ≈ atom x) (place_same 0 a 0 0 a' 0 e).1 same
pieces_same (pair_piece a b) (pair_piece a' b') e below =
    let q = place_same 1 (code a) (code b) 1 (code a') (code b') e in
    in_pair (below a a' (omega arith) q.1) (below b b' (omega arith) q.2)
pieces_same (enc_piece m k) (enc_piece m' k') e below =
    let q = place_same 2 (code m) (code k) 2 (code m') (code k') e in
    in_enc (below m m' (omega arith) q.1) (below k k' (omega arith) q.2)
pieces_same (half_piece s a) (half_piece s' a') e below =
    let q = place_same (side_place s) a 0 (side_place s') a' 0 e in
    subst₂ (λ (x : Side) (y : ℕ). half s a ≈ half x y) (side_same s s' q.0) q.1 same
pieces_same (aenc_piece m k) (aenc_piece m' k') e below =
    let q = place_same 6 (code m) (code k) 6 (code m') (code k') e in
    in_aenc (below m m' (omega arith) q.1) (below k k' (omega arith) q.2)
pieces_same (atom_piece a) (pair_piece a' b') e below = absurd (omega (arith, (place_same _ _ _ _ _ _ e).0))
pieces_same (atom_piece a) (enc_piece m' k') e below = absurd (omega (arith, (place_same _ _ _ _ _ _ e).0))
pieces_same (atom_piece a) (half_piece s' a') e below = absurd (omega (arith, (place_same _ _ _ _ _ _ e).0, side_range s'))
pieces_same (atom_piece a) (aenc_piece m' k') e below = absurd (omega (arith, (place_same _ _ _ _ _ _ e).0))
pieces_same (pair_piece a b) (atom_piece a') e below = absurd (omega (arith, (place_same _ _ _ _ _ _ e).0))
pieces_same (pair_piece a b) (enc_piece m' k') e below = absurd (omega (arith, (place_same _ _ _ _ _ _ e).0))
pieces_same (pair_piece a b) (half_piece s' a') e below = absurd (omega (arith, (place_same _ _ _ _ _ _ e).0, side_range s'))
pieces_same (pair_piece a b) (aenc_piece m' k') e below = absurd (omega (arith, (place_same _ _ _ _ _ _ e).0))
pieces_same (enc_piece m k) (atom_piece a') e below = absurd (omega (arith, (place_same _ _ _ _ _ _ e).0))
pieces_same (enc_piece m k) (pair_piece a' b') e below = absurd (omega (arith, (place_same _ _ _ _ _ _ e).0))
pieces_same (enc_piece m k) (half_piece s' a') e below = absurd (omega (arith, (place_same _ _ _ _ _ _ e).0, side_range s'))
pieces_same (enc_piece m k) (aenc_piece m' k') e below = absurd (omega (arith, (place_same _ _ _ _ _ _ e).0))
pieces_same (half_piece s a) (atom_piece a') e below = absurd (omega (arith, (place_same _ _ _ _ _ _ e).0, side_range s))
pieces_same (half_piece s a) (pair_piece a' b') e below = absurd (omega (arith, (place_same _ _ _ _ _ _ e).0, side_range s))
pieces_same (half_piece s a) (enc_piece m' k') e below = absurd (omega (arith, (place_same _ _ _ _ _ _ e).0, side_range s))
pieces_same (half_piece s a) (aenc_piece m' k') e below = absurd (omega (arith, (place_same _ _ _ _ _ _ e).0, side_range s))
pieces_same (aenc_piece m k) (atom_piece a') e below = absurd (omega (arith, (place_same _ _ _ _ _ _ e).0))
pieces_same (aenc_piece m k) (pair_piece a' b') e below = absurd (omega (arith, (place_same _ _ _ _ _ _ e).0))
pieces_same (aenc_piece m k) (enc_piece m' k') e below = absurd (omega (arith, (place_same _ _ _ _ _ _ e).0))
pieces_same (aenc_piece m k) (half_piece s' a') e below = absurd (omega (arith, (place_same _ _ _ _ _ _ e).0, side_range s'))

-- a part's place is a member of what is left, where the whole code is empty
left_over : (t : Term) (p : ℕ) (h : Part t p) → code t ≡ 0 → member (code h.rest) p ≡ true
left_over t p h z =
    ⊎_elim (λ q. absurd (empty_none p (ap (λ (s : ℕ). member s p) (sym none) ∙ q))) (λ q. q) (member_one (bit p) (code h.rest) p (bit_own p))
  where
    none : bit_xor (bit p) (code h.rest) ≡ 0
    none = ap (λ (s : ℕ). bit_xor s (code h.rest)) (sym (piece_code h.stands)) ∙ sym (code_sum h.piece h.rest) ∙ sym (same_code h.whole) ∙ z

-- a term smaller than n with the empty code is ≈ zero
zero_code_below : (n : ℕ) (t : Term) → size t < n → code t ≡ 0 → t ≈ 𝟎
unfolding size
zero_code_below zero t l z = absurd (omega arith)
zero_code_below (suc n) t l z =
    ⊎_elim (λ h. h) (λ (p, h). cancel (zero_code_below n) p h (part_at h.rest p (left_over t p h z))) (some_part t)
  where
    cancel : ((u : Term) → size u < n → code u ≡ 0 → u ≈ 𝟎) → (p : ℕ) (h : Part t p) → Part h.rest p → t ≈ 𝟎
    cancel below p h h' = then gone (below h'.rest (omega (arith, piece_size h.stands, piece_size h'.stands, h.smaller, h'.smaller)) (sym (same_code gone) ∙ z))
      where
        inner : (a b : Term) → size a + size b < size h.piece + size h'.piece → code a ≡ code b → a ≈ b
        inner a b s e = sum_zero_same (below (a ⊕ b) (omega (arith, h.smaller, h'.smaller)) (code_sum a b ∙ ap (bit_xor (code a)) (sym e) ∙ xor_self (code a)))

        gone : t ≈ h'.rest
        gone = then h.whole (then (in_sum same h'.whole) (twice_gone (pieces_same h.stands h'.stands refl inner)))

-- two terms are ≈ exactly when they have one code
pub code_same : (t u : Term) → (t ≈ u) ↔ (code t ≡ code u)
code_same t u = (same_code, λ e. sum_zero_same (zero_code_below (suc (size (t ⊕ u))) (t ⊕ u) (omega arith) (code_sum t u ∙ ap (bit_xor (code t)) (sym e) ∙ xor_self (code t))))

pub by_code : {t u : Term} → code t ≡ code u → t ≈ u
by_code {t} {u} e = (code_same t u).1 e

pub same_decidable : (t u : Term) → Dec (t ≈ u)
same_decidable t u = Dec.of_iff (Iff.symm (code_same t u)) (ℕ_discrete (code t) (code u))
