-- What ≈ does not make the same.
-- Defined: `kind`, the kind of a term that is no zero and no sum.
-- Shown: `kinds_apart`, no kind among 1, 2, 3, 5, 6, 7 is the same as another, and none is zero; atoms that are ≈ have one number, halves one side
-- and one number; pairs that are ≈ have ≈ parts, and so have encryptions of both sorts; a term added on both sides cancels. Each is read off the
-- codes. Assumes nothing.
use mathlib.Core.Path.{◌≡◌, refl, sym, ap, ◌∙◌}
use Prim.Native.Nat.{ℕ, ◌-◌}
use native.Mathlib.Omega.{arith}
use Rattle.bitset.specs.Set.{member}
use Rattle.deduction.specs.Term.{Side, private, public, Term, 𝟎, atom, pair, enc, half, aenc, ◌⊕◌, ◌≈◌, assoc, unit, self, in_sum, same, flip, then}
use Rattle.deduction.proofs.Coding.{bit, bit_own, bit_same, place, place_same, side_same, code, code_atom, code_pair, code_enc, code_half, code_aenc, zero_none, same_code}
use Rattle.deduction.proofs.Pieces.{by_code}
use Rattle.deduction.proofs.Forms.{Form, pairs, encs, aencs, form, form_place, code_form}

-- document 01's kinds, 1 atom, 2 pair, 3 seal, and document 02's, 5 private half, 6 public half, 7 lock; 0 for zero and sums
unfoldable pub kind : Term → ℕ
kind 𝟎 = 0
kind (atom a) = 1
kind (pair a b) = 2
kind (enc m k) = 3
kind (half private a) = 5
kind (half public a) = 6
kind (aenc m k) = 7
kind (a ⊕ b) = 0

-- terms of one place each that are ≈ have one place
place_shared : {t u : Term} (p q : ℕ) → code t ≡ bit p → code u ≡ bit q → t ≈ u → p ≡ q
place_shared p q ct cu h = bit_same p q (sym ct ∙ same_code h ∙ cu)

-- the place of a term that has a kind
kind_place : (t : Term) → ¬ (kind t ≡ 0) → (x y : ℕ) × (code t ≡ bit (place (kind t - 1) x y))
unfolding kind
kind_place 𝟎 k = absurd (k refl)
kind_place (atom a) k = (_, _, code_atom a)
kind_place (pair a b) k = (_, _, code_pair a b)
kind_place (enc a b) k = (_, _, code_enc a b)
kind_place (half private a) k = (_, _, code_half private a)
kind_place (half public a) k = (_, _, code_half public a)
kind_place (aenc a b) k = (_, _, code_aenc a b)
kind_place (a ⊕ b) k = absurd (k refl)

-- "no kind among 1, 2, 3, 5, 6, 7 is the same as another"
pub kinds_apart : (t u : Term) → ¬ (kind t ≡ 0) → ¬ (kind u ≡ 0) → t ≈ u → kind t ≡ kind u
kinds_apart t u kt ku h =
    let (x, y, ct) = kind_place t kt in let (z, w, cu) = kind_place u ku in
    positive (kind t) (kind u) kt ku (place_same _ _ _ _ _ _ (place_shared _ _ ct cu h)).0
  where
    positive : (k l : ℕ) → ¬ (k ≡ 0) → ¬ (l ≡ 0) → k - 1 ≡ l - 1 → k ≡ l
    positive k l p q r = omega arith

-- and none is zero
pub kind_not_zero : (t : Term) → ¬ (kind t ≡ 0) → ¬ (t ≈ 𝟎)
kind_not_zero t k h =
    let (x, y, c) = kind_place t k in let p = place (kind t - 1) x y in
    zero_none p (ap (λ (s : ℕ). member s p) (sym (same_code h) ∙ c) ∙ bit_own p)

pub atom_same : (a b : ℕ) → atom a ≈ atom b → a ≡ b
atom_same a b h = (place_same 0 a 0 0 b 0 (place_shared _ _ (code_atom a) (code_atom b) h)).1

-- halves differ by side and by number
pub half_same : (s s' : Side) (a a' : ℕ) → half s a ≈ half s' a' → (s ≡ s') × (a ≡ a')
half_same s s' a a' h = let q = place_same _ _ _ _ _ _ (place_shared _ _ (code_half s a) (code_half s' a') h) in (side_same s s' q.0, q.1)

-- terms of one form have ≈ parts
form_parts : (f : Form) {a b a' b' : Term} → form f a b ≈ form f a' b' → (a ≈ a') × (b ≈ b')
form_parts f {a} {b} {a'} {b'} h =
    let q = place_same (form_place f) (code a) (code b) (form_place f) (code a') (code b') (place_shared _ _ (code_form f a b) (code_form f a' b') h) in
    (by_code q.1, by_code q.2)

pub pair_parts : {a b a' b' : Term} → pair a b ≈ pair a' b' → (a ≈ a') × (b ≈ b')
pair_parts h = form_parts pairs h

pub enc_parts : {m k m' k' : Term} → enc m k ≈ enc m' k' → (m ≈ m') × (k ≈ k')
enc_parts h = form_parts encs h

pub aenc_parts : {m k m' k' : Term} → aenc m k ≈ aenc m' k' → (m ≈ m') × (k ≈ k')
aenc_parts h = form_parts aencs h

-- a term added on both sides cancels
pub sum_cancel : {a b c : Term} → a ⊕ c ≈ b ⊕ c → a ≈ b
sum_cancel h = then (flip twice) (then (in_sum h same) twice)
  where
    twice : {x y : Term} → (x ⊕ y) ⊕ y ≈ x
    twice = then (flip assoc) (then (in_sum same self) unit)
