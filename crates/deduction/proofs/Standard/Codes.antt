-- The codes of a sheet's entries.
-- Defined: `code_at`, the code of an entry's term; `place_of`, the place of a shape.
-- Shown: the codes of sums; a plain entry has the place of its shape; the code of an entry is the sum of the codes of its
-- set's members. Assumes nothing.
use mathlib.Core.Path.{◌≡◌, refl, sym, ap, ap₂, ◌∙◌}
use mathlib.Core.Bool.{Bool, true, false, cond, ◌||◌}
use mathlib.Core.Logic.{◌⊎◌, inl, inr}
use mathlib.Core.List.{List, [], ◌∷◌, map, Memᴰ}
use Prim.Native.Nat.{ℕ, zero, suc, ◌-◌, ◌<◌}
use native.Mathlib.Omega.{arith}
use lib.Bits.{bit_xor}
use lib.Dec.{eqb}
use Rattle.bitset.specs.Set.{member}
use Rattle.deduction.specs.Term.{private, public, Term, ◌⊕◌, sum_of}
use Rattle.deduction.specs.Entry.{Entry, Zero, Atom, Pair, Enc, Sum, Half, Aenc, build, term_at, parts, Downward}
use Rattle.deduction.specs.Standard.{Shape, half_kind, shape, xor_all, set_at, sum_of_set}
use Rattle.deduction.proofs.Elimination.Spans.{xor_over}
use Rattle.deduction.proofs.Coding.{bit, place, code, code_zero, code_atom, code_pair, code_enc, code_half, code_aenc, code_sum}
use Rattle.deduction.proofs.Terms.{term_at_build}
use Rattle.deduction.proofs.Elimination.Sums.{xor_over_empty, xor_over_sum, xor_over_single}
use Rattle.deduction.proofs.Standard.Sets.{before_ind, xor_all_same}
use Rattle.deduction.proofs.Standard.First.{shape_at, first, Plain, first_le, first_shape, first_plain, set_first}
use Rattle.deduction.proofs.Standard.Members.{SumOver, plain_or_sum}

abbrev pub code_at : (ℕ → Entry) → ℕ → ℕ
code_at e j = code (term_at e j)

-- the code of a sum of terms
pub code_sum_of : (t : ℕ → Term) (js : List ℕ) → code (sum_of (map t js)) ≡ xor_all (λ j. code (t j)) js
unfolding sum_of xor_all
code_sum_of t [] = code_zero
code_sum_of t (j ∷ js) = code_sum (t j) (sum_of (map t js)) ∙ ap (bit_xor (code (t j))) (code_sum_of t js)

pub code_sum_of_set : (t : ℕ → Term) (n u : ℕ) → code (sum_of_set t n u) ≡ xor_over (λ j. code (t j)) n u
unfolding sum_of_set xor_over
code_sum_of_set t zero u = code_zero
code_sum_of_set t (suc n) u = go (member u n) (code_sum_of_set t n u)
  where
    go : (b : Bool) → code (sum_of_set t n u) ≡ xor_over (λ j. code (t j)) n u
        → code (cond b (t n ⊕ sum_of_set t n u) (sum_of_set t n u)) ≡ cond b (bit_xor (code (t n)) (xor_over (λ j. code (t j)) n u)) (xor_over (λ j. code (t j)) n u)
    go true h = code_sum (t n) (sum_of_set t n u) ∙ ap (bit_xor (code (t n))) h
    go false h = h

-- the sum over a sum of sets
pub xor_over_all : (c s : ℕ → ℕ) (n : ℕ) (js : List ℕ) → xor_over c n (xor_all s js) ≡ xor_all (λ j. xor_over c n (s j)) js
unfolding xor_all
xor_over_all c s n [] = xor_over_empty c n
xor_over_all c s n (j ∷ js) = xor_over_sum c n (s j) (xor_all s js) ∙ ap (bit_xor (xor_over c n (s j))) (xor_over_all c s n js)

-- does a shape of kind k have a number and no parts?
abbrev pub numbered : ℕ → Bool
numbered k = eqb k 1 || (eqb k 5 || eqb k 6)

-- what a part of a shape of kind k stands for: a number, or the code of a set's sum
abbrev pub part : (ℕ → Entry) → ℕ → ℕ → ℕ → ℕ
part e n k x = cond (numbered k) x (xor_over (code_at e) n x)

abbrev pub place_of : (ℕ → Entry) → ℕ → Shape → ℕ
place_of e n x = place (x.kind - 1) (part e n x.kind x.left) (part e n x.kind x.right)

module _ (e : ℕ → Entry) (n : ℕ) (down : Downward e n) where
  code_place_from : (i : ℕ) → i < n → ((j : ℕ) → j < i → code_at e j ≡ xor_over (code_at e) n (set_at e j)) → Plain e i → code_at e i ≡ bit (place_of e n (shape_at e i))
  unfolding shape half_kind build parts
  code_place_from i h ih p = ap code (term_at_build e n down i h) ∙ go (e i) (λ j m. ih j (down i j h m)) p
    where
      go : (d : Entry) → ((j : ℕ) → Memᴰ j (parts d) → code_at e j ≡ xor_over (code_at e) n (set_at e j)) → ¬ ((shape (set_at e) d).kind ≡ 0)
          → code (build (term_at e) d) ≡ bit (place_of e n (shape (set_at e) d))
      go Zero q z = absurd (z refl)
      go (Atom a) q z = code_atom a
      go (Pair l r) q z = code_pair (term_at e l) (term_at e r) ∙ ap₂ (λ (x y : ℕ). bit (place 1 x y)) (q l (Memᴰ.head refl)) (q r (Memᴰ.tail (Memᴰ.head refl)))
      go (Enc m k) q z = code_enc (term_at e m) (term_at e k) ∙ ap₂ (λ (x y : ℕ). bit (place 2 x y)) (q m (Memᴰ.head refl)) (q k (Memᴰ.tail (Memᴰ.head refl)))
      go (Sum items) q z = absurd (z refl)
      go (Half private a) q z = code_half private a
      go (Half public a) q z = code_half public a
      go (Aenc m k) q z = code_aenc (term_at e m) (term_at e k) ∙ ap₂ (λ (x y : ℕ). bit (place 6 x y)) (q m (Memᴰ.head refl)) (q k (Memᴰ.tail (Memᴰ.head refl)))

  -- the code of an entry is the sum of the codes of its set's members
  pub code_set : (i : ℕ) → i < n → code_at e i ≡ xor_over (code_at e) n (set_at e i)
  code_set = before_ind (λ (i : ℕ). i < n → code_at e i ≡ xor_over (code_at e) n (set_at e i)) step
    where
      step : (i : ℕ) → ((j : ℕ) → j < i → j < n → code_at e j ≡ xor_over (code_at e) n (set_at e j)) → i < n → code_at e i ≡ xor_over (code_at e) n (set_at e i)
      step i ih h = go (plain_or_sum e n down i h)
        where
          go : Plain e i ⊎ ((js : List ℕ) × SumOver e i js) → code_at e i ≡ xor_over (code_at e) n (set_at e i)
          go (inl p) =
              code_place_from i h (λ j l. ih j l (omega arith)) p ∙ ap (λ (x : Shape). bit (place_of e n x)) (sym (first_shape e i))
              ∙ sym (code_place_from (first e i) (omega (arith, first_le e i)) (λ j l. ih j (omega (arith, first_le e i)) (omega (arith, first_le e i))) (first_plain e i p))
              ∙ sym (xor_over_single (code_at e) n (first e i) (omega (arith, first_le e i))) ∙ ap (xor_over (code_at e) n) (sym (set_first e n down i h p))
          go (inr (js, s)) =
              ap code s.term ∙ code_sum_of (term_at e) js ∙ xor_all_same (code_at e) (λ j. xor_over (code_at e) n (set_at e j)) js (λ j m. let l = s.before j m in ih j l (omega arith))
              ∙ sym (xor_over_all (code_at e) (set_at e) n js) ∙ ap (xor_over (code_at e) n) (sym s.set)

  -- a plain entry has the place of its shape
  pub code_place : (i : ℕ) → i < n → Plain e i → code_at e i ≡ bit (place_of e n (shape_at e i))
  code_place i h p = code_place_from i h (λ j l. code_set j (omega arith)) p
