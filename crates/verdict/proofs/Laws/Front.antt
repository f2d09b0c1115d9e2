-- The front of the buffer: which sets stand there, and how they are written. Assumes nothing.
use mathlib.Core.Path.{◌≡◌, sym, ap, ap₂, ◌∙◌}
use mathlib.Core.Bool.{true, false, cond}
use mathlib.Core.List.{List, ◌++◌, append_assoc}
use Prim.Native.Nat.{ℕ, ◌+◌, ◌-◌, ◌≤◌}
use native.Mathlib.Omega.{arith}
use lib.ListN.{length, drop, length-append, length-drop}
use lib.Seq.{drop-drop}
use borrow.Rule.Slice.PartMut.{mid_of, put_mid}
use Rattle.bitset.specs.Words.{bytes_of}
use Rattle.bitset.proofs.Laws.Bytes.{length_bytes_of}
use Rattle.bitset.proofs.Laws.Choice.{when_le}
use Rattle.deduction.specs.Setting.{Setting}
use Rattle.deduction.specs.Elimination.{Row, Reduced, reduce}
use Rattle.derive.proofs.Laws.Written.{with_set, set_stored}
use Rattle.verdict.specs.Buffer.{front}
use Rattle.verdict.specs.Answer.{missing_by, front_bytes}
use Rattle.verdict.specs.Inner.Decide.{missing_in}

-- with sum what is missing is the line, and without it the set itself
pub missing_with_sum : (on : Setting) (line : Reduced) (v : ℕ) → on 6 ≡ true → missing_in on line v ≡ line
unfolding missing_in
missing_with_sum on line v w = rw w

pub missing_without_sum : (on : Setting) (line : Reduced) (v : ℕ) → on 6 ≡ false → missing_in on line v ≡ record { remainder = v; used = 0 }
unfolding missing_in
missing_without_sum on line v w = rw w

-- with the line that the rows leave it is what is missing by them
pub missing_by_rows : (on : Setting) (line : Reduced) (rows : List Row) (v : ℕ) → line ≡ reduce rows v → missing_in on line v ≡ missing_by on rows v
unfolding missing_in missing_by
missing_by_rows on line rows v p = ap (λ (x : Reduced). cond (on 6) x (record { remainder = v; used = 0 })) p

-- three sets, each written to the part of the buffer from its place on
pub front_written : (a b c : ℕ) (d : List ℕ) {d₁ w₂ d₂ w₃ : List ℕ} → front ≤ length d → d₁ ≡ with_set a d → w₂ ≡ with_set b (mid_of 32 (length d₁ - 32) d₁)
    → d₂ ≡ put_mid 32 (length d₁ - 32) d₁ w₂ → w₃ ≡ with_set c (mid_of 64 (length d₂ - 64) d₂) → put_mid 64 (length d₂ - 64) d₂ w₃ ≡ front_bytes a b c ++ drop front d
front_written a b c d {d₁} {w₂} {d₂} {w₃} h p₁ p₂ q₂ p₃ =
    ap (put_mid 64 (length d₂ - 64) d₂) p₃ ∙ ap (λ (l : List ℕ). put_mid 64 (length l - 64) l (with_set c (mid_of 64 (length l - 64) l))) second
    ∙ set_stored c 64 (bytes_of 32 a ++ bytes_of 32 b) (drop 64 d) (length-append (bytes_of 32 a) (bytes_of 32 b) ∙ ap₂ ◌+◌ (length_bytes_of 32 a) (length_bytes_of 32 b)) (omega (arith, length-drop 64 d))
    ∙ append_assoc (bytes_of 32 a) (bytes_of 32 b) (bytes_of 32 c ++ drop 32 (drop 64 d))
    ∙ ap (λ (l : List ℕ). bytes_of 32 a ++ l) (sym (append_assoc (bytes_of 32 b) (bytes_of 32 c) (drop 32 (drop 64 d))))
    ∙ sym (append_assoc (bytes_of 32 a) (bytes_of 32 b ++ bytes_of 32 c) (drop 32 (drop 64 d)))
    ∙ ap (λ (l : List ℕ). front_bytes a b c ++ l) (drop-drop 32 64 d)
  where
    first : d₁ ≡ bytes_of 32 a ++ drop 32 d
    first = p₁ ∙ when_le 32 (length d) (bytes_of 32 a ++ drop 32 d) d (omega arith)

    second : d₂ ≡ (bytes_of 32 a ++ bytes_of 32 b) ++ drop 64 d
    second =
        q₂ ∙ ap (put_mid 32 (length d₁ - 32) d₁) p₂ ∙ ap (λ (l : List ℕ). put_mid 32 (length l - 32) l (with_set b (mid_of 32 (length l - 32) l))) first
        ∙ set_stored b 32 (bytes_of 32 a) (drop 32 d) (length_bytes_of 32 a) (omega (arith, length-drop 32 d))
        ∙ ap (λ (l : List ℕ). bytes_of 32 a ++ (bytes_of 32 b ++ l)) (drop-drop 32 32 d)
        ∙ sym (append_assoc (bytes_of 32 a) (bytes_of 32 b) (drop 64 d))
