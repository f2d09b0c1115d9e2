-- A step's 40 bytes, store by store.
-- Shown: two bytes stored; what a part of a list from a place on is, and the list once the part has come back, also with a set written to it; four
-- numbers of two bytes and a set, one behind the other, are the step's bytes. Assumes nothing.
use mathlib.Core.Path.{◌≡◌, refl, ap, ap₂, ◌∙◌}
use mathlib.Core.Bool.{cond}
use mathlib.Core.List.{List, [], ◌∷◌, ◌++◌, append_assoc, append-nil}
use Prim.Native.Nat.{ℕ, ◌+◌, ◌-◌, ◌≤◌}
use native.Mathlib.Numerals.{add-one}
use native.Mathlib.Omega.{arith}
use lib.Dec.{leb}
use lib.ListN.{length, take, drop, set, length-append, length-drop}
use lib.Seq.{sets-eq, take_all, take_at, drop_at, drop-drop, drop-length}
use borrow.Rule.Slice.PartMut.{mid_of, put_mid, Post-is}
use Rattle.bitset.specs.Words.{bytes_of}
use Rattle.bitset.proofs.Laws.Choice.{when_le}
use Rattle.deduction.specs.Step.{Step}
use Rattle.derive.specs.Bytes.{two, step_bytes}

pub two_stored : (d : List ℕ) (at a b : ℕ) → at + 2 ≤ length d → set (set d at a) (at + 1) b ≡ take at d ++ ((a ∷ b ∷ []) ++ drop (at + 2) d)
two_stored d at a b h = rw (add-one at) (sets-eq (a ∷ b ∷ []) d at h ∙ append_assoc (take at d) (a ∷ b ∷ []) (drop (at + 2) d))

-- the part from a on to the end, and the list with another in its place
pub tail_part : (a : ℕ) (d : List ℕ) → mid_of a (length d - a) d ≡ drop a d
tail_part a d = take_all (length d - a) (drop a d) (omega (arith, length-drop a d))

pub tail_back : (a : ℕ) (d w : List ℕ) → a ≤ length d → put_mid a (length d - a) d w ≡ take a d ++ w
tail_back a d w h = ap (λ (l : List ℕ). take a d ++ (w ++ l)) (Post-is a (length d) d h ∙ drop-length d) ∙ ap (λ (l : List ℕ). take a d ++ l) (append-nil w)

-- what a writer of the set u makes of the part that it was lent
abbrev pub with_set : ℕ → List ℕ → List ℕ
with_set u p = cond (leb 32 (length p)) (bytes_of 32 u ++ drop 32 p) p

-- and of the list from whose place it was lent
pub set_stored : (u at : ℕ) (first t : List ℕ) → length first ≡ at → 32 ≤ length t
    → put_mid at (length (first ++ t) - at) (first ++ t) (with_set u (mid_of at (length (first ++ t) - at) (first ++ t))) ≡ first ++ (bytes_of 32 u ++ drop 32 t)
set_stored u at first t l h =
    tail_back at (first ++ t) _ (omega (arith, length-append first t))
    ∙ ap₂ ◌++◌ (take_at first t at l)
    (ap (with_set u) (tail_part at (first ++ t) ∙ drop_at first t at l) ∙ when_le 32 (length t) (bytes_of 32 u ++ drop 32 t) t h)

-- a number of two bytes in place of those at a place
abbrev pub stored : ℕ → ℕ → List ℕ → List ℕ
stored at x d = take at d ++ (two x ++ drop (at + 2) d)

module _ (s : Step) where
  -- the four numbers
  abbrev front : List ℕ
  front = two s.head ++ (two s.rule ++ (two s.first ++ two s.second))

  front_stored : (d : List ℕ) → 8 ≤ length d → stored 6 s.second (stored 4 s.first (stored 2 s.rule (stored 0 s.head d))) ≡ front ++ drop 8 d
  front_stored [] h = absurd (omega arith)
  front_stored (a ∷ []) h = absurd (omega arith)
  front_stored (a ∷ b ∷ []) h = absurd (omega arith)
  front_stored (a ∷ b ∷ c ∷ []) h = absurd (omega arith)
  front_stored (a ∷ b ∷ c ∷ d ∷ []) h = absurd (omega arith)
  front_stored (a ∷ b ∷ c ∷ d ∷ e ∷ []) h = absurd (omega arith)
  front_stored (a ∷ b ∷ c ∷ d ∷ e ∷ f ∷ []) h = absurd (omega arith)
  front_stored (a ∷ b ∷ c ∷ d ∷ e ∷ f ∷ g ∷ []) h = absurd (omega arith)
  front_stored (a ∷ b ∷ c ∷ d ∷ e ∷ f ∷ g ∷ i ∷ rest) h = refl

  pub step_written : (d : List ℕ) {d₁ d₂ d₃ d₄ w : List ℕ} → 40 ≤ length d → d₁ ≡ stored 0 s.head d → d₂ ≡ stored 2 s.rule d₁ → d₃ ≡ stored 4 s.first d₂
      → d₄ ≡ stored 6 s.second d₃ → w ≡ with_set s.set (mid_of 8 (length d₄ - 8) d₄) → put_mid 8 (length d₄ - 8) d₄ w ≡ step_bytes s ++ drop 40 d
  unfolding step_bytes
  step_written d {d₄ = d₄} h p₁ p₂ p₃ p₄ q =
      ap (put_mid 8 (length d₄ - 8) d₄) q ∙ ap (λ (l : List ℕ). put_mid 8 (length l - 8) l (with_set s.set (mid_of 8 (length l - 8) l))) whole
      ∙ set_stored s.set 8 front (drop 8 d) refl (omega (arith, length-drop 8 d)) ∙ ap (λ (l : List ℕ). step_bytes s ++ l) (drop-drop 32 8 d)
    where
      whole : d₄ ≡ front ++ drop 8 d
      whole =
          p₄ ∙ ap (stored 6 s.second) (p₃ ∙ ap (stored 4 s.first) (p₂ ∙ ap (stored 2 s.rule) p₁)) ∙ front_stored d (omega arith)
