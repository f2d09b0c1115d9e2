-- Steps in the output buffer, one after the other. Assumes nothing.
use mathlib.Core.Path.{◌≡◌, refl, sym, ap, ap₂, ◌∙◌}
use mathlib.Core.List.{List, [], ◌∷◌, ◌++◌, append_assoc, append-nil}
use Prim.Native.Nat.{ℕ, suc, ◌+◌, ◌-◌, ◌*◌, ◌≤◌}
use native.Mathlib.Nat.{le_trans, le_of_eq, mul-suc}
use native.Mathlib.Omega.{arith}
use lib.ListN.{length, take, drop, length-append, length-drop, drop_of_length-le}
use lib.Seq.{take_at, drop_at, length-take-le, take_all, drop-drop}
use Rattle.bitset.proofs.Laws.Bytes.{length_bytes_of}
use Rattle.deduction.specs.Step.{Step}
use Rattle.derive.specs.Bytes.{step_bytes, steps_bytes}

pub step_length : (s : Step) → length (step_bytes s) ≡ 40
unfolding step_bytes
step_length s = ap (λ (n : ℕ). suc (suc (suc (suc (suc (suc (suc (suc n)))))))) (length_bytes_of 32 s.set)

pub steps_length : (ss : List Step) → length (steps_bytes ss) ≡ 40 * length ss
unfolding steps_bytes
steps_length [] = refl
steps_length (s ∷ ss) =
    sum (length-append (step_bytes s) (steps_bytes ss)) (step_length s) (steps_length ss) (mul-suc 40 (length ss))
  where
    sum : length (step_bytes s ++ steps_bytes ss) ≡ length (step_bytes s) + length (steps_bytes ss) → length (step_bytes s) ≡ 40
        → length (steps_bytes ss) ≡ 40 * length ss → 40 * suc (length ss) ≡ 40 * length ss + 40 → length (step_bytes s ++ steps_bytes ss) ≡ 40 * suc (length ss)
    sum a b c d = omega arith

pub steps_more : (ss : List Step) (s : Step) → steps_bytes (ss ++ (s ∷ [])) ≡ steps_bytes ss ++ step_bytes s
unfolding steps_bytes
steps_more [] s = append-nil (step_bytes s)
steps_more (r ∷ ss) s = ap (λ (l : List ℕ). step_bytes r ++ l) (steps_more ss s) ∙ sym (append_assoc (step_bytes r) (steps_bytes ss) (step_bytes s))

-- the buffer with its first steps written, and the part that begins where the last one ended
module _ (front : ℕ) (out₀ : List ℕ) (ss : List Step) (made : ℕ) (many : length ss ≡ made) (space : front ≤ length out₀) where
  begun : List ℕ
  begun = take front out₀ ++ steps_bytes ss

  begun_length : length begun ≡ front + 40 * made
  unfolding begun
  begun_length =
      length-append (take front out₀) (steps_bytes ss)
      ∙ ap₂ ◌+◌ (length-take-le front out₀ space) (steps_length ss ∙ ap (λ (n : ℕ). 40 * n) many)

  pub written_more : (out out' : List ℕ) (s : Step) → out ≡ take front out₀ ++ (steps_bytes ss ++ drop (front + 40 * made) out₀)
      → out' ≡ take (front + 40 * made) out ++ (step_bytes s ++ drop 40 (drop (front + 40 * made) out))
      → out' ≡ take front out₀ ++ (steps_bytes (ss ++ (s ∷ [])) ++ drop (front + 40 * (made + 1)) out₀)
  unfolding begun
  written_more out out' s p q =
      q
      ∙ ap₂ (λ (a b : List ℕ). a ++ (step_bytes s ++ drop 40 b)) (ap (take (front + 40 * made)) whole ∙ take_at begun rest (front + 40 * made) begun_length)
      (ap (drop (front + 40 * made)) whole ∙ drop_at begun rest (front + 40 * made) begun_length)
      ∙ append_assoc (take front out₀) (steps_bytes ss) (step_bytes s ++ drop 40 rest)
      ∙ ap (λ (l : List ℕ). take front out₀ ++ l)
      (sym (append_assoc (steps_bytes ss) (step_bytes s) (drop 40 rest))
      ∙ ap₂ ◌++◌ (sym (steps_more ss s)) (drop-drop 40 (front + 40 * made) out₀ ∙ ap (λ (n : ℕ). drop n out₀) later))
    where
      rest : List ℕ
      rest = drop (front + 40 * made) out₀

      whole : out ≡ begun ++ rest
      whole = p ∙ sym (append_assoc (take front out₀) (steps_bytes ss) rest)

      later : front + 40 * made + 40 ≡ front + 40 * (made + 1)
      later = omega arith

-- the part of a buffer from a place on, lent and given back
module _ (out : List ℕ) (from : ℕ) where
  pub part_whole : take (length out - from) (drop from out) ≡ drop from out
  part_whole = take_all (length out - from) (drop from out) (le_of_eq (length-drop from out))

  pub part_room : (k : ℕ) → from + k ≤ length out → k ≤ length (take (length out - from) (drop from out))
  part_room k h = le_trans (room (length out) h) (le_of_eq (sym (ap length part_whole ∙ length-drop from out)))
    where
      room : (n : ℕ) → from + k ≤ n → k ≤ n - from
      room n l = omega arith

  pub part_back : (b part : List ℕ) → part ≡ b ++ drop 40 (take (length out - from) (drop from out))
      → take from out ++ (part ++ drop (length out - from) (drop from out)) ≡ take from out ++ (b ++ drop 40 (drop from out))
  part_back b part p =
      ap (λ (l : List ℕ). take from out ++ l)
      (ap₂ ◌++◌ (p ∙ ap (λ (l : List ℕ). b ++ drop 40 l) part_whole) (drop_of_length-le (drop from out) (le_of_eq (length-drop from out)))
      ∙ append-nil (b ++ drop 40 (drop from out)))

  -- a step written there leaves the length
  pub part_length : (s : Step) → from + 40 ≤ length out → length (take from out ++ (step_bytes s ++ drop 40 (drop from out))) ≡ length out
  part_length s h =
      length-append (take from out) (step_bytes s ++ drop 40 (drop from out))
      ∙ ap₂ ◌+◌ (length-take-le from out (omega arith)) (length-append (step_bytes s) (drop 40 (drop from out)) ∙ ap₂ ◌+◌ (step_length s) (length-drop 40 (drop from out) ∙ ap (λ (m : ℕ). m - 40) (length-drop from out)))
      ∙ back (length out) h
    where
      back : (m : ℕ) → from + 40 ≤ m → from + (40 + (m - from - 40)) ≡ m
      back m l = omega arith
