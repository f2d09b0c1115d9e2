-- Text appended to a buffer, piece by piece.
-- Shown: nothing appended; one piece after another; the buffer keeps its length.
-- Assumes nothing.
use mathlib.Core.Path.{◌≡◌, sym, ap, ap₂, ◌∙◌, subst}
use mathlib.Core.List.{List, [], ◌++◌, append_assoc, append-nil}
use Prim.Native.Nat.{ℕ, ◌+◌, ◌-◌, ◌≤◌}
use native.Mathlib.Nat.{add-zero, add_assoc, le_trans, le_of_eq}
use native.Mathlib.Omega.{arith}
use lib.ListN.{length, take, drop, length-append, length-drop, take-append-drop}
use lib.Seq.{length-take-le, take_at, drop_at, drop-drop}
use Rattle.line.specs.Buffer.{Appended}

-- nothing is appended
pub append_none : (d : List ℕ) (at : ℕ) → at ≤ length d → Appended d at [] d at
append_none d at h = record { place = sym (add-zero at); within = h; bytes = sym (ap (λ (k : ℕ). take at d ++ [] ++ drop k d) (add-zero at) ∙ ap (λ (x : List ℕ). x ++ drop at d) (append-nil (take at d)) ∙ take-append-drop at d) }

-- the text of a piece that was taken for another
pub append_as : {d w w' d' : List ℕ} {at r : ℕ} → w ≡ w' → Appended d at w d' r → Appended d at w' d' r
append_as {d} {w} {w'} {d'} {at} {r} e h = subst (λ (x : List ℕ). Appended d at x d' r) e h

module _ (d : List ℕ) (at : ℕ) (a : List ℕ) (room : at + length a ≤ length d) where
  -- the front of a buffer to which a was appended
  length_front : length (take at d ++ a) ≡ at + length a
  length_front = length-append (take at d) a ∙ ap (λ (k : ℕ). k + length a) (length-take-le at d (omega arith))

  -- a buffer to which text was appended keeps its length
  pub append_length : {d' : List ℕ} {r : ℕ} → Appended d at a d' r → length d' ≡ length d
  append_length {d'} {r} h =
      go (ap length h.bytes ∙ length-append (take at d ++ a) (drop (at + length a) d)) length_front (length-drop (at + length a) d)
    where
      go : length d' ≡ length (take at d ++ a) + length (drop (at + length a) d) → length (take at d ++ a) ≡ at + length a
          → length (drop (at + length a) d) ≡ length d - (at + length a) → length d' ≡ length d
      go p q s = omega arith

-- two pieces, one after the other
module _ (d : List ℕ) (at : ℕ) (a b : List ℕ) (room : at + length (a ++ b) ≤ length d) where
  pub first_room : at + length a ≤ length d
  first_room = let e = length-append a b in omega arith

  pub append_more : {d₁ d₂ : List ℕ} {r₁ r₂ : ℕ} → Appended d at a d₁ r₁ → Appended d₁ r₁ b d₂ r₂ → Appended d at (a ++ b) d₂ r₂
  append_more {d₁} {d₂} {r₁} {r₂} h k = record { place = places; bytes = all; within = le_trans (le_of_eq places) room }
    where
      lengths : r₁ + length b ≡ at + length (a ++ b)
      lengths = ap (λ (x : ℕ). x + length b) h.place ∙ add_assoc at (length a) (length b) ∙ ap (λ (x : ℕ). at + x) (sym (length-append a b))

      places : r₂ ≡ at + length (a ++ b)
      places = k.place ∙ lengths

      front : take r₁ d₁ ≡ take at d ++ a
      front = ap (take r₁) h.bytes ∙ take_at (take at d ++ a) (drop (at + length a) d) r₁ (length_front d at a first_room ∙ sym h.place)

      back : drop (r₁ + length b) d₁ ≡ drop (at + length (a ++ b)) d
      back =
          sym (drop-drop (length b) r₁ d₁)
          ∙ ap (drop (length b))
          (ap (drop r₁) h.bytes ∙ drop_at (take at d ++ a) (drop (at + length a) d) r₁ (length_front d at a first_room ∙ sym h.place) ∙ ap (λ (x : ℕ). drop x d) (sym h.place))
          ∙ drop-drop (length b) r₁ d
          ∙ ap (λ (x : ℕ). drop x d) lengths

      all : d₂ ≡ take at d ++ (a ++ b) ++ drop (at + length (a ++ b)) d
      all = k.bytes ∙ ap₂ (λ (x y : List ℕ). x ++ b ++ y) front back ∙ ap (λ (x : List ℕ). x ++ drop (at + length (a ++ b)) d) (append_assoc (take at d) a b)

-- a buffer keeps its length
pub append_kept : {d d' a : List ℕ} {at r : ℕ} → Appended d at a d' r → length d' ≡ length d
append_kept {d} {d'} {a} {at} {r} h = append_length d at a (le_trans (le_of_eq (sym h.place)) h.within) h

-- one piece after another, each within the buffer
pub append_next : {d d₁ d₂ a b : List ℕ} {at r₁ r₂ : ℕ} → Appended d at a d₁ r₁ → Appended d₁ r₁ b d₂ r₂ → Appended d at (a ++ b) d₂ r₂
append_next {d} {d₁} {d₂} {a} {b} {at} {r₁} {r₂} h k = append_more d at a b room h k
  where
    room : at + length (a ++ b) ≤ length d
    room = omega (arith, h.place, k.place, k.within, append_kept h, length-append a b)
