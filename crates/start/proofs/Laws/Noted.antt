-- The places of a list of heads, and the set of what stands there.
-- Shown: none at first (`noted_none`); there are at most 256 (`noted_few`), and a place for one more that isn't there (`noted_place`), which then stands behind the others
-- (`noted_more`, `noted_with`). Assumes nothing.
use mathlib.Core.Path.{◌≡◌, sym, ap, ◌∙◌}
use mathlib.Core.Bool.{Bool, false, ◌||◌}
use mathlib.Core.List.{List, [], ◌∷◌, ◌++◌}
use Prim.Native.Nat.{ℕ, ◌+◌, ◌≤◌, ◌<◌}
use native.Mathlib.Numerals.{add-one}
use native.Mathlib.Omega.{arith}
use lib.Dec.{eqb}
use lib.ListN.{length, set, take}
use lib.Seq.{take-suc-set}
use Rattle.bitset.specs.Set.{member, insert}
use Rattle.bitset.specs.Words.{value}
use Rattle.bitset.specs.Inner.{FourWords}
use Rattle.bitset.proofs.Laws.Member.{member_empty, member_insert}
use Rattle.knowledge.proofs.Laws.Learn.{ones_words, room_more, room_place}
use Rattle.start.specs.Inner.Heads.{stands, with_head, Noted}
use Rattle.start.proofs.Laws.Repeats.{stands_more, with_new}

pub noted_none : (list seen : List ℕ) → FourWords seen → value seen ≡ 0 → Noted list 0 seen
unfolding stands
noted_none list seen w p = record { words = w; stand = λ x. ap (λ (s : ℕ). member s x) p ∙ member_empty x; once = omega arith }

module _ {list : List ℕ} {len : ℕ} {seen : List ℕ} (h : Noted list len seen) where
  pub noted_few : len ≤ 256
  noted_few = omega (arith, h.once, ones_words seen h.words.four h.words.below)

  module _ (head : ℕ) {seen' : List ℕ} (new : member (value seen) head ≡ false) (w : FourWords seen') (p : value seen' ≡ insert (value seen) head) where
    pub noted_place : len < 256
    noted_place = room_place seen seen' len head p h.once new w.four w.below

    one_more : len < length list → take (len + 1) (set list len head) ≡ take len list ++ (head ∷ [])
    one_more l = ap (λ (n : ℕ). take n (set list len head)) (add-one len) ∙ take-suc-set list len head l

    pub noted_more : len < length list → Noted (set list len head) (len + 1) seen'
    noted_more l = record {
      words = w;
      stand = λ x.
          ap (λ (s : ℕ). member s x) p ∙ member_insert (value seen) head x ∙ ap (λ (b : Bool). b || eqb head x) (h.stand x) ∙ sym (stands_more x head (take len list))
          ∙ ap (stands x) (sym (one_more l));
      once = room_more seen seen' len head p h.once new;
    }

    pub noted_with : len < length list → take (len + 1) (set list len head) ≡ with_head (take len list) head
    noted_with l = one_more l ∙ sym (with_new (take len list) head (sym (h.stand head) ∙ new))
