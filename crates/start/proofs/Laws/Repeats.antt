-- Numbers put behind a list unless they stand in it.
-- Shown: a number that stands there, and one that doesn't (`with_known`, `with_new`); two lists one after the other (`with_both`); none stands twice (`with_apart`) and each comes
-- from a list (`with_from`); the list teaches the same (`with_taught`). Assumes nothing.
use mathlib.Core.Path.{◌≡◌, refl, sym, ap, ◌∙◌, subst}
use mathlib.Core.Bool.{Bool, true, false, true≢false, ◌||◌, or-false, or-true, or_assoc}
use mathlib.Core.List.Memᴰ
use mathlib.Core.List.{List, [], ◌∷◌, ◌++◌, append-nil, Memᴰ}
use mathlib.Core.Logic.{◌⊎◌, inl, inr, ⊎_elim, by_cases}
use Prim.Native.Nat.{ℕ, zero, suc, ◌<◌}
use native.Mathlib.Nat.{le_of_suc-le-suc}
use native.Mathlib.Decide.{dec_lt}
use native.Mathlib.Omega.{arith}
use borrow.Author.Tests.{eq-eqb}
use lib.Dec.{eqb}
use lib.ListN.{length, get_or, length-append, get_or-append}
use lib.Seq.{get_or-append_seam}
use Rattle.bitset.specs.Set.{member}
use Rattle.bitset.proofs.Laws.Member.{member_insert}
use Rattle.deduction.specs.Elimination.{Knowledge, learn, learn_all, nothing}
use Rattle.deduction.proofs.Elimination as elimination
use Rattle.knowledge.proofs.Laws.Learn.{learn_known}
use Rattle.start.specs.Inner.Heads.{stands, with_head, with_heads}

-- one number more at the end
pub stands_more : (x y : ℕ) (es : List ℕ) → stands x (es ++ (y ∷ [])) ≡ (stands x es || eqb y x)
unfolding stands
stands_more x y [] = or-false (eqb y x)
stands_more x y (e ∷ es) = ap (λ (b : Bool). eqb e x || b) (stands_more x y es) ∙ sym (or_assoc (eqb e x) (stands x es) (eqb y x))

-- what stands at a place stands in the list
pub stands_at : (es : List ℕ) (i : ℕ) → i < length es → stands (get_or es i 0) es ≡ true
unfolding stands
stands_at [] i h = absurd (omega arith)
stands_at (e ∷ es) zero h = ap (λ (b : Bool). b || stands e es) (eq-eqb e e refl)
stands_at (e ∷ es) (suc i) h = ap (λ (b : Bool). eqb e (get_or es i 0) || b) (stands_at es i (le_of_suc-le-suc h)) ∙ or-true (eqb e (get_or es i 0))

-- a number that stands in the list, and one that doesn't
pub with_known : (es : List ℕ) (x : ℕ) → stands x es ≡ true → with_head es x ≡ es
unfolding with_head
with_known es x p = rw p (append-nil es)

pub with_new : (es : List ℕ) (x : ℕ) → stands x es ≡ false → with_head es x ≡ es ++ (x ∷ [])
unfolding with_head
with_new es x p = rw p

-- two lists one after the other
pub with_both : (es xs ys : List ℕ) → with_heads es (xs ++ ys) ≡ with_heads (with_heads es xs) ys
unfolding with_heads
with_both es [] ys = refl
with_both es (x ∷ xs) ys = with_both (with_head es x) xs ys

-- one number more
pub with_more : (es xs : List ℕ) (x : ℕ) → with_heads es (xs ++ (x ∷ [])) ≡ with_head (with_heads es xs) x
unfolding with_heads
with_more es xs x = with_both es xs (x ∷ [])

pub with_none : (es : List ℕ) → with_heads es [] ≡ es
unfolding with_heads
with_none es = refl

-- none of a list stands twice
abbrev Apart : List ℕ → Type 0
Apart es = (i j : ℕ) → i < j → j < length es → ¬ (get_or es i 0 ≡ get_or es j 0)

-- a list in which none stands twice, and a number that doesn't stand in it
apart_more : (es : List ℕ) (x : ℕ) → stands x es ≡ false → Apart es → Apart (es ++ (x ∷ []))
apart_more es x new apart i j h l p = by_cases (dec_lt j (length es)) inner (λ r. at_end (end r))
  where
    inner : j < length es → ⊥
    inner r = apart i j h r (sym (get_or-append es (x ∷ []) 0 i (omega arith)) ∙ p ∙ get_or-append es (x ∷ []) 0 j r)

    end : ¬ (j < length es) → j ≡ length es
    end r = omega (arith, length-append es (x ∷ []))

    at_end : j ≡ length es → ⊥
    at_end q =
        let last = ap (λ (n : ℕ). get_or (es ++ (x ∷ [])) n 0) q ∙ get_or-append_seam es x [] 0 in
        let same : get_or es i 0 ≡ x = sym (get_or-append es (x ∷ []) 0 i (omega arith)) ∙ p ∙ last in
        true≢false (sym (stands_at es i (omega arith)) ∙ ap (λ (y : ℕ). stands y es) same ∙ new)

apart_with : (es xs : List ℕ) → Apart es → Apart (with_heads es xs)
unfolding with_heads
apart_with es [] apart = apart
apart_with es (x ∷ xs) apart = apart_with (with_head es x) xs (go (stands x es) refl)
  where
    go : (b : Bool) → stands x es ≡ b → Apart (with_head es x)
    go true p = subst Apart (sym (with_known es x p)) apart
    go false p = subst Apart (sym (with_new es x p)) (apart_more es x p apart)

pub with_apart : (xs : List ℕ) → Apart (with_heads [] xs)
with_apart xs = apart_with [] xs (λ i j h l p. omega arith)

-- each is from one of the lists
pub with_from : (es xs : List ℕ) (y : ℕ) → Memᴰ y (with_heads es xs) → Memᴰ y es ⊎ Memᴰ y xs
unfolding with_heads
with_from es [] y m = inl m
with_from es (x ∷ xs) y m = ⊎_elim (λ q. go (stands x es) refl q) (λ q. inr (Memᴰ.tail q)) (with_from (with_head es x) xs y m)
  where
    go : (b : Bool) → stands x es ≡ b → Memᴰ y (with_head es x) → Memᴰ y es ⊎ Memᴰ y (x ∷ xs)
    go true p q = inl (subst (Memᴰ y) (with_known es x p) q)
    go false p q = ⊎_elim inl (λ o. inr (Memᴰ.head (Memᴰ.eq_of_singleton o))) (Memᴰ.append_cases es (subst (Memᴰ y) (with_new es x p) q))

-- the known set is what stands in the list learnt
pub known_stands : (f : ℕ → ℕ) (k : Knowledge) (es : List ℕ) (x : ℕ) → member (learn_all f k es).known x ≡ (member k.known x || stands x es)
unfolding learn_all stands
known_stands f k [] x = sym (or-false (member k.known x))
known_stands f k (e ∷ es) x =
    known_stands f (learn f k e) es x ∙ ap (λ (b : Bool). b || stands x es) (ap (λ (s : ℕ). member s x) (learn_known k e (f e)) ∙ member_insert k.known e x)
    ∙ or_assoc (member k.known x) (eqb e x) (stands x es)

-- what stands in the list teaches nothing more
pub taught_again : (f : ℕ → ℕ) (es : List ℕ) (x : ℕ) → stands x es ≡ true → learn f (learn_all f nothing es) x ≡ learn_all f nothing es
taught_again f es x p = elimination.learn_known f (learn_all f nothing es) x
    (known_stands f nothing es x ∙ ap (λ (b : Bool). member nothing.known x || b) p ∙ or-true (member nothing.known x))

-- it teaches what both teach
pub with_taught : (f : ℕ → ℕ) (es xs : List ℕ) → learn_all f nothing (with_heads es xs) ≡ learn_all f (learn_all f nothing es) xs
unfolding with_heads learn_all
with_taught f es [] = refl
with_taught f es (x ∷ xs) = with_taught f (with_head es x) xs ∙ ap (λ (k : Knowledge). learn_all f k xs) (go (stands x es) refl)
  where
    go : (b : Bool) → stands x es ≡ b → learn_all f nothing (with_head es x) ≡ learn f (learn_all f nothing es) x
    go true p = ap (learn_all f nothing) (with_known es x p) ∙ sym (taught_again f es x p)
    go false p = ap (learn_all f nothing) (with_new es x p) ∙ elimination.learn_all_more f nothing es x
