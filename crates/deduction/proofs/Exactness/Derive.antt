-- Derivations from one start, joined.
-- Shown: what is held stays held; two derivations from one start join to one that holds what each holds, and so do finitely many; sums of
-- derivable terms are derivable, where sum is on; every entry that steps within the sheet reach is derivable; what is derivable in a setting is so in every
-- setting that includes it. Assumes nothing.
use mathlib.Core.Path.{◌≡◌, refl, sym, subst}
use mathlib.Core.Bool.{Bool, true, false, cond}
use mathlib.Core.Logic.{⊎_elim}
use mathlib.Core.List.Memᴰ
use mathlib.Core.List.{List, [], ◌∷◌, map, Memᴰ}
use Prim.Native.Nat.{ℕ, zero, suc}
use Rattle.bitset.specs.Set.{member}
use Rattle.deduction.specs.Term.{Term, ◌⊕◌, sum_of, ◌≈◌, unit, in_aenc, in_sum, same, flip, then}
use Rattle.deduction.specs.Setting.{Setting, Includes}
use Rattle.deduction.specs.Derivation.{Holds, Derivation, Derivable, begin, first, second, decrypt, join, encrypt, sum, adecrypt, aencrypt}
use Rattle.deduction.specs.Standard.{sum_of_set}
use Rattle.deduction.proofs.Exactness.Within.{Reach}

-- every term of g is a term of h
abbrev pub Among : List Term → List Term → Type 0
Among g h = (u : Term) → Memᴰ u g → Memᴰ u h

pub holds_among : {g h : List Term} → Among g h → (u : Term) → Holds g u → Holds h u
holds_among f u (v, m, e) = (v, f v m, e)

among_newest : {g h : List Term} {a : Term} → Among g h → Among (a ∷ g) (a ∷ h)
among_newest f u m = ⊎_elim (λ q. Memᴰ.head q) (λ r. Memᴰ.tail (f u r)) (Memᴰ.cases_cons m)

-- what is held stays held
pub start_among : {on : Setting} {start g : List Term} → Derivation on start g → Among start g
start_among begin u m = m
start_among (first o d h) u m = Memᴰ.tail (start_among d u m)
start_among (second o d h) u m = Memᴰ.tail (start_among d u m)
start_among (decrypt o d h k) u m = Memᴰ.tail (start_among d u m)
start_among (join o d h k) u m = Memᴰ.tail (start_among d u m)
start_among (encrypt o d h k) u m = Memᴰ.tail (start_among d u m)
start_among (sum ts o d h) u m = Memᴰ.tail (start_among d u m)
start_among (adecrypt o d h k) u m = Memᴰ.tail (start_among d u m)
start_among (aencrypt o d h k) u m = Memᴰ.tail (start_among d u m)

-- two derivations joined
Joined : Setting → List Term → List Term → List Term → Type 0
Joined on start g h = (k : List Term) × Derivation on start k × Among g k × Among h k

-- one step more on the second
longer : {on : Setting} {start g h k : List Term} {a : Term} → Derivation on start (a ∷ k) → Among g k → Among h k → Joined on start g (a ∷ h)
unfolding Joined
longer {k = k} {a = a} d f f' = (a ∷ k, d, λ u m. Memᴰ.tail (f u m), among_newest f')

joined : {on : Setting} {start g h : List Term} → Derivation on start g → Derivation on start h → Joined on start g h
unfolding Joined
joined {g = g} d begin = (g, d, λ u m. m, start_among d)
joined d (first o c p) = let (k, b, f, f') = joined d c in longer (first o b (holds_among f' _ p)) f f'
joined d (second o c p) = let (k, b, f, f') = joined d c in longer (second o b (holds_among f' _ p)) f f'
joined d (decrypt o c p q) = let (k, b, f, f') = joined d c in longer (decrypt o b (holds_among f' _ p) (holds_among f' _ q)) f f'
joined d (join o c p q) = let (k, b, f, f') = joined d c in longer (join o b (holds_among f' _ p) (holds_among f' _ q)) f f'
joined d (encrypt o c p q) = let (k, b, f, f') = joined d c in longer (encrypt o b (holds_among f' _ p) (holds_among f' _ q)) f f'
joined d (sum ts o c p) = let (k, b, f, f') = joined d c in longer (sum ts o b (λ u m. holds_among f' u (p u m))) f f'
joined d (adecrypt o c p q) = let (k, b, f, f') = joined d c in longer (adecrypt o b (holds_among f' _ p) (holds_among f' _ q)) f f'
joined d (aencrypt o c p q) = let (k, b, f, f') = joined d c in longer (aencrypt o b (holds_among f' _ p) (holds_among f' _ q)) f f'

-- two terms that can be derived are held together
pub derive_both : {on : Setting} {start : List Term} {a b : Term} → Derivable on start a → Derivable on start b → (g : List Term) × Derivation on start g × Holds g a × Holds g b
unfolding Joined
derive_both (g, c, p) (h, d, q) = let (k, j, f, f') = joined c d in (k, j, holds_among f _ p, holds_among f' _ q)

-- finitely many terms that can be derived are held together
pub derive_all : {on : Setting} {start : List Term} (ts : List Term) → ((u : Term) → Memᴰ u ts → Derivable on start u)
    → (g : List Term) × Derivation on start g × ((u : Term) → Memᴰ u ts → Holds g u)
unfolding Joined
derive_all {start = start} [] h = (start, begin, λ u m. absurd (Memᴰ.not-nil m))
derive_all {start = start} (t ∷ ts) h =
    let (g, c, p) = h t (Memᴰ.head refl) in let (l, d, q) = derive_all ts (λ u m. h u (Memᴰ.tail m)) in
    let (k, j, f, f') = joined c d in
    (k, j, λ u m. ⊎_elim (λ r. subst (Holds k) (sym r) (holds_among f t p)) (λ r. holds_among f' u (q u r)) (Memᴰ.cases_cons m))

-- a term that is ≈ the newest is derivable
derived : {on : Setting} {start g : List Term} {a b : Term} → Derivation on start (a ∷ g) → a ≈ b → Derivable on start b
derived {g = g} {a = a} d e = (a ∷ g, d, (a, Memᴰ.head refl, e))

held_same : {g : List Term} {a b : Term} → Holds g a → a ≈ b → Holds g b
held_same (u, m, p) q = (u, m, then p q)

-- the same for derivable terms, and for sums of them
pub derive_same : {on : Setting} {start : List Term} {a b : Term} → Derivable on start a → a ≈ b → Derivable on start b
derive_same (g, d, h) e = (g, d, held_same h e)

pub derive_sum : {on : Setting} {start : List Term} {a b : Term} → on 6 ≡ true → Derivable on start a → Derivable on start b → Derivable on start (a ⊕ b)
unfolding sum_of
derive_sum {start = start} {a = a} {b = b} o p q =
    let (g, d, h, k) = derive_both p q in
    derived (sum (a ∷ b ∷ []) o d (both g h k)) (in_sum same unit)
  where
    both : (g : List Term) → Holds g a → Holds g b → (u : Term) → Memᴰ u (a ∷ b ∷ []) → Holds g u
    both g h k u m =
        ⊎_elim (λ r. subst (Holds g) (sym r) h) (λ r. subst (Holds g) (sym (Memᴰ.eq_of_singleton r)) k) (Memᴰ.cases_cons m)

pub derive_set : {on : Setting} {start : List Term} (t : ℕ → Term) (n u : ℕ) → on 6 ≡ true → ((j : ℕ) → member u j ≡ true → Derivable on start (t j)) → Derivable on start (sum_of_set t n u)
unfolding sum_of_set sum_of
derive_set {start = start} t zero u o h = derived (sum [] o begin (λ v m. absurd (Memᴰ.not-nil m))) same
derive_set {on} {start} t (suc n) u o h = go (member u n) refl (derive_set t n u o h)
  where
    go : (b : Bool) → member u n ≡ b → Derivable on start (sum_of_set t n u) → Derivable on start (cond b (t n ⊕ sum_of_set t n u) (sum_of_set t n u))
    go true p r = derive_sum o (h n p) r
    go false p r = r

pub reach_derivable : (on : Setting) (t : ℕ → Term) (n : ℕ) (start : List ℕ) (i : ℕ) → Reach on t n start i → Derivable on (map t start) (t i)
reach_derivable on t n start i (Reach.begin m) = (map t start, begin, (t i, Memᴰ.map t m, same))
reach_derivable on t n start i (Reach.same {j = j} hi hj r e) = derive_same (reach_derivable on t n start j r) (flip e)
reach_derivable on t n start j (Reach.first {i = i} b o hi hj r e) =
    let (g, d, p) = reach_derivable on t n start i r in
    derived (first o d (held_same p e)) same
reach_derivable on t n start j (Reach.second {i = i} a o hi hj r e) =
    let (g, d, p) = reach_derivable on t n start i r in
    derived (second o d (held_same p e)) same
reach_derivable on t n start j (Reach.decrypt {i = i} {k = k} o hi hj hk r s e) =
    let (g, d, p, q) = derive_both (reach_derivable on t n start i r) (reach_derivable on t n start k s) in
    derived (decrypt o d (held_same p e) q) same
reach_derivable on t n start i (Reach.join {j = j} {k = k} o hi hj hk r s e) =
    let (g, d, p, q) = derive_both (reach_derivable on t n start j r) (reach_derivable on t n start k s) in
    derived (join o d p q) (flip e)
reach_derivable on t n start i (Reach.encrypt {j = j} {k = k} o hi hj hk r s e) =
    let (g, d, p, q) = derive_both (reach_derivable on t n start j r) (reach_derivable on t n start k s) in
    derived (encrypt o d p q) (flip e)
reach_derivable on t n start i (Reach.sum js o hi below r e) =
    let (g, d, p) = derive_all (map t js) (λ u m. let (j, q, s) = Memᴰ.of_map t js m in subst (Derivable on (map t start)) s (reach_derivable on t n start j (r j q))) in
    derived (sum (map t js) o d p) (flip e)
reach_derivable on t n start j (Reach.adecrypt {i = i} {k = k} s a o hi hj hk r c e q) =
    let (g, d, p, z) = derive_both (reach_derivable on t n start i r) (reach_derivable on t n start k c) in
    derived (adecrypt o d (held_same p e) (held_same z q)) same
reach_derivable on t n start i (Reach.aencrypt {j = j} {k = k} s a o hi hj hk r c e q) =
    let (g, d, p, z) = derive_both (reach_derivable on t n start j r) (reach_derivable on t n start k c) in
    derived (aencrypt o d p (held_same z q)) (then (in_aenc same (flip q)) (flip e))

-- a derivation in a setting is one in every setting that includes it
pub derivation_more : {on more : Setting} {start g : List Term} → Includes on more → Derivation on start g → Derivation more start g
derivation_more f begin = begin
derivation_more f (first o d h) = first (f 1 o) (derivation_more f d) h
derivation_more f (second o d h) = second (f 2 o) (derivation_more f d) h
derivation_more f (decrypt o d h k) = decrypt (f 3 o) (derivation_more f d) h k
derivation_more f (join o d h k) = join (f 4 o) (derivation_more f d) h k
derivation_more f (encrypt o d h k) = encrypt (f 5 o) (derivation_more f d) h k
derivation_more f (sum ts o d h) = sum ts (f 6 o) (derivation_more f d) h
derivation_more f (adecrypt o d h k) = adecrypt (f 7 o) (derivation_more f d) h k
derivation_more f (aencrypt o d h k) = aencrypt (f 8 o) (derivation_more f d) h k

-- "turning a switch on": what is derivable stays so
pub derivable_more : {on more : Setting} {start : List Term} {u : Term} → Includes on more → Derivable on start u → Derivable more start u
derivable_more f (g, d, h) = (g, derivation_more f d, h)
