-- The table of offers: the least for each head, over any list of offers.
-- Shown: the empty table; an offer that is lower than what is there, and one that isn't; nothing added, and two additions in a row. Assumes nothing.
use mathlib.Core.Path.{◌≡◌, refl, sym, ap, ◌∙◌, subst}
use mathlib.Core.Bool.{Bool, true, false, ◌||◌, or-true, or-false}
use mathlib.Core.Logic.{◌⊎◌, inl, inr, ⊎_elim}
use mathlib.Core.List.Memᴰ
use mathlib.Core.List.{List, [], ◌∷◌, ◌++◌, Memᴰ, append-nil, append_assoc}
use Prim.Native.Nat.{ℕ, ◌+◌, ◌*◌, ◌/◌, ◌%◌, ◌≤◌, ◌<◌}
use native.Mathlib.Omega.{arith}
use lib.Dec.{eqb, ltb}
use lib.ListN.{get_or, set, length-set, replicate, length-replicate, get_or-replicate}
use lib.Seq.{get_or-set_same, get_or-set_other}
use borrow.Author.Tests.{lt-ltb, le-ltb, eq-eqb, ne_eqb, eqb-true, eqb-false}
use Rattle.bitset.specs.Set.{member, insert}
use Rattle.bitset.specs.Words.{value}
use Rattle.bitset.specs.Inner.{FourWords}
use Rattle.bitset.proofs.Laws.Member.{member_empty, member_insert}
use Rattle.bitset.proofs.Laws.Words.{words_zero, value_zero}
use Rattle.offers.specs.Inner.Table.{Table, Adds}

-- two numbers are the same or not
pub same_or : (a b : ℕ) → (a ≡ b) ⊎ ¬ (a ≡ b)
same_or a b = go (eqb a b) refl
  where
    go : (t : Bool) → eqb a b ≡ t → (a ≡ b) ⊎ ¬ (a ≡ b)
    go true p = inl (eqb-true a b p)
    go false p = inr (eqb-false a b p)

-- no offer yet
pub table_empty : Table (replicate 256 65535) (0 ∷ 0 ∷ 0 ∷ 0 ∷ []) []
table_empty = record {
  size = length-replicate {A = ℕ} 256 65535;
  words = words_zero;
  low = λ x m. absurd (Memᴰ.not-nil m);
  among = λ h l b. absurd (none h l b);
  marked = λ h l. ap (λ (x : ℕ). member x h) value_zero ∙ member_empty h ∙ sym (le-ltb (get_or (replicate 256 65535) h 0) 65535 (at h l));
}
  where
    at : (h : ℕ) → h < 256 → 65535 ≤ get_or (replicate 256 65535) h 0
    at h l = omega (arith, get_or-replicate {A = ℕ} 256 h 65535 0 l)

    none : (h : ℕ) → h < 256 → get_or (replicate 256 65535) h 0 < 65535 → ⊥
    none h l b = omega (arith, at h l)

-- an offer of head h, v without the head
module _ {best ready xs : List ℕ} (t : Table best ready xs) (h v : ℕ) (lh : h < 256) (lv : v < 65535) where
  -- is at least what is there
  pub table_keep : get_or best h 0 ≤ v → Table best ready (xs ++ ((h * 65536 + v) ∷ []))
  table_keep q = record {
    size = t.size;
    words = t.words;
    low = λ x m. go x (Memᴰ.append_cases xs m);
    among = λ k l b. Memᴰ.append_left _ (t.among k l b);
    marked = t.marked;
  }
    where
      go : (x : ℕ) → Memᴰ x xs ⊎ Memᴰ x ((h * 65536 + v) ∷ []) → (x / 65536 < 256) × (x % 65536 < 65535) × (get_or best (x / 65536) 0 ≤ x % 65536)
      go x (inl m) = t.low x m
      go x (inr m) =
          let p : x ≡ h * 65536 + v = Memᴰ.eq_of_singleton m in
          let ph : x / 65536 ≡ h = omega arith in
          let pv : x % 65536 ≡ v = omega arith in
          (omega arith, omega arith, rw (ph, pv) q)

  -- is lower, and becomes what is there
  pub table_lower : (ready' : List ℕ) → v < get_or best h 0 → FourWords ready' → value ready' ≡ insert (value ready) h → Table (set best h v) ready' (xs ++ ((h * 65536 + v) ∷ []))
  table_lower ready' q len val = record {
    size = length-set best h v ∙ t.size;
    words = len;
    low = λ x m. go x (Memᴰ.append_cases xs m);
    among = λ k l b. member_at k l b (same_or k h);
    marked = λ k l. ap (λ (s : ℕ). member s k) val ∙ member_insert (value ready) h k ∙ mark k l (same_or k h);
  }
    where
      own : get_or (set best h v) h 0 ≡ v
      own = get_or-set_same best h v 0 (omega (arith, t.size))

      other : (k : ℕ) → ¬ (k ≡ h) → get_or (set best h v) k 0 ≡ get_or best k 0
      other k f = get_or-set_other best h k v 0 f

      at_most : (k : ℕ) → get_or (set best h v) k 0 ≤ get_or best k 0
      at_most k = ⊎_elim (λ p. rw p (omega (arith, own))) (λ f. omega (arith, other k f)) (same_or k h)

      go : (x : ℕ) → Memᴰ x xs ⊎ Memᴰ x ((h * 65536 + v) ∷ []) → (x / 65536 < 256) × (x % 65536 < 65535) × (get_or (set best h v) (x / 65536) 0 ≤ x % 65536)
      go x (inl m) = let (a, b, c) = t.low x m in (a, b, omega (arith, at_most (x / 65536)))
      go x (inr m) =
          let p : x ≡ h * 65536 + v = Memᴰ.eq_of_singleton m in
          let ph : x / 65536 ≡ h = omega arith in
          let pv : x % 65536 ≡ v = omega arith in
          (omega arith, omega arith, rw (ph, pv) (omega (arith, own)))

      member_at : (k : ℕ) → k < 256 → get_or (set best h v) k 0 < 65535 → (k ≡ h) ⊎ ¬ (k ≡ h) → Memᴰ (k * 65536 + get_or (set best h v) k 0) (xs ++ ((h * 65536 + v) ∷ []))
      member_at k l b (inl p) = Memᴰ.append_right xs (Memᴰ.head (ap (λ (j : ℕ). j * 65536 + get_or (set best h v) j 0) p ∙ ap (λ (w : ℕ). h * 65536 + w) own))
      member_at k l b (inr f) = Memᴰ.append_left _ (Memᴰ.cast (ap (λ (w : ℕ). k * 65536 + w) (other k f)) (t.among k l (omega (arith, other k f))))

      mark : (k : ℕ) → k < 256 → (k ≡ h) ⊎ ¬ (k ≡ h) → (member (value ready) k || eqb h k) ≡ ltb (get_or (set best h v) k 0) 65535
      mark k l (inl p) = ap (λ (b : Bool). member (value ready) k || b) (eq-eqb h k (sym p)) ∙ or-true (member (value ready) k) ∙ sym (lt-ltb (get_or (set best h v) k 0) 65535 (rw p (omega (arith, own))))
      mark k l (inr f) = ap (λ (b : Bool). member (value ready) k || b) (ne_eqb h k (λ p. f (sym p))) ∙ or-false (member (value ready) k) ∙ t.marked k l ∙ ap (λ (w : ℕ). ltb w 65535) (sym (other k f))

-- nothing added
pub adds_nothing : (best ready : List ℕ) → Adds best ready best ready []
adds_nothing best ready xs t = subst (Table best ready) (sym (append-nil xs)) t

-- two additions in a row
pub adds_then : {best ready best' ready' best'' ready'' ys zs : List ℕ} → Adds best ready best' ready' ys → Adds best' ready' best'' ready'' zs → Adds best ready best'' ready'' (ys ++ zs)
adds_then {best'' = b} {ready'' = r} {ys = ys} {zs = zs} p q xs t = subst (Table b r) (append_assoc xs ys zs) (q (xs ++ ys) (p xs t))

-- what was added, said another way
pub adds_as : {best ready best' ready' ys zs : List ℕ} → ys ≡ zs → Adds best ready best' ready' ys → Adds best ready best' ready' zs
adds_as {best' = b} {ready' = r} p a xs t = subst (λ (zs : List ℕ). Table b r (xs ++ zs)) p (a xs t)

pub adds_none : (best ready : List ℕ) {zs : List ℕ} → [] ≡ zs → Adds best ready best ready zs
adds_none best ready p = adds_as p (adds_nothing best ready)
