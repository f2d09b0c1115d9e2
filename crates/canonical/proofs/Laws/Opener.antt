-- What opens a lock, found over the keys.
-- Defined: `Opening`, the keys of the first i entries have what opens them, the others not yet.
-- Shown: the key of the opposite half; over such keys an entry has the key of a half exactly when it is that half, and is then in that key's bucket;
-- the key of the next entry with what opens it, for entries whose locks have halves for keys, and so for a good sheet. Assumes nothing.
use mathlib.Core.Path.{◌≡◌, refl, sym, ap, ap₂, ◌∙◌, subst}
use mathlib.Core.Bool.{Bool, true, false, cond, ◌&&◌}
use mathlib.Core.Logic.{◌⊎◌, inl, inr, by_cases}
use mathlib.Core.List.{List, Memᴰ}
use Rattle.std.proofs.Common.{Option, unwrap_or}
use Prim.Native.Nat.{ℕ, ◌+◌, ◌*◌, ◌^◌, ◌≤◌, ◌<◌}
use native.Mathlib.Decide.{dec_lt}
use native.Mathlib.Omega.{arith}
use lib.Dec.{eqb}
use lib.ListN.{length, set}
use lib.Seq.{get_or-set_same, get_or-set_other}
use borrow.Author.Count.{below_more}
use borrow.Author.Tests.{eq-eqb, ne_eqb, eqb-true, eqb-false}
use Rattle.bitset.specs.Set.{member}
use Rattle.deduction.specs.Term.{Side, private, public, opposite}
use Rattle.deduction.specs.Entry.{Entry, Zero, Atom, Pair, Enc, Sum, Half, Aenc, parts, Downward}
use Rattle.deduction.specs.Standard.{half_kind, least, shape, set_at, rep_at}
use Rattle.deduction.specs.Run.{is_half, opener}
use Rattle.deduction.proofs.Standard.{rep_le}
use Rattle.deduction.proofs.Standard.Least.{least_same}
use Rattle.deduction.proofs.Standard.First.{half_range}
use Rattle.deduction.proofs.Steps.Head.{rep_below, rep_half}
use Rattle.deduction.proofs.Steps.Opener.{Halved, half_is}
use Rattle.deduction.proofs.Forms.{aencs}
use Rattle.dag.specs.Sheet.{count_of}
use Rattle.dag.specs.Record.{entry_at}
use Rattle.dag.specs.Refusal.{refusal}
use Rattle.dag.proofs.Laws.Good.{Good, good}
use Rattle.canonical.specs.Inner.Key.{key_of, key_at, key_kind, opposite_key, opener_of, open_key_at}
use Rattle.canonical.specs.Inner.Tables.{set_in, number_in, sought_in, open_in}
use Rattle.canonical.specs.Inner.Buckets.{key_bucket, Bucketed, Candidates, FoundIn}
use Rattle.canonical.proofs.Laws.Key.{number_of, Narrow, number_kind, number_low, key_form, key_kind_lem}
use Rattle.canonical.proofs.Laws.Record.{Bytes, narrow_bytes}
use Rattle.canonical.proofs.Laws.Search.{found_least}

-- the keys of the first i entries have what opens them, and those from i on are as they were
pub record Opening (e : ℕ → Entry) (n i : ℕ) (keys : List ℕ) : Type 0 where
  pub done : (j : ℕ) → j < i → number_in keys j ≡ open_key_at e n j
  pub left : (j : ℕ) → i ≤ j → j < n → number_in keys j ≡ key_at e j

pub opposite_key_lem : (s : Side) (a : ℕ) → a < 2 ^ 32 → opposite_key (half_kind s * 2 ^ 32 + a) ≡ half_kind (opposite s) * 2 ^ 32 + a
unfolding half_kind opposite
opposite_key_lem private a h =
    ap₂ (λ (k x : ℕ). cond (eqb k 5) (6 * 2 ^ 32 + x) (5 * 2 ^ 32 + x)) (number_kind 5 a (omega arith) h) (number_low 5 a (omega arith) h)
opposite_key_lem public a h =
    ap₂ (λ (k x : ℕ). cond (eqb k 5) (6 * 2 ^ 32 + x) (5 * 2 ^ 32 + x)) (number_kind 6 a (omega arith) h) (number_low 6 a (omega arith) h)

-- two keys of numbers are equal exactly when kinds and numbers are
numbers_same : (k a l b : ℕ) → a < 2 ^ 32 → b < 2 ^ 32 → eqb (k * 2 ^ 32 + a) (l * 2 ^ 32 + b) ≡ (eqb k l && eqb a b)
numbers_same k a l b ha hb = go (eqb k l) (eqb a b) refl refl
  where
    go : (x y : Bool) → eqb k l ≡ x → eqb a b ≡ y → eqb (k * 2 ^ 32 + a) (l * 2 ^ 32 + b) ≡ (x && y)
    go true true p q = eq-eqb _ _ (ap₂ (λ (u v : ℕ). u * 2 ^ 32 + v) (eqb-true k l p) (eqb-true a b q))
    go true false p q = ne_eqb _ _ (λ (h : k * 2 ^ 32 + a ≡ l * 2 ^ 32 + b). eqb-false a b q (omega arith))
    go false y p q = ne_eqb _ _ (λ (h : k * 2 ^ 32 + a ≡ l * 2 ^ 32 + b). eqb-false k l p (omega arith))

-- a number that no half's key can be
outside : (x : ℕ) (z : Side) (a : ℕ) → a < 2 ^ 32 → (x < 5 * 2 ^ 32) ⊎ (7 * 2 ^ 32 ≤ x) → eqb x (half_kind z * 2 ^ 32 + a) ≡ false
outside x z a h (inl l) = ne_eqb x (half_kind z * 2 ^ 32 + a) (λ (p : x ≡ half_kind z * 2 ^ 32 + a). omega (arith, half_range z))
outside x z a h (inr l) = ne_eqb x (half_kind z * 2 ^ 32 + a) (λ (p : x ≡ half_kind z * 2 ^ 32 + a). omega (arith, half_range z))

-- an entry has the key of a half, with or without what opens it, exactly when it is that half
half_test : (e : ℕ → Entry) (n : ℕ) (rep : ℕ → ℕ) (z : Side) (a : ℕ) (d : Entry) (b : Bool) (x : ℕ) → a < 2 ^ 32 → number_of d < 2 ^ 32
    → ((j : ℕ) → Memᴰ j (parts d) → rep j < 256) → x ≡ key_of rep d + opener_of e n d * cond b 65536 0
    → eqb x (half_kind z * 2 ^ 32 + a) ≡ is_half (half_kind z) a d
unfolding key_of opener_of is_half number_of parts
half_test e n rep z a Zero b x ha hd below q = outside x z a ha (inl (omega arith))
half_test e n rep z a (Atom y) b x ha hd below q = outside x z a ha (inl (omega arith))
half_test e n rep z a (Pair l r) b x ha hd below q =
    outside x z a ha (inl (omega (arith, below l (Memᴰ.head refl), below r (Memᴰ.tail (Memᴰ.head refl)))))
half_test e n rep z a (Enc l r) b x ha hd below q =
    outside x z a ha (inl (omega (arith, below l (Memᴰ.head refl), below r (Memᴰ.tail (Memᴰ.head refl)))))
half_test e n rep z a (Sum items) b x ha hd below q = outside x z a ha (inl (omega arith))
half_test e n rep z a (Half s y) b x ha hd below q =
    let plain : x ≡ half_kind s * 2 ^ 32 + y = omega arith in
    ap (λ (k : ℕ). eqb k (half_kind z * 2 ^ 32 + a)) plain ∙ numbers_same (half_kind s) y (half_kind z) a hd ha
half_test e n rep z a (Aenc l r) b x ha hd below q = outside x z a ha (inr (omega (arith, q)))

-- an entry of kind 7 is a lock
lock_parts : (s : ℕ → ℕ) (d : Entry) → (shape s d).kind ≡ 7 → (m : ℕ) × (k : ℕ) × (d ≡ Aenc m k)
unfolding shape
lock_parts s Zero p = absurd (omega arith)
lock_parts s (Atom a) p = absurd (omega arith)
lock_parts s (Pair l r) p = absurd (omega arith)
lock_parts s (Enc m k) p = absurd (omega arith)
lock_parts s (Sum items) p = absurd (omega arith)
lock_parts s (Half z a) p = absurd (omega (arith, half_range z))
lock_parts s (Aenc m k) p = (m, k, refl)

module _ (e : ℕ → Entry) (n : ℕ) (down : Downward e n) (few : n ≤ 256) (narrow : Narrow e n)
    (halves : Halved e n) where
  -- a half's number has at most 32 bits
  number : (j : ℕ) (s : Side) (a : ℕ) → j < n → e j ≡ Half s a → a < 2 ^ 32
  unfolding number_of
  number j s a h p = subst (λ (d : Entry). number_of d < 2 ^ 32) p (narrow j h)

  -- a key on the way, with what opens it or without
  key_either : (i : ℕ) (keys : List ℕ) → Opening e n i keys → (j : ℕ) → j < n → (b : Bool) × (number_in keys j ≡ key_at e j + opener_of e n (e j) * cond b 65536 0)
  key_either i keys o j h = by_cases (dec_lt j i) (λ l. (true, o.done j l)) (λ l. (false, o.left j (omega arith) h ∙ omega arith))

  module _ (i : ℕ) (keys : List ℕ) (o : Opening e n i keys) where
    half_found : (z : Side) (a : ℕ) → a < 2 ^ 32 → (j : ℕ) → j < n → eqb (number_in keys j) (half_kind z * 2 ^ 32 + a) ≡ is_half (half_kind z) a (e j)
    half_found z a ha j h =
        let (b, q) = key_either i keys o j h in
        half_test e n (rep_at e) z a (e j) b (number_in keys j) ha (narrow j h) (λ x m. omega (arith, rep_le e x, down j x h m)) q

    -- the key of a half on the way is that of the half
    half_keyed : (j : ℕ) (s : Side) (a : ℕ) → j < n → e j ≡ Half s a → number_in keys j ≡ half_kind s * 2 ^ 32 + a
    unfolding is_half
    half_keyed j s a h p =
        eqb-true _ _ (half_found s a (number j s a h p) j h ∙ half_is s a (e j) p)

    -- the key that opens a lock is that of the opposite half
    sought : (m k : ℕ) → i < n → e i ≡ Aenc m k
        → (s : Side) × (a : ℕ) × (e (rep_at e k) ≡ Half s a) × (a < 2 ^ 32) × (sought_in keys (key_at e i) ≡ half_kind (opposite s) * 2 ^ 32 + a)
    unfolding parts
    sought m k h p =
        let (s, a, q) = halves i m k h p in
        let lk : k < n = omega (arith, down i k h (subst (λ (d : Entry). Memᴰ k (parts d)) (sym p) (Memᴰ.tail (Memᴰ.head refl)))) in
        let r : e (rep_at e k) ≡ Half s a = rep_half e n down k s a lk q in
        let low : a < 2 ^ 32 = number k s a lk q in
        let other : sought_in keys (key_at e i) ≡ half_kind (opposite s) * 2 ^ 32 + a =
        ap (λ (j : ℕ). opposite_key (number_in keys j)) (key_form e n down few narrow aencs i m k h p).1 ∙ ap opposite_key (half_keyed (rep_at e k) s a (rep_below e n down k lk) r) ∙ opposite_key_lem s a low in
        (s, a, r, low, other)

    opener_least : (m k : ℕ) → i < n → e i ≡ Aenc m k → least (λ j. eqb (number_in keys j) (sought_in keys (key_at e i))) n ≡ opener e n (e (rep_at e k))
    unfolding opener
    opener_least m k h p =
        let (s, a, r, low, other) = sought m k h p in
        least_same _ _ n (λ j l. ap (eqb (number_in keys j)) other ∙ half_found (opposite s) a low j l) ∙ sym (ap (opener e n) r)

    -- and the bucket of that key has every entry with it: halves keep their keys
    lock_candidates : (buckets : List (List ℕ)) → Bucketed e n buckets → i < n → key_kind (key_at e i) ≡ 7
        → Candidates (λ j. eqb (number_in keys j) (sought_in keys (key_at e i))) n (set_in buckets (key_bucket (sought_in keys (key_at e i))))
    lock_candidates buckets b h z = go (lock_parts (set_at e) (e i) (sym (key_kind_lem e n down few narrow i h) ∙ z))
      where
        go : (m : ℕ) × (k : ℕ) × (e i ≡ Aenc m k) → Candidates (λ j. eqb (number_in keys j) (sought_in keys (key_at e i))) n (set_in buckets (key_bucket (sought_in keys (key_at e i))))
        go (m, k, p) = record { every = every; within = b.within (key_bucket (sought_in keys (key_at e i))) }
          where
            every : (j : ℕ) → j < n → eqb (number_in keys j) (sought_in keys (key_at e i)) ≡ true → member (set_in buckets (key_bucket (sought_in keys (key_at e i)))) j ≡ true
            every j l t =
                let (s, a, r, low, other) = sought m k h p in
                let same : key_at e j ≡ half_kind (opposite s) * 2 ^ 32 + a =
                eqb-true (key_at e j) (half_kind (opposite s) * 2 ^ 32 + a)
                (half_test e n (rep_at e) (opposite s) a (e j) false (key_at e j) low (narrow j l) (λ x g. omega (arith, rep_le e x, down j x l g)) (omega arith)
                ∙ sym (half_found (opposite s) a low j l) ∙ ap (eqb (number_in keys j)) (sym other) ∙ t) in
                subst (λ (x : ℕ). member (set_in buckets (key_bucket x)) j ≡ true) (same ∙ sym other) (b.key j l (λ q. absurd (omega (arith, same, half_range (opposite s)))))

    -- the key of the next entry with what opens it
    pub open_next : i < n → open_in keys n (number_in keys i) ≡ open_key_at e n i
    unfolding open_in opener_of shape half_kind
    open_next h = ap (open_in keys n) (o.left i (omega arith) h) ∙ go (e i) refl
      where
        found : ℕ
        found = key_at e i + least (λ j. eqb (number_in keys j) (sought_in keys (key_at e i))) n * 65536

        by_kind : (d : Entry) → e i ≡ d → open_in keys n (key_at e i) ≡ cond (eqb (shape (set_at e) d).kind 7) found (key_at e i)
        by_kind d q = ap (λ (k : ℕ). cond (eqb k 7) found (key_at e i)) (key_kind_lem e n down few narrow i h ∙ ap (λ (c : Entry). (shape (set_at e) c).kind) q)

        go : (d : Entry) → e i ≡ d → open_in keys n (key_at e i) ≡ key_at e i + opener_of e n d * 65536
        go Zero q = by_kind Zero q ∙ omega arith
        go (Atom a) q = by_kind (Atom a) q ∙ omega arith
        go (Pair l r) q = by_kind (Pair l r) q ∙ omega arith
        go (Enc m k) q = by_kind (Enc m k) q ∙ omega arith
        go (Sum items) q = by_kind (Sum items) q ∙ omega arith
        go (Half private a) q = by_kind (Half private a) q ∙ omega arith
        go (Half public a) q = by_kind (Half public a) q ∙ omega arith
        go (Aenc m k) q = by_kind (Aenc m k) q ∙ ap (λ (x : ℕ). key_at e i + x * 65536) (opener_least m k h q)

-- a key more with what opens it
pub opening_more : (e : ℕ → Entry) (n i : ℕ) (keys : List ℕ) (v : ℕ) → Opening e n i keys → i < length keys → v ≡ open_key_at e n i → Opening e n (i + 1) (set keys i v)
opening_more e n i keys v o h p = record {
  done = below_more (λ j. number_in (set keys i v) j ≡ open_key_at e n j) i (λ j l. get_or-set_other keys i j v 0 (λ q. absurd (omega arith)) ∙ o.done j l) (get_or-set_same keys i v 0 h ∙ p);
  left = λ j l b. get_or-set_other keys i j v 0 (λ q. absurd (omega arith)) ∙ o.left j (omega arith) b;
}

-- the two ways of `open_in`
module _ (keys : List ℕ) (n key : ℕ) where
  pub open_other : ¬ (key_kind key ≡ 7) → key ≡ open_in keys n key
  unfolding open_in
  open_other p = sym (ap (λ (b : Bool). cond b (key + least (λ j. eqb (number_in keys j) (sought_in keys key)) n * 65536) key) (ne_eqb (key_kind key) 7 p))

  -- first is what a search for the key sought gives, in the bucket of that key
  pub open_lock : key_kind key ≡ 7 → n ≤ 256 → (buckets : List (List ℕ)) {other at r : ℕ} {first : Option ℕ} → other ≡ sought_in keys key → at ≡ key_bucket other
      → Candidates (λ j. eqb (number_in keys j) (sought_in keys key)) n (set_in buckets (key_bucket (sought_in keys key)))
      → FoundIn (λ j. eqb (number_in keys j) other) (set_in buckets at) first → r ≡ unwrap_or first n → key + r * 65536 ≡ open_in keys n key
  unfolding open_in
  open_lock p few buckets {other = other} {r = r} {first = first} q b c found e =
      ap (λ (x : ℕ). key + x * 65536) (e ∙ found_least c (subst (λ (x : ℕ). FoundIn (λ j. eqb (number_in keys j) x) (set_in buckets (key_bucket x)) first) q (subst (λ (x : ℕ). FoundIn (λ j. eqb (number_in keys j) other) (set_in buckets x) first) b found)) few)
      ∙ sym (ap (λ (b : Bool). cond b (key + least (λ j. eqb (number_in keys j) (sought_in keys key)) n * 65536) key) (eq-eqb (key_kind key) 7 p))

-- a key leaves room for what opens it
key_room : (rep : ℕ → ℕ) (d : Entry) → number_of d < 2 ^ 32 → ((j : ℕ) → Memᴰ j (parts d) → rep j < 256) → key_of rep d < 2 ^ 40
unfolding key_of number_of parts
key_room rep Zero h below = omega arith
key_room rep (Atom a) h below = omega arith
key_room rep (Pair l r) h below = omega (arith, below l (Memᴰ.head refl), below r (Memᴰ.tail (Memᴰ.head refl)))
key_room rep (Enc l r) h below = omega (arith, below l (Memᴰ.head refl), below r (Memᴰ.tail (Memᴰ.head refl)))
key_room rep (Sum items) h below = omega arith
key_room rep (Half s a) h below = omega (arith, half_range s)
key_room rep (Aenc l r) h below = omega (arith, below l (Memᴰ.head refl), below r (Memᴰ.tail (Memᴰ.head refl)))

-- the keys of a good sheet
module _ (s : List ℕ) (bytes : Bytes s) (accepted : refusal s ≡ 0) (i : ℕ) (h : i < count_of s) (keys : List ℕ) (o : Opening (entry_at s) (count_of s) i keys) where
  ok : Good s
  ok = good s accepted

  pub good_room : number_in keys i < 2 ^ 40
  good_room =
      subst (λ (k : ℕ). k < 2 ^ 40) (sym (o.left i (omega arith) h))
      (key_room (rep_at (entry_at s)) (entry_at s i) (narrow_bytes s (count_of s) bytes i h) (λ j m. omega (arith, rep_le (entry_at s) j, ok.few, ok.downward i j h m)))

  pub good_candidates : (buckets : List (List ℕ)) → Bucketed (entry_at s) (count_of s) buckets → key_kind (number_in keys i) ≡ 7
      → Candidates (λ j. eqb (number_in keys j) (sought_in keys (number_in keys i))) (count_of s) (set_in buckets (key_bucket (sought_in keys (number_in keys i))))
  good_candidates buckets b =
      subst (λ (k : ℕ). key_kind k ≡ 7 → Candidates (λ j. eqb (number_in keys j) (sought_in keys k)) (count_of s) (set_in buckets (key_bucket (sought_in keys k)))) (sym (o.left i (omega arith) h))
      (lock_candidates (entry_at s) (count_of s) ok.downward ok.few (narrow_bytes s (count_of s) bytes) ok.halves i keys o buckets b h)

  pub good_next : open_in keys (count_of s) (number_in keys i) ≡ open_key_at (entry_at s) (count_of s) i
  good_next = open_next (entry_at s) (count_of s) ok.downward ok.few (narrow_bytes s (count_of s) bytes) ok.halves i keys o h
