-- The members of an entry's set are standard entries.
-- Shown: an entry is of kind 1 to 3, or its set and its term are sums over entries before it; the members of an entry's set are at most
-- the entry, and standard; an entry is standard exactly when it is a representative of kind 1 to 3, and then its set is itself
-- alone. Assumes nothing.
use mathlib.Core.Path.{◌≡◌, refl, sym, ap, ap₂, ◌∙◌, subst}
use mathlib.Core.Bool.{Bool, true, false≢true, ◌&&◌, not}
use mathlib.Core.Logic.{◌↔◌, ◌⊎◌, inl, inr}
use mathlib.Core.List.{List, [], ◌∷◌, map, Memᴰ}
use Prim.Native.Nat.{ℕ, ◌^◌, ◌≤◌, ◌<◌}
use native.Mathlib.Nat.{lt_irrefl}
use native.Mathlib.Omega.{arith}
use lib.Dec.{eqb}
use borrow.Author.Tests.{eqb-true, eqb-false, eq-eqb, ne_eqb, not-true}
use Rattle.bitset.specs.Set.{member}
use Rattle.bitset.proofs.Laws.Member.{member_empty, member_single}
use Rattle.bitset.proofs.Laws.Sums.{member_part}
use Rattle.deduction.specs.Term.{sum_of}
use Rattle.deduction.specs.Entry.{Entry, Zero, Atom, Pair, Enc, Sum, Half, Aenc, build, term_at, parts, Downward}
use Rattle.deduction.specs.Standard.{shape, xor_all, build_set, set_at, rep_at, standard}
use Rattle.deduction.proofs.Terms.{term_at_build}
use Rattle.deduction.proofs.Standard.Least.{least_only}
use Rattle.deduction.proofs.Standard.Sets.{set_at_build, before_ind}
use Rattle.deduction.proofs.Standard.First.{shape_at, first, Plain, first_le, first_first, first_plain, set_first, both_true, half_plain}

-- a member of a sum is a member of an item
pub xor_all_member : (s : ℕ → ℕ) (js : List ℕ) (k : ℕ) → member (xor_all s js) k ≡ true → (j : ℕ) × Memᴰ j js × (member (s j) k ≡ true)
unfolding xor_all
xor_all_member s [] k m = absurd (false≢true (sym (member_empty k) ∙ m))
xor_all_member s (j ∷ js) k m = go (λ h. xor_all_member s js k h) (member_part (s j) (xor_all s js) k m)
  where
    go : (member (xor_all s js) k ≡ true → (i : ℕ) × Memᴰ i js × (member (s i) k ≡ true)) → (member (s j) k ≡ true) ⊎ (member (xor_all s js) k ≡ true)
        → (i : ℕ) × Memᴰ i (j ∷ js) × (member (s i) k ≡ true)
    go ih (inl h) = (j, Memᴰ.head refl, h)
    go ih (inr h) = let r = ih h in (r.0, Memᴰ.tail r.1, r.2)

-- set and term of entry i are sums over the entries js
pub record SumOver (e : ℕ → Entry) (i : ℕ) (js : List ℕ) : Type 0 where
  pub set : set_at e i ≡ xor_all (set_at e) js
  pub term : term_at e i ≡ sum_of (map (term_at e) js)
  pub before : (j : ℕ) → Memᴰ j js → j < i

-- "A standard entry is a head of kind 1, 2 or 3"
pub standard_head : (e : ℕ → Entry) (i : ℕ) → (standard e i ≡ true) ↔ ((rep_at e i ≡ i) × Plain e i)
unfolding standard
standard_head e i = (to, from)
  where
    to : standard e i ≡ true → (rep_at e i ≡ i) × Plain e i
    to h =
        let p = both_true (eqb (rep_at e i) i) (not (eqb (shape_at e i).kind 0)) h in
        (eqb-true (rep_at e i) i p.0, eqb-false (shape_at e i).kind 0 (not-true (eqb (shape_at e i).kind 0) p.1))

    from : (rep_at e i ≡ i) × Plain e i → standard e i ≡ true
    from h = ap₂ (λ (a b : Bool). a && not b) (eq-eqb (rep_at e i) i h.0) (ne_eqb (shape_at e i).kind 0 h.1)

module _ (e : ℕ → Entry) (n : ℕ) (down : Downward e n) where
  -- zero is the sum over no entries
  pub plain_or_sum : (i : ℕ) → i < n → Plain e i ⊎ ((js : List ℕ) × SumOver e i js)
  unfolding build_set build shape parts xor_all sum_of
  plain_or_sum i h = go (e i) (set_at_build e n down i h) (term_at_build e n down i h) (λ k m. down i k h m)
    where
      go : (d : Entry) → set_at e i ≡ build_set (set_at e) e i d → term_at e i ≡ build (term_at e) d → ((k : ℕ) → Memᴰ k (parts d) → k < i)
          → (¬ ((shape (set_at e) d).kind ≡ 0)) ⊎ ((js : List ℕ) × SumOver e i js)
      go Zero s t p = inr ([], record { set = s; term = t; before = p })
      go (Atom a) s t p = inl (λ q. omega arith)
      go (Pair l r) s t p = inl (λ q. omega arith)
      go (Enc m k) s t p = inl (λ q. omega arith)
      go (Sum items) s t p = inr (items, record { set = s; term = t; before = p })
      go (Half x a) s t p = inl (half_plain x)
      go (Aenc m k) s t p = inl (λ q. omega arith)

  -- the members of an entry's set
  members : (i : ℕ) → i < n → (k : ℕ) → member (set_at e i) k ≡ true → (k ≤ i) × Plain e k × (first e k ≡ k)
  members = before_ind (λ (i : ℕ). i < n → (k : ℕ) → member (set_at e i) k ≡ true → (k ≤ i) × Plain e k × (first e k ≡ k)) step
    where
      step : (i : ℕ) → ((j : ℕ) → j < i → j < n → (k : ℕ) → member (set_at e j) k ≡ true → (k ≤ j) × Plain e k × (first e k ≡ k))
          → i < n → (k : ℕ) → member (set_at e i) k ≡ true → (k ≤ i) × Plain e k × (first e k ≡ k)
      step i ih h k m = go (plain_or_sum i h)
        where
          go : Plain e i ⊎ ((js : List ℕ) × SumOver e i js) → (k ≤ i) × Plain e k × (first e k ≡ k)
          go (inl p) = subst (λ (x : ℕ). (x ≤ i) × Plain e x × (first e x ≡ x)) own (first_le e i, first_plain e i p, first_first e i)
            where
              own : first e i ≡ k
              own = eqb-true (first e i) k (sym (member_single (first e i) k) ∙ ap (λ (s : ℕ). member s k) (sym (set_first e n down i h p)) ∙ m)
          go (inr (js, s)) =
              let r = xor_all_member (set_at e) js k (ap (λ (x : ℕ). member x k) (sym s.set) ∙ m) in
              let l = s.before r.0 r.1 in
              let q = ih r.0 l (omega arith) k r.2 in
              (omega arith, q.1, q.2)

  pub members_le : (i : ℕ) → i < n → (k : ℕ) → member (set_at e i) k ≡ true → k ≤ i
  members_le i h k m = (members i h k m).0

  -- the representative of an entry of kind 1 to 3 is the first entry of its shape
  pub rep_first : (i : ℕ) → i < n → Plain e i → rep_at e i ≡ first e i
  unfolding rep_at
  rep_first i h p =
      least_only (λ j. eqb (set_at e j) (set_at e i)) i (first e i) (first_le e i) (λ l. eq-eqb (set_at e (first e i)) (set_at e i) same_set)
      (λ j l. ne_eqb (set_at e j) (set_at e i) (λ q. lt_irrefl j (lower j l q)))
    where
      same_set : set_at e (first e i) ≡ set_at e i
      same_set = set_first e n down (first e i) (omega (arith, first_le e i)) (first_plain e i p) ∙ ap (λ (x : ℕ). 2 ^ x) (first_first e i) ∙ sym (set_first e n down i h p)

      lower : (j : ℕ) → j < first e i → set_at e j ≡ set_at e i → j < j
      lower j l q = omega (arith, members_le j (omega (arith, first_le e i)) (first e i) own)
        where
          own : member (set_at e j) (first e i) ≡ true
          own = ap (λ (s : ℕ). member s (first e i)) (q ∙ set_first e n down i h p) ∙ member_single (first e i) (first e i) ∙ eq-eqb (first e i) (first e i) refl

  -- a standard entry is the first of its shape
  pub standard_first : (i : ℕ) → i < n → (standard e i ≡ true) ↔ (Plain e i × (first e i ≡ i))
  standard_first i h = (λ s. let r = (standard_head e i).0 s in (r.1, sym (rep_first i h r.1) ∙ r.0), λ p. (standard_head e i).1 (rep_first i h p.0 ∙ p.1, p.0))

  pub members_standard : (i : ℕ) → i < n → (k : ℕ) → member (set_at e i) k ≡ true → standard e k ≡ true
  members_standard i h k m = let r = members i h k m in (standard_first k (omega arith)).1 (r.1, r.2)

  -- a standard entry's set is itself alone
  pub standard_set_lem : (i : ℕ) → i < n → standard e i ≡ true → set_at e i ≡ 2 ^ i
  standard_set_lem i h s = let p = (standard_first i h).0 s in set_first e n down i h p.0 ∙ ap (λ (x : ℕ). 2 ^ x) p.1
