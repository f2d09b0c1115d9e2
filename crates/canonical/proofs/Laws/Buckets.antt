-- Buckets as entries join them.
-- Shown: every bucket is one of 256; a set has one member exactly where it is that of its leading entry alone; empty buckets are right for no entry; an entry more in its bucket makes them right for one entry more. Assumes nothing.
use mathlib.Core.Path.{◌≡◌, refl, sym, ap, ◌∙◌, subst}
use mathlib.Core.Bool.{Bool, true, false, true≢false, cond}
use mathlib.Core.Logic.{inl, inr, by_cases}
use mathlib.Core.List.{List, [], ◌∷◌}
use Prim.Native.Nat.{ℕ, zero, suc, ◌+◌, ◌^◌, ◌<◌}
use native.Mathlib.Decide.{ℕ_discrete, dec_lt}
use native.Mathlib.Omega.{arith}
use lib.Dec.{eqb}
use lib.ListN.{get_or, set, length-set, replicate, length-replicate, get_or-replicate, get_or-eq_default}
use lib.Seq.{get_or-set_same, get_or-set_other}
use borrow.Author.Count.{below_more}
use borrow.Author.Tests.{eqb-true, eqb-false, eq-eqb, ne_eqb}
use Rattle.bitset.specs.Set.{member, insert, leading}
use Rattle.bitset.specs.Words.{packed, value}
use Rattle.bitset.specs.Inner.{FourWords}
use Rattle.bitset.proofs.Laws.Member.{member_empty}
use Rattle.bitset.proofs.Laws.Sums.{insert_own, insert_old, insert_cases}
use Rattle.bitset.proofs.Laws.Words.{packed_injective}
use Rattle.deduction.specs.Entry.{Entry}
use Rattle.deduction.specs.Standard.{set_at}
use Rattle.canonical.specs.Inner.Key.{key_at}
use Rattle.canonical.specs.Inner.Tables.{set_in}
use Rattle.canonical.specs.Inner.Buckets.{key_bucket, set_bucket, bucket_of, Bucketed, JoinedAt, Alone}

module _ {key : ℕ} (ws : List ℕ) where
  pub bucket_set : key ≡ 0 → bucket_of key ws ≡ set_bucket ws
  unfolding bucket_of
  bucket_set p = ap (λ (b : Bool). cond b (set_bucket ws) (key_bucket key)) (eq-eqb key 0 p)

  pub bucket_key : ¬ (key ≡ 0) → bucket_of key ws ≡ key_bucket key
  unfolding bucket_of
  bucket_key p = ap (λ (b : Bool). cond b (set_bucket ws) (key_bucket key)) (ne_eqb key 0 p)

pub bucket_below : (key : ℕ) (ws : List ℕ) → bucket_of key ws < 256
bucket_below key ws = by_cases (ℕ_discrete key 0) (λ p. omega (arith, bucket_set ws p)) (λ p. omega (arith, bucket_key ws p))

-- the test whether a set has one member
module _ (s : ℕ) {e v : ℕ} (p : e ≡ leading s) (q : v ≡ 2 ^ e) where
  pub alone_yes : eqb s v ≡ true → Alone s
  alone_yes t = eqb-true s v t ∙ q ∙ ap (λ (x : ℕ). 2 ^ x) p

  pub alone_no : eqb s v ≡ false → ¬ Alone s
  alone_no t a = eqb-false s v t (a ∙ sym (q ∙ ap (λ (x : ℕ). 2 ^ x) p))

-- four words of zeros
abbrev zeros : List ℕ
zeros = 0 ∷ 0 ∷ 0 ∷ 0 ∷ []

zeros_words : FourWords zeros
zeros_words = record { four = refl; below = go }
  where
    go : (i : ℕ) → get_or zeros i 0 < 2 ^ 64
    go zero = omega arith
    go (suc zero) = omega arith
    go (suc (suc zero)) = omega arith
    go (suc (suc (suc zero))) = omega arith
    go (suc (suc (suc (suc i)))) = omega arith

pub bucketed_none : (e : ℕ → Entry) → Bucketed e 0 (replicate 256 zeros)
unfolding packed
bucketed_none e =
    record {
      key = λ j l. absurd (omega arith);
      set = λ j l. absurd (omega arith);
      within = λ b j m. absurd (true≢false (sym m ∙ ap (λ (x : ℕ). member x j) (empty b) ∙ member_empty j));
      words = λ b l. subst FourWords (sym (get_or-replicate {A = List ℕ} 256 b zeros [] l)) zeros_words;
      size = length-replicate {A = List ℕ} 256 zeros;
    }
  where
    empty : (b : ℕ) → set_in (replicate 256 zeros) b ≡ 0
    empty b =
        by_cases (dec_lt b 256) (λ l. ap value (get_or-replicate {A = List ℕ} 256 b zeros [] l))
        (λ l. ap value (get_or-eq_default (replicate 256 zeros) [] {n = b} (omega (arith, length-replicate {A = List ℕ} 256 zeros))))

-- entry i joins the bucket at
module _ (e : ℕ → Entry) {i : ℕ} {buckets : List (List ℕ)} (h : Bucketed e i buckets) {key at : ℕ} {ws new : List ℕ} (four : FourWords ws)
    (k : key ≡ key_at e i) (v : value ws ≡ set_at e i) (p : at ≡ bucket_of key ws) (words : FourWords new) (joined : value new ≡ insert (set_in buckets at) i) where
  low : at < 256
  low = omega (arith, p, bucket_below key ws)

  here : get_or (set buckets at new) at [] ≡ new
  here = get_or-set_same buckets at new [] (omega (arith, low, h.size))

  there : (b : ℕ) → ¬ (b ≡ at) → get_or (set buckets at new) b [] ≡ get_or buckets b []
  there b f = get_or-set_other buckets at b new [] f

  -- a bucket keeps its members
  old : (b j : ℕ) → member (set_in buckets b) j ≡ true → member (set_in (set buckets at new) b) j ≡ true
  old b j m =
      by_cases (ℕ_discrete b at)
      (λ q. ap (λ (x : ℕ). member (set_in (set buckets at new) x) j) q ∙ ap (λ (x : List ℕ). member (value x) j) here ∙ ap (λ (x : ℕ). member x j) joined
      ∙ insert_old (set_in buckets at) i j (ap (λ (x : ℕ). member (set_in buckets x) j) (sym q) ∙ m))
      (λ q. ap (λ (x : List ℕ). member (value x) j) (there b q) ∙ m)

  -- and its own bucket has entry i
  own : (b : ℕ) → bucket_of key ws ≡ b → member (set_in (set buckets at new) b) i ≡ true
  own b q =
      ap (λ (x : ℕ). member (set_in (set buckets at new) x) i) (sym (p ∙ q)) ∙ ap (λ (x : List ℕ). member (value x) i) here ∙ ap (λ (x : ℕ). member x i) joined
      ∙ insert_own (set_in buckets at) i

  within : (b j : ℕ) → member (set_in (set buckets at new) b) j ≡ true → j < i + 1
  within b j m = by_cases (ℕ_discrete b at) same (λ q. let l = h.within b j (ap (λ (x : List ℕ). member (value x) j) (sym (there b q)) ∙ m) in omega arith)
    where
      same : b ≡ at → j < i + 1
      same q =
          elim (insert_cases (set_in buckets at) i j (sym (ap (λ (x : ℕ). member (set_in (set buckets at new) x) j) q ∙ ap (λ (x : List ℕ). member (value x) j) here ∙ ap (λ (x : ℕ). member x j) joined) ∙ m))
          [ inl s ↦ (let l = h.within at j s in omega arith) | inr s ↦ omega arith ]

  bucketed_more : Bucketed e (i + 1) (set buckets at new)
  bucketed_more =
      record {
        key =
            below_more (λ j. ¬ (key_at e j ≡ 0) → member (set_in (set buckets at new) (key_bucket (key_at e j))) j ≡ true) i (λ j l f. old (key_bucket (key_at e j)) j (h.key j l f))
            (λ f. own (key_bucket (key_at e i)) (bucket_key ws (λ z. f (sym k ∙ z)) ∙ ap key_bucket k));
        set =
            below_more (λ j. key_at e j ≡ 0 → (us : List ℕ) → FourWords us → value us ≡ set_at e j → member (set_in (set buckets at new) (set_bucket us)) j ≡ true) i
            (λ j l z us f q. old (set_bucket us) j (h.set j l z us f q))
            (λ z us f q. own (set_bucket us) (bucket_set ws (k ∙ z) ∙ ap set_bucket (packed_injective 64 ws us (four.four ∙ sym f.four) four.below f.below (v ∙ sym q))));
        within = within;
        words = λ b l. by_cases (ℕ_discrete b at) (λ q. subst FourWords (sym (ap (λ (x : ℕ). get_or (set buckets at new) x []) q ∙ here)) words) (λ q. subst FourWords (sym (there b q)) (h.words b l));
        size = length-set buckets at new ∙ h.size;
      }

-- so an entry that joined its bucket is in it
pub bucketed_joined : (e : ℕ → Entry) {i at key : ℕ} {ws : List ℕ} {buckets buckets' : List (List ℕ)} → Bucketed e i buckets → FourWords ws → key ≡ key_at e i → value ws ≡ set_at e i
    → at ≡ bucket_of key ws → JoinedAt at i buckets buckets' → Bucketed e (i + 1) buckets'
bucketed_joined e {i = i} h four k v p j = subst (Bucketed e (i + 1)) (sym j.one) (bucketed_more e h four k v p j.words j.more)
