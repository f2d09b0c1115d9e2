-- The tables of lines and columns while entries are learnt.
-- Shown: `kept_learnt`, what they hold after a new row was taken off, and `kept_idle`, where there is none; `kept_begun`, at the start.
-- Assumes nothing.
use mathlib.Core.Path.{◌≡◌, refl, sym, ap, ap₂, ◌∙◌, subst}
use mathlib.Core.Bool.{Bool, true, false, true≢false, xor, cond, ◌&&◌, ◌||◌, or-false, and-true, and-false}
use mathlib.Core.Logic.{by_cases}
use mathlib.Core.List.{List, [], ◌∷◌, ◌++◌}
use Prim.Native.Nat.{ℕ, zero, suc, ◌+◌, ◌<◌}
use native.Mathlib.Decide.{ℕ_discrete, dec_lt}
use native.Mathlib.Omega.{arith}
use lib.Bits.{bit_xor}
use lib.Dec.{eqb, ltb}
use lib.ListN.{length, get_or}
use borrow.Author.Tests.{eqb-true, eq-eqb, ne_eqb, ltb-true, lt-ltb, le-ltb}
use Rattle.bitset.specs.Set.{member, insert, single, leading}
use Rattle.bitset.specs.Words.{packed, value}
use Rattle.bitset.specs.Inner.{FourWords}
use Rattle.bitset.proofs.Laws.Member.{member_empty, member_sum, member_single, member_insert, xor_false}
use Rattle.deduction.specs.Elimination.{Row, Reduced, reduce, reduce_from, take_off, add_row}
use Rattle.deduction.proofs.Elimination.Reduce.{reduce_more}
use Rattle.knowledge.proofs.Laws.Learn.{add_none, add_one_row}
use Rattle.knowledge.specs.Inner.Lines.{set_in, line_at, plus, Sizes, Swept, Flipped, Kept, Entered, head_in, Begun}

-- the row and the column by turns: which of them is asked first makes no difference
crossed : (l a b c : Bool) → cond c (xor (l && a) (l && b)) (l && a) ≡ (l && cond b (xor a c) a)
unfolding xor
crossed false a b true = refl
crossed false a b false = refl
crossed true a true true = refl
crossed true a true false = sym (xor_false a)
crossed true a false true = xor_false a
crossed true a false false = refl

-- a set with a member isn't empty
some : (s k : ℕ) → member s k ≡ true → eqb s 0 ≡ false
some s k m = ne_eqb s 0 (λ p. true≢false (sym m ∙ ap (λ (x : ℕ). member x k) p ∙ member_empty k))

-- Where the tables were right by the rows, they are right by one row more, which is line e with e: v is what was left of e's set, u what it uses, c the column of its pivot
module _ (live : ℕ → Bool) (s : ℕ → ℕ) (rows : List Row) {rs us cs : List (List ℕ)} {es : List ℕ} (h : Kept live s rows rs us cs es) (v u c : ℕ) where
  abbrev row : Row
  row = record { vector = v; uses = u }

  abbrev off : ℕ → Reduced
  off k = take_off (reduce rows (s k)) row

  module _ (pc : c ≡ set_in cs (leading v)) where
    -- has the line the pivot?
    has : (k : ℕ) → member c k ≡ (live k && member (reduce rows (s k)).remainder (leading v))
    has k = ap (λ (x : ℕ). member x k) pc ∙ h.column (leading v) k

    module _ {rs' us' : List (List ℕ)} {es' : List ℕ} (swept : Swept v u c rs us es rs' us' es') where
      line_after : (k : ℕ) → live k ≡ true → line_at rs' us' k ≡ off k
      unfolding take_off
      line_after k l =
          swept.line k
          ∙ ap₂ (λ (b : Bool) (x : Reduced). cond b (plus x v u) x) (has k ∙ ap (λ (b : Bool). b && member (reduce rows (s k)).remainder (leading v)) l) (h.line k l)

      empty_after : (k : ℕ) → member (value es') k ≡ (live k && eqb (off k).remainder 0)
      unfolding take_off
      empty_after k =
          swept.empty k ∙ ap₂ (λ (x y : Bool). x || (y && eqb (set_in rs' k) 0)) (h.empty k) (has k)
          ∙ go (live k) (member (reduce rows (s k)).remainder (leading v)) refl (λ l. ap (λ (x : Reduced). eqb x.remainder 0) (line_after k l))
        where
          go : (l b : Bool) → member (reduce rows (s k)).remainder (leading v) ≡ b → (l ≡ true → eqb (set_in rs' k) 0 ≡ eqb (off k).remainder 0)
              → ((l && eqb (reduce rows (s k)).remainder 0) || ((l && b) && eqb (set_in rs' k) 0)) ≡ (l && eqb (off k).remainder 0)
          go false b p f = refl
          go true true p f = ap (λ (x : Bool). x || eqb (set_in rs' k) 0) (some (reduce rows (s k)).remainder (leading v) p) ∙ f refl
          go true false p f = or-false (eqb (reduce rows (s k)).remainder 0) ∙ sym (ap (λ (b : Bool). eqb (cond b (plus (reduce rows (s k)) v u) (reduce rows (s k))).remainder 0) p)

    column_after : {cs' : List (List ℕ)} → Flipped c v cs cs' → (q k : ℕ) → member (set_in cs' q) k ≡ (live k && member (off k).remainder q)
    unfolding take_off
    column_after {cs'} flipped q k =
        ap (λ (x : ℕ). member x k) (flipped.column q) ∙ inside (member v q)
        ∙ ap₂ (λ (x y : Bool). cond (member v q) (xor x y) x) (h.column q k) (has k)
        ∙ crossed (live k) (member (reduce rows (s k)).remainder q) (member (reduce rows (s k)).remainder (leading v)) (member v q)
        ∙ ap (λ (x : Bool). live k && x) (outside (member (reduce rows (s k)).remainder (leading v)))
      where
        inside : (b : Bool) → member (cond b (bit_xor (set_in cs q) c) (set_in cs q)) k ≡ cond b (xor (member (set_in cs q) k) (member c k)) (member (set_in cs q) k)
        inside true = member_sum (set_in cs q) c k
        inside false = refl

        outside : (b : Bool) → cond b (xor (member (reduce rows (s k)).remainder q) (member v q)) (member (reduce rows (s k)).remainder q)
            ≡ member (cond b (plus (reduce rows (s k)) v u) (reduce rows (s k))).remainder q
        outside true = sym (member_sum (reduce rows (s k)).remainder v q)
        outside false = refl

    kept_swept : {rs' us' cs' : List (List ℕ)} {es' : List ℕ} → Swept v u c rs us es rs' us' es' → Flipped c v cs cs' → Kept live s (rows ++ (row ∷ [])) rs' us' cs' es'
    kept_swept swept flipped = record {
      sizes = swept.sizes;
      size = flipped.size;
      line = λ k l. line_after swept k l ∙ sym (reduce_more rows row (s k));
      column = λ q k. column_after flipped q k ∙ sym (ap (λ (x : Reduced). live k && member x.remainder q) (reduce_more rows row (s k)));
      empty = λ k. empty_after swept k ∙ sym (ap (λ (x : Reduced). live k && eqb x.remainder 0) (reduce_more rows row (s k)));
    }

-- learning entry e: its line with e is the new row
module _ (live : ℕ → Bool) (s : ℕ → ℕ) (rows : List Row) {rs us cs : List (List ℕ)} {es : List ℕ} (h : Kept live s rows rs us cs es) (e : ℕ) (l : live e ≡ true) where
  pub kept_learnt : (v u c : ℕ) → v ≡ set_in rs e → u ≡ bit_xor (set_in us e) (single e) → c ≡ set_in cs (leading v) → eqb v 0 ≡ false → {rs' us' cs' : List (List ℕ)} {es' : List ℕ}
      → Swept v u c rs us es rs' us' es' → Flipped c v cs cs' → Kept live s (add_row rows e (reduce rows (s e))) rs' us' cs' es'
  kept_learnt v u c pv pu pc z {rs'} {us'} {cs'} {es'} swept flipped =
      subst (λ (x : List Row). Kept live s x rs' us' cs' es') (ap (λ (r : Row). rows ++ (r ∷ [])) (λ i. record { vector = left i; uses = used i }) ∙ sym (add_one_row rows e (s e) (ap (λ (n : ℕ). eqb n 0) (sym left) ∙ z)))
      (kept_swept live s rows h v u c pc swept flipped)
    where
      left : v ≡ (reduce rows (s e)).remainder
      left = pv ∙ ap (λ (x : Reduced). x.remainder) (h.line e l)

      used : u ≡ bit_xor (reduce rows (s e)).used (single e)
      used = pu ∙ ap (λ (x : Reduced). bit_xor x.used (single e)) (h.line e l)

  -- nothing is left of it: there is no new row
  pub kept_idle : eqb (set_in rs e) 0 ≡ true → Kept live s (add_row rows e (reduce rows (s e))) rs us cs es
  kept_idle z = subst (λ (x : List Row). Kept live s x rs us cs es) (sym (add_none rows e (s e) (sym (ap (λ (x : Reduced). x.remainder) (h.line e l)) ∙ eqb-true (set_in rs e) 0 z))) h

-- A line put into columns and empty lines
module _ (i set : ℕ) where
  flipped_member : {cs cs' : List (List ℕ)} → Flipped (single i) set cs cs' → (q k : ℕ) → member (set_in cs' q) k ≡ xor (member (set_in cs q) k) (eqb i k && member set q)
  flipped_member {cs} {cs'} f q k = ap (λ (x : ℕ). member x k) (f.column q) ∙ go (member set q)
    where
      go : (b : Bool) → member (cond b (bit_xor (set_in cs q) (single i)) (set_in cs q)) k ≡ xor (member (set_in cs q) k) (eqb i k && b)
      go true = member_sum (set_in cs q) (single i) k ∙ ap (xor (member (set_in cs q) k)) (member_single i k ∙ sym (and-true (eqb i k)))
      go false = sym (xor_false (member (set_in cs q) k)) ∙ ap (xor (member (set_in cs q) k)) (sym (and-false (eqb i k)))

  module _ {cs cs' : List (List ℕ)} (flipped : Flipped (single i) set cs cs') where
    -- an empty line joins the others
    pub entered_empty : {es es' : List ℕ} → eqb set 0 ≡ true → FourWords es' → value es' ≡ insert (value es) i → Entered i set cs es cs' es'
    entered_empty {es} {es'} z w p = record {
      size = flipped.size;
      words = w;
      column = flipped_member flipped;
      empty = λ k. ap (λ (x : ℕ). member x k) p ∙ member_insert (value es) i k ∙ ap (λ (b : Bool). member (value es) k || b) (sym (ap (λ (b : Bool). eqb i k && b) z ∙ and-true (eqb i k)));
    }

    pub entered_some : {es : List ℕ} → eqb set 0 ≡ false → FourWords es → Entered i set cs es cs' es
    entered_some {es} z w = record {
      size = flipped.size;
      words = w;
      column = flipped_member flipped;
      empty = λ k. sym (or-false (member (value es) k)) ∙ ap (λ (b : Bool). member (value es) k || b) (sym (ap (λ (b : Bool). eqb i k && b) z ∙ and-false (eqb i k)));
    }

-- four words that hold the empty set are all 0
no_word : (ws : List ℕ) → value ws ≡ 0 → (i : ℕ) → get_or ws i 0 ≡ 0
unfolding packed
no_word [] p i = refl
no_word (w ∷ ws) p zero = omega arith
no_word (w ∷ ws) p (suc i) = no_word ws (omega arith) i

pub no_words : (ws : List ℕ) → length ws ≡ 4 → value ws ≡ 0 → FourWords ws
no_words ws l p = record { four = l; below = λ i. omega (arith, no_word ws p i) }

-- The columns at the start: for no entry, and for one more
pub begun_none : (rs : List (List ℕ)) (reps : List ℕ) (cs : List (List ℕ)) (es : List ℕ) → length cs ≡ 256 → FourWords es → ((q : ℕ) → set_in cs q ≡ 0) → value es ≡ 0 → Begun 0 rs reps cs es
begun_none rs reps cs es l w z e = record {
  size = l;
  words = w;
  column = λ q k. ap (λ (x : ℕ). member x k) (z q) ∙ member_empty k ∙ sym (ap (λ (b : Bool). (b && eqb (get_or reps k 0) k) && member (set_in rs k) q) (le-ltb k 0 (omega arith)));
  empty = λ k. ap (λ (x : ℕ). member x k) e ∙ member_empty k ∙ sym (ap (λ (b : Bool). (b && eqb (get_or reps k 0) k) && eqb (set_in rs k) 0) (le-ltb k 0 (omega arith)));
}

-- a test that is false before entry n and then that of n
false_xor : (b : Bool) → xor false b ≡ b
unfolding xor
false_xor true = refl
false_xor false = refl

and_left : (a b : Bool) → (a && b) ≡ true → a ≡ true
and_left true b h = refl
and_left false b h = h

-- entry n is no head of those before, and any other is one where it was one
module _ (n : ℕ) (reps : List ℕ) where
  own : head_in reps n n ≡ false
  own = ap (λ (b : Bool). b && eqb (get_or reps n 0) n) (le-ltb n n (omega arith))

  next : {b : Bool} → eqb (get_or reps n 0) n ≡ b → head_in reps (n + 1) n ≡ b
  next p = ap (λ (b : Bool). b && eqb (get_or reps n 0) n) (lt-ltb n (n + 1) (omega arith)) ∙ p

  before : (k : ℕ) → ¬ (n ≡ k) → head_in reps (n + 1) k ≡ head_in reps n k
  before k g = ap (λ (b : Bool). b && eqb (get_or reps k 0) k) (by_cases (dec_lt k n) (λ l. lt-ltb k (n + 1) (omega arith) ∙ sym (lt-ltb k n l)) (λ l. le-ltb k (n + 1) (omega arith) ∙ sym (le-ltb k n (omega arith))))

  -- a head
  module _ (rs : List (List ℕ)) {cs : List (List ℕ)} {es : List ℕ} (h : Begun n rs reps cs es) where
    pub begun_head : {cs' : List (List ℕ)} {es' : List ℕ} → eqb (get_or reps n 0) n ≡ true → Entered n (set_in rs n) cs es cs' es' → Begun (n + 1) rs reps cs' es'
    begun_head {cs'} {es'} r f = record {
      size = f.size;
      words = f.words;
      column = λ q k. f.column q k ∙ ap (λ (b : Bool). xor b (eqb n k && member (set_in rs n) q)) (h.column q k) ∙ columns q k;
      empty = λ k. f.empty k ∙ ap (λ (b : Bool). b || (eqb n k && eqb (set_in rs n) 0)) (h.empty k) ∙ empties k;
    }
      where
        columns : (q k : ℕ) → xor (head_in reps n k && member (set_in rs k) q) (eqb n k && member (set_in rs n) q) ≡ (head_in reps (n + 1) k && member (set_in rs k) q)
        columns q k = by_cases (ℕ_discrete n k) same other
          where
            same : n ≡ k → xor (head_in reps n k && member (set_in rs k) q) (eqb n k && member (set_in rs n) q) ≡ (head_in reps (n + 1) k && member (set_in rs k) q)
            same p = subst (λ (j : ℕ). xor (head_in reps n j && member (set_in rs j) q) (eqb n j && member (set_in rs n) q) ≡ (head_in reps (n + 1) j && member (set_in rs j) q)) p
                (ap₂ (λ (a b : Bool). xor (a && member (set_in rs n) q) (b && member (set_in rs n) q)) own (eq-eqb n n refl)
                ∙ false_xor (member (set_in rs n) q) ∙ sym (ap (λ (b : Bool). b && member (set_in rs n) q) (next r)))

            other : ¬ (n ≡ k) → xor (head_in reps n k && member (set_in rs k) q) (eqb n k && member (set_in rs n) q) ≡ (head_in reps (n + 1) k && member (set_in rs k) q)
            other g =
                ap (λ (b : Bool). xor (head_in reps n k && member (set_in rs k) q) (b && member (set_in rs n) q)) (ne_eqb n k g)
                ∙ xor_false (head_in reps n k && member (set_in rs k) q) ∙ sym (ap (λ (b : Bool). b && member (set_in rs k) q) (before k g))

        empties : (k : ℕ) → ((head_in reps n k && eqb (set_in rs k) 0) || (eqb n k && eqb (set_in rs n) 0)) ≡ (head_in reps (n + 1) k && eqb (set_in rs k) 0)
        empties k = by_cases (ℕ_discrete n k) same other
          where
            same : n ≡ k → ((head_in reps n k && eqb (set_in rs k) 0) || (eqb n k && eqb (set_in rs n) 0)) ≡ (head_in reps (n + 1) k && eqb (set_in rs k) 0)
            same p = subst (λ (j : ℕ). ((head_in reps n j && eqb (set_in rs j) 0) || (eqb n j && eqb (set_in rs n) 0)) ≡ (head_in reps (n + 1) j && eqb (set_in rs j) 0)) p
                (ap₂ (λ (a b : Bool). (a && eqb (set_in rs n) 0) || (b && eqb (set_in rs n) 0)) own (eq-eqb n n refl)
                ∙ sym (ap (λ (b : Bool). b && eqb (set_in rs n) 0) (next r)))

            other : ¬ (n ≡ k) → ((head_in reps n k && eqb (set_in rs k) 0) || (eqb n k && eqb (set_in rs n) 0)) ≡ (head_in reps (n + 1) k && eqb (set_in rs k) 0)
            other g =
                ap (λ (b : Bool). (head_in reps n k && eqb (set_in rs k) 0) || (b && eqb (set_in rs n) 0)) (ne_eqb n k g)
                ∙ or-false (head_in reps n k && eqb (set_in rs k) 0) ∙ sym (ap (λ (b : Bool). b && eqb (set_in rs k) 0) (before k g))

    -- no head: nothing changes
    pub begun_other : eqb (get_or reps n 0) n ≡ false → Begun (n + 1) rs reps cs es
    begun_other r = record {
      size = h.size;
      words = h.words;
      column = λ q k. h.column q k ∙ ap (λ (b : Bool). b && member (set_in rs k) q) (same k);
      empty = λ k. h.empty k ∙ ap (λ (b : Bool). b && eqb (set_in rs k) 0) (same k);
    }
      where
        same : (k : ℕ) → head_in reps n k ≡ head_in reps (n + 1) k
        same k = by_cases (ℕ_discrete n k) (λ p. subst (λ (j : ℕ). head_in reps n j ≡ head_in reps (n + 1) j) p (own ∙ sym (next r))) (λ g. sym (before k g))

-- so where the remainders are the sets and nothing is used, the tables are right by no row
pub kept_begun : (n : ℕ) (s : ℕ → ℕ) {rs us : List (List ℕ)} {reps : List ℕ} {cs : List (List ℕ)} {es : List ℕ} → Begun n rs reps cs es → Sizes rs us es
    → ((k : ℕ) → k < n → set_in rs k ≡ s k) → ((k : ℕ) → set_in us k ≡ 0) → Kept (head_in reps n) s [] rs us cs es
unfolding reduce reduce_from
kept_begun n s {rs} {us} {reps} {cs} {es} h sizes sets none = record {
  sizes = sizes;
  size = h.size;
  line = λ k l. λ i. record { remainder = sets k (within k l) i; used = none k i };
  column = λ q k. h.column q k ∙ behind k (λ (x : ℕ). member x q);
  empty = λ k. h.empty k ∙ behind k (λ (x : ℕ). eqb x 0);
}
  where
    within : (k : ℕ) → head_in reps n k ≡ true → k < n
    within k l = ltb-true k n (and_left (ltb k n) (eqb (get_or reps k 0) k) l)

    behind : (k : ℕ) (f : ℕ → Bool) → (head_in reps n k && f (set_in rs k)) ≡ (head_in reps n k && f (s k))
    behind k f = go (head_in reps n k) refl
      where
        go : (b : Bool) → head_in reps n k ≡ b → (b && f (set_in rs k)) ≡ (b && f (s k))
        go true p = ap f (sets k (within k p))
        go false p = refl
