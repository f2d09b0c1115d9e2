-- What is missing of an entry: the sum test finds it, and there is only one.
-- Shown: `missing_found`, used set and remainder of the sum test are what is missing of an entry; `missing_is`, whatever is missing is these two sets;
-- so for any known heads there is exactly one such pair, `missing_exists` and `missing_unique`. The remainder is the lowest (`remainder_lowest`). None
-- of its entries is known (`remainder_unknown`); who can derive its sum can derive the entry's term (`missing_enough`). Where no step follows it isn't
-- empty, unless the entry is known (`missing_some`), and it holds no highest-numbered entry of any derivable sum (`missing_widest`). Assumes nothing.
use mathlib.Core.Path.{◌≡◌, refl, sym, ap, ap₂, ◌∙◌, subst}
use mathlib.Core.Bool.{Bool, true, false, true≢false, xor}
use mathlib.Core.List.Memᴰ
use mathlib.Core.List.{List, [], ◌∷◌, map, Memᴰ}
use Prim.Native.Nat.{ℕ, ◌≤◌, ◌<◌}
use native.Mathlib.Nat.{lt_of_lt_of_le}
use native.Mathlib.Omega.{arith}
use lib.Pow.{pow_pos}
use lib.Bits.{bit_xor, xor_zero_l, xor_zero_r}
use borrow.Author.Tests.{eq-eqb}
use Rattle.bitset.specs.Set.{member, leading}
use Rattle.bitset.proofs.Laws.Member.{member_empty, member_single, member_le, member_sum, xor_false}
use Rattle.bitset.proofs.Laws.Leading.{leading_member, leading_top}
use Rattle.bitset.proofs.Laws.Sums.{sum_cancel_right, sum_empty_same, sum_move}
use Rattle.deduction.specs.Term.{Term, ◌⊕◌, sum_of, ◌≈◌, unit, flip, then}
use Rattle.deduction.specs.Derivation.{Holds, Derivable}
use Rattle.deduction.specs.Setting.{Setting}
use Rattle.deduction.specs.Entry.{Entry, term_at, Downward}
use Rattle.deduction.specs.Standard.{xor_all, set_at, rep_at, standard, StandardSet, sum_of_set}
use Rattle.deduction.specs.Elimination.{Reduced, Knowledge, reduce}
use Rattle.deduction.specs.Step.{Step, step, unused, Follows, FollowsIn}
use Rattle.deduction.specs.Missing.{Leads, Missing}
use Rattle.deduction.proofs.Elimination.Spans.{Span, NoLeading, xor_over, Independent}
use Rattle.deduction.proofs.Elimination.Sums.{xor_over_empty, xor_over_sum, xor_over_span, xor_all_span, span_xor_all}
use Rattle.deduction.proofs.Elimination.Reduce.{reduce_both, reduce_none}
use Rattle.deduction.proofs.Elimination.State.{Learnt, independent_learnt, span_zero}
use Rattle.deduction.proofs.Elimination.{reduce_sum, used_independent, used_unique, remainder_no_leading, remainder_unique, row_span, row_nonempty}
use Rattle.deduction.proofs.Coding.{code, code_sum, same_code}
use Rattle.deduction.proofs.Pieces.{by_code}
use Rattle.deduction.proofs.Exactness.{exactness_sums}
use Rattle.deduction.proofs.Exactness.Derive.{derive_same, derive_sum, derive_set}
use Rattle.deduction.proofs.Standard.{set_sum, rep_same, code_items, items_standard}
use Rattle.deduction.proofs.Standard.Members.{members_le, standard_set_lem}
use Rattle.deduction.proofs.Standard.Codes.{code_at, code_sum_of_set, code_set}
use Rattle.deduction.proofs.Standard.Independent.{set_standard, sum_standard, standard_sets_same}
use Rattle.deduction.proofs.Standard.SumTest.{code_over, over_standard, sum_test_total}
use Rattle.deduction.proofs.Steps.Head.{Heads, rep_is_head}
use Rattle.deduction.proofs.Steps.Next.{knowledge_learnt}
use Rattle.deduction.proofs.Steps.Closed.{sum_heads, closed}
use Rattle.deduction.proofs.Steps.Drawn.{drawn_independent}

-- two that don't differ are equal
xor_none : (a b : Bool) → xor a b ≡ false → a ≡ b
unfolding xor
xor_none true true p = refl
xor_none true false p = absurd (true≢false p)
xor_none false true p = absurd (true≢false p)
xor_none false false p = refl

module _ (e : ℕ → Entry) (n : ℕ) (down : Downward e n) {es : List ℕ} where
  -- a known standard entry leads
  known_leads : (j : ℕ) → j < n → standard e j ≡ true → Memᴰ j es → Leads e n es j
  unfolding sum_of
  known_leads j low s c =
      record {
        items = j ∷ [];
        known = λ x m. subst (λ (y : ℕ). Memᴰ y es) (sym (Memᴰ.eq_of_singleton m)) c;
        set = set_at e j;
        standards = set_standard e n down j low;
        same = then unit (set_sum e n down j low);
        inside = ap (λ (x : ℕ). member x j) (standard_set_lem e n down j low s) ∙ member_single j j ∙ eq-eqb j j refl;
        highest = λ x m. members_le e n down j low x m;
      }

  -- what the two sets mean
  module _ {i u r : ℕ} (m : Missing e n es i u r) where
    -- no entry of the remainder is known
    pub remainder_unknown : (j : ℕ) → member r j ≡ true → ¬ Memᴰ j es
    remainder_unknown j h c = let (lj, s) = m.standards j h in m.bare j h (known_leads j lj s c)

    -- with sum, and with the used terms, who can derive the sum of the remainder's terms can derive the entry's
    pub missing_enough : {on : Setting} → on 6 ≡ true → (start : List Term) → ((j : ℕ) → member u j ≡ true → Derivable on start (term_at e j))
        → Derivable on start (sum_of_set (term_at e) n r) → Derivable on start (term_at e i)
    missing_enough o start each rest = derive_same (derive_sum o (derive_set (term_at e) n u o each) rest) (flip m.total)

module _ (e : ℕ → Entry) (n : ℕ) (down : Downward e n) {es : List ℕ} {k : Knowledge} (l : Learnt (set_at e) n es k) where
  -- the set of a sum of known terms is in the span of their sets
  leads_span : {j : ℕ} (w : Leads e n es j) → Span (map (set_at e) es) w.set
  leads_span w =
      let below : (j : ℕ) → Memᴰ j w.items → j < n = λ j m. l.below j (w.known j m) in
      let one : xor_all (set_at e) w.items ≡ w.set =
      standard_sets_same e n down (xor_all (set_at e) w.items) w.set (items_standard e n down w.items below) w.standards
      (sym (code_items e n down w.items below) ∙ same_code w.same ∙ code_sum_of_set (term_at e) n w.set) in
      subst (Span (map (set_at e) es)) one (xor_all_span (set_at e) es w.items w.known)

  -- and the highest-numbered entry of a set is its leading one
  leads_leading : {j : ℕ} (w : Leads e n es j) → leading w.set ≡ j
  leads_leading {j} w =
      let some : 0 < w.set = lt_of_lt_of_le (pow_pos j) (member_le w.set j w.inside) in
      omega (arith, w.highest (leading w.set) (leading_member w.set some), leading_top w.set j w.inside)

  leads_some : {j : ℕ} (w : Leads e n es j) → ¬ (w.set ≡ 0)
  leads_some {j} w z = true≢false (sym w.inside ∙ ap (λ (s : ℕ). member s j) z ∙ member_empty j)

  -- a set in the span that isn't empty has a leading entry, which leads
  span_leads : (w : ℕ) → Span (map (set_at e) es) w → ¬ (w ≡ 0) → Leads e n es (leading w)
  span_leads w h some =
      let (js, known, is) = span_xor_all (set_at e) es h in
      let below : (j : ℕ) → Memᴰ j js → j < n = λ j m. l.below j (known j m) in
      record {
        items = js;
        known = known;
        set = w;
        standards = subst (StandardSet e n) is (items_standard e n down js below);
        same = by_code (code_items e n down js below ∙ ap (xor_over (code_at e) n) is ∙ sym (code_sum_of_set (term_at e) n w));
        inside = leading_member w (omega arith);
        highest = λ j m. leading_top w j m;
      }

  module _ (i : ℕ) (low : i < n) where
    -- whatever is missing is what the sum test finds
    module _ {u r : ℕ} (m : Missing e n es i u r) where
      free : (j : ℕ) → member u j ≡ true → Independent (set_at e) es j
      free j h = (drawn_independent e n down es l.below j).0 (m.drawn j h)

      -- the entry's set is the sum of the used entries' sets and the remainder
      split : set_at e i ≡ bit_xor (xor_over (set_at e) n u) r
      split =
          standard_sets_same e n down (set_at e i) (bit_xor (xor_over (set_at e) n u) r) (set_standard e n down i low)
          (sum_standard e n down (xor_over (set_at e) n u) r (over_standard e n down u) m.standards)
          (sym (code_set e n down i low) ∙ same_code m.total ∙ code_sum (sum_of_set (term_at e) n u) (sum_of_set (term_at e) n r)
          ∙ ap₂ bit_xor (code_over e n down u) (code_sum_of_set (term_at e) n r) ∙ sym (xor_over_sum (code_at e) n (xor_over (set_at e) n u) r))

      no_leading : NoLeading (map (set_at e) es) r
      no_leading w h some = go (member r (leading w)) refl
        where
          go : (b : Bool) → member r (leading w) ≡ b → member r (leading w) ≡ false
          go true p = absurd (m.bare (leading w) p (span_leads w h some))
          go false p = p

      pub missing_is : (u ≡ (reduce k.rows (set_at e i)).used) × (r ≡ (reduce k.rows (set_at e i)).remainder)
      missing_is =
          let own = (used_unique l (xor_over (set_at e) n u) u free refl).1 in
          let rest = reduce_none k.rows r (λ q c. no_leading q.vector (row_span l q c) (row_nonempty l q c)) in
          let whole = ap (reduce k.rows) split ∙ reduce_both k.rows (xor_over (set_at e) n u) r in (
            sym (ap (λ (x : Reduced). x.used) whole ∙ ap₂ bit_xor (sym own) (ap (λ (x : Reduced). x.used) rest) ∙ xor_zero_r u),
            remainder_unique l (set_at e i) (xor_over (set_at e) n u) r split (xor_over_span (set_at e) es n u (λ j h. independent_learnt (free j h))) no_leading,
          )

      -- the remainder is the lowest of all: with any other set of standard entries that gives the entry's term together with known terms, the highest
      -- entry in which the two differ stands in the other
      pub remainder_lowest : (js : List ℕ) → ((j : ℕ) → Memᴰ j js → Memᴰ j es) → (x : ℕ) → StandardSet e n x
          → term_at e i ≈ sum_of (map (term_at e) js) ⊕ sum_of_set (term_at e) n x → ¬ (x ≡ r)
          → (j : ℕ) × (member x j ≡ true) × (member r j ≡ false) × ((h : ℕ) → j < h → member x h ≡ member r h)
      remainder_lowest js known x standards total other = (leading d, in_x, not_in_r, above)
        where
          below : (j : ℕ) → Memᴰ j js → j < n
          below j c = l.below j (known j c)

          parts : set_at e i ≡ bit_xor (xor_all (set_at e) js) x
          parts =
              standard_sets_same e n down (set_at e i) (bit_xor (xor_all (set_at e) js) x) (set_standard e n down i low)
              (sum_standard e n down (xor_all (set_at e) js) x (items_standard e n down js below) standards)
              (sym (code_set e n down i low) ∙ same_code total ∙ code_sum (sum_of (map (term_at e) js)) (sum_of_set (term_at e) n x)
              ∙ ap₂ bit_xor (code_items e n down js below) (code_sum_of_set (term_at e) n x) ∙ sym (xor_over_sum (code_at e) n (xor_all (set_at e) js) x))

          -- both leave the same remainder
          left : r ≡ (reduce k.rows x).remainder
          left =
              missing_is.1 ∙ ap (λ (y : Reduced). y.remainder) (ap (reduce k.rows) parts ∙ reduce_both k.rows (xor_all (set_at e) js) x)
              ∙ ap (λ (y : ℕ). bit_xor y (reduce k.rows x).remainder) (span_zero l (xor_all_span (set_at e) es js known)) ∙ xor_zero_l (reduce k.rows x).remainder

          -- so their difference is a sum of known sets
          d : ℕ
          d = bit_xor x r

          taken : ℕ
          taken = xor_over (set_at e) n (reduce k.rows x).used

          differ : d ≡ taken
          differ = ap (λ (y : ℕ). bit_xor y r) (sym (ap (bit_xor taken) left ∙ reduce_sum l x)) ∙ sum_cancel_right taken r

          some : ¬ (d ≡ 0)
          some z = other (sum_empty_same x r z)

          not_in_r : member r (leading d) ≡ false
          not_in_r =
              no_leading d
              (subst (Span (map (set_at e) es)) (sym differ) (xor_over_span (set_at e) es n (reduce k.rows x).used (λ j c. independent_learnt (used_independent l x j c)))) some

          in_x : member x (leading d) ≡ true
          in_x = sym (xor_false (member x (leading d))) ∙ ap (xor (member x (leading d))) (sym not_in_r) ∙ sym (member_sum x r (leading d)) ∙ leading_member d (omega (arith, some))

          above : (h : ℕ) → leading d < h → member x h ≡ member r h
          above h c = go (member d h) refl
            where
              go : (b : Bool) → member d h ≡ b → member x h ≡ member r h
              go true p = absurd (let q = leading_top d h p in omega arith)
              go false p = xor_none (member x h) (member r h) (sym (member_sum x r h) ∙ p)

      -- where sum is on, no step follows and the entry isn't known, something remains
      pub missing_some : (on : Setting) → on 6 ≡ true → ¬ Holds (map (term_at e) es) (term_at e i) → ((s : Step) → ¬ FollowsIn on (term_at e) n es s) → ¬ (r ≡ 0)
      missing_some on o unknown stuck z =
          stuck (step (rep_at e i) 6 unused unused u) (
            o,
            Follows.sum u (rep_is_head e n down i low, λ c. unknown (term_at e (rep_at e i), Memᴰ.map (term_at e) c, rep_same e n down i low)) m.drawn
                (then (rep_same e n down i low) (by_code (same_code m.total ∙ without))),
          )
        where
          without : code (sum_of_set (term_at e) n u ⊕ sum_of_set (term_at e) n r) ≡ code (sum_of_set (term_at e) n u)
          without =
              code_sum (sum_of_set (term_at e) n u) (sum_of_set (term_at e) n r)
              ∙ ap (bit_xor (code (sum_of_set (term_at e) n u))) (code_sum_of_set (term_at e) n r ∙ ap (xor_over (code_at e) n) z ∙ xor_over_empty (code_at e) n)
              ∙ xor_zero_r (code (sum_of_set (term_at e) n u))

    -- the sum test finds what is missing
    pub missing_found : Missing e n es i (reduce k.rows (set_at e i)).used (reduce k.rows (set_at e i)).remainder
    missing_found =
        record {
          total = sum_test_total e n down l i low;
          drawn = λ j m. (drawn_independent e n down es l.below j).1 (used_independent l (set_at e i) j m);
          standards = subst (StandardSet e n) (sym (sum_move (xor_over (set_at e) n used) remainder (set_at e i) (reduce_sum l (set_at e i))))
              (sum_standard e n down (xor_over (set_at e) n used) (set_at e i) (over_standard e n down used) (set_standard e n down i low));
          bare = λ j m w.
              true≢false (sym m ∙ ap (member remainder) (sym (leads_leading w)) ∙ remainder_no_leading l (set_at e i) w.set (leads_span w) (leads_some w));
        }
      where
        used : ℕ
        used = (reduce k.rows (set_at e i)).used

        remainder : ℕ
        remainder = (reduce k.rows (set_at e i)).remainder

-- "which makes it unique": for any heads known, and any entry, there is exactly one such pair of sets
module _ (e : ℕ → Entry) (n : ℕ) (down : Downward e n) (es : List ℕ) (hs : Heads e n es) (i : ℕ) (low : i < n) where
  pub missing_exists : (u r : ℕ) × Missing e n es i u r
  missing_exists = let l = knowledge_learnt e n down es hs in (_, _, missing_found e n down l i low)

  pub missing_unique : {u r u' r' : ℕ} → Missing e n es i u r → Missing e n es i u' r' → (u ≡ u') × (r ≡ r')
  missing_unique m m' =
      let l = knowledge_learnt e n down es hs in
      let (p, q) = missing_is e n down l i low m in
      let (p', q') = missing_is e n down l i low m' in
      (p ∙ sym p', q ∙ sym q')

  -- where no step follows from heads that have the start, every derivable term that is a sum of standard entries is a sum of known terms: so the
  -- remainder holds no highest-numbered entry of any of them, whatever terms the derivation goes through
  module _ (on : Setting) (start : List ℕ) (from : (j : ℕ) → Memᴰ j start → Memᴰ j es) (stuck : (s : Step) → ¬ FollowsIn on (term_at e) n es s) where
    derivable_leads : (w j : ℕ) → StandardSet e n w → Derivable on (map (term_at e) start) (sum_of_set (term_at e) n w)
        → member w j ≡ true → ((h : ℕ) → member w h ≡ true → h ≤ j) → Leads e n es j
    derivable_leads w j standards (g, d, held) inside highest =
        let (js, known, sum) =
        exactness_sums on e n down (λ x. Memᴰ (rep_at e x) es) (closed e n down es hs on stuck) start
        (λ x c. ((hs x (from x c)).0, Memᴰ.cast (hs x (from x c)).1 (from x c))) g d w held in
        record {
          items = map (rep_at e) js;
          known = λ x c. let (y, p, q) = Memᴰ.of_map (rep_at e) js c in subst (λ (z : ℕ). Memᴰ z es) q (known y p).1;
          set = w;
          standards = standards;
          same = then (flip (sum_heads e n down js (λ x c. (known x c).0))) sum;
          inside = inside;
          highest = highest;
        }

    pub missing_widest : {u r : ℕ} → Missing e n es i u r → (w j : ℕ) → StandardSet e n w → Derivable on (map (term_at e) start) (sum_of_set (term_at e) n w)
        → member w j ≡ true → ((h : ℕ) → member w h ≡ true → h ≤ j) → ¬ (member r j ≡ true)
    missing_widest m w j standards d inside highest h = m.bare j h (derivable_leads w j standards d inside highest)
