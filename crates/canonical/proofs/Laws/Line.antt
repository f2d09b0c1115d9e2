-- One line more: what the tables' first i lines say of entry i.
-- Shown: for a good sheet whose tables are right so far, and whose entries so far are in their buckets, what a search in a bucket finds; the line of
-- zero or a sum, and the line of any other entry, be it built like an earlier entry or new. Assumes nothing.
use mathlib.Core.Path.{◌≡◌, refl, sym, ap, ap₂, ◌∙◌, subst}
use mathlib.Core.Bool.{true}
use mathlib.Core.Logic.{by_cases}
use mathlib.Core.List.{List, Memᴰ}
use Rattle.std.proofs.Common.{Option, Some, None, unwrap_or}
use Rattle.std.specs.Option.{option_map_or}
use Prim.Native.Nat.{ℕ, ◌^◌, ◌≤◌, ◌<◌}
use native.Mathlib.Nat.{le_refl, lt-suc_self}
use native.Mathlib.Decide.{ℕ_discrete}
use native.Mathlib.Omega.{arith}
use lib.Dec.{eqb}
use lib.ListN.{length}
use lib.Pow.{pow-lt}
use borrow.Author.Tests.{eqb-true, eq-eqb}
use Rattle.bitset.specs.Set.{member, leading}
use Rattle.bitset.specs.Words.{value}
use Rattle.bitset.specs.Inner.{FourWords}
use Rattle.bitset.proofs.Laws.Leading.{leading_between}
use Rattle.bitset.proofs.Laws.Member.{member_single}
use Rattle.deduction.specs.Entry.{Entry, parts, Downward}
use Rattle.deduction.specs.Standard.{least, first_alike, xor_all, set_at, rep_at}
use Rattle.deduction.proofs.Standard.{rep_set, rep_of_set}
use Rattle.deduction.proofs.Standard.Least.{least_same}
use Rattle.deduction.proofs.Standard.Sets.{set_at_build, xor_all_same}
use Rattle.deduction.proofs.Standard.First.{first, set_first}
use Rattle.deduction.proofs.Standard.Members.{members_le, members_standard, rep_first, standard_head, standard_set_lem}
use Rattle.dag.specs.Sheet.{count_of, record_at, listed}
use Rattle.dag.specs.Record.{kind_of, fits, item_count, item_at, decode, entry_at}
use Rattle.dag.specs.Refusal.{refusal}
use Rattle.dag.proofs.Laws.Parts.{item_listed}
use Rattle.dag.proofs.Laws.Good.{Good, good}
use Rattle.canonical.specs.Inner.Key.{key_of, key_at}
use Rattle.canonical.specs.Inner.Tables.{set_in, number_in, RightLine, Right}
use Rattle.canonical.specs.Inner.Buckets.{key_bucket, set_bucket, Bucketed, Alone, Candidates, FoundIn}
use Rattle.canonical.proofs.Laws.Key.{Narrow, key_same, key_alike, key_plain}
use Rattle.canonical.proofs.Laws.Search.{found_below, found_least}
use Rattle.canonical.proofs.Laws.Record.{Bytes, items_parts, parts_set, narrow_bytes}

-- the tables are right for the entries before i
module _ (e : ℕ → Entry) (n : ℕ) (down : Downward e n) (few : n ≤ 256) (narrow : Narrow e n) (i : ℕ) (h : i < n)
    (keys : List ℕ) (sets : List (List ℕ)) (reps : List ℕ) (right : Right e i keys sets reps) where
  line_key : key_of (number_in reps) (e i) ≡ key_at e i
  line_key = key_same (number_in reps) (rep_at e) (e i) (λ j m. right.rep j (down i j h m))

  -- an entry with a key: the first entry with its key is its representative, and has its set; a new one has itself alone
  line_first : ¬ (key_at e i ≡ 0) → least (λ j. eqb (number_in keys j) (key_at e i)) i ≡ rep_at e i
  unfolding first_alike
  line_first p =
      least_same _ _ i (λ j l. ap (λ (k : ℕ). eqb k (key_at e i)) (right.key j l) ∙ key_alike e n down few narrow i j h (omega arith))
      ∙ sym (rep_first e n down i h (key_plain (rep_at e) (set_at e) (e i) p))

  line_found : rep_at e i < i → set_in sets (rep_at e i) ≡ set_at e i
  line_found l = right.set (rep_at e i) l ∙ rep_set e i

  line_new : ¬ (key_at e i ≡ 0) → rep_at e i ≡ i → 2 ^ i ≡ set_at e i
  line_new p q = sym (standard_set_lem e n down i h ((standard_head e i).1 (q, key_plain (rep_at e) (set_at e) (e i) p)))

  -- zero and sums: the sum of the sets of the parts; the first entry with its set is the representative
  line_sum : key_at e i ≡ 0 → xor_all (set_in sets) (parts (e i)) ≡ set_at e i
  line_sum p =
      xor_all_same (set_in sets) (set_at e) (parts (e i)) (λ j m. right.set j (down i j h m)) ∙ sym (parts_set (rep_at e) (set_at e) e i (e i) p)
      ∙ sym (set_at_build e n down i h)

  line_rep : (v : ℕ) → v ≡ set_at e i → least (λ j. eqb (set_in sets j) v) i ≡ rep_at e i
  unfolding rep_at
  line_rep v p = least_same _ _ i (λ j l. ap₂ eqb (right.set j l) p)

  -- an entry with a key has a set of one member
  keyed_alone : (j : ℕ) → j < n → ¬ (key_at e j ≡ 0) → Alone (set_at e j)
  keyed_alone j l f =
      let q = set_first e n down j l (key_plain (rep_at e) (set_at e) (e j) f) in
      q ∙ ap (λ (x : ℕ). 2 ^ x) (sym (leading_between (2 ^ first e j) (first e j) (le_refl (2 ^ first e j)) (pow-lt (lt-suc_self (first e j)))) ∙ ap leading (sym q))

  -- a set of one member is that of the member, which is the representative
  line_alone : Alone (set_at e i) → leading (set_at e i) ≡ rep_at e i
  line_alone a =
      let k = leading (set_at e i) in
      let m : member (set_at e i) k ≡ true = ap (λ (x : ℕ). member x k) a ∙ member_single k k ∙ eq-eqb k k refl in
      let s = members_standard e n down i h k m in
      let l : k < n = omega (arith, members_le e n down i h k m) in
      sym ((standard_head e k).0 s).0 ∙ sym (rep_of_set e i k (a ∙ sym (standard_set_lem e n down k l s)))

  -- what a search in a bucket finds: an entry with the key, and one with a set of not one member, which has no key
  module _ (buckets : List (List ℕ)) (b : Bucketed e i buckets) where
    key_candidates : {k : ℕ} → ¬ (k ≡ 0) → Candidates (λ j. eqb (number_in keys j) k) i (set_in buckets (key_bucket k))
    key_candidates {k} f = record { every = every; within = b.within (key_bucket k) }
      where
        every : (j : ℕ) → j < i → eqb (number_in keys j) k ≡ true → member (set_in buckets (key_bucket k)) j ≡ true
        every j l t =
            let q : key_at e j ≡ k = sym (right.key j l) ∙ eqb-true (number_in keys j) k t in
            subst (λ (x : ℕ). member (set_in buckets (key_bucket x)) j ≡ true) q (b.key j l (λ z. f (sym q ∙ z)))

    set_candidates : (ws : List ℕ) → FourWords ws → ¬ Alone (value ws) → Candidates (λ j. eqb (set_in sets j) (value ws)) i (set_in buckets (set_bucket ws))
    set_candidates ws four f = record { every = every; within = b.within (set_bucket ws) }
      where
        every : (j : ℕ) → j < i → eqb (set_in sets j) (value ws) ≡ true → member (set_in buckets (set_bucket ws)) j ≡ true
        every j l t =
            let q : set_at e j ≡ value ws = sym (right.set j l) ∙ eqb-true (set_in sets j) (value ws) t in
            by_cases (ℕ_discrete (key_at e j) 0) (λ z. b.set j l z ws four (sym q)) (λ g. absurd (f (subst (λ (x : ℕ). Alone x) q (keyed_alone j (omega arith) g))))

-- a good sheet whose tables are right for the entries before i, which are in their buckets, and its record i
pub record Ready (s : List ℕ) (i : ℕ) (keys : List ℕ) (sets : List (List ℕ)) (reps : List ℕ) (buckets : List (List ℕ)) (r : List ℕ) : Type 0 where
  pub bytes : Bytes s
  pub accepted : refusal s ≡ 0
  pub within : i < count_of s
  pub right : Right (entry_at s) i keys sets reps
  pub bucketed : Bucketed (entry_at s) i buckets
  pub same : r ≡ record_at s i

module _ {s : List ℕ} {i : ℕ} {keys : List ℕ} {sets : List (List ℕ)} {reps : List ℕ} {buckets : List (List ℕ)} {r : List ℕ}
    (g : Ready s i keys sets reps buckets r) where
  ok : Good s
  ok = good s g.accepted

  pub parts_below : (j : ℕ) → Memᴰ j (parts (decode r)) → j < 256
  parts_below j m = omega (arith, ok.few, ok.downward i j g.within (subst (λ (l : List ℕ). Memᴰ j (parts (decode l))) g.same m))

  down : Downward (entry_at s) (count_of s)
  down = ok.downward

  few : count_of s ≤ 256
  few = ok.few

  narrow : Narrow (entry_at s) (count_of s)
  narrow = narrow_bytes s (count_of s) g.bytes

  key_right_lem : {k : ℕ} → k ≡ key_of (number_in reps) (decode r) → k ≡ key_at (entry_at s) i
  key_right_lem p =
      p ∙ ap (λ (l : List ℕ). key_of (number_in reps) (decode l)) g.same
      ∙ line_key (entry_at s) (count_of s) down few narrow i g.within keys sets reps g.right

  items : key_of (number_in reps) (decode r) ≡ 0 → parts (decode r) ≡ listed (item_at r) (item_count r)
  items = items_parts (number_in reps) r (kind_of r) (ap (λ (l : List ℕ). fits (kind_of l) (length l)) g.same ∙ ok.kinds i g.within)

  pub items_below : {k : ℕ} → k ≡ key_of (number_in reps) (decode r) → k ≡ 0 → (j : ℕ) → j < item_count r → item_at r j < 256
  items_below p z j l = parts_below (item_at r j) (subst (Memᴰ (item_at r j)) (sym (items (sym p ∙ z))) (item_listed (item_at r) (item_count r) j l))

  -- the search for a set, in its bucket
  pub set_sought : (ws : List ℕ) {at : ℕ} → FourWords ws → at ≡ set_bucket ws → ¬ Alone (value ws) → Candidates (λ j. eqb (set_in sets j) (value ws)) i (set_in buckets at)
  set_sought ws four p f =
      subst (λ (x : ℕ). Candidates (λ j. eqb (set_in sets j) (value ws)) i (set_in buckets x)) (sym p)
      (set_candidates (entry_at s) (count_of s) down few narrow i g.within keys sets reps g.right buckets g.bucketed ws four f)

  -- zero and sums
  pub sum_line : {k rep : ℕ} {set : List ℕ} → k ≡ key_of (number_in reps) (decode r) → k ≡ 0 → value set ≡ xor_all (set_in sets) (listed (item_at r) (item_count r))
      → (Alone (value set) → rep ≡ leading (value set)) → (¬ Alone (value set) → rep ≡ least (λ j. eqb (set_in sets j) (value set)) i) → RightLine (entry_at s) i k set rep
  sum_line {set = set} p z q alone found =
      let v : value set ≡ set_at (entry_at s) i =
      q ∙ ap (xor_all (set_in sets)) (sym (items (sym p ∙ z)) ∙ ap (λ (l : List ℕ). parts (decode l)) g.same)
      ∙ line_sum (entry_at s) (count_of s) down few narrow i g.within keys sets reps g.right (sym (key_right_lem p) ∙ z) in
      record {
        key = key_right_lem p;
        set = v;
        rep =
            by_cases (ℕ_discrete (value set) (2 ^ leading (value set)))
            (λ a. alone a ∙ ap leading v ∙ line_alone (entry_at s) (count_of s) down few narrow i g.within keys sets reps g.right (subst (λ (x : ℕ). Alone x) v a))
            (λ f. found f ∙ line_rep (entry_at s) (count_of s) down few narrow i g.within keys sets reps g.right (value set) v);
      }

  -- any other kind
  first_right : {k f : ℕ} → k ≡ key_of (number_in reps) (decode r) → ¬ (k ≡ 0) → f ≡ least (λ j. eqb (number_in keys j) k) i → f ≡ rep_at (entry_at s) i
  first_right p z q =
      q ∙ ap (λ (x : ℕ). least (λ j. eqb (number_in keys j) x) i) (key_right_lem p)
      ∙ line_first (entry_at s) (count_of s) down few narrow i g.within keys sets reps g.right (λ w. z (key_right_lem p ∙ w))

  -- first is what the search for the key gives, in its bucket
  pub standard_line : {k at rep : ℕ} {first : Option ℕ} {set : List ℕ} → k ≡ key_of (number_in reps) (decode r) → ¬ (k ≡ 0) → at ≡ key_bucket k
      → FoundIn (λ j. eqb (number_in keys j) k) (set_in buckets at) first → rep ≡ unwrap_or first i → value set ≡ option_map_or (set_in sets) first (2 ^ i) → RightLine (entry_at s) i k set rep
  standard_line {k = k} {rep = rep} {first = first} {set = set} p z b f q v = record { key = key_right_lem p; set = alike first refl; rep = right }
    where
      c : Candidates (λ j. eqb (number_in keys j) k) i (set_in buckets (key_bucket k))
      c = key_candidates (entry_at s) (count_of s) down few narrow i g.within keys sets reps g.right buckets g.bucketed z

      found : FoundIn (λ j. eqb (number_in keys j) k) (set_in buckets (key_bucket k)) first
      found = subst (λ (x : ℕ). FoundIn (λ j. eqb (number_in keys j) k) (set_in buckets x) first) b f

      right : rep ≡ rep_at (entry_at s) i
      right = q ∙ first_right p z (found_least c found (omega (arith, few, g.within)))

      alike : (o : Option ℕ) → first ≡ o → value set ≡ set_at (entry_at s) i
      alike (Some j) e =
          let same : rep ≡ j = q ∙ ap (λ (x : Option ℕ). unwrap_or x i) e in
          v ∙ ap (λ (x : Option ℕ). option_map_or (set_in sets) x (2 ^ i)) e ∙ ap (set_in sets) (sym same ∙ right)
          ∙ line_found (entry_at s) (count_of s) down few narrow i g.within keys sets reps g.right (subst (λ (x : ℕ). x < i) (sym same ∙ right) (found_below c found j e))
      alike None e =
          v ∙ ap (λ (x : Option ℕ). option_map_or (set_in sets) x (2 ^ i)) e
          ∙ line_new (entry_at s) (count_of s) down few narrow i g.within keys sets reps g.right (λ w. z (key_right_lem p ∙ w)) (sym right ∙ q ∙ ap (λ (x : Option ℕ). unwrap_or x i) e)
