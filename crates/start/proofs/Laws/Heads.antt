-- The public atoms and the heard messages, listed one by one from the tables.
-- Shown: what one more adds; the whole list is that of the heads gained at the start, each once (`start_listed`), each is live (`list_live`), and they teach what is known at the start (`list_taught`).
-- Also: every entry that is gained at the start is one (`start_below`).
-- Assumes nothing.
use mathlib.Core.Path.{◌≡◌, refl, sym, ap, ap₂, ◌∙◌, subst}
use mathlib.Core.Bool.{Bool, true, false, ◌&&◌, cond}
use mathlib.Core.List.Memᴰ
use mathlib.Core.List.{List, [], ◌∷◌, ◌++◌, map, map-append, append-nil, Memᴰ}
use mathlib.Core.Logic.{⊎_elim, by_cases}
use Prim.Native.Nat.{ℕ, zero, suc, ◌+◌, ◌*◌, ◌^◌, ◌≤◌, ◌<◌}
use native.Mathlib.Decide.{dec_lt}
use native.Mathlib.Nat.{le_refl, le_trans}
use native.Mathlib.Omega.{arith}
use native.Mathlib.Numerals.{add-one}
use borrow.Author.Tests.{eq-eqb, lt-ltb, le-ltb, le-leb}
use lib.Dec.{eqb}
use lib.ListN.{get_or}
use Rattle.deduction.specs.Entry.{Entry, Zero, Atom, Pair, Enc, Sum, Half, Aenc}
use Rattle.deduction.specs.Elimination.{learn_all, nothing}
use Rattle.deduction.specs.Standard.{set_at, rep_at}
use Rattle.deduction.specs.Run.{knowledge}
use Rattle.deduction.proofs.Standard.{rep_le, rep_rep}
use Rattle.dag.specs.Sheet.{count_of, trace_length, trace_at, trace_of, listed}
use Rattle.dag.specs.Record.{entry_at}
use Rattle.dag.specs.Refusal.{refusal}
use Rattle.dag.proofs.Laws.Good.{good}
use Rattle.canonical.specs.Inner.Key.{key_of, opener_of, open_key_at}
use Rattle.deduction.proofs.Standard.First.{half_range}
use Rattle.knowledge.specs.Inner.Lines.{head_in}
use Rattle.start.specs.Start.{is_public, public_heads, start_entries, start_heads}
use Rattle.start.specs.Inner.State.{public_key, Keyed, Represented}
use Rattle.start.specs.Inner.Heads.{with_head, with_heads}
use Rattle.start.specs.Inner.Hearing.{Live}
use Rattle.start.proofs.Public.{public_only, public_own}
use Rattle.start.proofs.Laws.Repeats.{with_both, with_more, with_none, with_from, with_taught}

-- a key tells whether its entry is a public atom: with what opens a lock or without, no other key is as low as an atom's, but zero's
other : (K : ℕ) → 2 * 2 ^ 32 ≤ K → public_key K ≡ false
other K h = ap₂ ◌&&◌ (le-leb (2 ^ 32) K (omega arith)) (le-ltb K (2 ^ 32 + 256) (omega arith))

key_public : (rep : ℕ → ℕ) (e : ℕ → Entry) (n : ℕ) (d : Entry) (K : ℕ) → K ≡ key_of rep d + opener_of e n d * 65536 → public_key K ≡ is_public d
unfolding key_of opener_of is_public
key_public rep e n Zero K q = ap public_key q
key_public rep e n (Atom a) K q = ap public_key q
    ∙ ap₂ ◌&&◌ (le-leb (2 ^ 32) (2 ^ 32 + a + 0 * 65536) (omega arith))
    (by_cases (dec_lt a 256) (λ h. lt-ltb (2 ^ 32 + a + 0 * 65536) (2 ^ 32 + 256) (omega arith) ∙ sym (lt-ltb a 256 h)) (λ h. le-ltb (2 ^ 32 + a + 0 * 65536) (2 ^ 32 + 256) (omega arith) ∙ sym (le-ltb a 256 (omega arith))))
key_public rep e n (Pair l r) K q = other K (omega arith)
key_public rep e n (Enc m k) K q = other K (omega arith)
key_public rep e n (Sum items) K q = ap public_key q
key_public rep e n (Half s a) K q = other K (omega (arith, half_range s))
key_public rep e n (Aenc m k) K q = other K (omega (arith, q))

-- what the tables say of entry i
pub head_test : (s keys reps : List ℕ) → Keyed s keys → Represented s reps → (i : ℕ) → i < count_of s
    → (public_key (get_or keys i 0) && eqb (get_or reps i 0) i) ≡ (is_public (entry_at s i) && eqb (rep_at (entry_at s) i) i)
head_test s keys reps keyed rep i h =
    ap₂ (λ (k r : ℕ). public_key k && eqb r i) (keyed i h) (rep i h) ∙ ap (λ (b : Bool). b && eqb (rep_at (entry_at s) i) i) (key_public (rep_at (entry_at s)) (entry_at s) (count_of s) (entry_at s i) (open_key_at (entry_at s) (count_of s) i) refl)

-- a head more, or none
module _ (e : ℕ → Entry) (i : ℕ) where
  public_more : {b : Bool} → (is_public (e i) && eqb (rep_at e i) i) ≡ b → public_heads e (i + 1) ≡ public_heads e i ++ cond b (i ∷ []) []
  unfolding public_heads
  public_more p = ap (public_heads e) (add-one i) ∙ ap (λ (x : Bool). public_heads e i ++ cond x (i ∷ []) []) p

  -- entry i is a public atom and a head, or isn't
  pub public_head : (es : List ℕ) → (is_public (e i) && eqb (rep_at e i) i) ≡ true → with_head (with_heads es (public_heads e i)) i ≡ with_heads es (public_heads e (i + 1))
  public_head es p = sym (with_more es (public_heads e i) i) ∙ ap (with_heads es) (sym (public_more p))

  pub public_passed : (es : List ℕ) → (is_public (e i) && eqb (rep_at e i) i) ≡ false → with_heads es (public_heads e i) ≡ with_heads es (public_heads e (i + 1))
  public_passed es p = ap (with_heads es) (sym (public_more p ∙ append-nil (public_heads e i)))

pub public_none : (e : ℕ → Entry) (es : List ℕ) → with_heads es (public_heads e 0) ≡ es
unfolding public_heads
public_none e es = with_none es

-- the messages: none yet, and one more
pub messages_none : (s es : List ℕ) → with_heads es (map (rep_at (entry_at s)) (trace_of s 0)) ≡ es
unfolding listed
messages_none s es = with_none es

pub message_listed : (s : List ℕ) (k : ℕ) (es : List ℕ)
    → with_head (with_heads es (map (rep_at (entry_at s)) (trace_of s k))) (rep_at (entry_at s) (trace_at s k)) ≡ with_heads es (map (rep_at (entry_at s)) (trace_of s (k + 1)))
unfolding listed
message_listed s k es =
    sym (with_more es (map (rep_at (entry_at s)) (trace_of s k)) (rep_at (entry_at s) (trace_at s k)))
    ∙ ap (with_heads es) (sym (ap (λ (n : ℕ). map (rep_at (entry_at s)) (listed (trace_at s) n)) (add-one k) ∙ map-append (rep_at (entry_at s)) (listed (trace_at s) k) (trace_at s k ∷ [])))

-- both lists: the heads gained at the start, each once
pub start_listed : (s : List ℕ) (cut : ℕ) {own all : List ℕ} → own ≡ with_heads [] (public_heads (entry_at s) (count_of s)) → all ≡ with_heads own (map (rep_at (entry_at s)) (trace_of s cut))
    → all ≡ with_heads [] (start_heads s cut)
start_listed s cut p q =
    q ∙ ap (λ (l : List ℕ). with_heads l (map (rep_at (entry_at s)) (trace_of s cut))) p
    ∙ sym (ap (with_heads []) (map-append (rep_at (entry_at s)) (public_heads (entry_at s) (count_of s)) (trace_of s cut)) ∙ ap (λ (l : List ℕ). with_heads [] (l ++ map (rep_at (entry_at s)) (trace_of s cut))) (public_own (entry_at s) (count_of s))
    ∙ with_both [] (public_heads (entry_at s) (count_of s)) (map (rep_at (entry_at s)) (trace_of s cut)))

-- every heard entry before the cut is an entry
listed_from : (f : ℕ → ℕ) (n i : ℕ) → Memᴰ i (listed f n) → (k : ℕ) × (k < n) × (i ≡ f k)
unfolding listed
listed_from f zero i m = absurd (Memᴰ.not-nil m)
listed_from f (suc n) i m =
    ⊎_elim (λ q. let (k, h, p) = listed_from f n i q in (k, le_trans h (omega arith), p)) (λ q. (n, le_refl (suc n), Memᴰ.eq_of_singleton q)) (Memᴰ.append_cases (listed f n) m)

module _ (s : List ℕ) (ok : refusal s ≡ 0) (cut : ℕ) (within : cut ≤ trace_length s) where
  trace_below : (i : ℕ) → Memᴰ i (trace_of s cut) → i < count_of s
  trace_below i m =
      let (k, l, p) = listed_from (trace_at s) cut i m in
      subst (λ (x : ℕ). x < count_of s) (sym p) ((good s ok).listed k (le_trans l within))

  -- every entry that is gained at the start is one
  pub start_below : (i : ℕ) → Memᴰ i (start_entries s cut) → i < count_of s
  start_below i m =
      ⊎_elim (λ q. (public_only (entry_at s) (count_of s) i q).0) (trace_below i) (Memᴰ.append_cases (public_heads (entry_at s) (count_of s)) m)

  -- each head is live, as the table of representatives has it
  heads_live : (reps : List ℕ) → Represented s reps → Live (head_in reps (count_of s)) (start_heads s cut)
  heads_live reps right h m =
      let (i, c, q) = Memᴰ.of_map (rep_at (entry_at s)) (start_entries s cut) m in
      let below : h < count_of s = omega (arith, q, rep_le (entry_at s) i, start_below i c) in
      ap₂ ◌&&◌ (lt-ltb h (count_of s) below)
      (eq-eqb (get_or reps h 0) h (right h below ∙ ap (rep_at (entry_at s)) (sym q) ∙ rep_rep (entry_at s) i ∙ q))

  -- and so is each of the list without repeats
  pub list_live : (reps : List ℕ) → Represented s reps → {list : List ℕ} → list ≡ with_heads [] (start_heads s cut) → Live (head_in reps (count_of s)) list
  list_live reps right p h m =
      heads_live reps right h (⊎_elim (λ q. absurd (Memᴰ.not-nil q)) (λ q. q) (with_from [] (start_heads s cut) h (subst (Memᴰ h) p m)))

-- it teaches what is known at the start
pub list_taught : (s : List ℕ) (cut : ℕ) {list : List ℕ} → list ≡ with_heads [] (start_heads s cut) → learn_all (set_at (entry_at s)) nothing list ≡ knowledge (entry_at s) (start_heads s cut)
unfolding knowledge learn_all
list_taught s cut p = ap (learn_all (set_at (entry_at s)) nothing) p ∙ with_taught (set_at (entry_at s)) [] (start_heads s cut)
