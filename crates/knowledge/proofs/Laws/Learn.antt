-- What hearing an entry stores (`stored_none`, `stored_row`); that with the right remainder the entry is then learnt (`stored_holds`); the room for its row. Assumes nothing.
use mathlib.Core.Path.{◌≡◌, refl, sym, ap, ap₂, ◌∙◌, subst}
use mathlib.Core.Bool.{Bool, true, false, cond}
use mathlib.Core.List.{List, [], ◌∷◌, ◌++◌, map, append-nil}
use Prim.Native.Nat.{ℕ, ◌+◌, ◌*◌, ◌≤◌, ◌<◌}
use native.Mathlib.Omega.{arith}
use lib.Bits.{bit_xor}
use lib.Count.{ones, ones-le}
use lib.Dec.{eqb}
use lib.ListN.{length, get_or, set}
use lib.Seq.{get_or-set_same}
use borrow.Author.Tests.{eqb-true, eq-eqb}
use Rattle.bitset.specs.Set.{member, insert, single}
use Rattle.bitset.specs.Words.{value}
use Rattle.bitset.proofs.Laws.Words.{Below}
use Rattle.bitset.proofs.Laws.Bytes.{packed_lt}
use Rattle.bitset.proofs.Laws.Sums.{ones_insert}
use Rattle.deduction.specs.Elimination.{Row, Knowledge, reduce, add_row, nothing, learn_as}
use Rattle.knowledge.specs.Inner.Rows.{vectors_of, SameOutside}
use Rattle.knowledge.specs.Inner.State.{Room, Holds, Stored}
use Rattle.knowledge.proofs.Laws.Store.{same_refl, same_set}
use Rattle.knowledge.proofs.Laws.Vectors.{vectors_more, vectors_kept}

-- an empty set and no row are the state in which nothing is known
pub holds_nothing : (known : List ℕ) (ws : List (List ℕ)) → value known ≡ 0 → Holds nothing known ws 0
unfolding nothing vectors_of
holds_nothing known ws p = record { known = p; rows = refl }

-- a member is inserted without a change
insert_known : (s e : ℕ) → member s e ≡ true → insert s e ≡ s
unfolding insert
insert_known s e h = ap (λ (b : Bool). cond b s (bit_xor s (single e))) h

-- the known set after learning, whether the entry was known or not
pub learn_known : (k : Knowledge) (e v : ℕ) → (learn_as k e v).known ≡ insert k.known e
unfolding learn_as
learn_known k e v = go (member k.known e) refl
  where
    go : (b : Bool) → member k.known e ≡ b → (cond (member k.known e) k (record { known = insert k.known e; rows = add_row k.rows e (reduce k.rows v) })).known ≡ insert k.known e
    go true p = rw p (sym (insert_known k.known e p))
    go false p = rw p

-- and the rows, where nothing is left of a known entry
pub learn_rows : (k : Knowledge) (e v : ℕ) → (member k.known e ≡ true → (reduce k.rows v).remainder ≡ 0) → (learn_as k e v).rows ≡ add_row k.rows e (reduce k.rows v)
unfolding learn_as add_row
learn_rows k e v h = go (member k.known e) refl
  where
    go : (b : Bool) → member k.known e ≡ b → (cond (member k.known e) k (record { known = insert k.known e; rows = add_row k.rows e (reduce k.rows v) })).rows ≡ add_row k.rows e (reduce k.rows v)
    go true p = rw (p, h p)
    go false p = rw p

-- rows with one added, unless nothing is left
pub add_none : (rows : List Row) (e : ℕ) (v : ℕ) → (reduce rows v).remainder ≡ 0 → add_row rows e (reduce rows v) ≡ rows
unfolding add_row
add_none rows e v p = rw (eq-eqb (reduce rows v).remainder 0 p)

pub add_one_row : (rows : List Row) (e v : ℕ) → eqb (reduce rows v).remainder 0 ≡ false
    → add_row rows e (reduce rows v) ≡ rows ++ (record { vector = (reduce rows v).remainder; uses = bit_xor (reduce rows v).used (single e) } ∷ [])
unfolding add_row
add_one_row rows e v p = rw p

vectors_append : (rows : List Row) (r : Row) → map (λ (x : Row). x.vector) (rows ++ (r ∷ [])) ≡ map (λ (x : Row). x.vector) rows ++ (r.vector ∷ [])
vectors_append [] r = refl
vectors_append (x ∷ rows) r = ap (λ (l : List ℕ). x.vector ∷ l) (vectors_append rows r)

-- what is stored where nothing is left of an entry, and where something is
module _ (e remainder : ℕ) (known : List ℕ) (ws : List (List ℕ)) (len : ℕ) (more : List ℕ) (q : value more ≡ insert (value known) e) where
  pub stored_none : eqb remainder 0 ≡ true → Stored e remainder known ws len more ws len
  stored_none z = record {
    known = q;
    count = rw z;
    rows = rw z (sym (append-nil (vectors_of ws len)));
    others = same_refl len len ws;
  }

  pub stored_row : (row : List ℕ) (at n : ℕ) → eqb remainder 0 ≡ false → at ≡ len → n ≡ len + 1 → len < length ws → value row ≡ remainder → Stored e remainder known ws len more (set ws at row) n
  stored_row row at n z here next place own = record {
    known = q;
    count = rw z next;
    rows = ap (vectors_of (set ws at row)) next ∙ vectors_more (set ws at row) len
        ∙ ap₂ (λ (l : List ℕ) (x : ℕ). l ++ (x ∷ [])) (vectors_kept len (omega arith) kept) (ap (λ (i : ℕ). value (get_or (set ws i row) len [])) here ∙ ap value (get_or-set_same ws len row [] place) ∙ own)
        ∙ sym (ap (λ (b : Bool). vectors_of ws len ++ cond b [] (remainder ∷ [])) z);
    others = subst (λ (m : ℕ). SameOutside len m ws (set ws at row)) (sym next) kept;
  }
    where
      kept : SameOutside len (len + 1) ws (set ws at row)
      kept = same_set at row (omega arith) (omega arith) (same_refl len (len + 1) ws)

-- with the remainder that the rows leave of e's set v, the words hold the state with e learnt
pub stored_holds : (k : Knowledge) (v : ℕ) {e remainder : ℕ} {g : List ℕ} {ws : List (List ℕ)} {len : ℕ} {g' : List ℕ} {ws' : List (List ℕ)} {len' : ℕ} → Stored e remainder g ws len g' ws' len' → Holds k g ws len
    → remainder ≡ (reduce k.rows v).remainder → (member (value g) e ≡ true → remainder ≡ 0) → Holds (learn_as k e v) g' ws' len'
stored_holds k v {e} {remainder} {g} {ws} {len} {g'} {ws'} {len'} h holds p old = record {
  known = h.known ∙ ap (λ (x : ℕ). insert x e) holds.known ∙ sym (learn_known k e v);
  rows = h.rows ∙ ap (λ (l : List ℕ). l ++ cond (eqb remainder 0) [] (remainder ∷ [])) holds.rows ∙ go (eqb remainder 0) refl
      ∙ ap (map (λ (x : Row). x.vector)) (sym (learn_rows k e v (λ m. sym p ∙ old (ap (λ (x : ℕ). member x e) holds.known ∙ m))));
}
  where
    go : (b : Bool) → eqb remainder 0 ≡ b → map (λ (x : Row). x.vector) k.rows ++ cond b [] (remainder ∷ []) ≡ map (λ (x : Row). x.vector) (add_row k.rows e (reduce k.rows v))
    go true z = append-nil (map (λ (x : Row). x.vector) k.rows) ∙ ap (map (λ (x : Row). x.vector)) (sym (add_none k.rows e v (sym p ∙ eqb-true remainder 0 z)))
    go false z =
        ap (λ (x : ℕ). map (λ (x : Row). x.vector) k.rows ++ (x ∷ [])) p ∙ sym (vectors_append k.rows _)
        ∙ ap (map (λ (x : Row). x.vector)) (sym (add_one_row k.rows e v (ap (λ (x : ℕ). eqb x 0) (sym p) ∙ z)))

-- a set of four words has at most 256 members
pub ones_words : (ws : List ℕ) → length ws ≡ 4 → Below 64 ws → ones (value ws) ≤ 256
ones_words ws four small = few (length ws) four (ones-le (length ws * 64) (value ws) (packed_lt 64 ws small))
  where
    few : (m : ℕ) → m ≡ 4 → {n : ℕ} → n ≤ m * 64 → n ≤ 256
    few m h l = omega arith

module _ (known more : List ℕ) (len e : ℕ) (q : value more ≡ insert (value known) e) (room : Room known len) where
  -- there are no fewer known entries than before
  pub room_same : Room more len
  room_same = go (member (value known) e) refl
    where
      go : (b : Bool) → member (value known) e ≡ b → len ≤ ones (value more)
      go true p = omega (arith, room, ap ones (q ∙ insert_known (value known) e p))
      go false p = omega (arith, room, ap ones q ∙ ones_insert (value known) e p)

  module _ (new : member (value known) e ≡ false) where
    -- one more known entry
    pub room_more : Room more (len + 1)
    room_more = omega (arith, room, ap ones q ∙ ones_insert (value known) e new)

    -- so there is a place for its row
    pub room_place : length more ≡ 4 → Below 64 more → len < 256
    room_place four small = omega (arith, room_more, ones_words more four small)
