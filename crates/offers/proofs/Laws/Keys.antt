-- The offers read off the keys are the offers of the entries.
-- Shown, for tables that are right for entries that refer downwards: `keys_line`, of one entry; `keys_all`, of the first m heads; `keys_set`, of a set's
-- members; and `users_of`, the users read off the keys are those of the entries. Before it: what a key says of its parts. Assumes nothing.
use mathlib.Core.Path.{◌≡◌, refl, sym, ap, ap₂, ◌∙◌, subst}
use mathlib.Core.Bool.{Bool, true, false, cond, ◌&&◌, ◌||◌, or-false}
use mathlib.Core.Logic.{◌⊎◌, inl, inr, ⊎_elim}
use mathlib.Core.List.{List, [], ◌++◌, Memᴰ}
use Prim.Native.Nat.{ℕ, zero, suc, ◌+◌, ◌*◌, ◌^◌, ◌≤◌, ◌<◌}
use native.Mathlib.Omega.{arith}
use lib.Dec.{eqb, ltb}
use lib.ListN.{get_or}
use borrow.Author.Tests.{ltb-true, ne_eqb}
use Rattle.bitset.specs.Set.{member}
use Rattle.bitset.specs.Words.{value}
use Rattle.deduction.specs.Term.{Side}
use Rattle.deduction.specs.Setting.{Setting}
use Rattle.deduction.specs.Entry.{Entry, Zero, Atom, Pair, Enc, Sum, Half, Aenc, parts, Downward}
use Rattle.deduction.specs.Standard.{half_kind, rep_at}
use Rattle.deduction.specs.Run.{opener, any_half, built}
use Rattle.deduction.proofs.Standard.{rep_le}
use Rattle.deduction.proofs.Standard.First.{half_range}
use Rattle.deduction.proofs.Steps.Head.{rep_half}
use Rattle.deduction.proofs.Steps.Opener.{Halved, opener_le}
use Rattle.canonical.specs.Inner.Key.{key_of, key_kind, key_left, key_right, key_opener, opener_of}
use Rattle.canonical.proofs.Laws.Key.{number_of, Narrow}
use Rattle.offers.specs.Inner.Right.{Right}
use Rattle.offers.specs.Inner.Offers.{both_known, gives, line_offers, head_offers, plain_offers, lists_of, built_by, key_gives, key_built, key_offers, table_offers, set_offers, is_head}
use Rattle.offers.specs.Inner.Users.{uses, UsersOf, key_opened, key_uses, head_uses, user_in, Filled}

-- an entry's key K with what opens it, said by parts
module _ (K k a b o : ℕ) (hk : k < 256) (ha : a < 256) (hb : b < 256) (ho : o ≤ 256) (q : K ≡ k * 2 ^ 32 + a * 256 + b + o * 65536) where
  pub open_kind : key_kind K ≡ k
  open_kind = omega arith

  pub open_left : key_left K ≡ a
  open_left = omega arith

  pub open_right : key_right K ≡ b
  open_right = omega arith

  pub open_opener : key_opener K ≡ o
  open_opener = omega arith

-- an entry with a number has no kind with parts
pub number_apart : (k K a n : ℕ) → k < 256 → a < 2 ^ 32 → K ≡ k * 2 ^ 32 + a + 0 * 65536 → ¬ (k ≡ n) → eqb (key_kind K) n ≡ false
number_apart k K a n hk ha q f = ne_eqb (key_kind K) n (λ (p : key_kind K ≡ n). f (omega arith))

-- nor has a half
pub half_apart : (s : Side) (a K n : ℕ) → a < 2 ^ 32 → K ≡ half_kind s * 2 ^ 32 + a + 0 * 65536 → (n ≤ 3) ⊎ (7 ≤ n) → eqb (key_kind K) n ≡ false
half_apart s a K n ha q l = number_apart (half_kind s) K a n (omega (arith, half_range s)) ha q (λ (p : half_kind s ≡ n). ⊎_elim (λ (h : n ≤ 3). omega (arith, half_range s)) (λ (h : 7 ≤ n). omega (arith, half_range s)) l)

-- the key of a lock is a half
key_half : (e : ℕ → Entry) (n : ℕ) → Downward e n → Halved e n → (i m k : ℕ) → i < n → e i ≡ Aenc m k → any_half (e (rep_at e k)) ≡ true
unfolding any_half parts
key_half e n down halves i m k l p =
    let (s, a, q) = halves i m k l p in
    let lk : k < n = omega (arith, down i k l (subst (λ (d : Entry). Memᴰ k (parts d)) (sym p) (Memᴰ.tail (Memᴰ.head refl)))) in
    ap any_half (rep_half e n down k s a lk q)

-- an entry with the record d and the key K
module _ (e : ℕ → Entry) (n : ℕ) (few : n ≤ 256) where
  abbrev Keyed : Entry → ℕ → Type 0
  Keyed d K = (K ≡ key_of (rep_at e) d + opener_of e n d * 65536) × ((j : ℕ) → Memᴰ j (parts d) → rep_at e j < 256) × (number_of d < 2 ^ 32)

  key_uses_lem : (d : Entry) (K x : ℕ) → Keyed d K → key_uses K x ≡ uses e n x d
  unfolding parts key_of opener_of number_of uses key_uses key_opened
  key_uses_lem Zero K x (q, below, narrow) = rw q
  key_uses_lem (Atom a) K x (q, below, narrow) =
      rw (
        number_apart 1 K a 2 (omega arith) narrow q (λ p. absurd (omega arith)),
        number_apart 1 K a 3 (omega arith) narrow q (λ p. absurd (omega arith)),
        number_apart 1 K a 7 (omega arith) narrow q (λ p. absurd (omega arith)),
      )
  key_uses_lem (Pair l r) K x (q, below, narrow) =
      let hl = below l (Memᴰ.head refl) in let hr = below r (Memᴰ.tail (Memᴰ.head refl)) in
      rw (
        open_kind K 2 (rep_at e l) (rep_at e r) 0 (omega arith) hl hr (omega arith) q,
        open_left K 2 (rep_at e l) (rep_at e r) 0 (omega arith) hl hr (omega arith) q,
        open_right K 2 (rep_at e l) (rep_at e r) 0 (omega arith) hl hr (omega arith) q,
      )
      (or-false (eqb (rep_at e l) x || eqb (rep_at e r) x))
  key_uses_lem (Enc m k) K x (q, below, narrow) =
      let hm = below m (Memᴰ.head refl) in let hk = below k (Memᴰ.tail (Memᴰ.head refl)) in
      rw (
        open_kind K 3 (rep_at e m) (rep_at e k) 0 (omega arith) hm hk (omega arith) q,
        open_left K 3 (rep_at e m) (rep_at e k) 0 (omega arith) hm hk (omega arith) q,
        open_right K 3 (rep_at e m) (rep_at e k) 0 (omega arith) hm hk (omega arith) q,
      )
      (or-false (eqb (rep_at e m) x || eqb (rep_at e k) x))
  key_uses_lem (Sum items) K x (q, below, narrow) = rw q
  key_uses_lem (Half s a) K x (q, below, narrow) =
      rw (half_apart s a K 2 narrow q (inl (omega arith)), half_apart s a K 3 narrow q (inl (omega arith)), half_apart s a K 7 narrow q (inr (omega arith)))
  key_uses_lem (Aenc m k) K x (q, below, narrow) =
      let hm = below m (Memᴰ.head refl) in let hk = below k (Memᴰ.tail (Memᴰ.head refl)) in
      let o = opener e n (e (rep_at e k)) in let ho : o ≤ 256 = omega (arith, opener_le e n (e (rep_at e k))) in
      rw (
        open_kind K 7 (rep_at e m) (rep_at e k) o (omega arith) hm hk ho q,
        open_left K 7 (rep_at e m) (rep_at e k) o (omega arith) hm hk ho q,
        open_right K 7 (rep_at e m) (rep_at e k) o (omega arith) hm hk ho q,
        open_opener K 7 (rep_at e m) (rep_at e k) o (omega arith) hm hk ho q,
      )

-- what entry i offers
module _ (on : Setting) (e : ℕ → Entry) (n g i : ℕ) (few : n ≤ 256) where
  key_gives_lem : (d : Entry) (K : ℕ) → Keyed e n few d K → key_gives on g K i ≡ gives on e n g i d
  unfolding parts key_of opener_of number_of gives key_gives
  key_gives_lem Zero K (q, below, narrow) = rw q
  key_gives_lem (Atom a) K (q, below, narrow) =
      rw (
        number_apart 1 K a 2 (omega arith) narrow q (λ p. absurd (omega arith)),
        number_apart 1 K a 3 (omega arith) narrow q (λ p. absurd (omega arith)),
        number_apart 1 K a 7 (omega arith) narrow q (λ p. absurd (omega arith)),
      )
  key_gives_lem (Pair l r) K (q, below, narrow) =
      let hl = below l (Memᴰ.head refl) in let hr = below r (Memᴰ.tail (Memᴰ.head refl)) in
      rw (
        open_kind K 2 (rep_at e l) (rep_at e r) 0 (omega arith) hl hr (omega arith) q,
        open_left K 2 (rep_at e l) (rep_at e r) 0 (omega arith) hl hr (omega arith) q,
        open_right K 2 (rep_at e l) (rep_at e r) 0 (omega arith) hl hr (omega arith) q,
      )
  key_gives_lem (Enc m k) K (q, below, narrow) =
      let hm = below m (Memᴰ.head refl) in let hk = below k (Memᴰ.tail (Memᴰ.head refl)) in
      rw (
        open_kind K 3 (rep_at e m) (rep_at e k) 0 (omega arith) hm hk (omega arith) q,
        open_left K 3 (rep_at e m) (rep_at e k) 0 (omega arith) hm hk (omega arith) q,
        open_right K 3 (rep_at e m) (rep_at e k) 0 (omega arith) hm hk (omega arith) q,
      )
  key_gives_lem (Sum items) K (q, below, narrow) = rw q
  key_gives_lem (Half s a) K (q, below, narrow) =
      rw (half_apart s a K 2 narrow q (inl (omega arith)), half_apart s a K 3 narrow q (inl (omega arith)), half_apart s a K 7 narrow q (inr (omega arith)))
  key_gives_lem (Aenc m k) K (q, below, narrow) =
      let hm = below m (Memᴰ.head refl) in let hk = below k (Memᴰ.tail (Memᴰ.head refl)) in
      let o = opener e n (e (rep_at e k)) in let ho : o ≤ 256 = omega (arith, opener_le e n (e (rep_at e k))) in
      rw (
        open_kind K 7 (rep_at e m) (rep_at e k) o (omega arith) hm hk ho q,
        open_left K 7 (rep_at e m) (rep_at e k) o (omega arith) hm hk ho q,
        open_opener K 7 (rep_at e m) (rep_at e k) o (omega arith) hm hk ho q,
      )

  key_built_lem : (d : Entry) (K : ℕ) → Keyed e n few d K → ((m k : ℕ) → d ≡ Aenc m k → any_half (e (rep_at e k)) ≡ true) → key_built on g K i ≡ built on e n g i d
  unfolding parts key_of opener_of number_of built key_built built_by both_known
  key_built_lem Zero K (q, below, narrow) halves = rw q
  key_built_lem (Atom a) K (q, below, narrow) halves =
      rw (
        number_apart 1 K a 2 (omega arith) narrow q (λ p. absurd (omega arith)),
        number_apart 1 K a 3 (omega arith) narrow q (λ p. absurd (omega arith)),
        number_apart 1 K a 7 (omega arith) narrow q (λ p. absurd (omega arith)),
      )
  key_built_lem (Pair l r) K (q, below, narrow) halves =
      let hl = below l (Memᴰ.head refl) in let hr = below r (Memᴰ.tail (Memᴰ.head refl)) in
      rw (
        open_kind K 2 (rep_at e l) (rep_at e r) 0 (omega arith) hl hr (omega arith) q,
        open_left K 2 (rep_at e l) (rep_at e r) 0 (omega arith) hl hr (omega arith) q,
        open_right K 2 (rep_at e l) (rep_at e r) 0 (omega arith) hl hr (omega arith) q,
      )
  key_built_lem (Enc m k) K (q, below, narrow) halves =
      let hm = below m (Memᴰ.head refl) in let hk = below k (Memᴰ.tail (Memᴰ.head refl)) in
      rw (
        open_kind K 3 (rep_at e m) (rep_at e k) 0 (omega arith) hm hk (omega arith) q,
        open_left K 3 (rep_at e m) (rep_at e k) 0 (omega arith) hm hk (omega arith) q,
        open_right K 3 (rep_at e m) (rep_at e k) 0 (omega arith) hm hk (omega arith) q,
      )
  key_built_lem (Sum items) K (q, below, narrow) halves = rw q
  key_built_lem (Half s a) K (q, below, narrow) halves =
      rw (half_apart s a K 2 narrow q (inl (omega arith)), half_apart s a K 3 narrow q (inl (omega arith)), half_apart s a K 7 narrow q (inr (omega arith)))
  key_built_lem (Aenc m k) K (q, below, narrow) halves =
      let hm = below m (Memᴰ.head refl) in let hk = below k (Memᴰ.tail (Memᴰ.head refl)) in
      let o = opener e n (e (rep_at e k)) in let ho : o ≤ 256 = omega (arith, opener_le e n (e (rep_at e k))) in
      rw (
        open_kind K 7 (rep_at e m) (rep_at e k) o (omega arith) hm hk ho q,
        open_left K 7 (rep_at e m) (rep_at e k) o (omega arith) hm hk ho q,
        open_right K 7 (rep_at e m) (rep_at e k) o (omega arith) hm hk ho q,
        halves m k refl,
      )

-- one line more
pub table_more : (on : Setting) (g : ℕ) (keys reps : List ℕ) (m : ℕ) → table_offers on g keys reps m ++ cond (eqb (get_or reps m 0) m) (key_offers on g (get_or keys m 0) m) [] ≡ table_offers on g keys reps (m + 1)
unfolding table_offers
table_more on g keys reps m = let p : suc m ≡ m + 1 = omega arith in ap (table_offers on g keys reps) p

-- tables that are right
module _ (e : ℕ → Entry) (n : ℕ) (down : Downward e n) (few : n ≤ 256) (narrow : Narrow e n) (keys reps : List ℕ) (right : Right e n keys reps) where
  keyed : (i : ℕ) → i < n → Keyed e n few (e i) (get_or keys i 0)
  keyed i l = (right.key i l, λ j m. omega (arith, rep_le e j, down i j l m), narrow i l)

  -- a table that nobody was in has the users of each head
  pub users_of : {users₀ users : List (List ℕ)} → ((x k : ℕ) → x < 256 → user_in users₀ x k ≡ false) → Filled keys reps n users₀ users → (x : ℕ) → x < 256 → UsersOf e n x (value (get_or users x []))
  unfolding is_head head_uses
  users_of {users₀} none f x lx p lp = f.lines x p lx ∙ ap (λ (b : Bool). b || (ltb p n && head_uses keys reps p x)) (none x p lx) ∙ go (ltb p n) refl
    where
      go : (b : Bool) → ltb p n ≡ b → (b && (eqb (get_or reps p 0) p && key_uses (get_or keys p 0) x)) ≡ ((b && eqb (rep_at e p) p) && uses e n x (e p))
      go true q =
          let l = ltb-true p n q in
          ap₂ (λ (r : ℕ) (t : Bool). eqb r p && t) (right.rep p l) (key_uses_lem e n few (e p) (get_or keys p 0) x (keyed p l))
      go false q = refl

module _ (on : Setting) (e : ℕ → Entry) (n : ℕ) (down : Downward e n) (few : n ≤ 256) (narrow : Narrow e n)
    (halves : Halved e n)
    (keys reps : List ℕ) (right : Right e n keys reps) (g : ℕ) where
  pub keys_line : (i : ℕ) → i < n → key_offers on g (get_or keys i 0) i ≡ line_offers on e n g i
  unfolding key_offers line_offers
  keys_line i l =
      ap₂ (cond (member g i)) (key_gives_lem on e n g i few (e i) (get_or keys i 0) (keyed e n down few narrow keys reps right i l))
      (key_built_lem on e n g i few (e i) (get_or keys i 0) (keyed e n down few narrow keys reps right i l) (λ m k. key_half e n down halves i m k l))

  keys_upto : (m : ℕ) → m ≤ n → table_offers on g keys reps m ≡ plain_offers on e n g m
  unfolding table_offers plain_offers head_offers
  keys_upto zero l = refl
  keys_upto (suc m) l =
      ap₂ ◌++◌ (keys_upto m (omega arith))
      (ap₂ (λ (r : ℕ) (xs : List ℕ). cond (eqb r m) xs []) (right.rep m (omega arith)) (keys_line m (omega arith)))

  -- of all heads
  pub keys_all : table_offers on g keys reps n ≡ plain_offers on e n g n
  keys_all = keys_upto n (omega arith)

  -- of a set whose members are entries
  pub keys_set : (s : ℕ) → ((i : ℕ) → i < 256 → member s i ≡ true → i < n) → (m : ℕ) → m ≤ 256 → set_offers on g keys s m ≡ lists_of (line_offers on e n g) s m
  unfolding lists_of
  keys_set s own zero l = refl
  keys_set s own (suc m) l = ap₂ ◌++◌ (keys_set s own m (omega arith)) (go (member s m) refl)
    where
      go : (b : Bool) → member s m ≡ b → cond b (key_offers on g (get_or keys m 0) m) [] ≡ cond b (line_offers on e n g m) []
      go true p = keys_line m (own m l p)
      go false p = refl
