-- Sets and steps written to a buffer are read back as they were, and a buffer of bytes is what is read from it, written. Assumes nothing.
use mathlib.Core.Path.{◌≡◌, refl, sym, ap, ap₂, ◌∙◌, subst}
use mathlib.Core.Logic.{by_cases}
use mathlib.Core.List.{List, [], ◌∷◌, ◌++◌, append_assoc, Memᴰ}
use Prim.Native.Nat.{ℕ, zero, suc, ◌+◌, ◌*◌, ◌^◌, ◌/◌, ◌%◌, ◌≤◌, ◌<◌}
use native.Mathlib.Nat.{div-add-mod', mod-eq_of_lt, mul-suc, le_of_suc-le-suc, le_refl, le_of_lt, le_trans}
use native.Mathlib.Decide.{dec_lt}
use native.Mathlib.Omega.{arith}
use lib.ListN.{length, get_or, take, drop, length-append, length-drop, take-append-drop, get_or-eq_default}
use lib.Pow.{pow_pos}
use lib.Seq.{take_at, drop_at, drop-append-add, take-suc, take-length, drop-cons, drop-drop, take-add, get_or-take, get_or-drop, length-take-le}
use Rattle.bitset.specs.Words.{set_of, byte_of, bytes_of}
use Rattle.bitset.proofs.Laws.Bytes.{length_bytes_of, set_of_bytes_of, packed_lt}
use Rattle.bitset.proofs.Laws.Words.{Below, packed_injective}
use Rattle.deduction.specs.Step.{Step, step}
use Rattle.dag.specs.Sheet.{number_at}
use Rattle.derive.specs.Bytes.{two, step_bytes, steps_bytes}
use Rattle.derive.proofs.Laws.Buffer.{step_length, steps_more}
use Rattle.start.proofs.Laws.Lists.{get_d_member}
use Rattle.verdict.specs.Buffer.{front, set_in, gained_in, used_in, remainder_in, read_step, steps_in}
use Rattle.verdict.specs.Answer.{front_bytes}

-- a set that its 32 bytes hold
abbrev pub Narrow : Step → Type 0
Narrow s = s.set < 2 ^ 256

read_step_lem : (s : Step) (rest : List ℕ) → Narrow s → read_step (step_bytes s ++ rest) ≡ s
unfolding read_step step_bytes number_at
read_step_lem s rest h =
    λ i. record {
      head = div-add-mod' s.head 256 i;
      rule = div-add-mod' s.rule 256 i;
      first = div-add-mod' s.first 256 i;
      second = div-add-mod' s.second 256 i;
      set = (ap set_of (take_at (bytes_of 32 s.set) rest 32 (length_bytes_of 32 s.set)) ∙ set_of_bytes_of 32 s.set ∙ mod-eq_of_lt h) i;
    }

-- the bytes of the steps from the k-th on
drop_steps : (ss : List Step) (rest : List ℕ) (k : ℕ) → k ≤ length ss → drop (40 * k) (steps_bytes ss ++ rest) ≡ steps_bytes (drop k ss) ++ rest
unfolding steps_bytes
drop_steps ss rest zero h = refl
drop_steps [] rest (suc k) h = absurd (omega arith)
drop_steps (s ∷ ss) rest (suc k) h =
    ap₂ drop (mul-suc 40 k ∙ turn) (append_assoc (step_bytes s) (steps_bytes ss) rest)
    ∙ drop-append-add (step_bytes s) (steps_bytes ss ++ rest) (40 * k)
    ∙ drop_steps ss rest k (le_of_suc-le-suc h)
  where
    turn : 40 * k + 40 ≡ length (step_bytes s) + 40 * k
    turn = let e : length (step_bytes s) ≡ 40 = step_length s in omega arith

none : Step
none = step 0 0 0 0 0

module _ (first : List ℕ) (ss : List Step) (rest : List ℕ) (size : length first ≡ front) (narrow : (s : Step) → Memᴰ s ss → Narrow s) where
  out : List ℕ
  out = first ++ (steps_bytes ss ++ rest)

  read_front : (k : ℕ) → k ≤ length ss → steps_in out k ≡ take k ss
  unfolding steps_in out steps_bytes
  read_front zero h = refl
  read_front (suc k) h =
      ap₂ (λ (l : List Step) (s : Step). l ++ (s ∷ [])) (read_front k (le_of_lt h))
      (ap read_step
      (ap (λ (n : ℕ). drop (n + 40 * k) out) (sym size)
      ∙ drop-append-add first (steps_bytes ss ++ rest) (40 * k)
      ∙ drop_steps ss rest k (le_of_lt h)
      ∙ ap (λ (l : List Step). steps_bytes l ++ rest) (drop-cons ss k none h)
      ∙ append_assoc (step_bytes (get_or ss k none)) (steps_bytes (drop (suc k) ss)) rest)
      ∙ read_step_lem (get_or ss k none) (steps_bytes (drop (suc k) ss) ++ rest) (narrow (get_or ss k none) (get_d_member ss k none h)))
      ∙ sym (take-suc ss k none h)

  -- all of them
  pub read_back : steps_in (first ++ (steps_bytes ss ++ rest)) (length ss) ≡ ss
  unfolding out
  read_back = read_front (length ss) (le_refl (length ss)) ∙ take-length ss

-- sets written before the first step are read back as they were
set_read : (at : ℕ) (first rest : List ℕ) (u : ℕ) → length first ≡ at → u < 2 ^ 256 → set_in at (first ++ (bytes_of 32 u ++ rest)) ≡ u
set_read at first rest u l h =
    ap (λ (b : List ℕ). set_of (take 32 b)) (drop_at first (bytes_of 32 u ++ rest) at l)
    ∙ ap set_of (take_at (bytes_of 32 u) rest 32 (length_bytes_of 32 u)) ∙ set_of_bytes_of 32 u ∙ mod-eq_of_lt h

pub front_length : (a b c : ℕ) → length (front_bytes a b c) ≡ front
front_length a b c =
    length-append (bytes_of 32 a) (bytes_of 32 b ++ bytes_of 32 c)
    ∙ ap₂ ◌+◌ (length_bytes_of 32 a) (length-append (bytes_of 32 b) (bytes_of 32 c) ∙ ap₂ ◌+◌ (length_bytes_of 32 b) (length_bytes_of 32 c))

module _ (a b c : ℕ) (rest : List ℕ) where
  -- the three sets one after the other
  in_turn : front_bytes a b c ++ rest ≡ bytes_of 32 a ++ (bytes_of 32 b ++ (bytes_of 32 c ++ rest))
  in_turn =
      append_assoc (bytes_of 32 a) (bytes_of 32 b ++ bytes_of 32 c) rest
      ∙ ap (λ (l : List ℕ). bytes_of 32 a ++ l) (append_assoc (bytes_of 32 b) (bytes_of 32 c) rest)

  pub gained_read : a < 2 ^ 256 → gained_in (front_bytes a b c ++ rest) ≡ a
  gained_read h = ap gained_in in_turn ∙ set_read 0 [] (bytes_of 32 b ++ (bytes_of 32 c ++ rest)) a refl h

  pub used_read : b < 2 ^ 256 → used_in (front_bytes a b c ++ rest) ≡ b
  used_read h = ap used_in in_turn ∙ set_read 32 (bytes_of 32 a) (bytes_of 32 c ++ rest) b (length_bytes_of 32 a) h

  pub remainder_read : c < 2 ^ 256 → remainder_in (front_bytes a b c ++ rest) ≡ c
  remainder_read h =
      ap remainder_in (in_turn ∙ sym (append_assoc (bytes_of 32 a) (bytes_of 32 b) (bytes_of 32 c ++ rest)))
      ∙ set_read 64 (bytes_of 32 a ++ bytes_of 32 b) rest c (length-append (bytes_of 32 a) (bytes_of 32 b) ∙ ap₂ ◌+◌ (length_bytes_of 32 a) (length_bytes_of 32 b)) h

-- parts of bytes are bytes
below_drop : (n : ℕ) (l : List ℕ) → Below 8 l → Below 8 (drop n l)
below_drop n l h i = subst (λ (x : ℕ). x < 2 ^ 8) (sym (get_or-drop n l i 0)) (h (n + i))

below_take : (n : ℕ) (l : List ℕ) → n ≤ length l → Below 8 l → Below 8 (take n l)
below_take n l r h i =
    by_cases (dec_lt i n) (λ q. subst (λ (x : ℕ). x < 2 ^ 8) (sym (get_or-take n l i 0 q)) (h i))
    (λ q. subst (λ (x : ℕ). x < 2 ^ 8) (sym (get_or-eq_default (take n l) 0 (omega (arith, length-take-le n l r)))) (pow_pos 8))

below_snoc : (xs : List ℕ) (x : ℕ) → Below 8 xs → x < 2 ^ 8 → Below 8 (xs ++ (x ∷ []))
below_snoc [] x h l zero = l
below_snoc [] x h l (suc i) = pow_pos 8
below_snoc (y ∷ ys) x h l zero = h zero
below_snoc (y ∷ ys) x h l (suc i) = below_snoc ys x (λ j. h (suc j)) l i

below_bytes : (n s : ℕ) → Below 8 (bytes_of n s)
unfolding bytes_of byte_of
below_bytes zero s = λ i. pow_pos 8
below_bytes (suc n) s = below_snoc (bytes_of n s) (byte_of s n) (below_bytes n s) (small (s / 2 ^ (n * 8)))
  where
    small : (x : ℕ) → x % 256 < 256
    small x = omega arith

-- the bytes of the set that bytes hold
bytes_back : (l : List ℕ) (n : ℕ) → length l ≡ n → Below 8 l → bytes_of n (set_of l) ≡ l
bytes_back l n p h =
    packed_injective 8 (bytes_of n (set_of l)) l (length_bytes_of n (set_of l) ∙ sym p) (below_bytes n (set_of l)) h
    (set_of_bytes_of n (set_of l) ∙ mod-eq_of_lt (subst (λ (k : ℕ). set_of l < 2 ^ (k * 8)) p (packed_lt 8 l h)))

-- the two bytes of a number read from two
two_back : (l : List ℕ) (i : ℕ) → Below 8 l → two (number_at l i) ≡ get_or l i 0 ∷ get_or l (i + 1) 0 ∷ []
unfolding number_at
two_back l i h = λ j. high (get_or l i 0) (get_or l (i + 1) 0) (h (i + 1)) j ∷ low (get_or l i 0) (get_or l (i + 1) 0) (h (i + 1)) j ∷ []
  where
    high : (a b : ℕ) → b < 256 → (a * 256 + b) / 256 ≡ a
    high a b h = omega arith

    low : (a b : ℕ) → b < 256 → (a * 256 + b) % 256 ≡ b
    low a b h = omega arith

eight : (l : List ℕ) → 8 ≤ length l
    → l ≡ get_or l 0 0 ∷ get_or l 1 0 ∷ get_or l 2 0 ∷ get_or l 3 0 ∷ get_or l 4 0 ∷ get_or l 5 0 ∷ get_or l 6 0 ∷ get_or l 7 0 ∷ drop 8 l
eight l r =
    at 0 (omega arith)
    ∙ ap (λ (t : List ℕ). get_or l 0 0 ∷ t)
    (at 1 (omega arith)
    ∙ ap (λ (t : List ℕ). get_or l 1 0 ∷ t)
    (at 2 (omega arith)
    ∙ ap (λ (t : List ℕ). get_or l 2 0 ∷ t)
    (at 3 (omega arith)
    ∙ ap (λ (t : List ℕ). get_or l 3 0 ∷ t)
    (at 4 (omega arith)
    ∙ ap (λ (t : List ℕ). get_or l 4 0 ∷ t)
    (at 5 (omega arith) ∙ ap (λ (t : List ℕ). get_or l 5 0 ∷ t) (at 6 (omega arith) ∙ ap (λ (t : List ℕ). get_or l 6 0 ∷ t) (at 7 (omega arith))))))))
  where
    at : (j : ℕ) → j < length l → drop j l ≡ get_or l j 0 ∷ drop (suc j) l
    at j h = drop-cons l j 0 h

-- the 40 bytes of a step read from 40
step_back : (l : List ℕ) → 40 ≤ length l → Below 8 l → step_bytes (read_step l) ≡ take 40 l
unfolding read_step step_bytes
step_back l r h =
    let part = take 32 (drop 8 l) in
    let long : 32 ≤ length (drop 8 l) = omega (arith, length-drop 8 l) in
    let set : bytes_of 32 (set_of part) ≡ part = bytes_back part 32 (length-take-le 32 (drop 8 l) long) (below_take 32 (drop 8 l) long (below_drop 8 l h)) in
    (λ i. two_back l 0 h i ++ (two_back l 2 h i ++ (two_back l 4 h i ++ (two_back l 6 h i ++ set i))))
    ∙ sym (ap (take 40) (eight l (le_trans (omega arith) r)))

-- all steps
steps_back : (out : List ℕ) (k : ℕ) → front + 40 * k ≤ length out → Below 8 out → steps_bytes (steps_in out k) ≡ take (40 * k) (drop front out)
unfolding steps_in steps_bytes
steps_back out zero r h = refl
steps_back out (suc k) r h =
    steps_more (steps_in out k) (read_step (drop (front + 40 * k) out))
    ∙ ap₂ ◌++◌ (steps_back out k (omega (arith, mul-suc 40 k)) h)
    (step_back (drop (front + 40 * k) out) (omega (arith, mul-suc 40 k, length-drop (front + 40 * k) out)) (below_drop (front + 40 * k) out h) ∙ ap (take 40) (sym (drop-drop (40 * k) front out)))
    ∙ sym (take-add (40 * k) 40 (drop front out))
    ∙ ap (λ (j : ℕ). take j (drop front out)) (sym (mul-suc 40 k))

-- the 32 bytes of a set read from 32
set_back : (at : ℕ) (out : List ℕ) → at + 32 ≤ length out → Below 8 out → bytes_of 32 (set_in at out) ≡ take 32 (drop at out)
set_back at out r h =
    let long : 32 ≤ length (drop at out) = omega (arith, length-drop at out) in
    bytes_back (take 32 (drop at out)) 32 (length-take-le 32 (drop at out) long) (below_take 32 (drop at out) long (below_drop at out h))

-- the bytes before the first step
front_back : (out : List ℕ) → front ≤ length out → Below 8 out → front_bytes (gained_in out) (used_in out) (remainder_in out) ≡ take front out
front_back out r h =
    (λ i. set_back 0 out (omega arith) h i ++ (set_back 32 out (omega arith) h i ++ set_back 64 out (omega arith) h i))
    ∙ ap (λ (l : List ℕ). take 32 out ++ l) (ap (λ (l : List ℕ). take 32 (drop 32 out) ++ take 32 l) (sym (drop-drop 32 32 out)) ∙ sym (take-add 32 32 (drop 32 out)))
    ∙ sym (take-add 32 64 out)

-- a buffer of bytes is its sets, its steps and what follows
pub buffer_back : (out : List ℕ) (k : ℕ) → front + 40 * k ≤ length out → Below 8 out
    → out ≡ front_bytes (gained_in out) (used_in out) (remainder_in out) ++ (steps_bytes (steps_in out k) ++ drop (front + 40 * k) out)
buffer_back out k r h =
    sym (take-append-drop front out)
    ∙ ap₂ ◌++◌ (sym (front_back out (le_trans (omega arith) r) h))
    (sym (take-append-drop (40 * k) (drop front out)) ∙ ap₂ ◌++◌ (sym (steps_back out k r h)) (drop-drop (40 * k) front out))
