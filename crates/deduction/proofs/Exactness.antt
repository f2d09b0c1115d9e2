-- Exactness: steps within the entries of a sheet lose nothing against derivations over terms of any size.
-- In every setting, each rule that is switched on counts on both sides.
-- Shown: `exactness`, a set of entries closed under the rules within the sheet, with the start, has every entry that any derivation
-- from the start holds; `exactness_from`, the same for a start of any terms that can be put together from such a set; `reach_exact`, the
-- entries reached within the sheet are exactly the derivable ones; `exactness_sums`, of sums of entries those of such a set are held and no others; `kept_underivable`, a way to show that an entry isn't derivable;
-- `half_not_gained`, a half that is no entry's term is not derivable.
-- Assumes nothing: no excluded middle, and the set of entries may be any predicate.
use mathlib.Core.Path.{◌≡◌, sym, ap, ◌∙◌, subst}
use mathlib.Core.Bool.{true}
use mathlib.Core.Logic.{◌↔◌}
use mathlib.Core.List.Memᴰ
use mathlib.Core.List.{List, map, Memᴰ}
use Prim.Native.Nat.{ℕ, ◌<◌}
use lib.Bits.{bit_xor}
use Rattle.bitset.specs.Set.{member}
use Rattle.deduction.specs.Term.{Side, Term, half, sum_of, ◌≈◌}
use Rattle.deduction.specs.Setting.{Setting}
use Rattle.deduction.specs.Entry.{Entry, term_at, Downward}
use Rattle.deduction.specs.Standard.{sum_of_set}
use Rattle.deduction.specs.Derivation.{Holds, Derivation, Derivable}
use Rattle.deduction.proofs.Exactness.Within.{Closed, Reach}
use Rattle.deduction.proofs.Coding.{code}
use Rattle.deduction.proofs.Pieces.{by_code}
use Rattle.deduction.proofs.Elimination.Sums.{xor_over_member}
use Rattle.deduction.proofs.Standard.Codes.{code_sum_of_set}
use Rattle.deduction.proofs.Terms.{term_at_build}
use Places.{OnSheet, entry_places}
use Synthesis.{Synth}
use Analysis.{derivation_gained, derivation_sums, derivation_half}
use Invariant.{Kept, kept_closed}
pub use Derive.{reach_derivable, derivable_more}
pub mod Within
pub mod Places
pub mod Synthesis
pub mod Analysis
pub mod Derive
pub mod Invariant

-- the general form: the start may be any terms that can be put together from G, and from atoms that aren't on the sheet
pub exactness_from : (on : Setting) (e : ℕ → Entry) (n : ℕ) → Downward e n → (G : ℕ → Type 0) → Closed on (term_at e) n G
    → (start : List Term) → ((u : Term) → Memᴰ u start → Synth on (term_at e) e n G (code u))
    → (g : List Term) → Derivation on start g → (i : ℕ) → i < n → Holds g (term_at e i) → G i
exactness_from on e n down G closed start from g d = derivation_gained on (term_at e) e n down (term_at_build e n down) G closed from d

-- entries of G as a start
pub start_made : (on : Setting) (e : ℕ → Entry) (n : ℕ) (G : ℕ → Type 0) (start : List ℕ) → ((i : ℕ) → Memᴰ i start → (i < n) × G i)
    → (u : Term) → Memᴰ u (map (term_at e) start) → Synth on (term_at e) e n G (code u)
start_made on e n G start from u m =
    let (j, q, s) = Memᴰ.of_map (term_at e) start m in
    subst (λ (x : Term). Synth on (term_at e) e n G (code x)) s (Synth.entry j (from j q).0 (from j q).1)

pub exactness : (on : Setting) (e : ℕ → Entry) (n : ℕ) → Downward e n → (G : ℕ → Type 0) → Closed on (term_at e) n G
    → (start : List ℕ) → ((i : ℕ) → Memᴰ i start → (i < n) × G i)
    → (g : List Term) → Derivation on (map (term_at e) start) g → (i : ℕ) → i < n → Holds g (term_at e i) → G i
exactness on e n down G closed start from = exactness_from on e n down G closed (map (term_at e) start) (start_made on e n G start from)

-- the same for sums of entries' terms, which needn't be entries themselves: what a derivation holds of them are sums of entries of G
pub exactness_sums : (on : Setting) (e : ℕ → Entry) (n : ℕ) → Downward e n → (G : ℕ → Type 0) → Closed on (term_at e) n G
    → (start : List ℕ) → ((i : ℕ) → Memᴰ i start → (i < n) × G i)
    → (g : List Term) → Derivation on (map (term_at e) start) g → (w : ℕ) → Holds g (sum_of_set (term_at e) n w)
    → (js : List ℕ) × ((j : ℕ) → Memᴰ j js → (j < n) × G j) × (sum_of (map (term_at e) js) ≈ sum_of_set (term_at e) n w)
exactness_sums on e n down G closed start from g d w h =
    let (js, gained, q) = derivation_sums on (term_at e) e n down (term_at_build e n down) G closed (start_made on e n G start from) d (sum_of_set (term_at e) n w) h here in
    (js, gained, by_code q)
  where
    here : (p : ℕ) → member (code (sum_of_set (term_at e) n w)) p ≡ true → OnSheet (term_at e) e n p
    here p m =
        let (j, l, i, r) = xor_over_member (λ (x : ℕ). code (term_at e x)) n w p (ap (λ (x : ℕ). member x p) (sym (code_sum_of_set (term_at e) n w)) ∙ m) in
        entry_places (term_at e) e n down (term_at_build e n down) j l p r

-- what is reached within the sheet is closed
pub reach_closed : (on : Setting) (t : ℕ → Term) (n : ℕ) (start : List ℕ) → Closed on t n (Reach on t n start)
reach_closed on t n start =
    record {
      same = λ i j hi hj r e. Reach.same hi hj r e;
      first = λ i j b o hi hj r e. Reach.first b o hi hj r e;
      second = λ i j a o hi hj r e. Reach.second a o hi hj r e;
      decrypt = λ i j k o hi hj hk r s e. Reach.decrypt o hi hj hk r s e;
      join = λ i j k o hi hj hk r s e. Reach.join o hi hj hk r s e;
      encrypt = λ i j k o hi hj hk r s e. Reach.encrypt o hi hj hk r s e;
      sum = λ i js o hi r e. Reach.sum js o hi (λ j m. (r j m).0) (λ j m. (r j m).1) e;
      adecrypt = λ i j k s a o hi hj hk r c e q. Reach.adecrypt s a o hi hj hk r c e q;
      aencrypt = λ i j k s a o hi hj hk r c e q. Reach.aencrypt s a o hi hj hk r c e q;
    }

pub reach_exact : (on : Setting) (e : ℕ → Entry) (n : ℕ) → Downward e n → (start : List ℕ) → ((i : ℕ) → Memᴰ i start → i < n)
    → (i : ℕ) → i < n → Reach on (term_at e) n start i ↔ Derivable on (map (term_at e) start) (term_at e i)
reach_exact on e n down start low i h = (
  reach_derivable on (term_at e) n start i,
  λ (g, d, k). exactness on e n down (Reach on (term_at e) n start) (reach_closed on (term_at e) n start) start (λ j m. (low j m, Reach.begin m)) g d i h k,
)

-- how to show that an entry is not derivable: a property that the start has and the rules on the sheet keep, and that the entry lacks
pub kept_underivable : (on : Setting) (e : ℕ → Entry) (n : ℕ) → Downward e n
    → (P : ℕ → Type 0) → P 0 → ((v w : ℕ) → P v → P w → P (bit_xor v w)) → ((i : ℕ) → i < n → Kept (term_at e) P (e i))
    → (start : List ℕ) → ((i : ℕ) → Memᴰ i start → (i < n) × P (code (term_at e i)))
    → (i : ℕ) → i < n → ¬ P (code (term_at e i)) → ¬ Derivable on (map (term_at e) start) (term_at e i)
kept_underivable on e n down P none add kept start from i h lacks (g, d, k) =
    lacks (exactness on e n down (λ j. P (code (term_at e j))) (kept_closed (term_at e) e n down (term_at_build e n down) on P none add kept) start from g d i h k)

-- "An opposite half without an entry can't be gained": a half that is no entry's term is not derivable from any start of entries, in any setting
pub half_not_gained : (on : Setting) (e : ℕ → Entry) (n : ℕ) → Downward e n → (start : List ℕ) → ((i : ℕ) → Memᴰ i start → i < n)
    → (s : Side) (a : ℕ) → ((i : ℕ) → i < n → ¬ (term_at e i ≈ half s a)) → ¬ Derivable on (map (term_at e) start) (half s a)
half_not_gained on e n down start low s a none (g, d, k) =
    let (i, h, r, q) = derivation_half on (term_at e) e n down (term_at_build e n down) (Reach on (term_at e) n start) (reach_closed on (term_at e) n start)
    (start_made on e n (Reach on (term_at e) n start) start (λ j m. (low j m, Reach.begin m))) d s a k in
    none i h q
