-- The search's table of offers.
-- Shown: nothing offered; offers said another way; offers by a test; offers in a row, where what is known and the switches stay; a loop's offers. Assumes nothing.
use mathlib.Core.Path.{◌≡◌, refl, sym, ap, ap₂, ◌∙◌}
use mathlib.Core.Bool.{Bool, true, false, cond}
use mathlib.Core.List.{List, [], ◌++◌, append-nil, append_assoc}
use Prim.Native.Nat.{ℕ}
use Rattle.bitset.specs.Words.{value}
use Rattle.deduction.specs.Setting.{Setting, switches}
use Rattle.offers.specs.declared.Search.{Search}
use Rattle.offers.specs.Inner.Search.{Offered}
use Rattle.offers.proofs.Laws.Table.{adds_nothing, adds_then, adds_as}

-- nothing offered
pub offered_none : (s : Search) → Offered s s []
offered_none s = record { known = refl; rules = refl; table = adds_nothing s.best s.ready }

-- what was offered, said another way
pub offered_as : {s s' : Search} {ys zs : List ℕ} → ys ≡ zs → Offered s s' ys → Offered s s' zs
offered_as p o = record { known = o.known; rules = o.rules; table = adds_as p o.table }

-- by a test that holds, and by one that doesn't
pub offered_when : {s s' : Search} {t : Bool} {ys : List ℕ} (zs : List ℕ) → t ≡ true → Offered s s' ys → Offered s s' (cond t ys zs)
offered_when {ys = ys} zs p = offered_as (ap (λ (b : Bool). cond b ys zs) (sym p))

pub offered_unless : {s s' : Search} {t : Bool} (ys : List ℕ) {zs : List ℕ} → t ≡ false → Offered s s' zs → Offered s s' (cond t ys zs)
offered_unless ys {zs = zs} p = offered_as (ap (λ (b : Bool). cond b ys zs) (sym p))

-- first ys, and then what f says of the setting and the known set, which stayed
pub offered_then : {s s' s'' : Search} {ys : List ℕ} (f : Setting → ℕ → List ℕ) → Offered s s' ys → Offered s' s'' (f (switches s'.rules) (value s'.known))
    → Offered s s'' (ys ++ f (switches s.rules) (value s.known))
offered_then f a b = record {
  known = b.known ∙ a.known;
  rules = b.rules ∙ a.rules;
  table = adds_then a.table (adds_as (ap₂ (λ (r : ℕ) (ws : List ℕ). f (switches r) (value ws)) a.rules a.known) b.table);
}

-- some of the list `all` was offered, and `rest` is left
abbrev pub Offering : Search → Search → List ℕ → List ℕ → Type 0
Offering s s' rest all = (ys : List ℕ) × Offered s s' ys × (ys ++ rest ≡ all)

pub offering_start : (s : Search) (all : List ℕ) → Offering s s all all
offering_start s all = ([], offered_none s, refl)

pub offering_more : {s s' s'' : Search} {rest rest' all : List ℕ} (f : Setting → ℕ → List ℕ) → rest ≡ f (switches s.rules) (value s.known) ++ rest' → Offering s s' rest all
    → Offered s' s'' (f (switches s'.rules) (value s'.known)) → Offering s s'' rest' all
offering_more {s = s} {rest' = rest'} f p (ys, a, q) b =
    (ys ++ f (switches s.rules) (value s.known), offered_then f a b, append_assoc ys (f (switches s.rules) (value s.known)) rest' ∙ ap (λ (r : List ℕ). ys ++ r) (sym p) ∙ q)

pub offering_end : {s s' : Search} {rest all : List ℕ} → rest ≡ [] → Offering s s' rest all → Offered s s' all
offering_end p (ys, a, q) = offered_as (sym (append-nil ys) ∙ ap (λ (r : List ℕ). ys ++ r) (sym p) ∙ q) a
