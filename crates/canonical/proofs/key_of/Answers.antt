-- `canonical::key_of` meets its contract, kind by kind.
use Prim.Native.Nat.{ℕ, ◌+◌, ◌*◌, ◌^◌}
use mathlib.Core.Path.{◌≡◌, sym, ap, ap₂, ◌∙◌}
use mathlib.Core.Bool.{true, ◌||◌}
use mathlib.Core.Logic.{◌⊎◌, inl, inr, ⊎_elim}
use native.Mathlib.Omega.{arith}
use lib.Dec.{eqb}
use Rattle.dag.specs.Record.{kind_of}
use Rattle.dag.proofs.Laws.Record.{half_kind_lem, no_half}
use Rattle.dag.proofs.Laws.Parts.{TwoParts}
use Rattle.canonical.specs.Inner.Tables.{number_in}
use Rattle.canonical.proofs.Laws.Record.{atom_key, half_key, parts_key, no_key, kinds_two, kinds_not_two, first_part, second_part_lem}
use Rattle.canonical.proofs.key_of.Goals as goal

-- a key's three numbers, as read
joined : {k k' a a' b b' : ℕ} → k ≡ k' → a ≡ a' → b ≡ b' → k * 2 ^ 32 + a * 256 + b ≡ k' * 2 ^ 32 + a' * 256 + b'
joined p q r = λ i. p i * 2 ^ 32 + q i * 256 + r i

-- a number that passes the test for kinds with two parts is such a kind
two : {k k' : ℕ} → k ≡ k' → (eqb k 2 || (eqb k 3 || eqb k 7)) ≡ true → TwoParts k'
two {k' = k'} p t = kinds_two k' (ap (λ (x : ℕ). eqb x 2 || (eqb x 3 || eqb x 7)) (sym p) ∙ t)

pub returns-in-1 : goal.returns-in-1
returns-in-1 c = ap (λ (x : ℕ). 2 ^ 32 + x) c.atom.ensures ∙ atom_key (number_in c.args.reps.now) c.args.r.now (kind_of c.args.r.now) (omega arith)

pub returns-in_default : goal.returns-in_default
returns-in_default c =
    let same = sym c.kind.ensures in
    let half : let k = kind_of c.args.r.now in (k ≡ 5) ⊎ (k ≡ 6) = ⊎_elim (λ p. inl (same ∙ p)) (λ p. inr (same ∙ p)) (half_kind_lem _ (sym c.is_half.ensures ∙ c.if-is_half.true)) in
    ap₂ (λ (x y : ℕ). x * 2 ^ 32 + y) c.kind.ensures c.first.ensures ∙ half_key (number_in c.args.reps.now) c.args.r.now (kind_of c.args.r.now) half

pub overflow_cast-first : goal.overflow_cast-first
overflow_cast-first c = omega (arith, c.requires _ (first_part c.args.r.now (kind_of c.args.r.now) (two c.kind.ensures (sym c.has_parts.ensures ∙ c.if-has_parts.true))))

pub overflow_cast-second : goal.overflow_cast-second
overflow_cast-second c = omega (arith, c.requires _ (second_part_lem c.args.r.now (kind_of c.args.r.now) (two c.kind.ensures (sym c.has_parts.ensures ∙ c.if-has_parts.true))))

pub returns-in_default-2 : goal.returns-in_default-2
returns-in_default-2 c =
    let reps = number_in c.args.reps.now in
    c.key.ensures ∙ joined c.kind.ensures (c.rep_in.ensures ∙ ap reps c.first-first.ensures) (c.rep_in-in_default-2.ensures ∙ ap reps c.second-second.ensures)
    ∙ parts_key reps c.args.r.now (kind_of c.args.r.now) (two c.kind.ensures (sym c.has_parts.ensures ∙ c.if-has_parts.true))

pub returns-in_default-3 : goal.returns-in_default-3
returns-in_default-3 c =
    let same = sym c.kind.ensures in
    let half = no_half _ (sym c.is_half.ensures ∙ c.if-is_half.false) in
    no_key (number_in c.args.reps.now) c.args.r.now (kind_of c.args.r.now) (omega arith)
    (⊎_elim (λ p. half.0 (c.kind.ensures ∙ p)) (λ p. half.1 (c.kind.ensures ∙ p)))
    (kinds_not_two _ (ap (λ (x : ℕ). eqb x 2 || (eqb x 3 || eqb x 7)) same ∙ sym c.has_parts.ensures ∙ c.if-has_parts.false))
