-- `canonical::Tables::open_key` meets its contract: the key as it is, or with the first entry that has the opposite key.
use Rattle.std.proofs.Common.{unwrap_or, rules, of_calls}
use Prim.Native.Nat.{ℕ}
use mathlib.Core.Path.{◌≡◌, sym, ap, ◌∙◌}
use Rattle.canonical.specs.Inner.Key.{key_kind, opposite_key}
use Rattle.canonical.specs.Inner.Tables.{number_in}
use Rattle.canonical.proofs.Laws.Opener.{open_lock, open_other}
use Rattle.canonical.proofs.Tables.open_key.Goals as goal

pub returns-then-kind : goal.returns-then-kind
returns-then-kind c = open_other _ _ _ (λ p. c.if-kind.true (c.kind.ensures ∙ p))

pub returns : goal.returns
returns c =
    let keys = c.args.self.now.keys in
    let is_lock : key_kind (number_in keys c.args.i) ≡ 7 = sym c.kind.ensures ∙ c.if-kind.false in
    let found : c.map_or-opener.result ≡ unwrap_or c.first_key.result c.args.n = search (rules, of_calls) in
    open_lock keys c.args.n (number_in keys c.args.i) is_lock c.requires.bound c.args.buckets.now (c.opposite-other.ensures ∙ ap (λ (j : ℕ). opposite_key (number_in keys j)) c.right.ensures) c.key_bucket-at.ensures
    (c.requires.candidates is_lock) c.first_key.ensures found
