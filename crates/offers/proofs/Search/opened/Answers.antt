-- `offers::Search::opened` meets its contract: by the kind.
use mathlib.Core.Path.{refl, sym, ap, ◌∙◌}
use mathlib.Core.List.{List}
use Prim.Native.Nat.{ℕ}
use Rattle.bitset.specs.Words.{value}
use Rattle.deduction.specs.Setting.{Setting, switches}
use Rattle.deduction.specs.Run.{by_rule}
use Rattle.dag.specs.Kind.{byte_of}
use Rattle.offers.proofs.Laws.Search.{offered_none, offered_as, offered_when, offered_unless, offered_then}
use Rattle.offers.proofs.Laws.Gives.{gives_pair, gives_enc, gives_lock, gives_none, gives_past}
use Rattle.offers.proofs.Search.opened.Goals as goal

pub returns-in-Pair : goal.returns-in-Pair
returns-in-Pair c = let a = c.args in
    let second : Setting → ℕ → List ℕ = λ on g. by_rule on c.right.result 2 a.i in
    offered_as
    (gives_pair (switches a.self.now.rules) (value a.self.now.known) a.key a.i c.kind.ensures (ap byte_of (sym c.in-Pair.is) ∙ c.in-Ok.ensures) c.left.ensures c.right.ensures)
    (offered_then second c.offer.ensures c.offer-in-Pair.ensures)

pub returns-then-holds : goal.returns-then-holds
returns-then-holds c = let a = c.args in
    offered_as
    (gives_enc (switches a.self.now.rules) (value a.self.now.known) a.key a.i c.kind.ensures (ap byte_of (sym c.in-Enc.is) ∙ c.in-Ok.ensures) c.left-then-holds.ensures c.right-in-Enc.ensures c.holds.ensures)
    (offered_when _ c.if-holds.true c.offer-then-holds.ensures)

pub returns-else-holds : goal.returns-else-holds
returns-else-holds c = let a = c.args in
    offered_as
    (gives_enc (switches a.self.now.rules) (value a.self.now.known) a.key a.i c.kind.ensures (ap byte_of (sym c.in-Enc.is) ∙ c.in-Ok.ensures) refl c.right-in-Enc.ensures c.holds.ensures)
    (offered_unless _ c.if-holds.false (offered_none a.self.now))

pub returns-then-is_known : goal.returns-then-is_known
returns-then-is_known c = let a = c.args in
    offered_as
    (gives_lock (switches a.self.now.rules) (value a.self.now.known) a.key a.i c.kind.ensures (ap byte_of (sym c.in-Aenc.is) ∙ c.in-Ok.ensures) c.left-then-is_known.ensures c.opener.ensures c.is_known.ensures)
    (offered_when _ c.if-is_known.true c.offer-then-is_known.ensures)

pub returns-else-is_known : goal.returns-else-is_known
returns-else-is_known c = let a = c.args in
    offered_as
    (gives_lock (switches a.self.now.rules) (value a.self.now.known) a.key a.i c.kind.ensures (ap byte_of (sym c.in-Aenc.is) ∙ c.in-Ok.ensures) refl c.opener.ensures c.is_known.ensures)
    (offered_unless _ c.if-is_known.false (offered_none a.self.now))

pub returns-in_default-kind : goal.returns-in_default-kind
returns-in_default-kind c = let a = c.args in
    let kind = c.in_default-kind in
    offered_as
    (gives_none (switches a.self.now.rules) (value a.self.now.known) a.key a.i c.kind.ensures _ c.in-Ok.ensures kind.not-Pair kind.not-Enc kind.not-Aenc)
    (offered_none a.self.now)

pub returns-in_default : goal.returns-in_default
returns-in_default c = let a = c.args in
    offered_as (gives_past (switches a.self.now.rules) (value a.self.now.known) a.key a.i c.kind.ensures c.in_default.ensures.1) (offered_none a.self.now)
