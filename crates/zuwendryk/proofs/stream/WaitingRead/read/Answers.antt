-- `zuwendryk::stream::Waiting::read` meets its contract: calls that failed read nothing, so all are as the last.
use Rattle.std.proofs.Common.{rules, ◌≡◌, ◌∙◌}
use Rattle.std.specs.Io.{ReadsAtMost}
use Rattle.std.specs.Io.KnownBytes.{ReadConsumes}
use Rattle.zuwendryk.proofs.Again.{as_one, read_next}
use Rattle.zuwendryk.proofs.stream.WaitingRead.read.Goals as goal

pub shape_of-self : goal.shape_of-self
shape_of-self g c = as_one _ (λ p r q. p.0.ghost_name ≡ q.0.ghost_name) (λ p r q h. search rules) (λ p e q r s h k. h ∙ k) c.again.ensures

pub returns : goal.returns
returns g c =
    let all = as_one _ (λ p r q. (q.1.ghost_name ≡ p.1.ghost_name) × ReadsAtMost r q.1.now × ReadConsumes (g.S.Read.remaining p.0.now) (g.S.Read.remaining q.0.now) r q.1.now)
    (λ p r q h. (search rules, search rules, search rules)) (λ p e q r s h k. (k.0 ∙ h.0, k.1, read_next _ _ _ r _ h.2 k.2)) c.again.ensures in
    record { bound = search rules; bytes = search rules }
