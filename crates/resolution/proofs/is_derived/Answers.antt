-- `resolution::is_derived` meets its contract.
use Rattle.std.proofs.Common.{ap, ◌∙◌}
use borrow.Author.Tests.{eq-eqb}
use Rattle.resolution.specs.Steps.{derived_by}
use Rattle.resolution.proofs.Steps.{first_word_zero, first_word_pivot}
use Rattle.resolution.proofs.is_derived.Goals as goal

pub returns-then-w-eq0 : goal.returns-then-w-eq0
returns-then-w-eq0 c =
    let a = c.args in
    let w = c.head_word-w in
    λ o p r.
    eq-eqb w.result 0 c.if-w-eq0.true ∙ first_word_zero o p a.heads.now a.codes.now a.k w.result c.if-w-eq0.true ∙
    ap (derived_by o p a.heads.now a.codes.now a.k) w.ensures.0

pub returns-else-w-eq0 : goal.returns-else-w-eq0
returns-else-w-eq0 c =
    let a = c.args in
    let w = c.head_word-w in
    λ o p r.
    c.follows_by.ensures o p r ∙ first_word_pivot o p a.heads.now a.codes.now a.k w.result c.if-w-eq0.false ∙
    ap (derived_by o p a.heads.now a.codes.now a.k) w.ensures.0
