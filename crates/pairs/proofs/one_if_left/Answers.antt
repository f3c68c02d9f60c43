-- `pairs::one_if_left` meets its contract.
use Rattle.std.proofs.Common.{◌≤◌, sym, ap, subst, ◌∙◌, ℕ}
use mir.Val.{bool_byte}
use Rattle.formula.specs.Strategy.{winner}
use Rattle.prefixes.specs.Places.{binding_in}
use Rattle.pairs.proofs.Rows.{one-left, side_of}
use Rattle.pairs.proofs.one_if_left.Goals as goal

pub returns : goal.returns
returns c =
    let a = c.args in
    let z = binding_in a.s a.b.now a.i in
    let is = c.from.ensures ∙ ap bool_byte (side_of a.exists z.quantifier c.is_existential.ensures) in
    let one = one-left (winner a.exists) z in
    (is ∙ one.0, subst (λ (n : ℕ). n ≤ 1) (sym is) one.1)
