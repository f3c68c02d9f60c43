-- `prefixes::is_existential` meets its contract: by the row's kind.
use Rattle.std.proofs.Common.{sym, ap, ◌∙◌, ℕ}
use lib.Dec.{eqb}
use Rattle.formula.specs.Tree.{Binding, same_op, exists}
use Rattle.prefixes.proofs.Places.{is_exists, binding_row}
use Rattle.prefixes.proofs.is_existential.Goals as goal

pub returns : goal.returns
returns c =
    ap (λ (k : ℕ). eqb k 1) c.kind_at.ensures ∙ sym (is_exists _) ∙
    ap (λ (z : Binding). same_op exists z.quantifier) (sym (binding_row c.args.b.now c.requires.0 c.args.i c.requires.1))
