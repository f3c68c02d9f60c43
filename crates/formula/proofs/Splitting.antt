-- The two splitting rules in the paper's own form: the outermost variable replaced by 0 and by 1.
-- Assumes nothing.
use mathlib.Core.Path.{◌≡◌, sym, ◌∙◌, ap₂}
use mathlib.Core.Bool.{Bool, true, false}
use mathlib.Core.List.{◌∷◌}
use Rattle.formula.specs.Tree.{Tree, Binding, Prefix, binds, assign}
use Rattle.formula.specs.Truth.{Assignment, put, join, eval, bind, truth}
use Rattle.formula.proofs.Binding.{bind_ext, bind-put}
use Rattle.formula.proofs.Evaluation.{eval-assign}

-- exists z: true with z = 0 or with z = 1; for all z: with both
pub truth_splits : (z : Binding) (p : Prefix) (t : Tree) → binds p z.variable ≡ false
    → truth (record { prefix = z ∷ p; matrix = t }) ≡
    join z.quantifier (truth (record { prefix = p; matrix = assign z.variable false t }))
    (truth (record { prefix = p; matrix = assign z.variable true t }))
unfolding truth bind
truth_splits z p t h = ap₂ (join z.quantifier) (side false) (side true)
  where
    start : Assignment
    start v = false

    side : (b : Bool) → bind p (eval t) (put start z.variable b) ≡ bind p (eval (assign z.variable b t)) start
    side b =
        bind-put p (eval t) z.variable b start h ∙ sym (bind_ext p (λ ρ. eval-assign z.variable b t ρ) start)
