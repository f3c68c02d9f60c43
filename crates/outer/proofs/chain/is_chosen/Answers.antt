-- `outer::chain::is_chosen` meets its contract.
use mathlib.Core.Path.{sym, ◌∙◌, ap}
use mathlib.Core.Bool.{not}
use lib.Dec.{eqb}
use Rattle.subtrees.specs.Subtrees.{subtree_in}
use Rattle.substitution.specs.Changes.{entry}
use Rattle.outer.proofs.Linking.{chosen_at}
use Rattle.outer.proofs.chain.is_chosen.Goals as goal

pub returns : goal.returns
returns c =
    let v = c.literal_at-v.ensures.0 in
    let t = c.args.table.now in
    ap (λ e. not (eqb e c.literal_at-v.result)) c.entry.ensures ∙ ap (λ n. not (eqb (entry t n) n)) v ∙
    sym (chosen_at t c.requires.2 (subtree_in c.args.s c.args.b.now c.args.i))
