-- `subtrees::ends::fill_ends` meets its contract: before a row is filled, its children are hopped over.
use Rattle.std.proofs.Common.{◌≡◌, ◌∙◌, ℕ, ◌+◌, ◌-◌, ◌≤◌, ◌<◌, List, length, arith}
use Rattle.formula.specs.Tree.{count}
use Rattle.sheet.specs.Format.{Bytes}
use Rattle.rows.specs.Formulas.{node_rows_in, Readable}
use Rattle.rows.specs.declared.Layout.{Layout}
use Rattle.rows.proofs.Formulas.{length-nodes}
use Rattle.subtrees.specs.Subtrees.{kids, forest_in, subtree_in}
use Rattle.subtrees.proofs.Table.{Filling, Hopping, fill_none, fill-hops, fill-turn}
use Rattle.subtrees.proofs.Matrix.{sound_nodes, filled-ends}
use Rattle.subtrees.proofs.ends.fill_ends.Goals as goal

pub loop-i-init : goal.loop-i-init
loop-i-init c =
    let b = c.args.b.now in
    let long = length-nodes b c.requires.0 in
    fill_none (node_rows_in c.args.s b) (sound_nodes b c.requires.0) c.args.ends.now long (omega arith)

hopped : {s : Layout} (b : Bytes) {before : List ℕ} (ends : List ℕ) {i k : ℕ} → Readable s b × (s.nodes ≤ length before) → 0 < i
    → Filling (node_rows_in s b) s.nodes before i ends → k ≡ count (kids (subtree_in s b (i - 1)))
    → Hopping (node_rows_in s b) ends (i - 1 + 1) k (i - 1)
unfolding subtree_in forest_in
hopped {s} b ends ok h f few =
    let long = length-nodes b ok.0 in
    fill-hops (node_rows_in s b) (sound_nodes b ok.0) ends (omega arith) (omega arith) (omega arith) f few

pub hop-requires : goal.hop-requires
hop-requires c = (hopped c.args.b.now _ c.requires c.loop-i-test.true c.loop-i.invariant c.children_at-children.ensures.0).in_table

pub overflow_cast-ends : goal.overflow_cast-ends
overflow_cast-ends c =
    let b = c.args.b.now in
    let long = length-nodes b c.requires.0 in
    let over = hopped b _ c.requires c.loop-i-test.true c.loop-i.invariant c.children_at-children.ensures.0 in
    omega (arith, over.within, c.hop.ensures, long, c.requires.0.few_nodes)

pub loop-i-preserved : goal.loop-i-preserved
loop-i-preserved c =
    let b = c.args.b.now in
    let long = length-nodes b c.requires.0 in
    let over = hopped b _ c.requires c.loop-i-test.true c.loop-i.invariant c.children_at-children.ensures.0 in
    fill-turn (node_rows_in c.args.s b) (sound_nodes b c.requires.0) c.loop-i.ends c.hop.result (omega arith) (omega arith)
    c.loop-i.invariant (c.hop.ensures ∙ over.at_end)

pub returns-clause-indexed : goal.returns-clause-indexed
returns-clause-indexed c =
    let b = c.args.b.now in
    let long = length-nodes b c.requires.0 in
    let done : c.loop-i.i ≡ 0 = omega arith in
    filled-ends b c.requires.0 c.loop-i.ends (omega (arith, c.loop-i.invariant.same_length)) (rw done at c.loop-i.invariant.filled)

pub returns-clause-ends_unchanged : goal.returns-clause-ends_unchanged
returns-clause-ends_unchanged c = rw (length-nodes c.args.b.now c.requires.0) at c.loop-i.invariant.kept
