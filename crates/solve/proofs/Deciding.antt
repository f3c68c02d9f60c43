-- The verdict of a tree from its first row.
-- Assumes nothing.
use mathlib.Core.Path.{◌≡◌, refl}
use mathlib.Core.Bool.{true, false}
use mathlib.Core.Option.{none, some}
use Prim.Native.Nat.{◌≤◌, ◌<◌}
use native.Mathlib.Omega.{arith}
use Rattle.formula.specs.Tree.{and, or, Tree, lit, node, ∅, ◌▸◌, count}
use Rattle.formula.specs.Tidy.{verdict}
use Rattle.subtrees.specs.Subtrees.{top}

pub open_literal : (t : Tree) → (top t).kind ≤ 4 → none ≡ verdict t
unfolding verdict
open_literal (lit s v) h = refl
open_literal (node and ts) h = absurd (omega arith)
open_literal (node or ts) h = absurd (omega arith)

pub open_operator : (t : Tree) → 4 < (top t).kind → ((top t).argument ≡ 0 → ⊥) → none ≡ verdict t
unfolding verdict count
open_operator (lit true v) h k = absurd (omega arith)
open_operator (lit false v) h k = absurd (omega arith)
open_operator (node and ∅) h k = absurd (k refl)
open_operator (node or ∅) h k = absurd (k refl)
open_operator (node and (t ▸ ts)) h k = refl
open_operator (node or (t ▸ ts)) h k = refl

pub decided_true : (t : Tree) → (top t).kind ≡ 5 → (top t).argument ≡ 0 → some true ≡ verdict t
unfolding verdict count
decided_true (lit true v) h k = absurd (omega arith)
decided_true (lit false v) h k = absurd (omega arith)
decided_true (node and ∅) h k = refl
decided_true (node or ts) h k = absurd (omega arith)
decided_true (node and (t ▸ ts)) h k = absurd (omega arith)

pub decided_false : (t : Tree) → 4 < (top t).kind → ((top t).kind ≡ 5 → ⊥) → (top t).argument ≡ 0 → some false ≡ verdict t
unfolding verdict count
decided_false (lit true v) h n k = absurd (omega arith)
decided_false (lit false v) h n k = absurd (omega arith)
decided_false (node and ts) h n k = absurd (n refl)
decided_false (node or ∅) h n k = refl
decided_false (node or (t ▸ ts)) h n k = absurd (omega arith)
