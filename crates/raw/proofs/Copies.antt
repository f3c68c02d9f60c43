-- The rows of the two copies: the subtree copied whole, or its relevant children alone.
-- Assumes nothing.
use mathlib.Core.Path.{◌≡◌, refl, sym, ap, ap₂, ◌∙◌}
use mathlib.Core.Bool.{Bool, true, false, not, ◌||◌, cond, false≢true, true≢false}
use mathlib.Core.List.{List, ◌∷◌, ◌++◌, append-nil, map}
use Prim.Native.Nat.{ℕ, suc, ◌+◌, ◌-◌, ◌≤◌}
use native.Mathlib.Omega.{arith}
use lib.ListN.{get_or, drop}
use lib.Seq.{slice}
use Rattle.formula.specs.Tree.{Op, Tree, lit, node, Forest, ∅, ◌▸◌, Literals, has, has_any, replace, replace_all, count, keep}
use Rattle.formula.specs.Expand.{Copying, relevant, copies, at_first, expand_tree}
use Rattle.sheet.specs.Format.{Row, row}
use Rattle.sheet.specs.Sheet.{operator_kind, tree_rows, forest_rows}
use Rattle.subtrees.specs.Subtrees.{top, kids}
use Rattle.subtrees.specs.Cuts.{every_other}
use Rattle.subtrees.specs.Parts.{operator_part}
use Rattle.substitution.specs.Changes.{chosen, changed, changed_row}
use Rattle.substitution.proofs.Changed.{count-replace_all, rows-changed, rows-changed-all}
use Rattle.raw.specs.Expansions.{joined}
use Rattle.raw.proofs.Around.{Deepest, own_part}
use Rattle.raw.proofs.Cuts.{Parted}

-- count

count_divided : (P : Tree → Bool) (ts : Forest) → count (keep P ts) + count (keep (λ t. not (P t)) ts) ≡ count ts
unfolding count keep
count_divided P ∅ = refl
count_divided P (t ▸ ts) = by (P t) (count_divided P ts)
  where
    by : (m : Bool) → count (keep P ts) + count (keep (λ t. not (P t)) ts) ≡ count ts
        → count (cond m (t ▸ keep P ts) (keep P ts)) + count (cond (not m) (t ▸ keep (λ t. not (P t)) ts) (keep (λ t. not (P t)) ts)) ≡ suc (count ts)
    by true e = omega arith
    by false e = omega arith

module _ (L : Literals) where
  -- the new node counts once, for all the relevant children
  count-at_first : (new : Tree) (ts : Forest) → has_any L ts ≡ true → count (at_first L new ts) + count (keep (has L) ts) ≡ count ts + 1
  unfolding has count keep at_first
  count-at_first new ∅ h = absurd (false≢true h)
  count-at_first new (t ▸ ts) h = by (has L t) h (count-at_first new ts)
    where
      by : (m : Bool) → (m || has_any L ts) ≡ true
          → (has_any L ts ≡ true → count (at_first L new ts) + count (keep (has L) ts) ≡ count ts + 1)
          → count (cond m (new ▸ keep (λ u. not (has L u)) ts) (t ▸ at_first L new ts)) + count (cond m (t ▸ keep (has L) ts) (keep (has L) ts)) ≡ suc (count ts) + 1
      by true k rest = omega (arith, count_divided (has L) ts)
      by false k rest = let e = rest k in omega arith

  some_kept : (ts : Forest) → has_any L ts ≡ true → 1 ≤ count (keep (has L) ts)
  unfolding has count keep
  some_kept ∅ h = absurd (false≢true h)
  some_kept (t ▸ ts) h = by (has L t) h (some_kept ts)
    where
      by : (m : Bool) → (m || has_any L ts) ≡ true → (has_any L ts ≡ true → 1 ≤ count (keep (has L) ts))
          → 1 ≤ count (cond m (t ▸ keep (has L) ts) (keep (has L) ts))
      by true k rest = omega arith
      by false k rest = rest k

  -- an operator not every child of which is relevant has a relevant one, and at most as many as children
  pub relevant_few : (u : Tree) (i : ℕ) → Deepest L u → (own_part L i u).all ≡ false
      → (1 ≤ (own_part L i u).children) × ((own_part L i u).children ≤ count (kids u))
  unfolding operator_part relevant
  relevant_few (lit s v) i d h = absurd (true≢false h)
  relevant_few (node o ts) i d h = (some_kept ts d.0, omega (arith, count_divided (has L) ts))

module _ (joint : Op) (first second : List ℕ) where
  abbrev L : Literals
  L = chosen second

  abbrev c : Copying
  c = record { chosen = L; joint = joint; first = changed first; second = changed second }

  both-copies : (u : Tree) (i : ℕ) → Deepest L u → (own_part L i u).all ≡ true
      → expand_tree c u ≡ node joint (replace (changed first) u ▸ replace (changed second) u ▸ ∅)
  unfolding operator_part expand_tree copies replace
  both-copies (lit s v) i d h = refl
  both-copies (node o ts) i d h = rw (d.1, h)

  -- the joint and two copies of all rows
  pub whole_rows : (u : Tree) (i : ℕ) → Deepest L u → (own_part L i u).all ≡ true
      → tree_rows (expand_tree c u) ≡
      row (operator_kind joint) 2 ∷ (map (changed_row first) (tree_rows u) ++ map (changed_row second) (tree_rows u))
  unfolding tree_rows count
  whole_rows u i d h =
      ap tree_rows (both-copies u i d h) ∙
      ap₂ (λ l m. row (operator_kind joint) 2 ∷ (l ++ m)) (sym (rows-changed first u))
      (append-nil (tree_rows (replace (changed second) u)) ∙ sym (rows-changed second u))

  copies-rows : (o : Op) (rs : Forest)
      → tree_rows (copies c o rs) ≡ joined (operator_kind joint) (row (operator_kind o) (count rs)) first second (forest_rows rs)
  unfolding tree_rows copies count joined
  copies-rows o rs =
      ap₂ (λ l m. row (operator_kind joint) 2 ∷ (l ++ m)) (one first) (append-nil (tree_rows (node o (replace_all (changed second) rs))) ∙ one second)
    where
      one : (t : List ℕ)
          → row (operator_kind o) (count (replace_all (changed t) rs)) ∷ forest_rows (replace_all (changed t) rs) ≡
          row (operator_kind o) (count rs) ∷ map (changed_row t) (forest_rows rs)
      one t = ap₂ (λ n l. row (operator_kind o) n ∷ l) (count-replace_all (changed t) rs) (sym (rows-changed-all t rs))

  -- an operator's row, its children before the first relevant one, the joint over two copies of the relevant children under rows of the
  -- operator's kind, and the other children
  pub some_rows : (u : Tree) (i : ℕ) → Deepest L u → (own_part L i u).all ≡ false → {N : List Row} {at : ℕ} {cs : List ℕ}
      → Parted second N at (kids u) cs → (r : ℕ) → r ≡ (own_part L i u).children
      → tree_rows (expand_tree c u) ≡
      row (top u).kind (count (kids u) - r + 1) ∷
      (slice (get_or cs 0 0) (get_or cs 1 0) N ++
      (joined (operator_kind joint) (row (top u).kind r) first second (every_other (drop 1 cs) N) ++ every_other (drop 2 cs) N))
  unfolding operator_part expand_tree tree_rows relevant
  some_rows (lit s v) i d h p r e = absurd (true≢false h)
  some_rows (node o ts) i d h {N} {at} {cs} p r e =
      rw (d.1, h)
      (ap₂ (λ n l. row (operator_kind o) n ∷ l) counted
      (p.placed new d.0 ∙
      ap (λ l. slice (get_or cs 0 0) (get_or cs 1 0) N ++ (l ++ every_other (drop 2 cs) N))
      (copies-rows o (keep (has L) ts) ∙
      ap₂ (λ n l. joined (operator_kind joint) (row (operator_kind o) n) first second l) (sym e) (sym p.holding))))
    where
      new : Tree
      new = copies c o (keep (has L) ts)

      counted : count (at_first L new ts) ≡ count ts - r + 1
      counted = omega (arith, count-at_first L new ts d.0, count_divided (has L) ts, e)
