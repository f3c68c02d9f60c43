-- The entries of trees side by side, and tables that pick them.
-- Assumes nothing.
use mathlib.Core.Path.{◌≡◌, refl, sym, ap, ap₂, ◌∙◌, subst}
use mathlib.Core.Bool.{Bool, true, false}
use mathlib.Core.List.{List, [], ◌∷◌, ◌++◌, map, append_assoc, map-append}
use Prim.Native.Nat.{ℕ, zero, suc, ◌+◌, ◌-◌, ◌≤◌, ◌<◌}
use native.Mathlib.Omega.{arith}
use lib.ListN.{length, get_or, take, drop, length-append, length-map, get_or-eq_default}
use lib.Seq.{take_at, drop_at}
use lib.Dec.{ltb}
use borrow.Author.Tests.{ltb-true, ltb-false}
use Rattle.formula.specs.Tree.{and, or, Tree, lit, node, Forest, ∅, ◌▸◌, rows, rows_all, count, ◌⧺◌}
use Rattle.sheet.specs.Format.{Bytes, Row, row, Every}
use Rattle.sheet.specs.Sheet.{operator_kind, trees, tree_rows, forest_rows}
use Rattle.sheet.proofs.Every.{every-++}
use Rattle.sheet.proofs.Preorder.{rows_positive}
use Rattle.rows.specs.Formulas.{node_rows_in}
use Rattle.rows.specs.declared.Layout.{Layout}
use Rattle.subtrees.specs.Subtrees.{top, kids}
use Rattle.subtrees.proofs.Forest.{trees-rows}
use Rattle.tree_order.specs.Tables.{Entry, entry, tree_entries, forest_entries, row_in, picked_rows, entry_in, picked, Numbers, standing, Stands}

-- entries

contents : List Entry → List Row
contents es = map (λ (e : Entry). e.content) es

mutual
  unfolding contents tree_entries tree_rows

  contents_tree : (t : Tree) → contents (tree_entries t) ≡ tree_rows t
  contents_tree (lit s v) = refl
  contents_tree (node o ts) = ap (λ l. row (operator_kind o) (count ts) ∷ l) (contents_forest ts)

  contents_forest : (ts : Forest) → contents (forest_entries ts) ≡ forest_rows ts
  contents_forest ∅ = refl
  contents_forest (t ▸ ts) =
      map-append (λ (e : Entry). e.content) (tree_entries t) (forest_entries ts) ∙ ap₂ ◌++◌ (contents_tree t) (contents_forest ts)

pub forest_entries-⧺ : (ts us : Forest) → forest_entries (ts ⧺ us) ≡ forest_entries ts ++ forest_entries us
unfolding forest_entries ◌⧺◌
forest_entries-⧺ ∅ us = refl
forest_entries-⧺ (t ▸ ts) us = ap (λ l. tree_entries t ++ l) (forest_entries-⧺ ts us) ∙ sym (append_assoc (tree_entries t) (forest_entries ts) (forest_entries us))

mutual
  unfolding tree_entries rows

  pub length-tree_entries : (t : Tree) → length (tree_entries t) ≡ rows t
  length-tree_entries (lit s v) = refl
  length-tree_entries (node o ts) = ap suc (length-forest_entries ts)

  pub length-forest_entries : (ts : Forest) → length (forest_entries ts) ≡ rows_all ts
  length-forest_entries ∅ = refl
  length-forest_entries (t ▸ ts) = length-append (tree_entries t) (forest_entries ts) ∙ ap₂ ◌+◌ (length-tree_entries t) (length-forest_entries ts)

-- a tree's first entry
pub tree_entries-top : (t : Tree) → tree_entries t ≡ entry (top t) (rows t) ∷ forest_entries (kids t)
unfolding tree_entries rows
tree_entries-top (lit s v) = refl
tree_entries-top (node o ts) = refl

-- every entry is a node's
abbrev NodeEntry : Entry → Type 0
NodeEntry e = 0 < e.content.kind

mutual
  unfolding tree_entries

  node_tree : (t : Tree) → Every NodeEntry (tree_entries t)
  node_tree (lit true v) = (omega arith, tt)
  node_tree (lit false v) = (omega arith, tt)
  node_tree (node and ts) = (omega arith, node_forest ts)
  node_tree (node or ts) = (omega arith, node_forest ts)

  node_forest : (ts : Forest) → Every NodeEntry (forest_entries ts)
  node_forest ∅ = tt
  node_forest (t ▸ ts) = every-++ NodeEntry (tree_entries t) (forest_entries ts) (node_tree t) (node_forest ts)

-- picked

map-take : {A B : Type 0} (f : A → B) (n : ℕ) (xs : List A) → map f (take n xs) ≡ take n (map f xs)
map-take f zero xs = refl
map-take f (suc n) [] = refl
map-take f (suc n) (x ∷ xs) = ap (λ l. f x ∷ l) (map-take f n xs)

map-drop : {A B : Type 0} (f : A → B) (n : ℕ) (xs : List A) → map f (drop n xs) ≡ drop n (map f xs)
map-drop f zero xs = refl
map-drop f (suc n) [] = refl
map-drop f (suc n) (x ∷ xs) = map-drop f n xs

module _ (s : Layout) (b : Bytes) (ends : List ℕ) where
  pub picked-++ : (xs ys : List ℕ) → picked s b ends (xs ++ ys) ≡ picked s b ends xs ++ picked s b ends ys
  unfolding picked
  picked-++ xs ys = map-append (entry_in s b ends) xs ys

  pub picked-take : (n : ℕ) (xs : List ℕ) → picked s b ends (take n xs) ≡ take n (picked s b ends xs)
  unfolding picked
  picked-take n xs = map-take (entry_in s b ends) n xs

  pub picked-drop : (n : ℕ) (xs : List ℕ) → picked s b ends (drop n xs) ≡ drop n (picked s b ends xs)
  unfolding picked
  picked-drop n xs = map-drop (entry_in s b ends) n xs

  pub length-picked : (xs : List ℕ) → length (picked s b ends xs) ≡ length xs
  unfolding picked
  length-picked xs = length-map xs (entry_in s b ends)

  picked_contents : (xs : List ℕ) → contents (picked s b ends xs) ≡ picked_rows s b xs
  unfolding contents picked picked_rows
  picked_contents [] = refl
  picked_contents (x ∷ xs) = ap (λ l. row_in s b x ∷ l) (picked_contents xs)

  -- entries of trees: their rows are those of the trees, which stand there
  pub rows-picked : (xs : List ℕ) (ts : Forest) → picked s b ends xs ≡ forest_entries ts → picked_rows s b xs ≡ forest_rows ts
  rows-picked xs ts e = sym (picked_contents xs) ∙ ap contents e ∙ contents_forest ts

  pub rows-picked_tree : (xs : List ℕ) (t : Tree) → picked s b ends xs ≡ tree_entries t → picked_rows s b xs ≡ tree_rows t
  rows-picked_tree xs t e = sym (picked_contents xs) ∙ ap contents e ∙ contents_tree t

  pub standing_is : (xs : List ℕ) (ts : Forest) → picked s b ends xs ≡ forest_entries ts → standing s b xs ≡ ts
  unfolding standing
  standing_is xs ts e = ap trees (rows-picked xs ts e) ∙ trees-rows ts

  pub stands : (xs : List ℕ) (ts : Forest) (k : ℕ) → picked s b ends xs ≡ forest_entries ts → k ≤ count ts → Stands s b ends xs k
  stands xs ts k e l =
      let is = standing_is xs ts e in
      record { whole = e ∙ ap forest_entries (sym is); few = rw is l }

  -- node entries are picked by numbers of node rows
  numbers-node : (xs : List ℕ) → length (node_rows_in s b) ≡ s.nodes → Every NodeEntry (picked s b ends xs) → Numbers s xs
  unfolding picked
  numbers-node [] n h = tt
  numbers-node (x ∷ xs) n h = (by (ltb x s.nodes) refl, numbers-node xs n h.1)
    where
      by : (t : Bool) → ltb x s.nodes ≡ t → x < s.nodes
      by true e = ltb-true x s.nodes e
      by false e =
          let out : row_in s b x ≡ row 0 0 = get_or-eq_default (node_rows_in s b) (row 0 0) {n = x} (omega (arith, n, ltb-false x s.nodes e)) in
          absurd (omega (arith, h.0, ap (λ (r : Row). r.kind) out))

  pub numbers_tree : (xs : List ℕ) (t : Tree) → length (node_rows_in s b) ≡ s.nodes → picked s b ends xs ≡ tree_entries t → Numbers s xs
  numbers_tree xs t n e = numbers-node xs n (subst (Every NodeEntry) (sym e) (node_tree t))

  pub numbers_forest : (xs : List ℕ) (ts : Forest) → length (node_rows_in s b) ≡ s.nodes → picked s b ends xs ≡ forest_entries ts → Numbers s xs
  numbers_forest xs ts n e = numbers-node xs n (subst (Every NodeEntry) (sym e) (node_forest ts))

-- The first tree of a table, and those behind it.
pub record Headed (s : Layout) (b : Bytes) (ends at : List ℕ) (t : Tree) (ts : Forest) : Type 0 where
  pub some : 0 < length at
  pub inside : get_or at 0 0 < s.nodes
  pub size : get_or ends (get_or at 0 0) 0 - get_or at 0 0 ≡ rows t
  pub within : rows t ≤ length at
  pub first : picked s b ends (take (rows t) at) ≡ tree_entries t
  pub others : picked s b ends (drop (rows t) at) ≡ forest_entries ts

module _ {s : Layout} {b : Bytes} {ends : List ℕ} (nodes_read : length (node_rows_in s b) ≡ s.nodes) where
  pub headed : (at : List ℕ) (t : Tree) (ts : Forest) → picked s b ends at ≡ forest_entries (t ▸ ts) → Headed s b ends at t ts
  unfolding forest_entries picked
  headed [] t ts e =
      let z : ◌≡◌ {A = ℕ} 0 (rows t + rows_all ts) = ap length e ∙ length-append (tree_entries t) (forest_entries ts) ∙ ap₂ ◌+◌ (length-tree_entries t) (length-forest_entries ts) in
      absurd (omega (arith, rows_positive t))
  headed (x ∷ xs) t ts e =
      let long = sym (length-picked s b ends (x ∷ xs)) ∙ ap length e ∙ length-append (tree_entries t) (forest_entries ts) in
      let first_entry = e ∙ ap (λ l. l ++ forest_entries ts) (tree_entries-top t) in
      record {
        some = omega arith;
        inside = (numbers_forest s b ends (x ∷ xs) (t ▸ ts) nodes_read e).0;
        size = ap (λ (l : List Entry). (get_or l 0 (entry (row 0 0) 0)).size) first_entry;
        within = omega (arith, long, length-tree_entries t);
        first = picked-take s b ends (rows t) (x ∷ xs) ∙ ap (take (rows t)) e ∙ take_at (tree_entries t) (forest_entries ts) (rows t) (length-tree_entries t);
        others = picked-drop s b ends (rows t) (x ∷ xs) ∙ ap (drop (rows t)) e ∙ drop_at (tree_entries t) (forest_entries ts) (rows t) (length-tree_entries t);
      }
