-- The table filled from the last row to the first: from row r on it holds the rows of the trees from there on, each sorted.
-- Assumes nothing.
use mathlib.Core.Path.{◌≡◌, refl, sym, ap, ap₂, ◌∙◌}
use mathlib.Core.List.{List, [], ◌∷◌, ◌++◌, append-nil, append_assoc}
use Prim.Native.Nat.{ℕ, suc, ◌+◌, ◌-◌, ◌≤◌, ◌<◌}
use native.Mathlib.Omega.{arith}
use lib.ListN.{length, get_or, take, drop, set, length-set, length-drop, drop_of_length-le}
use lib.Seq.{length-take-le, drop_at, drop-set-lt, take-suc-set}
use borrow.Rule.Slice.PartMut.{same_len_mid}
use Rattle.formula.specs.Tree.{Tree, lit, node, Forest, ∅, ◌▸◌, rows, count, ◌⧺◌}
use Rattle.formula.specs.Order.{sort, sort_all}
use Rattle.formula.proofs.Tidy.Children.{count-⧺}
use Rattle.formula.proofs.Sorting.{rows-sort, reordered_sort, count_reordered}
use Rattle.sheet.specs.Format.{Bytes, row}
use Rattle.sheet.specs.Sheet.{operator_kind, trees}
use Rattle.rows.specs.Formulas.{node_rows_in, matrix_in}
use Rattle.rows.specs.declared.Layout.{Layout}
use Rattle.rows.proofs.Formulas.{length-nodes, node_row}
use Rattle.subtrees.specs.Subtrees.{top, kids, forest_in, subtree_in}
use Rattle.subtrees.specs.Ends.{Indexed}
use Rattle.subtrees.proofs.Forest.{rest, stepped_at}
use Rattle.subtrees.proofs.Matrix.{trees-nodes, sound_nodes}
use Rattle.subtrees.proofs.Siblings.{row-top, end_subtree, below_row}
use Rattle.tree_order.specs.Tables.{entry, tree_entries, forest_entries, row_in, picked, standing, Stands}
use Rattle.tree_order.specs.Arranging.{arrange, sort_each}
use Rattle.tree_order.specs.Merging.{arranged}
use Rattle.tree_order.proofs.Entries.{forest_entries-⧺, tree_entries-top, standing_is, stands}
use Rattle.tree_order.proofs.Arranging.{sort_all_arranges, sort_each-⧺, count-sort_each}
use Rattle.tree_order.proofs.MergeTurn.{suffix}
use Rattle.tree_order.proofs.Halves.{front_at, behind_at}

-- a sorted tree: its first row, its children, its entries

top-sort : (t : Tree) → top (sort t) ≡ top t
unfolding sort
top-sort (lit s v) = refl
top-sort (node o ts) = ap (λ n. row (operator_kind o) n) (sym (count_reordered (reordered_sort ts)))

kids-sort : (t : Tree) → kids (sort t) ≡ sort_all (kids t)
unfolding sort
kids-sort (lit s v) = refl
kids-sort (node o ts) = refl

entries_sorted : (t : Tree) → tree_entries (sort t) ≡ entry (top t) (rows t) ∷ forest_entries (sort_all (kids t))
entries_sorted t =
    tree_entries-top (sort t) ∙ ap₂ (λ r n. entry r n ∷ forest_entries (kids (sort t))) (top-sort t) (rows-sort t) ∙
    ap (λ ts. entry (top t) (rows t) ∷ forest_entries ts) (kids-sort t)

picked_none : (s : Layout) (b : Bytes) (ends : List ℕ) → picked s b ends [] ≡ []
unfolding picked
picked_none s b ends = refl

picked_cons : (s : Layout) (b : Bytes) (ends : List ℕ) (i : ℕ) (is : List ℕ)
    → picked s b ends (i ∷ is) ≡ entry (row_in s b i) (get_or ends i 0 - i) ∷ picked s b ends is
unfolding picked
picked_cons s b ends i is = refl

sort_each_cons : (t : Tree) (ts : Forest) → forest_entries (sort_each (t ▸ ts)) ≡ tree_entries (sort t) ++ forest_entries (sort_each ts)
unfolding sort_each forest_entries
sort_each_cons t ts = refl

no_entries : forest_entries (sort_each ∅) ≡ []
unfolding sort_each forest_entries
no_entries = refl

no_trees : trees [] ≡ ∅
unfolding trees
no_trees = refl

pub record Filling (s : Layout) (b : Bytes) (ends before : List ℕ) (r : ℕ) (at spare : List ℕ) : Type 0 where
  pub within : r ≤ s.nodes
  pub table_length : length at ≡ s.nodes
  pub spare_length : length spare ≡ length before
  pub filled : picked s b ends (drop r at) ≡ forest_entries (sort_each (forest_in s b r))

module _ {s : Layout} {b : Bytes} {ends : List ℕ} (ix : Indexed s b ends) where
  pub filling_none : (at spare : List ℕ) → length at ≡ s.nodes → Filling s b ends spare s.nodes at spare
  unfolding forest_in
  filling_none at spare e =
      record {
        within = omega arith;
        table_length = e;
        spare_length = refl;
        filled =
            ap (picked s b ends) (drop_of_length-le at {i = s.nodes} (omega (arith, e))) ∙ picked_none s b ends ∙
            sym (ap (λ rs. forest_entries (sort_each (trees rs)))
            (drop_of_length-le (node_rows_in s b) {i = s.nodes} (omega (arith, length-nodes b ix.readable))) ∙
            ap (λ ts. forest_entries (sort_each ts)) no_trees ∙ no_entries);
      }

  pub filling_end : {before at spare : List ℕ} {r : ℕ} → r ≤ 0 → Filling s b ends before r at spare → picked s b ends at ≡ tree_entries (sort (matrix_in s b))
  unfolding forest_in
  filling_end {before} {at} {spare} {r} done f =
      let first : r ≡ 0 = omega arith in
      ap (λ n. picked s b ends (drop n at)) (sym first) ∙ f.filled ∙
      ap (λ n. forest_entries (sort_each (trees (drop n (node_rows_in s b))))) first ∙
      ap (λ ts. forest_entries (sort_each ts)) (trees-nodes b ix.readable) ∙
      sort_each_cons (matrix_in s b) ∅ ∙ ap (λ l. tree_entries (sort (matrix_in s b)) ++ l) no_entries ∙
      append-nil (tree_entries (sort (matrix_in s b)))

  -- one row more: its number is stored, and its children are put in order
  module _ {before at spare : List ℕ} {r i below n : ℕ} (more : r ≡ suc i) (next : below ≡ suc i) (f : Filling s b ends before r at spare)
      (children : n ≡ count (kids (subtree_in s b i))) where
    inside : i < s.nodes
    inside = omega (arith, f.within)

    abbrev own : List ℕ
    own = set at i i

    own-length : length own ≡ length at
    own-length = length-set at i i

    abbrev tree : Tree
    tree = subtree_in s b i

    abbrev beside : Forest
    beside = rest (forest_in s b i)

    whole : forest_in s b i ≡ tree ▸ beside
    unfolding forest_in subtree_in
    whole = (stepped_at (node_rows_in s b) (sound_nodes b ix.readable) i (omega (arith, inside, length-nodes b ix.readable))).whole

    abbrev pub part-lent : List ℕ
    part-lent = take (length own - below) (drop below own)

    lent-picked : picked s b ends part-lent ≡ forest_entries (sort_each (kids tree) ⧺ sort_each beside)
    lent-picked =
        ap (picked s b ends)
        (suffix own below ∙ ap (λ m. drop m own) next ∙ drop-set-lt (suc i) at i i (omega arith) ∙ ap (λ m. drop m at) (sym more)) ∙
        f.filled ∙
        ap (λ m. forest_entries (sort_each (forest_in s b m))) more ∙
        ap (λ ts. forest_entries (sort_each ts)) (below_row b ix.readable i inside) ∙
        ap forest_entries (sort_each-⧺ (kids tree) beside)

    sorted-count : count (sort_each (kids tree)) ≡ n
    sorted-count = count-sort_each (kids tree) ∙ sym children

    pub children-stand : Stands s b ends part-lent n
    children-stand =
        stands s b ends part-lent _ n lent-picked (omega (arith, count-⧺ (sort_each (kids tree)) (sort_each beside), sorted-count))

    pub lent-room : s.nodes ≤ length before → length part-lent ≤ length spare
    lent-room room = omega (arith, ap length (suffix own below), length-drop below own, own-length, f.table_length, f.spare_length)

    module _ (part : List ℕ) (arranges : picked s b ends part ≡ forest_entries (arranged n (standing s b part-lent))) where
      sorted_part : picked s b ends part ≡ forest_entries (sort_all (kids tree)) ++ forest_entries (sort_each beside)
      sorted_part =
          arranges ∙ ap (λ ts. forest_entries (arranged n ts)) (standing_is s b ends part-lent _ lent-picked) ∙
          ap₂ (λ ts us. forest_entries (arrange ts ⧺ us)) (front_at n (sort_each (kids tree)) (sort_each beside) sorted-count)
          (behind_at n (sort_each (kids tree)) (sort_each beside) sorted-count) ∙
          ap (λ ts. forest_entries (ts ⧺ sort_each beside)) (sym (sort_all_arranges (kids tree))) ∙
          forest_entries-⧺ (sort_all (kids tree)) (sort_each beside)

      abbrev pub rejoined : List ℕ
      rejoined = take below own ++ (part ++ drop (length own - below) (drop below own))

      from-own : drop i rejoined ≡ i ∷ part
      from-own =
          ap (λ l. drop i (take below own ++ (part ++ l)))
          (drop_of_length-le (drop below own) {i = length own - below} (omega (arith, length-drop below own))) ∙
          ap₂ (λ m l. drop i (take m own ++ l)) next (append-nil part) ∙
          ap (λ l. drop i (l ++ part)) (take-suc-set at i i (omega (arith, inside, f.table_length))) ∙
          ap (drop i) (append_assoc (take i at) (i ∷ []) part) ∙
          drop_at (take i at) (i ∷ part) i (length-take-le i at (omega (arith, inside, f.table_length)))

      own-entry : entry (row_in s b i) (get_or ends i 0 - i) ≡ entry (top tree) (rows tree)
      own-entry =
          ap₂ entry (sym (node_row s b i) ∙ row-top b ix.readable i inside)
          (ap (λ m. m - i) (end_subtree b ix.readable ends ix i inside) ∙ less i (rows tree))
        where
          less : (a c : ℕ) → a + c - a ≡ c
          less a c = omega arith

      pub filling-turn : {spare' : List ℕ} → length part ≡ length part-lent → length spare' ≡ length spare → Filling s b ends before i rejoined spare'
      filling-turn {spare'} same e =
          record {
            within = omega (arith, inside);
            table_length = same_len_mid below (length own - below) own part same ∙ own-length ∙ f.table_length;
            spare_length = e ∙ f.spare_length;
            filled =
                ap (picked s b ends) from-own ∙ picked_cons s b ends i part ∙ ap₂ ◌∷◌ own-entry sorted_part ∙
                ap (λ l. l ++ forest_entries (sort_each beside)) (sym (entries_sorted tree)) ∙ sym (sort_each_cons tree beside) ∙
                ap (λ ts. forest_entries (sort_each ts)) (sym whole);
          }
