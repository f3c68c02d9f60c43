-- The rows of pairs: where each pair begins, its literal and its function.
-- Assumes nothing.
use mathlib.Core.Path.{◌≡◌, refl, sym, ap, ap₂, ◌∙◌, subst}
use mathlib.Core.Bool.{Bool, true, false, not}
use mathlib.Core.List.{List, [], ◌∷◌, ◌++◌, append_assoc, append-nil}
use Prim.Native.Nat.{ℕ, zero, suc, ◌+◌, ◌-◌, ◌≤◌, ◌<◌}
use native.Mathlib.Omega.{arith}
use lib.ListN.{length, get_or, take, drop, length-append, take-append-drop}
use lib.Seq.{drop_at, take_at, drop-cons, get_or-drop, length-take-le, slice}
use borrow.Author.Tests.{not-false}
use Rattle.formula.specs.Tree.{and, or, Tree, lit, node, Forest, ∅, ◌▸◌, Prefix, rows, rows_all, count, has, has_any, binds, closed}
use Rattle.formula.specs.Strategy.{Pair, Pairs}
use Rattle.formula.specs.StrategyMatrix.{pair_trees, strategy_matrix}
use Rattle.formula.proofs.Booleans.{or_parts}
use Rattle.sheet.specs.Format.{Bytes, Row, row, Every}
use Rattle.sheet.specs.Sheet.{tree_rows, forest_rows}
use Rattle.sheet.proofs.Preorder.{length-tree_rows}
use Rattle.sheet.proofs.Every.{every-++, every_at}
use Rattle.rows.specs.Layouts.{rows_in}
use Rattle.rows.specs.Formulas.{prefix_in, node_rows_in, matrix_in, formula_in, Readable}
use Rattle.rows.specs.declared.Layout.{Layout}
use Rattle.rows.proofs.Formulas.{node_row, length-nodes, one_tree, rows-nodes}
use Rattle.raw.proofs.Source.{nodes_part}
use Rattle.substitution.specs.declared.Span.{Span}
use Rattle.reduce.specs.Inner.Places.{Numbered, row_of, Bound}
use Rattle.pair_tests.specs.Pairs.{pairs_in, pair_cuts, Paired}
use Rattle.pair_tests.specs.Levels.{Standing, Function}

-- cuts

abbrev pub no_pair : Pair
no_pair = record { variable = 0; function = node or ∅ }

abbrev pair_tree : Pair → Tree
pair_tree c = node and (lit true c.variable ▸ c.function ▸ ∅)

pub length-cuts : (i : ℕ) (g : Pairs) → length (pair_cuts i g) ≡ suc (length g)
unfolding pair_cuts
length-cuts i [] = refl
length-cuts i (c ∷ g) = ap suc (length-cuts (i + (2 + rows c.function)) g)

first_cut : (i : ℕ) (g : Pairs) → get_or (pair_cuts i g) 0 0 ≡ i
unfolding pair_cuts
first_cut i [] = refl
first_cut i (c ∷ g) = refl

pub next_cut : (g : Pairs) (i j : ℕ) → j < length g
    → get_or (pair_cuts i g) (suc j) 0 ≡ get_or (pair_cuts i g) j 0 + (2 + rows (get_or g j no_pair).function)
unfolding pair_cuts
next_cut [] i j h = absurd (omega arith)
next_cut (c ∷ g) i zero h = first_cut (i + (2 + rows c.function)) g
next_cut (c ∷ g) i (suc j) h = next_cut g (i + (2 + rows c.function)) j (omega arith)

cut_least : (g : Pairs) (i j : ℕ) → j ≤ length g → i ≤ get_or (pair_cuts i g) j 0
unfolding pair_cuts
cut_least [] i zero h = omega arith
cut_least [] i (suc j) h = absurd (omega arith)
cut_least (c ∷ g) i zero h = omega arith
cut_least (c ∷ g) i (suc j) h = omega (arith, cut_least g (i + (2 + rows c.function)) j (omega arith))

cut_within : (g : Pairs) (i j : ℕ) → j ≤ length g
    → get_or (pair_cuts i g) j 0 + rows_all (pair_trees (drop j g)) ≡ i + rows_all (pair_trees g)
unfolding pair_cuts pair_trees rows
cut_within [] i zero h = refl
cut_within [] i (suc j) h = absurd (omega arith)
cut_within (c ∷ g) i zero h = refl
cut_within (c ∷ g) i (suc j) h = omega (arith, cut_within g (i + (2 + rows c.function)) j (omega arith))

-- the rows from a cut on
cut_rows : (g : Pairs) (i j : ℕ) (A : List Row) → length A ≡ i → j ≤ length g
    → drop (get_or (pair_cuts i g) j 0) (A ++ forest_rows (pair_trees g)) ≡ forest_rows (pair_trees (drop j g))
unfolding pair_cuts pair_trees forest_rows rows
cut_rows [] i zero A e h = drop_at A [] i e
cut_rows [] i (suc j) A e h = absurd (omega arith)
cut_rows (c ∷ g) i zero A e h = drop_at A (forest_rows (pair_trees (c ∷ g))) i e
cut_rows (c ∷ g) i (suc j) A e h =
    ap (drop (get_or (pair_cuts (i + (2 + rows c.function)) g) j 0)) (sym (append_assoc A (tree_rows (pair_tree c)) (forest_rows (pair_trees g)))) ∙
    cut_rows g (i + (2 + rows c.function)) j (A ++ tree_rows (pair_tree c)) long (omega arith)
  where
    long : length (A ++ tree_rows (pair_tree c)) ≡ i + (2 + rows c.function)
    long = omega (arith, length-append A (tree_rows (pair_tree c)), length-tree_rows (pair_tree c), e)

-- a part in the middle
middle : (A M B : List Row) {i j : ℕ} → i ≡ length A → j ≡ i + length M → slice i j (A ++ (M ++ B)) ≡ M
middle A M B {i} {j} start end =
    ap (λ (l : List Row). drop i (take j l)) (sym (append_assoc A M B)) ∙
    ap (drop i) (take_at (A ++ M) B j (length-append A M ∙ omega (arith, start, end))) ∙ drop_at A M i (sym start)

-- literals are bound

abbrev Tied : Prefix → Row → Type 0
Tied p r = r.kind ≤ 4 → binds p r.argument ≡ true

mutual
  unfolding has tree_rows

  tied_tree : (p : Prefix) (t : Tree) → has (λ s v. not (binds p v)) t ≡ false → Every (Tied p) (tree_rows t)
  tied_tree p (lit s v) h = ((λ k. not-false (binds p v) h), tt)
  tied_tree p (node and ts) h = ((λ k. absurd (omega arith)), tied_forest p ts h)
  tied_tree p (node or ts) h = ((λ k. absurd (omega arith)), tied_forest p ts h)

  tied_forest : (p : Prefix) (ts : Forest) → has_any (λ s v. not (binds p v)) ts ≡ false → Every (Tied p) (forest_rows ts)
  tied_forest p ∅ h = tt
  tied_forest p (t ▸ ts) h =
      let both = or_parts (has (λ s v. not (binds p v)) t) (has_any (λ s v. not (binds p v)) ts) h in
      every-++ (Tied p) (tree_rows t) (forest_rows ts) (tied_tree p t both.0) (tied_forest p ts both.1)

module _ {s : Layout} (b : Bytes) (ok : Readable s b) (shut : closed (formula_in s b) ≡ true) where
  tied_nodes : Every (Tied (prefix_in s b)) (node_rows_in s b)
  unfolding closed formula_in
  tied_nodes =
      subst (Every (Tied (prefix_in s b))) (one_tree b ok)
      (tied_tree (prefix_in s b) (matrix_in s b) (shut_has (has (λ s v. not (binds (prefix_in _ b) v)) (matrix_in _ b)) shut))
    where
      shut_has : (m : Bool) → not m ≡ true → m ≡ false
      shut_has true h = sym h
      shut_has false h = refl

  -- every node row is an operator, or a literal that is bound
  pub stands : (i : ℕ) {r : ℕ} → r ≡ s.variables + i → i < s.nodes → Standing s b r
  stands i e h =
      rw e
      (record {
        inside = omega arith;
        is_bound =
            λ k. rw (← node_row s b i) at
            (every_at (Tied (prefix_in s b)) (node_rows_in s b) i (row 0 0) tied_nodes (omega (arith, length-nodes b ok))
            (rw (node_row s b i) at k));
      })

-- pair j

module _ {s : Layout} (b : Bytes) {cuts : List ℕ} (k : Paired s b cuts) where
  pub counted : length cuts ≡ suc (length (pairs_in s b))
  counted = ap length k.are_cuts ∙ length-cuts 1 (pairs_in s b)

  -- the pair before cut j
  pub cut_behind : {j : ℕ} → 0 < j → j ≤ length (pairs_in s b) → suc (j - 1) < length cuts
  cut_behind l m = omega (arith, counted)

  nodes_are : node_rows_in s b ≡ (row 6 (count (pair_trees (pairs_in s b))) ∷ []) ++ forest_rows (pair_trees (pairs_in s b))
  unfolding strategy_matrix tree_rows
  nodes_are = sym (one_tree b k.readable) ∙ ap tree_rows k.is_matrix

  all-nodes : s.nodes ≡ suc (rows_all (pair_trees (pairs_in s b)))
  unfolding strategy_matrix rows
  all-nodes = sym (rows-nodes b k.readable) ∙ ap rows k.is_matrix

  module _ (j : ℕ) (h : suc j < length cuts) where
    abbrev c : Pair
    c = get_or (pairs_in s b) j no_pair

    abbrev at : ℕ
    at = get_or cuts j 0

    abbrev later : List Row
    later = forest_rows (pair_trees (drop (suc j) (pairs_in s b)))

    pub few : j < length (pairs_in s b)
    few = omega (arith, counted)

    pub opened : drop j (pairs_in s b) ≡ get_or (pairs_in s b) j no_pair ∷ drop (suc j) (pairs_in s b)
    opened = drop-cons (pairs_in s b) j no_pair few

    cut-is : (i : ℕ) → get_or cuts i 0 ≡ get_or (pair_cuts 1 (pairs_in s b)) i 0
    cut-is i = ap (λ l. get_or l i 0) k.are_cuts

    pub is_behind_root : 0 < get_or cuts j 0
    is_behind_root = omega (arith, cut-is j, cut_least (pairs_in s b) 1 j (omega (arith, few)))

    pub next_is : get_or cuts (suc j) 0 ≡ get_or cuts j 0 + (2 + rows (get_or (pairs_in s b) j no_pair).function)
    next_is = cut-is (suc j) ∙ next_cut (pairs_in s b) 1 j few ∙ ap (λ m. m + (2 + rows c.function)) (sym (cut-is j))

    pub next-most : get_or cuts (suc j) 0 ≤ s.nodes
    next-most = omega (arith, cut-is (suc j), cut_within (pairs_in s b) 1 (suc j) few, all-nodes)

    here : drop at (node_rows_in s b) ≡ row 5 2 ∷ row 3 c.variable ∷ (tree_rows c.function ++ later)
    unfolding pair_trees forest_rows count
    here =
        ap₂ drop (cut-is j) nodes_are ∙
        cut_rows (pairs_in s b) 1 j (row 6 (count (pair_trees (pairs_in s b))) ∷ []) refl (omega (arith, few)) ∙
        ap (λ g. forest_rows (pair_trees g)) opened ∙
        ap (λ l. row 5 2 ∷ row 3 c.variable ∷ (l ++ later)) (append-nil (tree_rows c.function))

    pub literal_row : {r : ℕ} → r ≡ s.variables + (get_or cuts j 0 + 1) → row_of s b r ≡ row 3 (get_or (pairs_in s b) j no_pair).variable
    literal_row e =
        ap (row_of s b) e ∙ node_row s b (at + 1) ∙ sym (get_or-drop at (node_rows_in s b) 1 (row 0 0)) ∙
        ap (λ l. get_or l 1 (row 0 0)) here

    pub literal-bound : {r : ℕ} → r ≡ s.variables + (get_or cuts j 0 + 1) → Bound s b r
    literal-bound {r} e =
        let st = stands b k.readable k.is_closed (at + 1) e (omega (arith, next_is, next-most)) in
        record {
          inside = st.inside;
          is_bound = st.is_bound (subst (λ (x : Row). x.kind ≤ 4) (sym (literal_row e)) (omega arith));
        }

    pub literal-variable : {r x : ℕ} → r ≡ s.variables + (get_or cuts j 0 + 1) → x ≡ (row_of s b r).argument
        → x ≡ (get_or (pairs_in s b) j no_pair).variable
    literal-variable e is = is ∙ ap (λ (x : Row). x.argument) (literal_row e)

    pub literal-few : {r x : ℕ} → Numbered s b → x ≡ (row_of s b r).argument → r ≡ s.variables + (get_or cuts j 0 + 1) → x < 1025
    literal-few n is e = omega (arith, is, n.few_numbers _ (literal-bound e).is_bound)

    module _ {span : Span} (from : span.from ≡ s.variables + (get_or cuts j 0 + 2)) (to : span.to ≡ s.variables + get_or cuts (suc j) 0) where
      pub function-rows : slice span.from span.to (rows_in s b) ≡ tree_rows (get_or (pairs_in s b) j no_pair).function
      function-rows =
          ap₂ (λ m n. slice m n (rows_in s b)) from to ∙ nodes_part s b k.readable (at + 2) (get_or cuts (suc j) 0) ∙
          ap (slice (at + 2) (get_or cuts (suc j) 0)) parts ∙
          middle (take at (node_rows_in s b) ++ (row 5 2 ∷ row 3 c.variable ∷ [])) (tree_rows c.function) later front end
        where
          parts : node_rows_in s b ≡ (take at (node_rows_in s b) ++ (row 5 2 ∷ row 3 c.variable ∷ [])) ++ (tree_rows c.function ++ later)
          parts =
              sym (take-append-drop at (node_rows_in s b)) ∙ ap (λ l. take at (node_rows_in s b) ++ l) here ∙
              sym (append_assoc (take at (node_rows_in s b)) (row 5 2 ∷ row 3 c.variable ∷ []) (tree_rows c.function ++ later))

          front : at + 2 ≡ length (take at (node_rows_in s b) ++ (row 5 2 ∷ row 3 c.variable ∷ []))
          front =
              omega (
                arith,
                length-append (take at (node_rows_in s b)) (row 5 2 ∷ row 3 c.variable ∷ []),
                length-take-le at (node_rows_in s b) (omega (arith, next_is, next-most, length-nodes b k.readable)),
              )

          end : get_or cuts (suc j) 0 ≡ at + 2 + length (tree_rows c.function)
          end = omega (arith, next_is, length-tree_rows c.function)

      pub function-stands : Function s b span
      function-stands =
          record {
            ordered = omega (arith, from, to, next_is);
            inside = omega (arith, to, next-most);
            rows_stand = λ r l m. stands b k.readable k.is_closed (r - s.variables) (omega (arith, from, l)) (omega (arith, from, to, next-most, l, m));
          }
