-- The form of a matrix, child by child.
-- Assumes nothing.
use mathlib.Core.Path.{◌≡◌, refl, sym, ap, ◌∙◌, ap₂}
use mathlib.Core.Bool.{Bool, true, false, true≢false}
use mathlib.Core.List.{List, [], ◌∷◌, ◌++◌}
use mathlib.Core.Option
use mathlib.Core.Option.{Option, none, some}
use Prim.Native.Nat.{ℕ, suc, ◌+◌, ◌-◌, ◌≤◌, ◌<◌}
use native.Mathlib.Omega.{arith}
use lib.Dec.{eqb}
use lib.ListN.{length, get_or, take, set, length-set}
use lib.Seq.{take-suc-set, append_snoc, length-take-le}
use Rattle.formula.specs.Tree.{and, or, Tree, lit, node, Forest, ∅, ◌▸◌, rows, count, ◌⧺◌}
use Rattle.formula.specs.Strategy.{Pair, Pairs}
use Rattle.formula.specs.StrategyMatrix.{strategy_matrix, pair_trees, read_function, read_children, read_pair, and_rest, read_all, pairs_of}
use Rattle.formula.proofs.Forests.{count-rows}
use Rattle.formula.proofs.Strategy.Matrix.{matrix_pairs}
use Rattle.sheet.specs.Format.{Bytes}
use Rattle.sheet.specs.Sheet.{root}
use Rattle.rows.specs.Formulas.{matrix_in, Readable}
use Rattle.rows.specs.declared.Layout.{Layout}
use Rattle.subtrees.specs.Ends.{Indexed}
use Rattle.subtrees.specs.Subtrees.{top, kids, forest_in, subtree_in, siblings_in, Beside}
use Rattle.subtrees.proofs.Forest.{rest}
use Rattle.subtrees.proofs.Siblings.{Walked, siblings-none, subtree_root, subtree_within, below_row, children_read, walk_on}
use Rattle.pair_tests.specs.Pairs.{is_read, pairs_in, pair_cuts}
use Rattle.pair_tests.proofs.Stands.{length-cuts}

-- one child

pub no_and : (t : Tree) → ((top t).kind ≡ 5 → ⊥) → false ≡ is_read (read_pair t)
unfolding read_pair
no_and (lit s v) h = refl
no_and (node and ts) h = absurd (h refl)
no_and (node or ts) h = refl

pub no_two : (t : Tree) → (top t).kind ≡ 5 → (count (kids t) ≡ 2 → ⊥) → false ≡ is_read (read_pair t)
unfolding read_pair read_children read_function count
no_two (lit true v) h k = refl
no_two (lit false v) h k = refl
no_two (node or ts) h k = refl
no_two (node and ∅) h k = refl
no_two (node and (lit true v ▸ ∅)) h k = refl
no_two (node and (lit true v ▸ t ▸ ∅)) h k = absurd (k refl)
no_two (node and (lit true v ▸ t ▸ u ▸ ts)) h k = refl
no_two (node and (lit false v ▸ ts)) h k = refl
no_two (node and (node o us ▸ ts)) h k = refl

pub of_two : (t : Tree) (us : Forest) → (top t).kind ≡ 5 → count (kids t) ≡ 2
    → eqb (top (root (kids t ⧺ us))).kind 3 ≡ is_read (read_pair t)
unfolding read_pair read_children read_function count root ◌⧺◌
of_two (lit true v) us h k = absurd (omega arith)
of_two (lit false v) us h k = absurd (omega arith)
of_two (node or ts) us h k = absurd (omega arith)
of_two (node and ∅) us h k = absurd (omega arith)
of_two (node and (t ▸ ∅)) us h k = absurd (omega arith)
of_two (node and (t ▸ u ▸ w ▸ ts)) us h k = absurd (omega arith)
of_two (node and (lit true v ▸ t ▸ ∅)) us h k = refl
of_two (node and (lit false v ▸ t ▸ ∅)) us h k = refl
of_two (node and (node and ws ▸ t ▸ ∅)) us h k = refl
of_two (node and (node or ws ▸ t ▸ ∅)) us h k = refl

-- an AND of two children has a row behind it
two_rows : (t : Tree) → count (kids t) ≡ 2 → 2 < rows t
unfolding rows count
two_rows (lit s v) h = absurd (omega arith)
two_rows (node o ts) h = omega (arith, count-rows ts)

module _ {s : Layout} (b : Bytes) (ok : Readable s b) (i : ℕ) (h : i < s.nodes) where
  pub next_inside : count (kids (subtree_in s b i)) ≡ 2 → suc i < s.nodes
  next_inside k = omega (arith, subtree_within b ok i h, two_rows (subtree_in s b i) k)

  pub pair_here : {j n : ℕ} → j ≡ suc i → (top (subtree_in s b i)).kind ≡ 5 → count (kids (subtree_in s b i)) ≡ 2
      → n ≡ (top (subtree_in s b j)).kind → eqb n 3 ≡ is_read (read_pair (subtree_in s b i))
  unfolding subtree_in
  pair_here {j} next five two e =
      ap (λ m. eqb m 3) e ∙ ap (λ m. eqb (top (root (forest_in s b m))).kind 3) next ∙
      ap (λ ts. eqb (top (root ts)).kind 3) (below_row b ok i h) ∙ of_two (root (forest_in s b i)) (rest (forest_in s b i)) five two

-- the rows of a pair
pub rows_read : (t : Tree) (c : Pair) → read_pair t ≡ some c → rows t ≡ 2 + rows c.function
unfolding pairs_of read_all and_rest strategy_matrix pair_trees rows
rows_read t c h =
    omega (arith, ap rows (matrix_pairs (node or (t ▸ ∅)) (c ∷ []) (ap (λ o. and_rest o (some [])) h)))

-- the whole matrix

pub no_or : (t : Tree) → ((top t).kind ≡ 6 → ⊥) → false ≡ is_read (pairs_of t)
unfolding pairs_of
no_or (lit s v) h = refl
no_or (node and ts) h = refl
no_or (node or ts) h = absurd (h refl)

of_or : (t : Tree) → (top t).kind ≡ 6 → pairs_of t ≡ read_all (kids t)
unfolding pairs_of
of_or (lit true v) h = absurd (omega arith)
of_or (lit false v) h = absurd (omega arith)
of_or (node and ts) h = absurd (omega arith)
of_or (node or ts) h = refl

-- the children before child j, of n, are pairs, and child j stands at row `at`
pub record Reading (s : Layout) (b : Bytes) (n : ℕ) (cuts : List ℕ) (at j : ℕ) : Type 0 where
  pub within : j ≤ n
  pub ahead : j < at
  pub inside : at ≤ s.nodes
  pub few : Beside s b at (n - j)
  pub same_form : is_read (pairs_of (matrix_in s b)) ≡ is_read (read_all (siblings_in s b at (n - j)))
  pub so_far : (g : Pairs) → read_all (siblings_in s b at (n - j)) ≡ some g → take j cuts ++ pair_cuts at g ≡ pair_cuts 1 (pairs_in s b)
  pub enough : s.nodes ≤ length cuts

nothing : {A : Type 0} {B : Type 0} {a : A} {o : Option A} → o ≡ none → o ≡ some a → B
nothing e h = let z : ◌≡◌ {A = Bool} true false = cc in absurd (true≢false z)

some_read : {A : Type 0} (o : Option A) → is_read o ≡ true → (B : Type 0) → ((a : A) → o ≡ some a → B) → B
some_read none h B k = absurd (true≢false (sym h))
some_read (some a) h B k = k a refl

and_rest-none : (o : Option Pair) (r : Option Pairs) → is_read o ≡ false → is_read (and_rest o r) ≡ false
unfolding and_rest
and_rest-none none r h = refl
and_rest-none (some c) r h = absurd (true≢false h)

and_rest_some : (c : Pair) (r : Option Pairs) → is_read (and_rest (some c) r) ≡ is_read r
unfolding and_rest
and_rest_some c none = refl
and_rest_some c (some g) = refl

module _ {s : Layout} (b : Bytes) {ends : List ℕ} (e : Indexed s b ends) where
  pub reading_none : {n : ℕ} {cuts : List ℕ} → (top (subtree_in s b 0)).kind ≡ 6 → n ≡ count (kids (subtree_in s b 0)) → s.nodes ≤ length cuts
      → Reading s b n cuts 1 0
  unfolding pairs_in
  reading_none {n} six k enough =
      let whole : n - 0 ≡ n = omega arith in
      let c = children_read b e.readable 0 e.readable.some_nodes refl k in
      let all : pairs_of (matrix_in s b) ≡ read_all (siblings_in s b 1 n)
      = ap pairs_of (sym (subtree_root b e.readable)) ∙ of_or (subtree_in s b 0) six ∙ ap read_all (sym c.are) in
      record {
        within = omega arith;
        ahead = omega arith;
        inside = e.readable.some_nodes;
        few = rw whole c.few;
        same_form = rw whole (ap is_read all);
        so_far = λ g h. ap (λ o. pair_cuts 1 (Option.get_or o [])) (sym (all ∙ rw whole at h));
        enough = enough;
      }

  module _ {n at j : ℕ} {cuts : List ℕ} (r : Reading s b n cuts at j) where
    cut_inside : j < length cuts
    cut_inside = omega (arith, r.ahead, r.inside, r.enough)

    module _ (h : j < n) where
      walked : Walked s b ends at (n - j)
      walked = walk_on b e.readable ends e at (omega arith) r.few

      pub here-inside : at < s.nodes
      here-inside = walked.inside

      pub reading-stops : {p : Bool} → p ≡ is_read (read_pair (subtree_in s b at)) → p ≡ false → false ≡ is_read (pairs_of (matrix_in s b))
      unfolding read_all
      reading-stops is f =
          sym
          (r.same_form ∙ ap (λ ts. is_read (read_all ts)) walked.split ∙
          and_rest-none (read_pair (subtree_in s b at)) _ (sym is ∙ f))

      pub reading-on : {p : Bool} {i : ℕ} → p ≡ is_read (read_pair (subtree_in s b at)) → p ≡ true → i ≡ suc j
          → Reading s b n (set cuts j at) (get_or ends at 0) i
      unfolding read_all pair_cuts and_rest
      reading-on {p} {i} is t next =
          some_read (read_pair (subtree_in s b at)) (sym is ∙ t) _ λ c k. on c k
        where
          left : n - j - 1 ≡ n - suc j
          left = omega arith

          on : (c : Pair) → read_pair (subtree_in s b at) ≡ some c → Reading s b n (set cuts j at) (get_or ends at 0) i
          on c k =
              let w = walked in
              let size = rows_read (subtree_in s b at) c k in
              let end : get_or ends at 0 ≡ at + (2 + rows c.function) = w.next ∙ ap (λ m. at + m) size in
              rw next
              (record {
                within = h;
                ahead = omega (arith, end, r.ahead);
                inside = w.next_within;
                few = rw left at w.few;
                same_form =
                    r.same_form ∙ ap (λ ts. is_read (read_all ts)) w.split ∙
                    ap (λ o. is_read (and_rest o (read_all (siblings_in s b (get_or ends at 0) (n - j - 1))))) k ∙ and_rest_some c (read_all (siblings_in s b (get_or ends at 0) (n - j - 1))) ∙
                    ap (λ m. is_read (read_all (siblings_in s b (get_or ends at 0) m))) left;
                so_far =
                    λ g q.
                    ap (λ l. l ++ pair_cuts (get_or ends at 0) g) (take-suc-set cuts j at cut_inside) ∙
                    append_snoc (take j cuts) at (pair_cuts (get_or ends at 0) g) ∙
                    ap (λ m. take j cuts ++ at ∷ pair_cuts m g) end ∙
                    r.so_far (c ∷ g)
                    (ap read_all w.split ∙ ap (λ o. and_rest o (read_all (siblings_in s b (get_or ends at 0) (n - j - 1)))) k ∙
                    ap (λ o. and_rest (some c) o) (ap (λ m. read_all (siblings_in s b (get_or ends at 0) m)) left ∙ q));
                enough = omega (arith, r.enough, length-set cuts j at);
              })

    module _ (h : n ≤ j) where
      none_left : read_all (siblings_in s b at (n - j)) ≡ some []
      unfolding read_all
      none_left = ap read_all (siblings-none s b at (omega arith))

      pub reading-all : true ≡ is_read (pairs_of (matrix_in s b))
      reading-all = sym (r.same_form ∙ ap is_read none_left)

      pub cuts-read : take (suc (length (pairs_in s b))) (set cuts n at) ≡ pair_cuts 1 (pairs_in s b)
      unfolding pair_cuts
      cuts-read = ap₂ (λ m i. take m (set cuts i at)) counted end ∙ take-suc-set cuts j at cut_inside ∙ all
        where
          end : n ≡ j
          end = omega (arith, r.within)

          all : take j cuts ++ (at ∷ []) ≡ pair_cuts 1 (pairs_in s b)
          all = r.so_far [] none_left

          counted : suc (length (pairs_in s b)) ≡ suc j
          counted =
              omega (
                arith,
                length-cuts 1 (pairs_in s b),
                ap length all,
                lib.ListN.length-append (take j cuts) (at ∷ []),
                length-take-le j cuts (omega (arith, cut_inside)),
              )
