-- Tables wired by the parents' targets evaluate the matrix: each subtree leads where its value's target does.
-- Assumes nothing.
use mathlib.Core.Path.{◌≡◌, refl, sym, ap, ◌∙◌}
use mathlib.Core.Bool.{Bool, true, false, not, ◌&&◌, cond, beq}
use mathlib.Core.List.{List, [], ◌∷◌, ◌++◌, append_assoc, append-nil}
use Prim.Native.Nat.{ℕ, zero, suc, ◌+◌, ◌≤◌, ◌<◌}
use native.Mathlib.Nat.{add-zero}
use native.Mathlib.Decide.{dec_lt}
use native.Mathlib.Omega.{arith}
use lib.Dec.{ltb, eqb, eqb-suc-zero}
use lib.ListN.{length, get_or, drop, length-drop, length-append}
use lib.Seq.{drop-drop, get_or-drop, drop_at}
use borrow.Author.Tests.{lt-ltb, le-ltb}
use Rattle.formula.specs.Tree.{Op, and, or, Tree, lit, node, Forest, ∅, ◌▸◌, Literals, rows, rows_all, count}
use Rattle.formula.specs.Truth.{unit, join}
use Rattle.sheet.specs.Format.{Row, row, children}
use Rattle.sheet.specs.Sheet.{literal_kind, operator_kind, trees, root, tree_rows, forest_rows}
use Rattle.sheet.proofs.Preorder.{root-trees, length-tree_rows, rows_positive}
use Rattle.jumps.specs.Jumps.{entry, Parent, past, is_and, Wired, Targets, value_by, value_all, row_value, next, Decides, Jumps}
use Rattle.jumps.proofs.Span.{end_of, end_bound, end_behind, end_within, end_tree}

-- a list from a row on

at_head : (R : List Row) (i : ℕ) (x : Row) (xs : List Row) → drop i R ≡ x ∷ xs → get_or R i (row 0 0) ≡ x
at_head R i x xs e = ap (λ m. get_or R m (row 0 0)) (sym (add-zero i)) ∙ sym (get_or-drop i R 0 (row 0 0)) ∙ ap (λ l. get_or l 0 (row 0 0)) e

head-within : (R : List Row) (i : ℕ) (x : Row) (xs : List Row) → drop i R ≡ x ∷ xs → i < length R
head-within R i x xs e = omega (arith, length-drop i R, ap length e)

at_tail : (R : List Row) (i : ℕ) (x : Row) (xs : List Row) → drop i R ≡ x ∷ xs → drop (i + 1) R ≡ xs
at_tail R i x xs e = sym (drop-drop 1 i R) ∙ ap (drop 1) e

behind_tree : (R : List Row) (t : Tree) (i : ℕ) (rest : List Row) → drop i R ≡ tree_rows t ++ rest → drop (i + rows t) R ≡ rest
behind_tree R t i rest e =
    sym (drop-drop (rows t) i R) ∙ ap (drop (rows t)) e ∙ drop_at (tree_rows t) rest (rows t) (length-tree_rows t)

tree_within : (R : List Row) (t : Tree) (i : ℕ) (rest : List Row) → drop i R ≡ tree_rows t ++ rest → i + rows t ≤ length R
tree_within R t i rest e =
    omega (arith, length-drop i R, ap length e, length-append (tree_rows t) rest, length-tree_rows t, rows_positive t)

-- the parent is one

parent_unique : (ends : List ℕ) (p q i : ℕ) → Parent ends p i → Parent ends q i → p ≡ q
parent_unique ends p q i P Q = go (dec_lt p q) (dec_lt q p)
  where
    go : Dec (p < q) → Dec (q < p) → p ≡ q
    go (yes l) d = absurd (omega (arith, P.others_closed q l Q.before))
    go (no f) (yes l) = absurd (omega (arith, Q.others_closed p l P.before))
    go (no f) (no g) = omega arith

module _ (R : List Row) (ends high low : List ℕ) (entry-end : (i : ℕ) → i < length R → entry ends i ≡ end_of R i) (targets : Targets R ends high low (length R)) where
  -- the row to go on at, by the value of the subtree at i
  to : Bool → ℕ → ℕ
  to true i = entry high i
  to false i = entry low i

  -- a value leaves the parent's undecided if it is the operator's unit
  wired_to : (b : Bool) (i : ℕ) (W : Wired R ends high low i)
      → to b i ≡ past (beq b (is_and R W.parent)) (entry ends i) (entry ends W.parent) (to b W.parent)
  unfolding to
  wired_to true i W =
      W.high_target ∙ ap (λ u. past u (entry ends i) (entry ends W.parent) (entry high W.parent)) (same (is_and R W.parent))
    where
      same : (u : Bool) → u ≡ beq true u
      same true = refl
      same false = refl
  wired_to false i W =
      W.low_target ∙ ap (λ u. past u (entry ends i) (entry ends W.parent) (entry low W.parent)) (same (is_and R W.parent))
    where
      same : (u : Bool) → not u ≡ beq false u
      same true = refl
      same false = refl

  -- the first row of an operator's children, or where an empty one goes on
  start : Op → Forest → ℕ → ℕ → ℕ
  start o ∅ p c = to (unit o) p
  start o (t ▸ ts) p c = c

  -- the operator o at p, with trees left from row c on
  record Left (o : Op) (ts : Forest) (p c : ℕ) (rest : List Row) : Type 0 where
    kind : is_and R p ≡ unit o
    parent_before : p < c
    parent_end : end_of R p ≡ c + rows_all ts
    earlier : (y : ℕ) → p < y → y < c → end_of R y ≤ c
    here : drop c R ≡ forest_rows ts ++ rest

  module _ {o : Op} (t : Tree) (ts : Forest) {p c : ℕ} {rest : List Row} (l : Left o (t ▸ ts) p c rest) where
    first_tree : drop c R ≡ tree_rows t ++ (forest_rows ts ++ rest)
    unfolding forest_rows
    first_tree = l.here ∙ append_assoc (tree_rows t) (forest_rows ts) rest

    first_end : end_of R c ≡ c + rows t
    first_end = end_tree R t c (forest_rows ts ++ rest) first_tree

    first_within : c + rows t ≤ length R
    first_within = tree_within R t c (forest_rows ts ++ rest) first_tree

    family_end : end_of R p ≡ c + rows t + rows_all ts
    unfolding rows_all
    family_end = l.parent_end ∙ omega arith

    first_parent : Parent ends p c
    first_parent =
        record {
          before = l.parent_before;
          still_open = omega (arith, entry-end p (omega (arith, l.parent_before, first_within)), family_end, rows_positive t);
          others_closed = λ y py yc. omega (arith, entry-end y (omega (arith, first_within, rows_positive t)), l.earlier y py yc);
        }

    first_target : (b : Bool) → to b c ≡ past (beq b (unit o)) (c + rows t) (c + rows t + rows_all ts) (to b p)
    first_target b =
        let W = targets.wired c (omega (arith, l.parent_before)) (omega (arith, first_within, rows_positive t)) in
        let e = parent_unique ends W.parent p c W.is_parent first_parent in
        wired_to b c W ∙
        rw (
          e,
          l.kind,
          entry-end c (omega (arith, first_within, rows_positive t)),
          entry-end p (omega (arith, l.parent_before, first_within)),
          first_end,
          family_end,
        )

    -- the other trees are left behind the first
    others_left : Left o ts p (c + rows t) rest
    others_left =
        record {
          kind = l.kind;
          parent_before = omega (arith, l.parent_before);
          parent_end = family_end;
          earlier = λ y py yc. within y py yc (dec_lt y c);
          here = behind_tree R t c (forest_rows ts ++ rest) first_tree;
        }
      where
        within : (y : ℕ) → p < y → y < c + rows t → Dec (y < c) → end_of R y ≤ c + rows t
        within y py yc (yes h) = omega (arith, l.earlier y py h)
        within y py yc (no f) = omega (arith, first_end, end_within R c y (omega arith) (omega (arith, first_end)))

  children_left : (o : Op) (ts : Forest) (i : ℕ) (rest : List Row) → drop i R ≡ tree_rows (node o ts) ++ rest → Left o ts i (i + 1) rest
  unfolding tree_rows is_and rows
  children_left o ts i rest e =
      record {
        kind = rw (at_head R i _ _ e) (kind_unit o);
        parent_before = omega arith;
        parent_end = end_tree R (node o ts) i rest e ∙ omega arith;
        earlier = λ y ry yr. absurd (omega arith);
        here = at_tail R i _ _ e;
      }
    where
      kind_unit : (o : Op) → eqb (operator_kind o) 5 ≡ unit o
      kind_unit and = refl
      kind_unit or = refl

  by_value : (b : Bool) (i : ℕ) → cond b (entry high i) (entry low i) ≡ to b i
  unfolding to
  by_value true i = refl
  by_value false i = refl

  -- behind the last child a value goes where the parent's goes
  past_start : (o : Op) (ts : Forest) (p e : ℕ) (b : Bool)
      → past (beq b (unit o)) e (e + rows_all ts) (to b p) ≡ cond (beq b (unit o)) (start o ts p e) (to b p)
  unfolding start rows_all
  past_start and ∅ p e true = rw (le-ltb e (e + 0) (omega arith))
  past_start and ∅ p e false = refl
  past_start or ∅ p e true = refl
  past_start or ∅ p e false = rw (le-ltb e (e + 0) (omega arith))
  past_start o (t ▸ ts) p e b = rw (lt-ltb e (e + (rows t + rows_all ts)) (omega (arith, rows_positive t))) (go (beq b (unit o)))
    where
      go : (u : Bool) → cond (u && true) e (to b p) ≡ cond u e (to b p)
      go true = refl
      go false = refl

  module _ (L : Literals) (x : Bool) where
    Goes : ℕ → Type 0
    Goes i = Decides (length R) (next R high low L) x i

    step : (i i' : ℕ) → i < length R → next R high low L i ≡ i' → Goes i' → Goes i
    unfolding Goes
    step i i' h e g = record { steps = suc g.steps; leads = (h, rw e g.leads) }

    next_literal : (s : Bool) (v i : ℕ) → get_or R i (row 0 0) ≡ row (literal_kind s) v → next R high low L i ≡ to (L s v) i
    unfolding next row_value children
    next_literal true v i e = rw e (by_value (L true v) i)
    next_literal false v i e = rw e (by_value (L false v) i)

    next_operator : (o : Op) (ts : Forest) (i : ℕ) → get_or R i (row 0 0) ≡ row (operator_kind o) (count ts)
        → next R high low L i ≡ start o ts i (i + 1)
    unfolding next row_value children start to count
    next_operator and ∅ i e = rw e
    next_operator or ∅ i e = rw e
    next_operator and (t ▸ ts) i e = rw (e, eqb-suc-zero (count ts))
    next_operator or (t ▸ ts) i e = rw (e, eqb-suc-zero (count ts))

    mutual
      unfolding tree_rows rows value_by start to

      -- a subtree goes where its value's target does
      goes_tree : (t : Tree) (i : ℕ) (rest : List Row) → drop i R ≡ tree_rows t ++ rest → Goes (to (value_by t L) i) → Goes i
      goes_tree (lit s v) i rest e g = step i (to (L s v) i) (head-within R i _ _ e) (next_literal s v i (at_head R i _ _ e)) g
      goes_tree (node o ts) i rest e g =
          step i (start o ts i (i + 1)) (head-within R i _ _ e) (next_operator o ts i (at_head R i _ _ e))
          (goes_forest ts o i (i + 1) rest (children_left o ts i rest e) g)

      -- an operator's children go where its value's target does
      goes_forest : (ts : Forest) (o : Op) (p c : ℕ) (rest : List Row) → Left o ts p c rest → Goes (to (value_all ts o L) p)
          → Goes (start o ts p c)
      goes_forest ∅ o p c rest l g = g
      goes_forest (t ▸ ts) o p c rest l g =
          goes_tree t c (forest_rows ts ++ rest) (first_tree t ts l)
          (rw (first_target t ts l (value_by t L), past_start o ts p (c + rows t) (value_by t L))
          (by o (value_by t L) g (goes_forest ts o p (c + rows t) rest (others_left t ts l))))
        where
          by : (o : Op) (b : Bool) → Goes (to (join o b (value_all ts o L)) p)
              → (Goes (to (value_all ts o L) p) → Goes (start o ts p (c + rows t)))
              → Goes (cond (beq b (unit o)) (start o ts p (c + rows t)) (to b p))
          by and true g k = k g
          by and false g k = g
          by or true g k = g
          by or false g k = k g

  -- a target stands behind its subtree
  forward : (m i : ℕ) → i < m → i < length R → (b : Bool) → (end_of R i ≤ to b i) × (to b i ≤ length R + 1)
  unfolding to
  forward zero i h l b = absurd (omega arith)
  forward (suc m) zero h l true = omega (arith, end_bound R 0 (omega arith), targets.root_high)
  forward (suc m) zero h l false = omega (arith, end_bound R 0 (omega arith), targets.root_low)
  forward (suc m) (suc i) h l b =
      let W = targets.wired (suc i) (omega arith) l in
      let p = W.parent in
      let is = W.is_parent in
      let up = forward m p (omega (arith, is.before)) (omega (arith, is.before)) b in
      let e = entry-end (suc i) (omega arith) in
      let inside = end_within R p (suc i) (omega (arith, is.before)) (omega (arith, is.still_open, entry-end p (omega (arith, is.before)))) in
      rw (wired_to b (suc i) W)
      (either (beq b (is_and R p) && ltb (entry ends (suc i)) (entry ends p)) (entry ends (suc i)) (to b p)
      (omega (arith, e), omega (arith, e, end_bound R (suc i) (omega arith))) (omega (arith, inside, up), up.1))
    where
      either : (u : Bool) (n k : ℕ) → (end_of R (suc i) ≤ n) × (n ≤ length R + 1) → (end_of R (suc i) ≤ k) × (k ≤ length R + 1)
          → (end_of R (suc i) ≤ cond u n k) × (cond u n k ≤ length R + 1)
      either true n k p q = p
      either false n k p q = q

  -- the rows of one tree: its verdict is reached from row 0
  pub jumps : (t : Tree) → R ≡ tree_rows t → Jumps R high low
  unfolding Goes to
  jumps t e =
      record {
        high_forward = λ i h. behind true i h;
        low_forward = λ i h. behind false i h;
        decides =
            λ L. rw (ap (λ l. root (trees l)) e ∙ root-trees t)
            (goes_tree L (value_by t L) t 0 [] (e ∙ sym (append-nil (tree_rows t))) (verdict L (value_by t L)));
      }
    where
      behind : (b : Bool) (i : ℕ) → i < length R → (i < to b i) × (to b i ≤ length R + 1)
      behind b i h =
          let f = forward (suc i) i (omega arith) h b in
          (omega (arith, f, end_behind R i h), f.1)

      verdict : (L : Literals) (x : Bool) → Goes L x (to x 0)
      verdict L true = record { steps = 0; leads = targets.root_high }
      verdict L false = record { steps = 0; leads = targets.root_low }
