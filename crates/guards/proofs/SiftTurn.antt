-- The children sifted one by one: what is owed of the rest is what was owed of all.
-- Assumes nothing.
use mathlib.Core.Path.{◌≡◌, refl, sym, ap, ap₂, ◌∙◌, subst}
use mathlib.Core.Bool.{false}
use mathlib.Core.List.{List, [], ◌∷◌, ◌++◌, append-nil}
use Prim.Native.Nat.{ℕ, suc, ◌+◌, ◌-◌, ◌≤◌, ◌<◌}
use native.Mathlib.Omega.{arith}
use native.Mathlib.Numerals.{add-one}
use lib.ListN.{length, get_or, take, drop, set, length-set, length-drop}
use lib.Seq.{slice, slice_empty, take_all, take_at, take-set-le, take-suc-set, drop_at, drop-drop}
use Rattle.formula.specs.Tree.{Tree, lit, node, Forest, ∅, ◌▸◌, ◌⧺◌, rows, rows_all, count}
use Rattle.formula.specs.Solve.{End, ended}
use Rattle.formula.specs.Guards.{guards, conjoined, Kept, judged, sift, says, clashing, Fewer}
use Rattle.formula.proofs.Tidy.Children.{count-⧺}
use Rattle.formula.proofs.Tidy.Growth.{rows-⧺}
use Rattle.formula.proofs.Guards.{fewer_none, fewer_again, one_fewer, next-tried, and_matrix, and-formula}
use Rattle.sheet.specs.Format.{Bytes, Format, Row, fits}
use Rattle.sheet.specs.Sheet.{tree_rows, forest_rows}
use Rattle.sheet.specs.Limits.{Within}
use Rattle.sheet.proofs.Preorder.{forest_rows-⧺, length-tree_rows, length-forest_rows, count-rows, rows_positive}
use Rattle.sheet.proofs.Accepted.{accepted_within}
use Rattle.sheet.proofs.Forests.{count-front}
use Rattle.sheet.proofs.Guards.{within_fewer}
use Rattle.rows.specs.Layouts.{format_in, Fits}
use Rattle.rows.specs.Formulas.{prefix_in, node_rows_in, matrix_in, formula_in, Readable}
use Rattle.rows.specs.declared.Layout.{Layout}
use Rattle.rows.proofs.Formulas.{length-nodes, one_tree}
use Rattle.rows.proofs.Limits.{limits}
use Rattle.checking.proofs.CheckedSheets.{sheet_readable, sheet-formula_in, sheet_right}
use Rattle.subtrees.specs.Subtrees.{kids, forest_in, subtree_in, siblings_in, Beside}
use Rattle.subtrees.specs.Ends.{Indexed}
use Rattle.subtrees.proofs.Siblings.{Walked, walk_on, siblings-none, children_read, subtree_root}
use Rattle.raw.proofs.Cuts.{slice_take}
use Rattle.guards.specs.declared.sift.Sieve.{Sieve}
use Rattle.guards.specs.declared.sift.Word.{Word}
use Rattle.guards.specs.declared.sift.Word.TheVariants.{False, True, Stopped}
use Rattle.guards.specs.Inner.Selections.{children_of, children_rows, Placed, part_rows, guards_in, Tried}
use Rattle.guards.specs.Inner.Sieves.{Says, judged_by, Siftable, clashing_in, starts, Sifted}
use Rattle.guards.proofs.Children.{child_more, placed_to, placed_more, guards_read, chosen}

-- the root's children, as both crates name them
kids-guards : (t : Tree) → kids t ≡ guards t
unfolding guards
kids-guards (lit s v) = refl
kids-guards (node o ts) = refl

-- one child less is left, whatever the word
pub judged-left : (g : Sieve) (w : Word) (end : ℕ) → (judged_by g w end).left ≡ g.left - 1
judged-left g False end = refl
judged-left g True end = refl
judged-left g Stopped end = refl

module _ (s : Layout) (b : Bytes) (most : ℕ) where
  abbrev F : Format
  F = format_in s

  abbrev N : List Row
  N = node_rows_in s b

  abbrev S : Forest → End
  S = says (fits F most) (prefix_in s b)

  -- those not yet tried
  abbrev untried : Sieve → Forest
  untried g = siblings_in s b g.at g.left

  pub record Sifting (ends table : List ℕ) (g : Sieve) : Type 0 where
    pub kept : Forest
    pub kept_are : children_rows s b ends (starts table g) ≡ forest_rows kept
    pub entries : g.guards ≤ length table
    pub placed : Placed ends 0 (starts table g) g.at
    pub counted : g.guards ≡ count kept
    pub long : g.rows ≡ rows_all kept
    pub below : g.rows < g.at
    pub few_stops : g.stops ≤ g.guards
    pub at_most : g.at ≤ s.nodes
    pub few : Beside s b g.at g.left
    pub rest_are : drop g.at N ≡ forest_rows (siblings_in s b g.at g.left)
    pub fewer : Fewer (kept ⧺ siblings_in s b g.at g.left) (guards (matrix_in s b))
    pub owed_those : (sift S kept (siblings_in s b g.at g.left)).those ≡ (clashing_in s b most).those
    pub owed_stops : g.stops + (sift S kept (siblings_in s b g.at g.left)).stops ≡ (clashing_in s b most).stops

  module _ (h : Siftable s b most) where
    pub ok : Readable s b
    ok = sheet_readable h.sheet

    -- the sheet's own formula, whose guards are tried
    whole_within : Within F (conjoined (prefix_in s b) (guards (matrix_in s b)))
    unfolding formula_in
    whole_within =
        subst (Within F) (sym (sheet-formula_in h.sheet) ∙ and-formula (formula_in s b) h.root_is_and)
        (accepted_within F b h.sheet.tests_pass)

    all_children : {k : ℕ} → k ≡ count (kids (subtree_in s b 0)) → (siblings_in s b 1 k ≡ guards (matrix_in s b)) × Beside s b 1 k
    all_children e =
        let c = children_read b ok 0 ok.some_nodes refl e in
        (c.are ∙ ap kids (subtree_root b ok) ∙ kids-guards (matrix_in s b), c.few)

    behind_root : drop 1 N ≡ forest_rows (guards (matrix_in s b))
    unfolding tree_rows
    behind_root = ap (drop 1) (sym (one_tree b ok) ∙ ap tree_rows (and_matrix (matrix_in s b) h.root_is_and))

    pub first_turn : (ends table : List ℕ) {k : ℕ} → k ≡ count (kids (subtree_in s b 0))
        → Sifting ends table (record { at = 1; left = k; guards = 0; rows = 0; stops = 0 })
    unfolding ◌⧺◌ count rows_all clashing formula_in forest_rows children_of
    first_turn ends table {k} e =
        let all = all_children e in
        record {
          kept = ∅;
          kept_are = refl;
          entries = omega arith;
          placed = omega arith;
          counted = refl;
          long = refl;
          below = omega arith;
          few_stops = omega arith;
          at_most = ok.some_nodes;
          few = all.1;
          rest_are = behind_root ∙ ap forest_rows (sym all.0);
          fewer = subst (λ (ts : Forest). Fewer ts (guards (matrix_in s b))) (sym all.0) (fewer_none (guards (matrix_in s b)));
          owed_those = ap (λ (ts : Forest). (sift S ∅ ts).those) all.0;
          owed_stops = ap (λ (ts : Forest). 0 + (sift S ∅ ts).stops) all.0 ∙ plus_zero _;
        }
      where
        plus_zero : (n : ℕ) → 0 + n ≡ n
        plus_zero n = omega arith

    -- kept children and rows fit the table and the numbers
    pub kept_few : {ends table : List ℕ} {g : Sieve} → Sifting ends table g → g.guards < s.nodes
    kept_few i = omega (arith, i.counted, i.long, count-rows i.kept, i.below, i.at_most)

    fit : {n : ℕ} → n < s.nodes → Fits s n
    fit l = omega (arith, (limits s.format).few_rows, (sheet_right h.sheet).few_nodes)

    nothing_behind : (ends ks : List ℕ) → part_rows s b ends ks s.nodes ≡ children_rows s b ends ks
    nothing_behind ends ks = ap (λ l. children_rows s b ends ks ++ l) (slice_empty s.nodes N) ∙ append-nil (children_rows s b ends ks)

    pub last_turn : {ends table : List ℕ} {g : Sieve} → s.nodes ≤ length ends → g.left ≤ 0 → Sifting ends table g
        → Sifted s b most ends table g
    unfolding sift
    last_turn {ends} {table} {g} holds l i =
        let none = siblings-none s b g.at l in
        let rows_are = nothing_behind ends (starts table g) ∙ i.kept_are in
        record {
          chosen =
              chosen s b ends (starts table g) s.nodes i.kept rows_are ok holds
              (placed_to ends 0 (starts table g) g.at s.nodes i.placed i.at_most) (omega arith) i.counted i.long
              (omega (arith, i.below, i.at_most)) (fit (kept_few i));
          those_are =
              guards_read s b ends (starts table g) s.nodes i.kept rows_are ∙ ap (λ (ts : Forest). (sift S i.kept ts).those) (sym none) ∙ i.owed_those;
          stops_are = plus_none g.stops ∙ ap (λ (ts : Forest). g.stops + (sift S i.kept ts).stops) (sym none) ∙ i.owed_stops;
          fewer_kept = omega (arith, kept_few i, ok.few_nodes);
        }
      where
        plus_none : (n : ℕ) → n ≡ n + 0
        plus_none n = omega arith

    module _ {ends : List ℕ} (ix : Indexed s b ends) {table : List ℕ} {g : Sieve} (more : 0 < g.left) (i : Sifting ends table g) where
      -- the next child, where it ends, and those behind it
      abbrev t : Tree
      t = subtree_in s b g.at

      abbrev end : ℕ
      end = get_or ends g.at 0

      abbrev rest : Forest
      rest = siblings_in s b end (g.left - 1)

      abbrev K : List ℕ
      K = starts table g

      pub walked : Walked s b ends g.at g.left
      walked = walk_on b ok ends ix g.at more i.few

      -- its subtree has a row
      forward : g.at < end
      forward = omega (arith, walked.next, rows_positive t)

      rows_here : drop g.at N ≡ tree_rows t ++ forest_rows rest
      unfolding forest_rows
      rows_here = i.rest_are ∙ ap forest_rows walked.split

      rows_behind : drop end N ≡ forest_rows rest
      rows_behind =
          ap (λ n. drop n N) walked.next ∙ sym (drop-drop (rows t) g.at N) ∙ ap (drop (rows t)) rows_here ∙
          drop_at (tree_rows t) (forest_rows rest) (rows t) (length-tree_rows t)

      rest_run : slice end s.nodes N ≡ forest_rows rest
      rest_run = ap (drop end) (take_all s.nodes N (omega (arith, length-nodes b ok))) ∙ rows_behind

      child_run : slice g.at end N ≡ tree_rows t
      child_run =
          ap (λ n. slice g.at n N) walked.next ∙ slice_take N g.at (rows t) (omega (arith, i.at_most, length-nodes b ok)) ∙
          ap (take (rows t)) rows_here ∙ take_at (tree_rows t) (forest_rows rest) (rows t) (length-tree_rows t)

      rest_count : count rest ≡ g.left - 1
      unfolding siblings_in
      rest_count = count-front (g.left - 1) (forest_in s b end) walked.few

      rest_long : rows_all rest ≡ s.nodes - end
      rest_long =
          sym (length-forest_rows rest) ∙ ap length (sym rows_behind) ∙ omega (arith, length-drop end N, length-nodes b ok)

      pub left_few : g.left ≤ s.nodes + 1
      left_few = omega (arith, rest_count, rest_long, count-rows rest)

      whole_fewer : Fewer (i.kept ⧺ (t ▸ rest)) (guards (matrix_in s b))
      whole_fewer = subst (λ (ts : Forest). Fewer (i.kept ⧺ ts) (guards (matrix_in s b))) walked.split i.fewer

      tried_fewer : Fewer (i.kept ⧺ rest) (guards (matrix_in s b))
      tried_fewer = fewer_again (one_fewer i.kept t rest) whole_fewer

      -- the children kept and those behind it
      tried_are : part_rows s b ends K end ≡ forest_rows (i.kept ⧺ rest)
      tried_are = ap₂ ◌++◌ i.kept_are rest_run ∙ sym (forest_rows-⧺ i.kept rest)

      pub tried_read : guards_in s b ends K end ≡ i.kept ⧺ rest
      tried_read = guards_read s b ends K end (i.kept ⧺ rest) tried_are

      counted : g.guards + (g.left - 1) ≡ count (i.kept ⧺ rest)
      counted = omega (arith, i.counted, rest_count, count-⧺ i.kept rest)

      long : g.rows + (s.nodes - end) ≡ rows_all (i.kept ⧺ rest)
      long = omega (arith, i.long, rest_long, rows-⧺ i.kept rest)

      no_more : g.rows + (s.nodes - end) < s.nodes
      no_more = omega (arith, i.below, walked.next, walked.next_within)

      pub tried : Tried s b ends K (record { guards = g.guards + (g.left - 1); rows = g.rows + (s.nodes - end); rest = end }) most
      tried =
          record {
            chosen =
                chosen s b ends K end (i.kept ⧺ rest) tried_are ok ix.holds
                (placed_to ends 0 K g.at end i.placed (omega (arith, walked.next))) walked.next_within counted long no_more
                (fit (omega (arith, counted, long, no_more, count-rows (i.kept ⧺ rest))));
            within = rw tried_read (within_fewer F (prefix_in s b) tried_fewer whole_within);
            has_room = h.has_room;
          }

      -- what is owed, by how the run without the child ended
      step : sift S i.kept (untried g) ≡ judged (S (i.kept ⧺ rest)) (sift S i.kept rest) (sift S (i.kept ⧺ (t ▸ ∅)) rest)
      unfolding sift
      step = ap (sift S i.kept) walked.split

      judged_as : {e : End} → S (i.kept ⧺ rest) ≡ e
          → sift S i.kept (untried g) ≡ judged e (sift S i.kept rest) (sift S (i.kept ⧺ (t ▸ ∅)) rest)
      judged_as h = step ∙ ap (λ (e : End). judged e (sift S i.kept rest) (sift S (i.kept ⧺ (t ▸ ∅)) rest)) h

      -- the row at which it begins stands behind those of the children kept, whether it joins them or not
      module _ (table' : List ℕ) (e : table' ≡ set table g.guards g.at) (enough : g.guards < length table) where
        long_enough : length table' ≡ length table
        long_enough = ap length e ∙ length-set table g.guards g.at

        same_starts : take g.guards table' ≡ K
        same_starts = ap (take g.guards) e ∙ take-set-le g.guards table g.guards g.at (omega arith)

        joined_starts : take (g.guards + 1) table' ≡ K ++ (g.at ∷ [])
        joined_starts = ap₂ take (add-one g.guards) e ∙ take-suc-set table g.guards g.at enough

        left_out : S (i.kept ⧺ rest) ≡ ended false → Sifting ends table' (judged_by g False end)
        unfolding judged
        left_out said =
            record {
              kept = i.kept;
              kept_are = ap (λ l. children_rows s b ends l) same_starts ∙ i.kept_are;
              entries = omega (arith, long_enough);
              placed = subst (λ l. Placed ends 0 l end) (sym same_starts) (placed_to ends 0 K g.at end i.placed (omega (arith, walked.next)));
              counted = i.counted;
              long = i.long;
              below = omega (arith, i.below, walked.next);
              few_stops = i.few_stops;
              at_most = walked.next_within;
              few = walked.few;
              rest_are = rows_behind;
              fewer = tried_fewer;
              owed_those = ap (λ (k : Kept). k.those) (sym (judged_as said)) ∙ i.owed_those;
              owed_stops = ap (λ (k : Kept). g.stops + k.stops) (sym (judged_as said)) ∙ i.owed_stops;
            }

        joins : (n : ℕ) → n ≤ g.stops + 1 → (sift S i.kept (untried g)).those ≡ (sift S (i.kept ⧺ (t ▸ ∅)) rest).those
            → g.stops + (sift S i.kept (untried g)).stops ≡ n + (sift S (i.kept ⧺ (t ▸ ∅)) rest).stops
            → Sifting ends table' (record { at = end; left = g.left - 1; guards = g.guards + 1; rows = g.rows + (end - g.at); stops = n })
        unfolding count rows_all forest_rows
        joins n l those stops =
            record {
              kept = i.kept ⧺ (t ▸ ∅);
              kept_are =
                  ap (λ l. children_rows s b ends l) joined_starts ∙ child_more N ends K g.at ∙
                  ap₂ ◌++◌ i.kept_are (child_run ∙ sym (append-nil (tree_rows t))) ∙ sym (forest_rows-⧺ i.kept (t ▸ ∅));
              entries = omega (arith, long_enough);
              placed =
                  subst (λ l. Placed ends 0 l end) (sym joined_starts)
                  (placed_more ends 0 K g.at end i.placed forward (omega arith));
              counted = omega (arith, i.counted, count-⧺ i.kept (t ▸ ∅));
              long = omega (arith, i.long, walked.next, rows-⧺ i.kept (t ▸ ∅));
              below = omega (arith, i.below, walked.next);
              few_stops = omega (arith, i.few_stops);
              at_most = walked.next_within;
              few = walked.few;
              rest_are = rows_behind;
              fewer = subst (λ (ts : Forest). Fewer ts (guards (matrix_in s b))) (sym (next-tried i.kept t rest)) whole_fewer;
              owed_those = sym those ∙ i.owed_those;
              owed_stops = sym stops ∙ i.owed_stops;
            }

        pub next_turn : (w : Word) → Says w (S (i.kept ⧺ rest)) → Sifting ends table' (judged_by g w end)
        unfolding judged
        next_turn False said = left_out said
        next_turn True said =
            joins g.stops (omega arith) (ap (λ (k : Kept). k.those) (judged_as said))
            (ap (λ (k : Kept). g.stops + k.stops) (judged_as said))
        next_turn Stopped said =
            joins (g.stops + 1) (omega arith) (ap (λ (k : Kept). k.those) (judged_as said.1))
            (ap (λ (k : Kept). g.stops + k.stops) (judged_as said.1) ∙ one_up (sift S (i.kept ⧺ (t ▸ ∅)) rest).stops)
          where
            one_up : (n : ℕ) → g.stops + suc n ≡ g.stops + 1 + n
            one_up n = omega arith
