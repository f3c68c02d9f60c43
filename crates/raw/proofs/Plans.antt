-- What is written in place of the subtree that an expansion replaces: its parts, and the room for them.
-- Assumes nothing.
use mathlib.Core.Path.{◌≡◌, refl, sym, ap, ap₂, ◌∙◌, subst, subst₂}
use mathlib.Core.Bool.{true, false, cond}
use mathlib.Core.List.{List, ◌∷◌, ◌++◌, map}
use Prim.Native.Nat.{ℕ, suc, ◌+◌, ◌-◌, ◌≤◌, ◌<◌}
use native.Mathlib.Omega.{arith}
use lib.ListN.{length, get_or, take, drop, length-append, length-drop, length-map}
use lib.Seq.{slice, drop-cons, take_all, length-slice}
use Rattle.formula.specs.Tree.{Tree, has, count}
use Rattle.formula.specs.Expand.{expand_tree, raw_tree}
use Rattle.sheet.specs.Format.{Bytes, Row, row}
use Rattle.sheet.specs.Sheet.{binding_row, tree_rows, formula_rows}
use Rattle.sheet.proofs.Preorder.{count-rows, length-tree_rows}
use Rattle.rows.specs.Layouts.{Fits, total, rows_in}
use Rattle.rows.specs.Formulas.{prefix_in, node_rows_in, matrix_in, formula_in}
use Rattle.rows.specs.declared.Layout.{Layout}
use Rattle.rows.proofs.Formulas.{length-nodes}
use Rattle.subtrees.specs.Subtrees.{top, kids}
use Rattle.subtrees.proofs.Forest.{rows-kids}
use Rattle.subtrees.specs.declared.relevant.Relevant.{Relevant}
use Rattle.substitution.specs.Changes.{changed_row, copied}
use Rattle.substitution.specs.Output.{CopyReady}
use Rattle.rows.proofs.Limits.{number_fits}
use Rattle.raw.specs.Formulas.{without_row, first_table, second_table, chosen_by, operator_of, copying_by, expanded_raw}
use Rattle.raw.specs.Expansions.{Climbs, runs_in, joined, Copyable, Expandable, Located, part_in, cuts_in, new_rows, new_at, joined_in, raw_matrix}
use Rattle.raw.specs.declared.expand.Expansion.{Expansion}
use Rattle.raw.proofs.Around.{own_part}
use Rattle.raw.proofs.Cuts.{climbs_from, Parted, parted}
use Rattle.raw.proofs.Source.{nodes_part, matrix_part}
use Rattle.raw.proofs.Copies.{relevant_few, whole_rows, some_rows}
use Rattle.raw.proofs.RunTurns.{climbs_most}
use Rattle.raw.proofs.Raws.{room_on, rows-raw, rows_absent}
use Rattle.raw.proofs.Sited.{Sited, sited}

pub ready_raw : {s : Layout} {b : Bytes} {tables : List ℕ} {e : Expansion} {out : Bytes} → Copyable s b tables e out
    → CopyReady s b e.layout out
ready_raw x = record { source = x.readable.room; room = x.room; same_format = x.same_format }

module _ {s : Layout} {b : Bytes} {tables : List ℕ} {e : Expansion} {out : Bytes} (x : Copyable s b tables e out)
    (l : Located s b tables e) where
  abbrev site : Sited s b tables e
  site = sited s b tables e x l

  -- the new rows have their place
  pub new-within : new_at e + length (new_rows s b tables e) ≤ total e.layout
  new-within = omega (arith, site.measured)

-- after a write there is as much room
pub copyable_on : {s : Layout} {b : Bytes} {tables : List ℕ} {e : Expansion} {old new : Bytes} → Copyable s b tables e old
    → length new ≡ length old → Copyable s b tables e new
copyable_on x h =
    record {
      readable = x.readable;
      two_tables = x.two_tables;
      joins = x.joins;
      same_format = x.same_format;
      few_variables = x.few_variables;
      nodes_are = x.nodes_are;
      room = room_on x.room h;
    }

-- with the prefix of V - 1 rows
pub copyable : {s : Layout} {b : Bytes} {tables : List ℕ} {e : Expansion} {out : Bytes} → Expandable s b tables e out → Copyable s b tables e out
copyable x =
    record {
      readable = x.readable;
      two_tables = x.two_tables;
      joins = x.joins;
      same_format = ap (λ (t : Layout). t.format) x.layout_is;
      few_variables = omega (arith, ap (λ (t : Layout). t.variables) x.layout_is, x.readable.few_variables);
      nodes_are = ap (λ (t : Layout). t.nodes) x.layout_is;
      room = x.room;
    }

-- a part lent from row a on
pub rest_of : (a : ℕ) (l : List ℕ) → take (length l - a) (drop a l) ≡ drop a l
rest_of a l = take_all (length l - a) (drop a l) (omega (arith, length-drop a l))

-- Every child is relevant.
pub record Whole (s : Layout) (b : Bytes) (tables : List ℕ) (e : Expansion) : Type 0 where
  pub inside : e.relevant.operator < e.end
  pub end_in : e.end ≤ s.nodes
  pub fits_two : Fits e.layout 2
  pub room : new_at e + (1 + ((e.end - e.relevant.operator) + (e.end - e.relevant.operator))) ≤ total e.layout
  pub written : row e.joint 2 ∷
      (copied (first_table tables) (s.variables + e.relevant.operator) (s.variables + e.end) (rows_in s b) ++
      copied (second_table tables) (s.variables + e.relevant.operator) (s.variables + e.end) (rows_in s b)) ≡
      new_rows s b tables e

pub whole : {s : Layout} {b : Bytes} {tables : List ℕ} {e : Expansion} {out : Bytes} → Copyable s b tables e out
    → Located s b tables e → e.relevant.all ≡ true → Whole s b tables e
whole {s} {b} {tables} {e} x l h =
    record {
      inside = site.inside;
      end_in = site.end_in;
      fits_two = number_fits e.layout.format (omega arith);
      room =
          omega (
            arith,
            new-within x l,
            ap length copies,
            length-append (map (changed_row first) (tree_rows u)) (map (changed_row second) (tree_rows u)),
            length-map (tree_rows u) (changed_row first),
            length-map (tree_rows u) (changed_row second),
            length-tree_rows u,
            l.end_is,
          );
      written = ap₂ (λ m n. row e.joint 2 ∷ (m ++ n)) (site.here first) (site.here second) ∙ sym copies;
    }
  where
    site : Sited s b tables e
    site = sited s b tables e x l

    first : List ℕ
    first = first_table tables

    second : List ℕ
    second = second_table tables

    u : Tree
    u = part_in s b e

    copies : new_rows s b tables e ≡ row e.joint 2 ∷ (map (changed_row first) (tree_rows u) ++ map (changed_row second) (tree_rows u))
    copies =
        whole_rows (operator_of e.joint) first second u e.relevant.operator site.deep
        (sym (ap (λ (p : Relevant). p.all) site.found) ∙ h) ∙
        ap (λ k. row k 2 ∷ (map (changed_row first) (tree_rows u) ++ map (changed_row second) (tree_rows u))) (sym x.joins)

-- Not every child is relevant.
pub record Some (s : Layout) (b : Bytes) (tables cs : List ℕ) (e : Expansion) : Type 0 where
  pub operator_in : e.relevant.operator < s.nodes
  pub two : 2 ≤ length cs
  pub begins : get_or cs 0 0 ≡ suc e.relevant.operator
  pub ordered : get_or cs 0 0 ≤ get_or cs 1 0
  pub within : get_or cs 1 0 ≤ s.nodes
  pub climbs_relevant : Climbs 0 (drop 1 cs) s.nodes
  pub climbs_others : Climbs 0 (drop 2 cs) s.nodes
  pub few : e.relevant.children ≤ count (kids (part_in s b e))
  pub fits_two : Fits e.layout 2
  pub fits_relevant : Fits s e.relevant.children
  pub fits_children : Fits e.layout (count (kids (part_in s b e)) - e.relevant.children + 1)
  pub joined_length : length (joined_in s b tables cs e) ≡
      1 + ((1 + length (runs_in s b (drop 1 cs))) + (1 + length (runs_in s b (drop 1 cs))))
  pub room : new_at e +
      (1 + ((get_or cs 1 0 - get_or cs 0 0) + (length (joined_in s b tables cs e) + length (runs_in s b (drop 2 cs))))) ≤
      total e.layout
  pub written : row (top (part_in s b e)).kind (count (kids (part_in s b e)) - e.relevant.children + 1) ∷
      (slice (s.variables + get_or cs 0 0) (s.variables + get_or cs 1 0) (rows_in s b) ++
      (joined_in s b tables cs e ++ map (changed_row (second_table tables)) (runs_in s b (drop 2 cs)))) ≡
      new_rows s b tables e

pub some : {s : Layout} {b : Bytes} {tables cs : List ℕ} {e : Expansion} {out : Bytes} → Copyable s b tables e out
    → Located s b tables e → e.relevant.all ≡ false → cs ≡ cuts_in s b tables e → Some s b tables cs e
unfolding joined
some {s} {b} {tables} {cs} {e} x l h c =
    record {
      operator_in = omega (arith, site.inside, site.end_in);
      two = p.two;
      begins = p.begins;
      ordered = climbing.1.0;
      within = c1-within;
      climbs_relevant = subst (λ l. Climbs 0 l s.nodes) (sym one-cut) (omega arith, climbing.1.1);
      climbs_others = climbs_from 0 (get_or cs 1 0) s.nodes (omega arith) (drop 2 cs) climbing.1.1;
      few = omega (arith, bounds.1, children_are);
      fits_two = number_fits e.layout.format (omega arith);
      fits_relevant = number_fits s.format (omega (arith, bounds.1, children_are, kids_few));
      fits_children = number_fits e.layout.format (omega (arith, bounds.0, bounds.1, children_are, kids_few));
      joined_length = joined-counts;
      room =
          omega (
            arith,
            new-within x l,
            ap length parts,
            length-append (slice (get_or cs 0 0) (get_or cs 1 0) N) (joined_in s b tables cs e ++ runs_in s b (drop 2 cs)),
            length-append (joined_in s b tables cs e) (runs_in s b (drop 2 cs)),
            length-slice (get_or cs 0 0) (get_or cs 1 0) N (omega (arith, c1-within, length-nodes b x.readable)),
          );
      written =
          ap₂ (λ m n. head ∷ (m ++ (joined_in s b tables cs e ++ n)))
          (nodes_part s b x.readable (get_or cs 0 0) (get_or cs 1 0)) p.others ∙ sym parts;
    }
  where
    site : Sited s b tables e
    site = sited s b tables e x l

    second : List ℕ
    second = second_table tables

    N : List Row
    N = node_rows_in s b

    u : Tree
    u = part_in s b e

    p : Parted second N (suc e.relevant.operator) (kids u) cs
    p = parted second N (suc e.relevant.operator) (kids u) site.stands c

    head : Row
    head = row (top u).kind (count (kids u) - e.relevant.children + 1)

    one-cut : drop 1 cs ≡ get_or cs 1 0 ∷ drop 2 cs
    one-cut = drop-cons cs 1 0 (omega (arith, p.two))

    split : cs ≡ get_or cs 0 0 ∷ get_or cs 1 0 ∷ drop 2 cs
    split = drop-cons cs 0 0 (omega (arith, p.two)) ∙ ap (λ l. get_or cs 0 0 ∷ l) one-cut

    climbing : Climbs 0 (get_or cs 0 0 ∷ get_or cs 1 0 ∷ drop 2 cs) s.nodes
    climbing = subst₂ (λ l n. Climbs 0 l n) split (length-nodes b x.readable) p.climbs

    c1-within : get_or cs 1 0 ≤ s.nodes
    c1-within = climbs_most s.nodes (drop 2 cs) climbing.1.1

    all-is : (own_part (chosen_by tables) e.relevant.operator u).all ≡ false
    all-is = sym (ap (λ (q : Relevant). q.all) site.found) ∙ h

    children_are : e.relevant.children ≡ (own_part (chosen_by tables) e.relevant.operator u).children
    children_are = ap (λ (q : Relevant). q.children) site.found

    bounds : (1 ≤ (own_part (chosen_by tables) e.relevant.operator u).children) × ((own_part (chosen_by tables) e.relevant.operator u).children ≤ count (kids u))
    bounds = relevant_few (chosen_by tables) u e.relevant.operator site.deep all-is

    kids_few : count (kids u) ≤ 8191
    kids_few = omega (arith, count-rows (kids u), rows-kids u, l.end_is, site.end_in, x.readable.few_nodes)

    joined-counts : length (joined_in s b tables cs e) ≡
        1 + ((1 + length (runs_in s b (drop 1 cs))) + (1 + length (runs_in s b (drop 1 cs))))
    joined-counts =
        omega (
          arith,
          length-append (below ∷ map (changed_row (first_table tables)) (runs_in s b (drop 1 cs)))
              (below ∷ map (changed_row second) (runs_in s b (drop 1 cs))),
          length-map (runs_in s b (drop 1 cs)) (changed_row (first_table tables)),
          length-map (runs_in s b (drop 1 cs)) (changed_row second),
        )
      where
        below : Row
        below = row (top u).kind e.relevant.children

    parts : new_rows s b tables e ≡
        head ∷ (slice (get_or cs 0 0) (get_or cs 1 0) N ++ (joined_in s b tables cs e ++ runs_in s b (drop 2 cs)))
    parts =
        some_rows (operator_of e.joint) (first_table tables) second u e.relevant.operator site.deep all-is p e.relevant.children children_are ∙
        ap
        (λ k. head ∷
        (slice (get_or cs 0 0) (get_or cs 1 0) N ++
        (joined k (row (top u).kind e.relevant.children) (first_table tables) second (runs_in s b (drop 1 cs)) ++ runs_in s b (drop 2 cs))))
        (sym x.joins)

-- the copies as they are written, by parts that are lent
pub joined_parts : (s : Layout) (b : Bytes) (tables cs : List ℕ) (e : Expansion) {k : ℕ} → k ≡ (top (part_in s b e)).kind
    → let relevant = runs_in s b (take (length cs - 1) (drop 1 cs)) in
    let head = row k e.relevant.children in
    row e.joint 2 ∷
    ((head ∷ map (changed_row (first_table tables)) relevant) ++
    (head ∷ map (changed_row (take (length tables - 1025) (drop 1025 tables))) relevant)) ≡
    joined_in s b tables cs e
unfolding joined
joined_parts s b tables cs e {k} h =
    ap₂
    (λ ts l. row e.joint 2 ∷
    ((row k e.relevant.children ∷ map (changed_row (first_table tables)) (runs_in s b l)) ++
    (row k e.relevant.children ∷ map (changed_row ts) (runs_in s b l))))
    (rest_of 1025 tables) (rest_of 1 cs) ∙
    ap (λ n. joined e.joint (row n e.relevant.children) (first_table tables) (second_table tables) (runs_in s b (drop 1 cs))) h

-- the operator, its first run, the copies and the other runs, in the same way
pub some_parts : (s : Layout) (b : Bytes) (tables cs : List ℕ) (e : Expansion) → Some s b tables cs e → {k n : ℕ}
    → k ≡ (top (part_in s b e)).kind → n ≡ count (kids (part_in s b e))
    → let t = take (length tables - 1025) (drop 1025 tables) in
    row k (n - e.relevant.children + 1) ∷
    (slice (s.variables + get_or cs 0 0) (s.variables + get_or cs 1 0) (rows_in s b) ++
    (joined_in s b tables cs e ++ map (changed_row t) (runs_in s b (take (length cs - 2) (drop 2 cs))))) ≡
    new_rows s b tables e
some_parts s b tables cs e p {k} {n} is-kind is-count =
    ap₂
    (λ t l. row k (n - e.relevant.children + 1) ∷
    (slice (s.variables + get_or cs 0 0) (s.variables + get_or cs 1 0) (rows_in s b) ++
    (joined_in s b tables cs e ++ map (changed_row t) (runs_in s b l))))
    (rest_of 1025 tables) (rest_of 2 cs) ∙
    ap₂
    (λ k n. row k (n - e.relevant.children + 1) ∷
    (slice (s.variables + get_or cs 0 0) (s.variables + get_or cs 1 0) (rows_in s b) ++
    (joined_in s b tables cs e ++ map (changed_row (second_table tables)) (runs_in s b (drop 2 cs)))))
    is-kind is-count ∙
    p.written

module _ {s : Layout} {b : Bytes} {tables : List ℕ} {e : Expansion} {out : Bytes} (x : Copyable s b tables e out) where
  -- as many rows as the layout has nodes
  pub matrix_rows : length (raw_matrix s b tables e) ≡ e.layout.nodes
  matrix_rows =
      length-tree_rows (raw_tree (copying_by tables e.joint) (matrix_in s b)) ∙ rows-raw tables e.joint (matrix_in s b) ∙ sym x.nodes_are

  -- with no literal chosen, the matrix as it is
  module _ (absent : has (chosen_by tables) (matrix_in s b) ≡ false) where
    pub absent-nodes : e.layout.nodes ≡ s.nodes
    absent-nodes = x.nodes_are ∙ rows_absent s b x.readable tables absent

    pub absent-parts : slice s.variables (total s) (rows_in s b) ≡ raw_matrix s b tables e
    unfolding raw_tree
    absent-parts =
        matrix_part s b x.readable ∙
        ap tree_rows (sym (ap (λ m. cond m (expand_tree (copying_by tables e.joint) (matrix_in s b)) (matrix_in s b)) absent))

-- the prefix and the matrix
pub expanded-rows : (s : Layout) (b : Bytes) (tables : List ℕ) (e : Expansion)
    → map binding_row (without_row e.row (prefix_in s b)) ++ raw_matrix s b tables e ≡
    formula_rows (expanded_raw e.row (copying_by tables e.joint) (formula_in s b))
unfolding formula_rows expanded_raw formula_in
expanded-rows s b tables e = refl
