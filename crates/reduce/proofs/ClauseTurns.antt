-- The turns of the loops over a clause's literals and over the clauses.
-- Assumes nothing.
use mathlib.Core.Path.{◌≡◌, refl, sym, ap, ap₂, ◌∙◌}
use mathlib.Core.Bool.{Bool, true, false, not, cond}
use mathlib.Core.List.{List, [], ◌∷◌, ◌++◌, append_assoc, append-nil, map}
use Prim.Native.Nat.{ℕ, suc, max, ◌+◌, ◌-◌, ◌≤◌, ◌<◌}
use native.Mathlib.Nat.{add-zero}
use native.Mathlib.Omega.{arith}
use lib.Dec.{eqb, leb}
use lib.ListN.{length, get_or, take, drop, set, length-append, length-drop, take-append-drop, drop_of_length-le}
use lib.Seq.{length-take-le, slice, slice_empty, slice-cons, set-get_or, get_or-drop, drop_at, take_at, drop-append-add, take-append-add, take-append_seam, append_snoc}
use borrow.Author.Tests.{not-true, not-false}
use Rattle.std.proofs.lemmas.Bool.Decides.{nat_tests}
use Rattle.std.specs.Ordering.{ord_max, nat_cmp}
use Rattle.formula.specs.Tree.{and, or, Tree, lit, node, Forest, ∅, ◌▸◌, Prefix, binds, distinct, has, has_any, count, some_child}
use Rattle.formula.specs.Reduce.{is_clause, in_profile}
use Rattle.formula.proofs.Booleans.{or_parts, or-none}
use Rattle.formula.proofs.Closed.{unbound}
use Rattle.formula.proofs.Reduce.{members, members-literals}
use Rattle.formula.specs.Inner.Clauses.{blank_clause, blank_all, blank_tree}
use Rattle.sheet.specs.Format.{Bytes, Row, row, children}
use Rattle.sheet.specs.Sheet.{tree_rows, forest_rows, formula_rows}
use Rattle.subtrees.specs.Subtrees.{top}
use Rattle.subtrees.proofs.Forest.{tree_rows-top}
use Rattle.rows.specs.Layouts.{total, rows_in, Room}
use Rattle.rows.specs.Formulas.{prefix_in, formula_in}
use Rattle.rows.specs.declared.Layout.{Layout}
use Rattle.rows.proofs.Layouts.{length-rows_in}
use Rattle.reduce.specs.Inner.Places.{behind, variable_of}
use Rattle.reduce.specs.Inner.Clauses.{last_existential, goes_row, blank_row, blank_rows, Literals, Blanks, Clausal, blanked}
use Rattle.reduce.proofs.Standing.{drop-later, middle, middle_row, Standing, stand_as, stand_put, stand_rest, stand_all, stand_many}
use Rattle.reduce.proofs.Blanked.{head, clause_rows, head-length, clause_length, bound-rows, blanked-rows, length-blanked, count-blank_all}

-- the last existential literal, from row r on

pub record Lasting (s : Layout) (b : Bytes) (from to last r : ℕ) : Type 0 where
  pub start : from ≤ r
  pub within : r ≤ to
  pub same : max last (last_existential (prefix_in s b) (slice r to (rows_in s b))) ≡
      last_existential (prefix_in s b) (slice from to (rows_in s b))

module _ {s : Layout} (b : Bytes) (room : Room s (length b)) {from to : ℕ} (ls : Literals s b from to) where
  pub last_none : Lasting s b from to 0 from
  last_none = record { start = omega arith; within = ls.ordered; same = omega arith }

  pub last_row : {last r next one new : ℕ} → next ≡ suc r → r < to → Lasting s b from to last r → one ≡ behind (prefix_in s b) (variable_of s b r)
      → new ≡ max last one → Lasting s b from to new next
  unfolding last_existential
  last_row {last} {r} n h l e k =
      let opened = slice-cons r to (rows_in s b) (row 0 0) h (omega (arith, ls.inside, length-rows_in b room)) in
      rw n
      (record {
        start = omega (arith, l.start);
        within = h;
        same = omega (arith, l.same, ap (last_existential (prefix_in s b)) opened, e, k);
      })

  pub last-all : {last r : ℕ} → to ≤ r → Lasting s b from to last r → last ≡ last_existential (prefix_in s b) (slice from to (rows_in s b))
  unfolding last_existential
  last-all {last} {r} h l =
      let end : r ≡ to = omega (arith, l.within) in
      omega (
        arith,
        l.same,
        ap (λ (i : ℕ). last_existential (prefix_in s b) (slice i to (rows_in s b))) end,
        ap (last_existential (prefix_in s b)) (slice_empty to (rows_in s b)),
      )

-- one literal

same_row : (D R : List Row) (r : ℕ) → drop r D ≡ drop r R → get_or D r (row 0 0) ≡ get_or R r (row 0 0)
same_row D R r e =
    ap (λ (i : ℕ). get_or D i (row 0 0)) (sym (none r)) ∙ sym (get_or-drop r D 0 (row 0 0)) ∙
    ap (λ (l : List Row). get_or l 0 (row 0 0)) e ∙ get_or-drop r R 0 (row 0 0) ∙ ap (λ (i : ℕ). get_or R i (row 0 0)) (none r)
  where
    none : (n : ℕ) → n + 0 ≡ n
    none n = omega arith

module _ (p : Prefix) (last r : ℕ) (D R : List Row) where
  pub literal-goes : {g : Bool} {D' : List Row} → g ≡ goes_row p last (get_or R r (row 0 0)) → g ≡ true → D' ≡ set D r (row 6 0)
      → D' ≡ set D r (blank_row p last (get_or R r (row 0 0)))
  unfolding blank_row
  literal-goes is e w = w ∙ ap (λ (m : Bool). set D r (cond m (row 6 0) (get_or R r (row 0 0)))) (sym (sym is ∙ e))

  pub literal-stays : {g : Bool} → g ≡ goes_row p last (get_or R r (row 0 0)) → g ≡ false → drop r D ≡ drop r R
      → D ≡ set D r (blank_row p last (get_or R r (row 0 0)))
  unfolding blank_row
  literal-stays is e k =
      sym (set-get_or D r (row 0 0)) ∙ ap (set D r) (same_row D R r k) ∙
      ap (λ (m : Bool). set D r (cond m (row 6 0) (get_or R r (row 0 0)))) (sym (sym is ∙ e))

-- the literals of a clause, from row r on

pub record Blanking (s : Layout) (b old new : Bytes) (from to last r : ℕ) : Type 0 where
  pub start : from ≤ r
  pub within : r ≤ to
  pub standing : Standing (rows_in s b)
      (take from (rows_in s old) ++ (blank_rows (prefix_in s b) (slice from to (rows_in s b)) ++ drop to (rows_in s old))) (rows_in s new) r
      (map (blank_row (prefix_in s b) last) (slice r to (rows_in s b)) ++ drop to (rows_in s b))
  pub same_length : length new ≡ length old

module _ {s : Layout} (b old : Bytes) (source : Room s (length b)) (room : Room s (length old)) {from to : ℕ} (ls : Literals s b from to)
    (copied : drop from (rows_in s old) ≡ drop from (rows_in s b)) where
  abbrev R : List Row
  R = rows_in s b

  abbrev f : ℕ → Row → Row
  f last = blank_row (prefix_in s b) last

  pub blank_none : {last : ℕ} → last ≡ last_existential (prefix_in s b) (slice from to R) → Blanking s b old old from to last from
  unfolding blank_rows
  blank_none e =
      record {
        start = omega arith;
        within = ls.ordered;
        standing =
            record {
              so_far =
                  ap₂ (λ (n : ℕ) (l : List Row). take from (rows_in s old) ++ (map (f n) (slice from to R) ++ l)) e
                  (sym (drop-later (rows_in s old) R from to ls.ordered copied));
              left = copied;
            };
        same_length = refl;
      }

  module _ {last r : ℕ} {new : Bytes} (h : r < to) (l : Blanking s b old new from to last r) where
    pub new-room : Room s (length new)
    new-room = rw l.same_length room

    pub blank-literal-on : {next : ℕ} {new' : Bytes} → next ≡ suc r → rows_in s new' ≡ set (rows_in s new) r (f last (get_or R r (row 0 0)))
        → length new' ≡ length new → Blanking s b old new' from to last next
    blank-literal-on {next} {new'} n w len =
        let opened =
        slice-cons r to R (row 0 0) h (omega (arith, ls.inside, length-rows_in b source)) ∙
        ap (λ (i : ℕ). get_or R r (row 0 0) ∷ slice i to R) (sym n) in
        record {
          start = omega (arith, l.start);
          within = omega arith;
          standing =
              stand_put (f last (get_or R r (row 0 0))) n (omega (arith, ls.inside, length-rows_in new new-room)) w
              (stand_as (ap (λ (rs : List Row). map (f last) rs ++ drop to R) opened) l.standing);
          same_length = len ∙ l.same_length;
        }

  pub blank_all-literals : {last r : ℕ} {new : Bytes} → to ≤ r → Blanking s b old new from to last r → Blanks s b old new from to
  blank_all-literals {last} {r} {new} h l =
      let end : r ≡ to = omega (arith, l.within) in
      let none : slice r to R ≡ [] = ap (λ (i : ℕ). slice i to R) end ∙ slice_empty to R in
      stand_rest
      (stand_as
      (ap (λ (rs : List Row). map (f last) rs ++ drop to R) none ∙ ap (λ (i : ℕ). drop i R) (sym end))
      l.standing)

-- the code's maximum is the numbers'
pub later : (a b : ℕ) → ord_max nat_cmp a b ≡ max a b
later a b = grind (arith, nat_tests)

-- the clauses, from row r on

pub record Reducing (p : Prefix) (R T D : List Row) (r : ℕ) : Type 0 where
  pub clauses_left : Forest
  pub are_clauses : some_child (λ t. not (is_clause t)) clauses_left ≡ false
  pub are_bound : has_any (unbound p) clauses_left ≡ false
  pub rows_left : drop r R ≡ forest_rows clauses_left
  pub standing : Standing R T D r (forest_rows (blank_all p clauses_left))

-- a root that is AND stays, and its children are the clauses; else the root is the one clause

single_clause : (p : Prefix) (Q : List Row) (t : Tree) → is_clause t ≡ true → has (unbound p) t ≡ false
    → Reducing p (Q ++ tree_rows t) (Q ++ tree_rows (blank_clause p t)) (Q ++ tree_rows t) (length Q)
unfolding some_child has forest_rows blank_all
single_clause p Q t is h =
    record {
      clauses_left = t ▸ ∅;
      are_clauses = or-none (ap not is) refl;
      are_bound = or-none h refl;
      rows_left = drop_at Q (tree_rows t) (length Q) refl ∙ sym (append-nil (tree_rows t));
      standing =
          record {
            so_far =
                ap₂ (λ (l m : List Row). l ++ m) (take_at Q (tree_rows t) (length Q) refl) (append-nil (tree_rows (blank_clause p t)));
            left = refl;
          };
    }

pub first_clauses : (p : Prefix) (Q : List Row) (t : Tree) {r : ℕ} → in_profile t ≡ true → has (unbound p) t ≡ false
    → r ≡ length Q + cond (eqb (top t).kind 5) 1 0
    → Reducing p (Q ++ tree_rows t) (Q ++ tree_rows (blank_tree p t)) (Q ++ tree_rows t) r
unfolding in_profile blank_tree is_clause tree_rows has
first_clauses p Q (lit true v) is h e = rw (e ∙ add-zero (length Q)) (single_clause p Q (lit true v) refl h)
first_clauses p Q (lit false v) is h e = rw (e ∙ add-zero (length Q)) (single_clause p Q (lit false v) refl h)
first_clauses p Q (node or ts) is h e = rw (e ∙ add-zero (length Q)) (single_clause p Q (node or ts) is h)
first_clauses p Q (node and ts) is h e =
    let top = row 5 (count ts) in
    rw e
    (record {
      clauses_left = ts;
      are_clauses = not-true (some_child (λ t. not (is_clause t)) ts) is;
      are_bound = h;
      rows_left = drop-append-add Q (top ∷ forest_rows ts) 1;
      standing =
          record {
            so_far =
                ap (λ (l : List Row). l ++ forest_rows (blank_all p ts)) (take-append-add Q (top ∷ forest_rows ts) 1) ∙
                append_snoc Q top (forest_rows (blank_all p ts)) ∙
                ap (λ (n : ℕ). Q ++ row 5 n ∷ forest_rows (blank_all p ts)) (sym (count-blank_all p ts));
            left = refl;
          };
    })

-- the clause at row r and those behind it
record Opened (p : Prefix) (R T D : List Row) (r : ℕ) : Type 0 where
  clause : Tree
  others : Forest
  is : is_clause clause ≡ true
  bound : has_any (unbound p) (members clause) ≡ false
  others_are : some_child (λ t. not (is_clause t)) others ≡ false
  others_bound : has_any (unbound p) others ≡ false
  rows_are : drop r R ≡ tree_rows clause ++ forest_rows others
  standing : Standing R T D r (tree_rows (blank_clause p clause) ++ forest_rows (blank_all p others))

has-members : (p : Prefix) (c : Tree) → has (unbound p) c ≡ false → has_any (unbound p) (members c) ≡ false
unfolding has members
has-members p (lit s v) h = or-none h refl
has-members p (node o ts) h = h

some_row : (R : List Row) (r : ℕ) → r < length R → drop r R ≡ [] → ⊥
some_row R r h e = absurd (omega (arith, ap length e, length-drop r R))

opened : {p : Prefix} {R T D : List Row} {r : ℕ} → Reducing p R T D r → r < length R → Opened p R T D r
unfolding some_child has forest_rows blank_all
opened {p} {R} {T} {D} {r} k h = by k.clauses_left k.are_clauses k.are_bound k.rows_left k.standing
  where
    by : (cs : Forest) → some_child (λ t. not (is_clause t)) cs ≡ false → has_any (unbound p) cs ≡ false → drop r R ≡ forest_rows cs
        → Standing R T D r (forest_rows (blank_all p cs)) → Opened p R T D r
    by ∅ a b e st = absurd (some_row R r h e)
    by (c ▸ cs) a b e st =
        let are = or_parts (not (is_clause c)) (some_child (λ t. not (is_clause t)) cs) a in
        let bound = or_parts (has (unbound p) c) (has_any (unbound p) cs) b in
        record {
          clause = c;
          others = cs;
          is = not-false (is_clause c) are.0;
          bound = has-members p c bound.0;
          others_are = are.1;
          others_bound = bound.1;
          rows_are = e;
          standing = st;
        }

module _ {p : Prefix} (d : distinct p ≡ true) {R T D : List Row} {r : ℕ} (k : Reducing p R T D r) (h : r < length R) (same : length D ≡ length R)
    {first next : ℕ} (from : first ≡ r + cond (leb (get_or R r (row 0 0)).kind 4) 0 1) (to : next ≡ r + 1 + children (get_or R r (row 0 0))) where
  o : Opened p R T D r
  o = opened k h

  c : Tree
  c = o.clause

  A : List Row
  A = take r R ++ head c

  M : List Row
  M = forest_rows (members c)

  B : List Row
  B = forest_rows o.others

  row_is : get_or R r (row 0 0) ≡ top c
  unfolding c
  row_is =
      ap (λ (i : ℕ). get_or R i (row 0 0)) (sym (add-zero r)) ∙ sym (get_or-drop r R 0 (row 0 0)) ∙
      ap (λ (l : List Row). get_or l 0 (row 0 0)) (o.rows_are ∙ ap (λ (l : List Row). l ++ forest_rows o.others) (tree_rows-top c))

  in_parts : R ≡ A ++ (M ++ B)
  unfolding A M B c
  in_parts =
      sym (take-append-drop r R) ∙
      ap (λ (l : List Row). take r R ++ l)
      (o.rows_are ∙ ap (λ (l : List Row). l ++ B) (clause_rows c) ∙ append_assoc (head c) M B) ∙
      sym (append_assoc (take r R) (head c) (M ++ B))

  first_is : first ≡ r + length (head c)
  first_is = from ∙ ap (λ (x : Row). r + cond (leb x.kind 4) 0 1) row_is ∙ ap (λ (n : ℕ). r + n) (sym (head-length c))

  first_A : first ≡ length A
  unfolding A
  first_A =
      omega (arith, first_is, length-append (take r R) (head c), length-take-le r R (omega (arith, h)))

  next_is : next ≡ first + length M
  unfolding M c
  next_is = omega (arith, to, ap children row_is, first_is, clause_length c o.is)

  pub next_within : next ≤ length R
  next_within =
      omega (arith, first_A, next_is, ap length in_parts, length-append A (M ++ B), length-append M B)

  pub in_order : first ≤ next
  in_order = omega (arith, next_is)

  pub next-behind : r < next
  next-behind = omega (arith, to)

  pub first_left : drop first D ≡ drop first R
  first_left = drop-later D R r first (omega (arith, first_is)) k.standing.left

  clause_is : slice first next R ≡ M
  clause_is = ap (slice first next) in_parts ∙ middle A M B first_A next_is

  pub literal-bound : (i : ℕ) → first ≤ i → i < next → binds p (get_or R i (row 0 0)).argument ≡ true
  unfolding M c
  literal-bound i l u =
      ap (λ (rs : List Row). binds p (get_or rs i (row 0 0)).argument) in_parts ∙
      ap (λ (x : Row). binds p x.argument) (middle_row A M B first_A next_is i l u) ∙
      bound-rows p (members c) (members-literals c o.is) o.bound (i - first) (omega (arith, next_is, l, u))

  pub reducing_on : {D' : List Row} → D' ≡ take first D ++ (blank_rows p (slice first next R) ++ drop next D) → Reducing p R T D' next
  unfolding c M B
  reducing_on {D'} e =
      record {
        clauses_left = o.others;
        are_clauses = o.others_are;
        are_bound = o.others_bound;
        rows_left =
            ap (drop next) (in_parts ∙ sym (append_assoc A M B)) ∙
            drop_at (A ++ M) B next (length-append A M ∙ omega (arith, first_A, next_is));
        standing =
            stand_many (head c) (blank_rows p M) (forest_rows (blank_all p o.others)) first_is
            (next_is ∙ ap (λ (n : ℕ). first + n) (sym (length-blanked p d c o.is o.bound))) (omega (arith, next_within, same))
            (ap (take (length (head c))) (o.rows_are ∙ ap (λ (l : List Row). l ++ B) (clause_rows c) ∙ append_assoc (head c) M B) ∙
            take-append_seam (head c) (M ++ B))
            (e ∙ ap (λ (rs : List Row). take first D ++ (blank_rows p rs ++ drop next D)) clause_is)
            (stand_as
            (ap (λ (l : List Row). l ++ forest_rows (blank_all p o.others)) (blanked-rows p d c o.is o.bound) ∙
            append_assoc (head c) (blank_rows p M) (forest_rows (blank_all p o.others)))
            o.standing);
      }

pub reducing_done : {p : Prefix} {R T D : List Row} {r : ℕ} → Reducing p R T D r → length R ≤ r → length D ≡ length R → D ≡ T
unfolding forest_rows blank_all
reducing_done {p} {R} {T} {D} {r} k h same = by k.clauses_left k.rows_left k.standing
  where
    by : (cs : Forest) → drop r R ≡ forest_rows cs → Standing R T D r (forest_rows (blank_all p cs)) → D ≡ T
    by ∅ e st = stand_all (omega (arith, same)) st
    by (c ▸ cs) e st =
        absurd
        (omega (
          arith,
          ap length (sym (drop_of_length-le R h) ∙ e ∙ ap (λ (l : List Row). l ++ forest_rows cs) (tree_rows-top c)),
        ))

-- what the loop over the clauses has at row r of a sheet
module _ {s : Layout} (b : Bytes) {places : List ℕ} (c : Clausal s b places) (out new : Bytes) (room : Room s (length out))
    (same : length new ≡ length out) {r : ℕ}
    (k : Reducing (prefix_in s b) (rows_in s b) (formula_rows (blanked (formula_in s b))) (rows_in s new) r) where
  rows_counted : length (rows_in s b) ≡ total s
  rows_counted = length-rows_in b c.placed.numbered.readable.room

  pub new_rows : Room s (length new)
  new_rows = rw same room

  new_counted : length (rows_in s new) ≡ length (rows_in s b)
  new_counted = length-rows_in new new_rows ∙ sym rows_counted

  module _ (h : r < total s) {first next : ℕ} (from : first ≡ r + cond (leb (get_or (rows_in s b) r (row 0 0)).kind 4) 0 1)
      (to : next ≡ r + 1 + children (get_or (rows_in s b) r (row 0 0))) where
    below : r < length (rows_in s b)
    below = omega (arith, h, rows_counted)

    pub clause-literals : Literals s b first next
    clause-literals =
        let inside : next ≤ total s
        = omega (arith, next_within c.is_distinct k below new_counted from to, rows_counted) in
        record {
          ordered = in_order c.is_distinct k below new_counted from to;
          inside = inside;
          are_bound =
              λ i l u. record {
                inside = omega (arith, u, inside);
                is_bound = literal-bound c.is_distinct k below new_counted from to i l u;
              };
        }

    pub clause-left : drop first (rows_in s new) ≡ drop first (rows_in s b)
    clause-left = first_left c.is_distinct k below new_counted from to

    pub clause-on : (after : Bytes) → Blanks s b new after first next
        → Reducing (prefix_in s b) (rows_in s b) (formula_rows (blanked (formula_in s b))) (rows_in s after) next
    clause-on after e = reducing_on c.is_distinct k below new_counted from to e

  pub clauses_done : total s ≤ r → rows_in s new ≡ formula_rows (blanked (formula_in s b))
  clauses_done h = reducing_done k (omega (arith, h, rows_counted)) new_counted
