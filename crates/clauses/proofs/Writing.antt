-- The rows that are written for a row of the matrix, and the turns of the writing.
-- Assumes nothing.
use mathlib.Core.Path.{◌≡◌, refl, sym, ap, ap₂, ◌∙◌, subst}
use mathlib.Core.Bool.{Bool, true, false, not}
use mathlib.Core.List.{List, [], ◌∷◌, ◌++◌, map, append-nil, append_assoc, map-append}
use native.Mathlib.Numerals.{add-one}
use lib.Seq.{slice, take_all, take-suc, length-take-le}
use Prim.Native.Nat.{ℕ, suc, ◌+◌, ◌-◌, ◌≤◌, ◌<◌}
use native.Mathlib.Omega.{arith}
use lib.Dec.{eqb}
use lib.ListN.{length, get_or, take, length-append, length-map}
use Rattle.formula.specs.Tree.{and, or, Tree, lit, node, Forest, ∅, ◌▸◌, ◌⧺◌, rows, rows_all, count}
use Rattle.formula.specs.Clausal.{implies, conjuncts}
use Rattle.formula.proofs.Forests.{count-rows}
use Rattle.sheet.specs.Format.{Bytes, Row, row}
use Rattle.formula.specs.Outer.{existential}
use Rattle.sheet.specs.Sheet.{binding_row, tree_rows, forest_rows}
use Rattle.sheet.proofs.Preorder.{forest_rows-⧺}
use Rattle.rows.specs.Layouts.{total, rows_in}
use Rattle.rows.proofs.Formulas.{quantifiers}
use Rattle.rows.specs.Formulas.{prefix_in, matrix_in, Readable}
use Rattle.rows.specs.declared.Layout.{Layout}
use Rattle.substitution.specs.Output.{Laid}
use Rattle.substitution.proofs.Splice.{none-laid, laid_on}
use Rattle.subtrees.specs.Ends.{Indexed}
use Rattle.subtrees.specs.Subtrees.{top, kids, subtree_in, siblings_in, Beside}
use Rattle.subtrees.proofs.Siblings.{Walked, siblings-none, subtree_within, children_read, walk_on}
use Rattle.clauses.specs.Inner.Named.{named_by, names_from, unit_clause, own_clauses, clauses_from, defined_from, clauses_left, first_conjunct}
use Rattle.clauses.specs.Inner.Writing.{implied_rows, child_rows, below_rows, head_rows}
use Rattle.clauses.proofs.Named.{count-names}
use Rattle.clauses.proofs.Walking.{Walking, Turned, walking_first, walking_none}
use Rattle.clauses.proofs.Surveying.{all_clauses}

-- one name

pub literal-name : (n : ℕ) (t : Tree) {k a : ℕ} → k ≡ (top t).kind → a ≡ (top t).argument → k ≤ 4 → row k a ∷ [] ≡ tree_rows (named_by n t)
unfolding tree_rows
literal-name n (lit s v) e f h = ap₂ (λ k a. row k a ∷ []) e f
literal-name n (node and ts) e f h = absurd (omega (arith, e, h))
literal-name n (node or ts) e f h = absurd (omega (arith, e, h))

pub operator_name : (t : Tree) {k n m : ℕ} → k ≡ (top t).kind → 4 < k → m ≡ n → row 3 m ∷ [] ≡ tree_rows (named_by n t)
unfolding tree_rows
operator_name (lit true v) e h f = absurd (omega (arith, e, h))
operator_name (lit false v) e h f = absurd (omega (arith, e, h))
operator_name (node o ts) e h f = ap (λ n. row 3 n ∷ []) f

pub length-name : (n : ℕ) (t : Tree) → length (tree_rows (named_by n t)) ≡ 1
unfolding tree_rows
length-name n (lit s v) = refl
length-name n (node o ts) = refl

pub length_implied : (e : Bool) (m n : ℕ) → length (implied_rows e m) ≡ length (implied_rows e n)
length_implied true m n = refl
length_implied false m n = refl

-- the children

unfoldable pub children_rows : Bool → ℕ → List ℕ → ℕ → Forest → List Row
children_rows e n L r ∅ = []
children_rows e n L r (t ▸ ts) = child_rows e n (named_by (get_or L r 0) t) ++ children_rows e n L (r + rows t) ts

children_each : (n : ℕ) (L : List ℕ) (ts : Forest) (r : ℕ) → forest_rows (implies and n (names_from L r ts)) ≡ children_rows true n L r ts
unfolding implies names_from children_rows tree_rows count
children_each n L ∅ r = refl
children_each n L (t ▸ ts) r =
    ap₂ (λ l m. (row 6 2 ∷ row 4 n ∷ l) ++ m) (append-nil (tree_rows (named_by (get_or L r 0) t))) (children_each n L ts (r + rows t))

children-names : (n : ℕ) (L : List ℕ) (ts : Forest) (r : ℕ) → forest_rows (names_from L r ts) ≡ children_rows false n L r ts
unfolding names_from children_rows tree_rows
children-names n L ∅ r = refl
children-names n L (t ▸ ts) r = ap (λ l. tree_rows (named_by (get_or L r 0) t) ++ l) (children-names n L ts (r + rows t))

pub below-children : (L : List ℕ) (r : ℕ) (t : Tree) {e : Bool} {k : ℕ} → k ≡ (top t).kind → e ≡ not (eqb k 6)
    → below_rows L r t ≡ children_rows e (get_or L r 0) L (suc r) (kids t)
unfolding children_rows
below-children L r (lit s v) f e = refl
below-children L r (node and ts) f e =
    children_each (get_or L r 0) L ts (suc r) ∙ ap (λ (m : Bool). children_rows m (get_or L r 0) L (suc r) ts) (sym (e ∙ ap (λ k. not (eqb k 6)) f))
below-children L r (node or ts) f e =
    children-names (get_or L r 0) L ts (suc r) ∙ ap (λ (m : Bool). children_rows m (get_or L r 0) L (suc r) ts) (sym (e ∙ ap (λ k. not (eqb k 6)) f))

-- the children from row r on are left, so many
pub record Listing (e : Bool) (n : ℕ) (L : List ℕ) (s : Layout) (b : Bytes) (t : Layout) (old : Bytes) (start : ℕ) (all : List Row) (out : Bytes) (at left r : ℕ) : Type 0 where
  pub done : List Row
  pub so_far : Laid t old out start at done
  pub few : Beside s b r left
  pub owed : done ++ children_rows e n L r (siblings_in s b r left) ≡ all
  pub same_length : length out ≡ length old

module _ (e : Bool) (n : ℕ) (L : List ℕ) {s : Layout} (b : Bytes) (ok : Readable s b) (t : Layout) (old : Bytes) (start : ℕ) where
  pub listing_none : {i r k : ℕ} → i < s.nodes → r ≡ suc i → k ≡ count (kids (subtree_in s b i))
      → Listing e n L s b t old start (children_rows e n L (suc i) (kids (subtree_in s b i))) old start k r
  listing_none {i} {r} {k} h next all =
      let c = children_read b ok i h next all in
      record {
        done = [];
        so_far = none-laid t old start;
        few = c.few;
        owed = ap₂ (λ m ts. children_rows e n L m ts) next c.are;
        same_length = refl;
      }

  module _ {all : List Row} {out : Bytes} {at left r : ℕ} (l : Listing e n L s b t old start all out at left r) where
    pub listing-all : left ≤ 0 → Laid t old out start at all
    unfolding children_rows
    listing-all h =
        subst (Laid t old out start at)
        (sym (append-nil l.done) ∙ ap (λ ts. l.done ++ children_rows e n L r ts) (sym (siblings-none s b r h)) ∙ l.owed) l.so_far

    module _ (ends : List ℕ) (i : Indexed s b ends) (more : 0 < left) where
      walked : Walked s b ends r left
      walked = walk_on b ok ends i r more l.few

      pub child-inside : r < s.nodes
      child-inside = walked.inside

      abbrev own : List Row
      own = child_rows e n (named_by (get_or L r 0) (subtree_in s b r))

      split : children_rows e n L r (siblings_in s b r left) ≡ own ++ children_rows e n L (get_or ends r 0) (siblings_in s b (get_or ends r 0) (left - 1))
      unfolding children_rows
      split =
          ap (λ ts. children_rows e n L r ts) walked.split ∙
          ap (λ m. own ++ children_rows e n L m (siblings_in s b (get_or ends r 0) (left - 1))) (sym walked.next)

      pub child-room : start + length all ≤ total t → at + (length (implied_rows e 0) + 1) ≤ total t
      child-room room =
          omega (
            arith,
            room,
            l.so_far.next_row,
            ap length l.owed,
            length-append l.done (children_rows e n L r (siblings_in s b r left)),
            ap length split,
            length-append own (children_rows e n L (get_or ends r 0) (siblings_in s b (get_or ends r 0) (left - 1))),
            length-append (implied_rows e n) (tree_rows (named_by (get_or L r 0) (subtree_in s b r))),
            length-name (get_or L r 0) (subtree_in s b r),
            length_implied e n 0,
          )

      pub listing-on : {new : Bytes} {next m k : ℕ} → Laid t out new at next (child_rows e n (named_by (get_or L r 0) (subtree_in s b r)))
          → length new ≡ length out → m ≡ left - 1 → k ≡ get_or ends r 0 → Listing e n L s b t old start all new next m k
      listing-on {new} {next} {m} {k} w same at-m at-k =
          rw (at-m, at-k)
          (record {
            done = l.done ++ own;
            so_far = laid_on l.so_far w;
            few = walked.few;
            owed =
                append_assoc l.done own (children_rows e n L (get_or ends r 0) (siblings_in s b (get_or ends r 0) (left - 1))) ∙
                ap (λ k. l.done ++ k) (sym split) ∙ l.owed;
            same_length = same ∙ l.same_length;
          })

-- there are few children
few_kids : (t : Tree) → count (kids t) ≤ rows t
unfolding count rows
few_kids (lit s v) = omega arith
few_kids (node o ts) = omega (arith, count-rows ts)

pub few_children : {s : Layout} (b : Bytes) → Readable s b → {i n : ℕ} → i < s.nodes → n ≡ count (kids (subtree_in s b i)) → n ≤ 8192
few_children {s} b ok {i} h e = omega (arith, e, few_kids (subtree_in s b i), subtree_within b ok i h, ok.few_nodes)

-- what stands in front of the children

module _ (L : List ℕ) (r : ℕ) where
  pub or-conjunct : (t : Tree) {c : Bool} {n : ℕ} → (top t).kind ≡ 6 → c ≡ true → n ≡ count (kids t) → row 6 n ∷ [] ≡ head_rows L r c t
  or-conjunct (lit true v) h e f = absurd (omega arith)
  or-conjunct (lit false v) h e f = absurd (omega arith)
  or-conjunct (node and ts) h e f = absurd (omega arith)
  or-conjunct (node or ts) {c = true} h e f = ap (λ n. row 6 n ∷ []) f
  or-conjunct (node or ts) {c = false} h e f = let z : ◌≡◌ {A = ℕ} 0 1 = cc in absurd (omega arith)

  pub or-below : (t : Tree) {c : Bool} {n m : ℕ} → (top t).kind ≡ 6 → c ≡ false → n ≡ suc (count (kids t)) → m ≡ get_or L r 0
      → row 6 n ∷ row 4 m ∷ [] ≡ head_rows L r c t
  or-below (lit true v) h e f g = absurd (omega arith)
  or-below (lit false v) h e f g = absurd (omega arith)
  or-below (node and ts) h e f g = absurd (omega arith)
  or-below (node or ts) {c = true} h e f g = let z : ◌≡◌ {A = ℕ} 0 1 = cc in absurd (omega arith)
  or-below (node or ts) {c = false} h e f g = ap₂ (λ n m. row 6 n ∷ row 4 m ∷ []) f g

  pub head-none : (t : Tree) {c : Bool} {k : ℕ} → k ≡ (top t).kind → (k ≡ 6 → ⊥) → c ≡ false → [] ≡ head_rows L r c t
  unfolding forest_rows
  head-none t {c = true} e h f = let z : ◌≡◌ {A = ℕ} 0 1 = cc in absurd (omega arith)
  head-none (lit s v) {c = false} e h f = refl
  head-none (node and ts) {c = false} e h f = refl
  head-none (node or ts) {c = false} e h f = absurd (h e)

  pub head-name : (t : Tree) {c : Bool} {k : ℕ} → k ≡ (top t).kind → (k ≡ 6 → ⊥) → c ≡ true → tree_rows (named_by (get_or L r 0) t) ≡ head_rows L r c t
  unfolding forest_rows
  head-name t {c = false} e h f = let z : ◌≡◌ {A = ℕ} 0 1 = cc in absurd (omega arith)
  head-name (lit s v) {c = true} e h f = sym (append-nil (tree_rows (lit s v)))
  head-name (node and ts) {c = true} e h f = sym (append-nil (tree_rows (lit true (get_or L r 0))))
  head-name (node or ts) {c = true} e h f = absurd (h e)

  -- both
  pub head-below : (c : Bool) (t : Tree) → head_rows L r c t ++ below_rows L r t ≡ forest_rows (own_clauses L r c t)
  unfolding implies tree_rows count
  head-below c (lit s v) = append-nil (forest_rows (unit_clause c (get_or L r 0) (lit s v)))
  head-below c (node and ts) =
      sym (forest_rows-⧺ (unit_clause c (get_or L r 0) (node and ts)) (implies and (get_or L r 0) (names_from L (suc r) ts)))
  head-below true (node or ts) =
      ap (λ n. row 6 n ∷ forest_rows (names_from L (suc r) ts)) (sym (count-names L (suc r) ts)) ∙
      sym (append-nil (tree_rows (node or (names_from L (suc r) ts))))
  head-below false (node or ts) =
      ap (λ n. row 6 (suc n) ∷ row 4 (get_or L r 0) ∷ forest_rows (names_from L (suc r) ts)) (sym (count-names L (suc r) ts)) ∙
      sym (append-nil (tree_rows (node or (lit false (get_or L r 0) ▸ names_from L (suc r) ts))))

-- all rows

pub record Clausing (L : List ℕ) (s : Layout) (b : Bytes) (t : Layout) (old : Bytes) (start : ℕ) (out : Bytes) (at j next : ℕ) : Type 0 where
  pub ts : Forest
  pub us : Forest
  pub walking : Walking s b j next ts us
  pub done : List Row
  pub so_far : Laid t old out start at done
  pub owed : done ++ forest_rows (clauses_left L j ts us) ≡ forest_rows (all_clauses s b L)
  pub same_length : length out ≡ length old

module _ (L : List ℕ) {s : Layout} (b : Bytes) (ok : Readable s b) (t : Layout) (old : Bytes) (start : ℕ) where
  pub clausing_first : {j : ℕ} → j ≡ first_conjunct (matrix_in s b) → Clausing L s b t old start old start j j
  unfolding clauses_left defined_from ◌⧺◌ rows_all
  clausing_first {j} e =
      let same : j + 0 ≡ first_conjunct (matrix_in s b) = omega (arith, e) in
      record {
        ts = ∅;
        us = conjuncts (matrix_in s b);
        walking = walking_first b ok e;
        done = [];
        so_far = none-laid t old start;
        owed = ap (λ n. forest_rows (clauses_from L n (conjuncts (matrix_in s b)))) same;
        same_length = refl;
      }

  module _ {out : Bytes} {at j next : ℕ} (k : Clausing L s b t old start out at j next) where
    pub clausing-all : s.nodes ≤ j → Laid t old out start at (forest_rows (all_clauses s b L))
    unfolding clauses_left clauses_from defined_from ◌⧺◌ forest_rows
    clausing-all h =
        let end = walking_none b ok h k.walking in
        subst (Laid t old out start at)
        (sym (append-nil k.done) ∙ ap₂ (λ ts us. k.done ++ forest_rows (clauses_left L j ts us)) (sym end.0) (sym end.1) ∙ k.owed) k.so_far

    module _ {c : Bool} {next₁ : ℕ} (d : Turned s b j next k.ts k.us c next₁) where
      abbrev row-clauses : Forest
      row-clauses = own_clauses L j c (subtree_in s b j)

      row-split : forest_rows (clauses_left L j k.ts k.us) ≡ forest_rows row-clauses ++ forest_rows (clauses_left L (suc j) d.ts₁ d.us₁)
      row-split = ap forest_rows (d.clauses L) ∙ forest_rows-⧺ row-clauses (clauses_left L (suc j) d.ts₁ d.us₁)

      pub own_room : start + length (forest_rows (all_clauses s b L)) ≤ total t → at + length (forest_rows (own_clauses L j c (subtree_in s b j))) ≤ total t
      own_room room =
          omega (
            arith,
            room,
            k.so_far.next_row,
            ap length k.owed,
            length-append k.done (forest_rows (clauses_left L j k.ts k.us)),
            ap length row-split,
            length-append (forest_rows row-clauses) (forest_rows (clauses_left L (suc j) d.ts₁ d.us₁)),
          )

      pub clausing-on : {new : Bytes} {last i : ℕ} → i ≡ suc j → Laid t out new at last (forest_rows (own_clauses L j c (subtree_in s b j)))
          → length new ≡ length out → Clausing L s b t old start new last i next₁
      clausing-on at_i w same =
          rw at_i
          (record {
            ts = d.ts₁;
            us = d.us₁;
            walking = d.walking;
            done = k.done ++ forest_rows row-clauses;
            so_far = laid_on k.so_far w;
            owed =
                append_assoc k.done (forest_rows row-clauses) (forest_rows (clauses_left L (suc j) d.ts₁ d.us₁)) ∙
                ap (λ l. k.done ++ l) (sym row-split) ∙ k.owed;
            same_length = same ∙ k.same_length;
          })

-- the rows of the names

pub record Binding (ns : List ℕ) (t : Layout) (old : Bytes) (start : ℕ) (out : Bytes) (at i : ℕ) : Type 0 where
  pub so_far : Laid t old out start at (map (row 1) (take i ns))
  pub same_length : length out ≡ length old

module _ (ns : List ℕ) (t : Layout) (old : Bytes) (start : ℕ) where
  pub binding-none : Binding ns t old start old start 0
  binding-none = record { so_far = none-laid t old start; same_length = refl }

  module _ {out : Bytes} {at i : ℕ} (g : Binding ns t old start out at i) where
    pub binding_at : i < length ns → at ≡ start + i
    binding_at more = omega (arith, g.so_far.next_row, length-map (take i ns) (row 1), length-take-le i ns (omega arith))

    pub binding-on : i < length ns → {new : Bytes} {next : ℕ} → Laid t out new at next (row 1 (get_or ns i 0) ∷ []) → length new ≡ length out
        → Binding ns t old start new next (i + 1)
    binding-on more {new} {next} w same =
        let rows : map (row 1) (take i ns) ++ (row 1 (get_or ns i 0) ∷ []) ≡ map (row 1) (take (i + 1) ns)
        = sym (map-append (row 1) (take i ns) (get_or ns i 0 ∷ [])) ∙ ap (map (row 1)) (sym (take-suc ns i 0 more)) ∙
        ap (λ n. map (row 1) (take n ns)) (sym (add-one i)) in
        record { so_far = subst (Laid t old new start next) rows (laid_on g.so_far w); same_length = same ∙ g.same_length }

    pub binding-all : length ns ≤ i → Laid t old out start at (map (row 1) ns)
    binding-all h = subst (Laid t old out start at) (ap (map (row 1)) (take_all i ns h)) g.so_far

existential-rows : (ns : List ℕ) → map (row 1) ns ≡ map binding_row (map existential ns)
unfolding binding_row
existential-rows [] = refl
existential-rows (n ∷ ns) = ap (λ l. row 1 n ∷ l) (existential-rows ns)

pub front_rows : {s : Layout} (b : Bytes) → Readable s b → (ns : List ℕ)
    → slice 0 s.variables (rows_in s b) ++ map (row 1) ns ≡ map binding_row (prefix_in s b ++ map existential ns)
front_rows {s} b ok ns =
    ap₂ ◌++◌ (sym (quantifiers b ok)) (existential-rows ns) ∙ sym (map-append binding_row (prefix_in s b) (map existential ns))
