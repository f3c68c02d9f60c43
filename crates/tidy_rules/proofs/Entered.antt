-- A segment's own row and what comes behind it when it is entered; segments compared row by row.
-- Assumes nothing.
use mathlib.Core.Path.{◌≡◌, refl, sym, ap, ap₂, ◌∙◌, subst}
use mathlib.Core.Bool.{Bool, true, false, ◌&&◌, false≢true}
use mathlib.Core.List.{List, [], ◌∷◌, ◌++◌, append_assoc, append-nil}
use Prim.Native.Nat.{ℕ, ◌+◌, ◌≤◌, ◌<◌}
use native.Mathlib.Omega.{arith}
use lib.Dec.{eqb, leb}
use lib.ListN.{length, length-append}
use lib.Seq.{append_snoc}
use borrow.Author.Tests.{eq-eqb, ne_eqb, eqb-true, leb-true, leb-false}
use Rattle.formula.specs.Tree.{and, or, Tree, ∅, ◌▸◌, count}
use Rattle.formula.specs.Tidy.{same_tree}
use Rattle.formula.proofs.Booleans.{and_parts}
use Rattle.sheet.specs.Format.{Row, row}
use Rattle.sheet.specs.Sheet.{operator_kind, tree_rows, forest_rows}
use Rattle.sheet.proofs.Preorder.{forest_rows-⧺}
use Rattle.sheet.proofs.Same.{same_rows}
use Rattle.tidy_rules.specs.Segments.{Segment, gone, literal, operator, Segments, none, ◌◂◌, head, inner, segment_rows, grown, live, Laid, Region, Stands, Standing}
use Rattle.tidy_rules.specs.Walks.{at_row, extent, Counts, Finds}
use Rattle.tidy_rules.specs.Entered.{packed, entered, ArgumentOf, LiveAt, Same, same_row, SameRow}
use Rattle.tidy_rules.proofs.Segments.{rows-⊕, live-⊕, length_one, stands_row, extent-head, start, next, no_rows, rest_laid}
use Rattle.tidy_rules.proofs.Judge.{inner-laid, live-kind}

-- a segment is its row, if it is live, and those that come next
pub entered_forest : (x : Segment) (bs : Segments) → packed x ++ forest_rows (live (entered x bs)) ≡ forest_rows (live (x ◂ bs))
unfolding packed entered live grown forest_rows
entered_forest (gone rs) bs = refl
entered_forest (literal s v) bs = refl
entered_forest (operator o ks) bs =
    ap (λ rs. row (operator_kind o) (count (live ks)) ∷ rs) (ap forest_rows (live-⊕ ks bs) ∙ forest_rows-⧺ (live ks) (live bs))

-- argument_of

pub argument_literal : (x : Segment) (a : ℕ) → (head x).kind ≤ 4 → a ≡ (head x).argument → ArgumentOf x a
unfolding head ArgumentOf
argument_literal (gone rs) a l e = tt
argument_literal (literal s v) a l e = e
argument_literal (operator and ks) a l e = absurd (omega arith)
argument_literal (operator or ks) a l e = absurd (omega arith)

pub argument_operator : {R : List Row} {at : ℕ} {before after : List Row} (x : Segment) (a c : ℕ) → 4 < (head x).kind → a ≡ (head x).argument
    → Stands R at before x after
    → Counts R (at + 1) (at + a) c → ArgumentOf x c
unfolding head ArgumentOf
argument_operator (gone rs) a c l e h f = absurd (omega arith)
argument_operator (literal true v) a c l e h f = absurd (omega arith)
argument_operator (literal false v) a c l e h f = absurd (omega arith)
argument_operator {R} {at} {before} {after} (operator o ks) a c l e h f =
    f _ ks _ (subst (λ m. Laid R (at + 1) (at + m) (before ++ (head (operator o ks) ∷ [])) ks after) (sym e) (inner-laid o ks h))

pub packed-row : (x : Segment) (k a : ℕ) → (k ≡ 0 → ⊥) → k ≡ (head x).kind → ArgumentOf x a → packed x ≡ row k a ∷ []
unfolding head packed ArgumentOf
packed-row (gone rs) k a e k-is a-is = absurd (e k-is)
packed-row (literal s v) k a e k-is a-is = ap₂ (λ i j. row i j ∷ []) (sym k-is) (sym a-is)
packed-row (operator o ks) k a e k-is a-is = ap₂ (λ i j. row i j ∷ []) (sym k-is) (sym a-is)

-- equality of lists of rows

unfoldable pub same_list : List Row → List Row → Bool
same_list [] [] = true
same_list [] (y ∷ ys) = false
same_list (x ∷ xs) [] = false
same_list (x ∷ xs) (y ∷ ys) = same_row x y && same_list xs ys

same_list_refl : (xs : List Row) → same_list xs xs ≡ true
unfolding same_list
same_list_refl [] = refl
same_list_refl (x ∷ xs) = rw (eq-eqb x.kind x.kind refl, eq-eqb x.argument x.argument refl) (same_list_refl xs)

same_list_same : (xs ys : List Row) → same_list xs ys ≡ true → xs ≡ ys
unfolding same_list
same_list_same [] [] e = refl
same_list_same [] (y ∷ ys) e = absurd (false≢true e)
same_list_same (x ∷ xs) [] e = absurd (false≢true e)
same_list_same (x ∷ xs) (y ∷ ys) e =
    let p = and_parts (same_row x y) _ e in
    let q = and_parts (eqb x.kind y.kind) _ p.0 in
    ap₂ (λ (r : Row) (rs : List Row). r ∷ rs) (ap₂ row (eqb-true x.kind y.kind q.0) (eqb-true x.argument y.argument q.1))
    (same_list_same xs ys p.1)

both_ways : (a b : Bool) → (a ≡ true → b ≡ true) → (b ≡ true → a ≡ true) → a ≡ b
both_ways true b f g = sym (f refl)
both_ways false true f g = g refl
both_ways false false f g = refl

tree_list : (t u : Tree) → same_tree t u ≡ same_list (tree_rows t) (tree_rows u)
tree_list t u =
    both_ways _ _
    (λ e. subst (λ rs. same_list (tree_rows t) rs ≡ true) ((same_rows t u).0 e) (same_list_refl (tree_rows t)))
    (λ e. (same_rows t u).1 (same_list_same _ _ e))

one_rows : (t : Tree) → forest_rows (t ▸ ∅) ≡ tree_rows t
unfolding forest_rows
one_rows t = append-nil (tree_rows t)

-- a live segment

abbrev own_argument : Segment → ℕ
own_argument (gone rs) = 0
own_argument (literal s v) = v
own_argument (operator o ks) = count (live ks)

own_argument_is : (x : Segment) → ArgumentOf x (own_argument x)
unfolding ArgumentOf
own_argument_is (gone rs) = tt
own_argument_is (literal s v) = refl
own_argument_is (operator o ks) = refl

entered-rows : (x : Segment) (bs : Segments) → ((head x).kind ≡ 0 → ⊥) → inner x ++ segment_rows bs ≡ segment_rows (entered x bs)
unfolding head inner entered
entered-rows (gone rs) bs z = absurd (z refl)
entered-rows (literal s v) bs z = refl
entered-rows (operator o ks) bs z = sym (rows-⊕ ks bs)

-- its own row, and the rows of those that come next
entered_list : (x : Segment) (bs : Segments) → ((head x).kind ≡ 0 → ⊥)
    → forest_rows (live (x ◂ bs)) ≡ row (head x).kind (own_argument x) ∷ forest_rows (live (entered x bs))
entered_list x bs z =
    sym (entered_forest x bs) ∙ ap (λ rs. rs ++ forest_rows (live (entered x bs))) (packed-row x _ _ z refl (own_argument_is x))

-- Segments compared row by row: what is left of either.
pub record Side (R : List Row) (at to : ℕ) (rest : Segments) : Type 0 where
  pub before : List Row
  pub after : List Row
  pub laid : Laid R at to before rest after
  pub found : at < to → (at_row R at).kind ≡ 0 → ⊥

record SideOn (R : List Row) (at to : ℕ) (bs : Segments) : Type 0 where
  pub rest : Segments
  pub side : Side R at to rest
  pub is : live bs ≡ live rest

record Entering (R : List Row) (at to : ℕ) (rest : Segments) : Type 0 where
  pub segment : Segment
  pub others : Segments
  pub is : rest ≡ segment ◂ others
  pub before : List Row
  pub after : List Row
  pub stands : Stands R at before segment after
  pub lives : (head segment).kind ≡ 0 → ⊥
  pub front : List Row
  pub back : List Row
  pub laid : Laid R (at + 1) to front (entered segment others) back

entering : {R : List Row} {at to : ℕ} {rest : Segments} → Side R at to rest → at < to → Entering R at to rest
unfolding segment_rows
entering {R} {at} {to} {rest} d l =
    let m = next (start d.laid) l in
    let h = subst (λ cs. Laid R at to d.before cs d.after) m.is d.laid in
    let z : (head m.segment).kind ≡ 0 → ⊥ = λ e. d.found l (ap (λ (r : Row). r.kind) m.row_is ∙ e) in
    let rows = entered-rows m.segment m.others z in
    record {
      segment = m.segment;
      others = m.others;
      is = m.is;
      before = d.before;
      after = segment_rows m.others ++ d.after;
      stands =
          record {
            whole = h.whole ∙ ap (λ (rs : List Row). d.before ++ (head m.segment ∷ rs)) (append_assoc (inner m.segment) (segment_rows m.others) d.after);
            starts = h.starts;
          };
      lives = z;
      front = d.before ++ (head m.segment ∷ []);
      back = d.after;
      laid =
          record {
            whole =
                h.whole ∙ ap (λ (rs : List Row). d.before ++ (head m.segment ∷ (rs ++ d.after))) rows ∙
                sym (append_snoc d.before (head m.segment) (segment_rows (entered m.segment m.others) ++ d.after));
            starts = length-append d.before (head m.segment ∷ []) ∙ omega (arith, h.starts);
            ends = omega (arith, h.ends, ap length rows);
          };
    }

pub record Comparing (R : List Row) (i to j end : ℕ) (t u : Tree) : Type 0 where
  pub left : Segments
  pub right : Segments
  pub here : Side R i to left
  pub there : Side R j end right
  pub same : same_tree t u ≡ same_list (forest_rows (live left)) (forest_rows (live right))

abbrev pub Compare : List Row → ℕ → ℕ → ℕ → ℕ → ℕ → ℕ → Type 0
Compare R p q i to j end =
    (front : List Row) (x : Segment) (back : List Row) → Stands R p front x back → (t : Tree) → live (x ◂ none) ≡ t ▸ ∅
    → (front' : List Row) (y : Segment) (back' : List Row) → Stands R q front' y back' → (u : Tree) → live (y ◂ none) ≡ u ▸ ∅
    → Comparing R i to j end t u

side-none : {R : List Row} {at m : ℕ} {front back : List Row} {x : Segment} {t : Tree} → Stands R at front x back → live (x ◂ none) ≡ t ▸ ∅
    → m ≡ extent (at_row R at) → Side R at (at + m) (x ◂ none)
unfolding segment_rows
side-none {R} {at} {m} {front} {back} {x} h e s =
    record {
      before = front;
      after = back;
      laid =
          record {
            whole = h.whole ∙ ap (λ (rs : List Row). front ++ (head x ∷ (rs ++ back))) (sym (append-nil (inner x)));
            starts = h.starts;
            ends = omega (arith, s, ap extent (stands_row h), extent-head x, length_one x);
          };
      found = λ _ z. live-kind x e (sym (ap (λ (r : Row). r.kind) (stands_row h)) ∙ z);
    }

pub compare_none : {R : List Row} {p q m n : ℕ} → m ≡ extent (at_row R p) → n ≡ extent (at_row R q) → Compare R p q p (p + m) q (q + n)
compare_none a b front x back h t e front' y back' h' u e' =
    record {
      left = x ◂ none;
      right = y ◂ none;
      here = side-none h e a;
      there = side-none h' e' b;
      same =
          tree_list t u ∙
          ap₂ same_list (sym (ap forest_rows e ∙ one_rows t)) (sym (ap forest_rows e' ∙ one_rows u));
    }

side_list : {R : List Row} {at to : ℕ} {rest : Segments} (d : Side R at to rest) (l : at < to)
    → forest_rows (live rest) ≡
    row (head (entering d l).segment).kind (own_argument (entering d l).segment) ∷ forest_rows (live (entered (entering d l).segment (entering d l).others))
side_list d l =
    let n = entering d l in
    ap (λ bs. forest_rows (live bs)) n.is ∙ entered_list n.segment n.others n.lives

side_end : {R : List Row} {at to : ℕ} {rest : Segments} → Side R at to rest → to ≤ at → forest_rows (live rest) ≡ []
unfolding live forest_rows
side_end {rest = rest} d l = ap (λ bs. forest_rows (live bs)) (no_rows rest (omega (arith, d.laid.ends)))

side_more : {R : List Row} {at to at' : ℕ} {rest : Segments} (d : Side R at to rest) (l : at < to) → Finds R (at + 1) to at'
    → SideOn R at' to (entered (entering d l).segment (entering d l).others)
side_more d l f =
    let n = entering d l in
    let g = f n.front (entered n.segment n.others) n.back n.laid in
    record {
      rest = g.rest;
      side = record { before = _; after = _; laid = rest_laid g.here; found = g.found };
      is = g.others;
    }

-- both have a row left
module _ {R : List Row} {p q i to j end : ℕ} (w : Compare R p q i to j end) where
  pub compare_standing : LiveAt R p → LiveAt R q → (l : i < to) → (k : j < end) → Standing R i × Standing R j
  compare_standing a b l k =
      let c = w a.before a.segment a.after a.stands a.tree a.holds b.before b.segment b.after b.stands b.tree b.holds in
      let x = entering c.here l in
      let y = entering c.there k in
      (record { before = _; segment = _; after = _; stands = x.stands }, record { before = _; segment = _; after = _; stands = y.stands })

  pub compare_left : LiveAt R p → LiveAt R q → (l : i < to) → Region R (i + 1) to
  compare_left a b l =
      let c = w a.before a.segment a.after a.stands a.tree a.holds b.before b.segment b.after b.stands b.tree b.holds in
      let x = entering c.here l in
      record { before = _; segments = _; after = _; laid = x.laid }

  pub compare_right : LiveAt R p → LiveAt R q → (k : j < end) → Region R (j + 1) end
  compare_right a b k =
      let c = w a.before a.segment a.after a.stands a.tree a.holds b.before b.segment b.after b.stands b.tree b.holds in
      let y = entering c.there k in
      record { before = _; segments = _; after = _; laid = y.laid }

  pub compare_more : {i' j' : ℕ} → i < to → j < end → SameRow R i j true → Finds R (i + 1) to i' → Finds R (j + 1) end j' → Compare R p q i' to j' end
  unfolding same_list
  compare_more l k d f g front x back h t e front' y back' h' u e' =
      let c = w front x back h t e front' y back' h' u e' in
      let a = side_more c.here l f in
      let b = side_more c.there k g in
      let m = entering c.here l in
      let n = entering c.there k in
      let r = d _ m.segment _ m.stands m.lives _ n.segment _ n.stands n.lives _ _ (own_argument_is m.segment) (own_argument_is n.segment) in
      record {
        left = a.rest;
        right = b.rest;
        here = a.side;
        there = b.side;
        same =
            c.same ∙ ap₂ same_list (side_list c.here l) (side_list c.there k) ∙
            ap (λ z. z && same_list (forest_rows (live (entered m.segment m.others))) (forest_rows (live (entered n.segment n.others)))) (sym r) ∙
            ap₂ (λ ts us. same_list (forest_rows ts) (forest_rows us)) a.is b.is;
      }

  pub compare_differ : i < to → j < end → SameRow R i j false → Same R p q false
  unfolding same_list
  compare_differ l k d front x back h t e front' y back' h' u e' =
      let c = w front x back h t e front' y back' h' u e' in
      let m = entering c.here l in
      let n = entering c.there k in
      let r = d _ m.segment _ m.stands m.lives _ n.segment _ n.stands n.lives _ _ (own_argument_is m.segment) (own_argument_is n.segment) in
      sym
      (c.same ∙ ap₂ same_list (side_list c.here l) (side_list c.there k) ∙
      ap (λ z. z && same_list (forest_rows (live (entered m.segment m.others))) (forest_rows (live (entered n.segment n.others)))) (sym r))

  pub compare_short : i < to → end ≤ j → Same R p q false
  unfolding same_list
  compare_short l k front x back h t e front' y back' h' u e' =
      let c = w front x back h t e front' y back' h' u e' in
      sym (c.same ∙ ap₂ same_list (side_list c.here l) (side_end c.there k))

  pub compare_end : to ≤ i → Same R p q (leb end j)
  unfolding same_list
  compare_end l front x back h t e front' y back' h' u e' =
      let c = w front x back h t e front' y back' h' u e' in
      sym (c.same ∙ ap (λ rs. same_list rs (forest_rows (live c.right))) (side_end c.here l) ∙ last-side (leb end j) refl c.there)
    where
      last-side : {rest : Segments} (b : Bool) → leb end j ≡ b → Side R j end rest → same_list [] (forest_rows (live rest)) ≡ b
      last-side true z d = ap (same_list []) (side_end d (leb-true end j z))
      last-side false z d = ap (same_list []) (side_list d (leb-false end j z))

-- the rows compared

pub argument_unique : (x : Segment) {a c : ℕ} → ((head x).kind ≡ 0 → ⊥) → ArgumentOf x a → ArgumentOf x c → a ≡ c
unfolding head ArgumentOf
argument_unique (gone rs) z e f = absurd (z refl)
argument_unique (literal s v) z e f = e ∙ sym f
argument_unique (operator o ks) z e f = e ∙ sym f

pub row_kinds_differ : {k k' : ℕ} (r q : Row) (a c : ℕ) → k ≡ r.kind → k' ≡ q.kind → (k ≡ k' → ⊥)
    → false ≡ same_row (row r.kind a) (row q.kind c)
row_kinds_differ r q a c e f d = rw (ne_eqb r.kind q.kind (λ z. d (e ∙ z ∙ sym f)))

pub row_arguments_same : {k k' a' c' : ℕ} (r q : Row) (a c : ℕ) → k ≡ r.kind → k' ≡ q.kind → k ≡ k' → a' ≡ a → c' ≡ c
    → eqb a' c' ≡ same_row (row r.kind a) (row q.kind c)
row_arguments_same r q a c e f d g h = rw (eq-eqb r.kind q.kind (sym e ∙ d ∙ f)) (ap₂ eqb g h)

-- a search for a live segment stays within
pub finds_within : {R : List Row} {from to at : ℕ} → Finds R from to at → Region R from to → (from ≤ at) × (at ≤ to)
finds_within f g =
    let h = (f g.before g.segments g.after g.laid).here in
    (omega (arith, h.place), omega (arith, h.ends))
