-- The descent to the deepest operator above all literals of a set.
-- Assumes nothing.
use mathlib.Core.Path.{◌≡◌, refl, sym, ap, ap₂, ◌∙◌}
use mathlib.Core.Bool.{Bool, true, false, not, ◌||◌, cond, or-false, or-true, true≢false, false≢true}
use Prim.Native.Nat.{ℕ, zero, suc, ◌+◌, ◌-◌, ◌≤◌, ◌<◌}
use native.Mathlib.Omega.{arith}
use lib.Dec.{eqb, ltb}
use lib.ListN.{length}
use borrow.Author.Tests.{lt-ltb, le-ltb, ltb-true, ltb-false, eq-eqb, ne_eqb, eqb-true, eqb-false}
use Rattle.formula.specs.Tree.{and, or, Tree, lit, node, Forest, ∅, ◌▸◌, ◌⧺◌, Literals, rows, has, has_any, count, keep}
use Rattle.formula.specs.Settle.{is_lit}
use Rattle.formula.specs.Expand.{relevant, one_relevant}
use Rattle.formula.proofs.Booleans.{or_parts, by_cases}
use Rattle.sheet.specs.Format.{Bytes}
use Rattle.sheet.specs.Sheet.{root}
use Rattle.rows.specs.Formulas.{node_rows_in, matrix_in, Readable}
use Rattle.rows.specs.declared.Layout.{Layout}
use Rattle.rows.proofs.Formulas.{length-nodes}
use Rattle.subtrees.specs.Subtrees.{top, kids, forest_in, subtree_in}
use Rattle.subtrees.proofs.Forest.{rest, some_row, siblings, has-⧺}
use Rattle.subtrees.proofs.Matrix.{sound_nodes}
use Rattle.subtrees.proofs.Siblings.{below_row, subtree_root, root_end, subtree_within}
use Rattle.occurrences.specs.Chains.{first_from, Last, Bounds}
use Rattle.subtrees.specs.Parts.{literal_part, relevant_subtree, part_below, operator_part}
use Rattle.relevance.specs.Walks.{child_span, narrower}
use Rattle.relevance.specs.declared.Range.{Range}
use Rattle.subtrees.specs.declared.relevant.Relevant.{Relevant}
use Rattle.relevance.specs.declared.subtree.Span.{Span}
use Rattle.occurrences.proofs.Hits.{has-root, has_row, no_rows}
use Rattle.occurrences.proofs.Chains.{first_after, first_here, first_later, pending, held}

-- one-relevant

-- behind a relevant tree, none is left exactly if one is relevant
one_here : (L : Literals) (ts : Forest) → eqb (suc (count (keep (has L) ts))) 1 ≡ not (has_any L ts)
unfolding count keep has_any
one_here L ∅ = refl
one_here L (t ▸ ts) = go (has L t) (one_here L ts)
  where
    go : (c : Bool) → eqb (suc (count (keep (has L) ts))) 1 ≡ not (has_any L ts)
        → eqb (suc (count (cond c (t ▸ keep (has L) ts) (keep (has L) ts)))) 1 ≡ not (c || has_any L ts)
    go true h = ne_eqb (suc (suc (count (keep (has L) ts)))) 1 (λ e. omega arith)
    go false h = h

-- the child in the rows from c up to e has the row `row`, the first literal, and is the first relevant one
record Holding (L : Literals) (s : Layout) (b : Bytes) (row from : ℕ) (ts : Forest) (c e : ℕ) : Type 0 where
  inside : c < s.nodes
  after : from ≤ c
  end_is : e ≡ c + rows (subtree_in s b c)
  holds : has L (subtree_in s b c) ≡ true
  first_is : row ≡ first_from L s b c
  below : part_below L from ts ≡ relevant_subtree L c (subtree_in s b c)
  one : one_relevant L ts ≡ not (has_any L (forest_in s b e))

module _ (L : Literals) {s : Layout} (b : Bytes) (ok : Readable s b) (row : ℕ) where
  holding_here : (t : Tree) (ts us : Forest) (from : ℕ) → from < s.nodes → subtree_in s b from ≡ t
      → forest_in s b (from + rows t) ≡ ts ⧺ us → has_any L us ≡ false → row ≡ first_from L s b from → has L t ≡ true
      → Holding L s b row from (t ▸ ts) from (from + rows t)
  unfolding part_below one_relevant relevant keep count
  holding_here t ts us from inside is next none first h =
      record {
        inside = inside;
        after = omega arith;
        end_is = ap (λ u. from + rows u) (sym is);
        holds = ap (has L) is ∙ h;
        first_is = first;
        below = rw (h, is);
        one =
            rw h (one_here L ts) ∙
            ap not (sym (ap (has_any L) next ∙ has-⧺ L ts us ∙ ap (λ c. has_any L ts || c) none ∙ or-false (has_any L ts)));
      }

  holding_there : (t : Tree) (ts : Forest) (from c e : ℕ) → has L t ≡ false → Holding L s b row (from + rows t) ts c e
      → Holding L s b row from (t ▸ ts) c e
  unfolding part_below one_relevant relevant keep
  holding_there t ts from c e h k =
      record {
        inside = k.inside;
        after = omega (arith, k.after);
        end_is = k.end_is;
        holds = k.holds;
        first_is = k.first_is;
        below = rw h k.below;
        one = rw h k.one;
      }

  -- a tree and those beside it, from row `from` on
  at_head : (t : Tree) (us : Forest) (from : ℕ) → forest_in s b from ≡ t ▸ us
      → (from < s.nodes) × (subtree_in s b from ≡ t) × (forest_in s b (from + rows t) ≡ us)
  unfolding forest_in subtree_in root rest count
  at_head t us from e =
      let in_rows : from < length (node_rows_in s b) = some_row (node_rows_in s b) from (omega (arith, ap count e)) in
      let is : root (forest_in s b from) ≡ t = ap root e in (
        omega (arith, length-nodes b ok),
        is,
        ap (λ u. forest_in s b (from + rows u)) (sym is) ∙
            sym (ap rest (siblings (node_rows_in s b) (sound_nodes b ok) from in_rows)) ∙
            ap rest e,
      )

  child_found : (ts us : Forest) (from : ℕ) → forest_in s b from ≡ ts ⧺ us → row ≡ first_from L s b from → has_any L ts ≡ true
      → has_any L us ≡ false → Holding L s b row from ts (child_span row from ts).from (child_span row from ts).to
  unfolding has_any child_span ◌⧺◌
  child_found ∅ us from e first some none = absurd (false≢true some)
  child_found (t ▸ ts) us from e first some none =
      let h = at_head t (ts ⧺ us) from e in
      go (has L t) refl h.0 h.1 h.2 (λ k f. child_found ts us (from + rows t) h.2 k f none)
    where
      within : from < s.nodes → subtree_in s b from ≡ t → ltb row (from + rows t) ≡ has L t
      within inside is =
          ap₂ ltb first (ap (λ u. from + rows u) (sym is)) ∙ held L b ok from inside ∙ ap (has L) is

      go : (c : Bool) → has L t ≡ c → from < s.nodes → subtree_in s b from ≡ t → forest_in s b (from + rows t) ≡ ts ⧺ us
          → (row ≡ first_from L s b (from + rows t) → has_any L ts ≡ true
          → Holding L s b row (from + rows t) ts (child_span row (from + rows t) ts).from (child_span row (from + rows t) ts).to)
          → Holding L s b row from (t ▸ ts) (child_span row from (t ▸ ts)).from (child_span row from (t ▸ ts)).to
      go true c inside is next more =
          rw (within inside is ∙ c) (holding_here t ts us from inside is next none first c)
      go false c inside is next more =
          let end : from + rows t ≤ s.nodes =
          omega (arith, subtree_within b ok from inside, ap rows is) in
          let on : row ≡ first_from L s b (from + rows t) =
          (pending L b ok from {end = from + rows t} first (omega arith) end).behind (ltb-false row (from + rows t) (within inside is ∙ c)) in
          rw (within inside is ∙ c)
          (holding_there t ts from _ _ c (more on (sym (ap (λ x. x || has_any L ts) c) ∙ some)))

-- the last literal

module _ (L : Literals) {s : Layout} (b : Bytes) (ok : Readable s b) (last : ℕ) (l : Last L s b last) where
  at_or-before : (d i : ℕ) → last ≡ i + d → has_any L (forest_in s b i) ≡ true
  at_or-before zero i e =
      let same : i ≡ last = omega arith in
      has_row L b ok i (omega (arith, l.inside)) ∙
      ap (λ c. c || has_any L (forest_in s b (suc i))) (ap (λ j. is_lit L (subtree_in s b j)) same ∙ l.is_one)
  at_or-before (suc d) i e =
      has_row L b ok i (omega (arith, l.inside)) ∙
      ap (λ c. is_lit L (subtree_in s b i) || c) (at_or-before d (suc i) (omega arith)) ∙
      or-true (is_lit L (subtree_in s b i))

  behind_it : (d i : ℕ) → i ≡ suc last + d → i ≤ s.nodes → has_any L (forest_in s b i) ≡ false
  behind_it zero i e h = let same : i ≡ suc last = omega arith in ap (λ j. has_any L (forest_in s b j)) same ∙ l.none_behind
  behind_it (suc d) i e h =
      let before : i ≡ suc (last + suc d) = omega arith in
      let none = behind_it d (last + suc d) (omega arith) (omega arith) in
      ap (λ j. has_any L (forest_in s b j)) before ∙
      (or_parts (is_lit L (subtree_in s b (last + suc d))) _ (sym (has_row L b ok (last + suc d) (omega arith)) ∙ none)).1

  -- from row i on there is a literal exactly if i is not behind the last one
  has_last : (i : ℕ) → i ≤ s.nodes → has_any L (forest_in s b i) ≡ not (ltb last i)
  has_last i h = go (ltb last i) refl
    where
      go : (c : Bool) → ltb last i ≡ c → has_any L (forest_in s b i) ≡ not c
      go true e = let k = ltb-true last i e in behind_it (i - suc last) i (omega arith) h
      go false e = let k = ltb-false last i e in at_or-before (last - i) i (omega arith)

  last-holds : has L (matrix_in s b) ≡ true
  last-holds = sym (has-root L b ok) ∙ at_or-before last 0 (omega arith)

-- the descent

-- the subtree at row `at` has all literals, `first` is the first of them
pub record Narrowing (L : Literals) (s : Layout) (b : Bytes) (first at : ℕ) : Type 0 where
  pub inside : at < s.nodes
  pub holds : has L (subtree_in s b at) ≡ true
  pub first_is : first ≡ first_from L s b at
  pub same : relevant_subtree L 0 (matrix_in s b) ≡ relevant_subtree L at (subtree_in s b at)
  pub none_behind : has_any L (forest_in s b (at + rows (subtree_in s b at))) ≡ false

no_literal : (L : Literals) (t : Tree) → is_lit L t ≡ false → has L t ≡ true → (4 < (top t).kind) × (has_any L (kids t) ≡ true)
unfolding is_lit has
no_literal L (lit s v) e h = absurd (true≢false (sym h ∙ e))
no_literal L (node and ts) e h = (omega arith, h)
no_literal L (node or ts) e h = (omega arith, h)

a_literal : (L : Literals) (i : ℕ) (t : Tree) → is_lit L t ≡ true → relevant_subtree L i t ≡ literal_part i
unfolding is_lit relevant_subtree
a_literal L i (lit s v) e = refl
a_literal L i (node o ts) e = absurd (false≢true e)

-- of an operator, by whether one child alone is relevant
part_one : (L : Literals) (i : ℕ) (t : Tree) → 4 < (top t).kind → one_relevant L (kids t) ≡ true
    → relevant_subtree L i t ≡ part_below L (suc i) (kids t)
unfolding relevant_subtree
part_one L i (lit true v) h e = absurd (omega arith)
part_one L i (lit false v) h e = absurd (omega arith)
part_one L i (node o ts) h e = rw e

part_more : (L : Literals) (i : ℕ) (t : Tree) → 4 < (top t).kind → one_relevant L (kids t) ≡ false
    → relevant_subtree L i t ≡ operator_part L i (kids t)
unfolding relevant_subtree operator_part
part_more L i (lit true v) h e = absurd (omega arith)
part_more L i (lit false v) h e = absurd (omega arith)
part_more L i (node o ts) h e = rw e

module _ (L : Literals) {s : Layout} (b : Bytes) (ok : Readable s b) where
  pub narrow_start : {first last : ℕ} → Bounds L s b first last → Narrowing L s b first 0
  unfolding has_any
  narrow_start {first} {last} c =
      record {
        inside = ok.some_nodes;
        holds = ap (has L) (subtree_root b ok) ∙ last-holds L b ok last c.ends;
        first_is = c.starts;
        same = ap (relevant_subtree L 0) (sym (subtree_root b ok));
        none_behind = ap (has_any L) (no_rows b ok _ (sym (root_end b ok)));
      }

  module _ {first at : ℕ} (n : Narrowing L s b first at) where
    at_first : at ≤ first
    at_first = omega (arith, n.first_is, first_after L b ok at)

    -- at the first literal's own row it is the one literal
    at_literal : at ≡ first → relevant_subtree L 0 (matrix_in s b) ≡ literal_part at
    at_literal e =
        by_cases (is_lit L (subtree_in s b at))
        (λ h. n.same ∙ a_literal L at (subtree_in s b at) h)
        (λ h. absurd (omega (arith, n.first_is, first_later L b ok at n.inside h, first_after L b ok (suc at))))

    not-a-literal : (at ≡ first → ⊥) → is_lit L (subtree_in s b at) ≡ false
    not-a-literal other =
        by_cases (is_lit L (subtree_in s b at))
        (λ h. absurd (other (sym (n.first_is ∙ first_here L b ok at n.inside h))))
        (λ h. h)

    behind-children : forest_in s b (suc at) ≡ kids (subtree_in s b at) ⧺ forest_in s b (at + rows (subtree_in s b at))
    unfolding forest_in subtree_in rest
    behind-children =
        below_row b ok at n.inside ∙
        ap (λ ts. kids (subtree_in s b at) ⧺ rest ts)
        (siblings (node_rows_in s b) (sound_nodes b ok) at (omega (arith, length-nodes b ok, n.inside)))

    abbrev span : Span
    span = child_span first (suc at) (kids (subtree_in s b at))

    -- otherwise a child has it
    child-holds : (at ≡ first → ⊥) → Holding L s b first (suc at) (kids (subtree_in s b at)) span.from span.to
    child-holds other =
        let here = not-a-literal other in
        child_found L b ok first (kids (subtree_in s b at)) _ (suc at) behind-children
        (n.first_is ∙ first_later L b ok at n.inside here) (no_literal L (subtree_in s b at) here n.holds).1 n.none_behind

    module _ {last : ℕ} (l : Last L s b last) (other : at ≡ first → ⊥) where
      k : Holding L s b first (suc at) (kids (subtree_in s b at)) span.from span.to
      k = child-holds other

      -- one child alone is relevant exactly if the last literal is in it too
      behind-child : has_any L (forest_in s b span.to) ≡ not (ltb last span.to)
      behind-child = has_last L b ok last l _ (omega (arith, k.end_is, subtree_within b ok _ k.inside))

      is-operator : 4 < (top (subtree_in s b at)).kind
      is-operator = (no_literal L (subtree_in s b at) (not-a-literal other) n.holds).0

      narrow-on : last < span.to → Narrowing L s b first span.from
      narrow-on h =
          let none = behind-child ∙ ap not (lt-ltb last _ h) in
          record {
            inside = k.inside;
            holds = k.holds;
            first_is = k.first_is;
            same = n.same ∙ part_one L at (subtree_in s b at) is-operator (k.one ∙ ap not none) ∙ k.below;
            none_behind = ap (λ j. has_any L (forest_in s b j)) (sym k.end_is) ∙ none;
          }

      narrow-stop : span.to ≤ last → relevant_subtree L 0 (matrix_in s b) ≡ operator_part L at (kids (subtree_in s b at))
      narrow-stop h =
          n.same ∙ part_more L at (subtree_in s b at) is-operator (k.one ∙ ap not (behind-child ∙ ap not (le-ltb last _ h)))

-- narrower

pub narrow_at : (c : Range) (at : ℕ) (t : Tree) → at ≡ c.first → at ≡ narrower c at t
unfolding narrower
narrow_at c at t e = rw (eq-eqb at c.first e)

module _ (c : Range) (at : ℕ) (t : Tree) (other : at ≡ c.first → ⊥) {span : Span} (is : span ≡ child_span c.first (suc at) (kids t)) where
  pub narrow_child : c.last < span.to → span.from ≡ narrower c at t
  unfolding narrower
  narrow_child h = rw (ne_eqb at c.first other, ← is, lt-ltb c.last span.to h)

  pub narrow_stay : span.to ≤ c.last → at ≡ narrower c at t
  unfolding narrower
  narrow_stay h = rw (ne_eqb at c.first other, ← is, le-ltb c.last span.to h)

-- a step down is to a child, and no step is left where no child has all rows
module _ (c : Range) (at : ℕ) (t : Tree) {next : ℕ} (is : next ≡ narrower c at t) where
  abbrev child : Span
  child = child_span c.first (suc at) (kids t)

  stepped_down : at < next → (at ≡ c.first → ⊥) × (c.last < child.to) × (next ≡ child.from)
  unfolding narrower
  stepped_down h = go (eqb at c.first) refl (ltb c.last child.to) refl is
    where
      go : (x : Bool) → eqb at c.first ≡ x → (y : Bool) → ltb c.last child.to ≡ y
          → next ≡ cond x at (cond y child.from at)
          → (at ≡ c.first → ⊥) × (c.last < child.to) × (next ≡ child.from)
      go true ex y ey e = absurd (omega arith)
      go false ex true ey e = (eqb-false at c.first ex, ltb-true c.last _ ey, e)
      go false ex false ey e = absurd (omega arith)

  stayed : next ≤ at → (at ≡ c.first → ⊥) → at < child.from → child.to ≤ c.last
  unfolding narrower
  stayed h other after = go (ltb c.last child.to) refl (is ∙ rw (ne_eqb at c.first other))
    where
      go : (y : Bool) → ltb c.last child.to ≡ y → next ≡ cond (ltb c.last child.to) child.from at → child.to ≤ c.last
      go true ey e = absurd (omega (arith, e ∙ ap (λ y. cond y child.from at) ey))
      go false ey e = ltb-false c.last _ ey

-- The relevant subtree has its place: it is the one literal, which is the first, or an operator before the first literal.
pub record Placed (L : Literals) (s : Layout) (b : Bytes) (first : ℕ) (p : Relevant) : Type 0 where
  pub inside : p.operator < s.nodes
  pub within : p.operator ≤ first
  pub one : p.operator ≡ first → p ≡ literal_part first
  pub more : (p.operator ≡ first → ⊥) → p ≡ operator_part L p.operator (kids (subtree_in s b p.operator))

module _ (L : Literals) {s : Layout} (b : Bytes) (ok : Readable s b) (c : Range) (k : Bounds L s b c.first c.last) where
  -- the turns of the descent
  module _ {at : ℕ} (n : Narrowing L s b c.first at) {next : ℕ} (is : next ≡ narrower c at (subtree_in s b at)) where
    pub narrow_next : at < next → Narrowing L s b c.first next
    narrow_next h =
        let down = stepped_down c at (subtree_in s b at) is h in
        rw down.2 (narrow-on L b ok n k.ends down.0 down.1)

    narrow-end : next ≤ at → (at ≡ c.first → ⊥) → relevant_subtree L 0 (matrix_in s b) ≡ operator_part L at (kids (subtree_in s b at))
    narrow-end h other =
        narrow-stop L b ok n k.ends other (stayed c at (subtree_in s b at) is h other (child-holds L b ok n other).after)

    -- where no step is left the operator is found
    pub narrow-done : next ≤ at → at ≡ (relevant_subtree L 0 (matrix_in s b)).operator
    unfolding operator_part
    narrow-done h =
        by_cases (eqb at c.first)
        (λ e. sym (ap (λ (p : Relevant). p.operator) (at_literal L b ok n (eqb-true at c.first e))))
        (λ e. sym (ap (λ (p : Relevant). p.operator) (narrow-end h (eqb-false at c.first e))))

    placed_at : next ≤ at → Placed L s b c.first (relevant_subtree L 0 (matrix_in s b))
    placed_at h =
        let here = narrow-done h in
        record {
          inside = omega (arith, n.inside);
          within = omega (arith, at_first L b ok n);
          one = λ e. at_literal L b ok n (here ∙ e) ∙ ap literal_part (here ∙ e);
          more = λ e. narrow-end h (λ f. e (sym here ∙ f)) ∙ ap (λ i. operator_part L i (kids (subtree_in s b i))) here;
        }

  placed_by : (d at : ℕ) → s.nodes ≤ at + d → Narrowing L s b c.first at → Placed L s b c.first (relevant_subtree L 0 (matrix_in s b))
  placed_by zero at h n = absurd (omega (arith, n.inside))
  placed_by (suc d) at h n =
      go (ltb at (narrower c at (subtree_in s b at))) refl (λ next down on. placed_by d next (omega arith) on)
    where
      go : (x : Bool) → ltb at (narrower c at (subtree_in s b at)) ≡ x
          → ((next : ℕ) → at < next → Narrowing L s b c.first next → Placed L s b c.first (relevant_subtree L 0 (matrix_in s b)))
          → Placed L s b c.first (relevant_subtree L 0 (matrix_in s b))
      go true e on = let down = ltb-true at _ e in on _ down (narrow_next n refl down)
      go false e on = placed_at n refl (ltb-false at _ e)

  pub placed : Placed L s b c.first (relevant_subtree L 0 (matrix_in s b))
  placed = placed_by s.nodes 0 (omega arith) (narrow_start L b ok k)

  module _ {at : ℕ} (found : at ≡ (relevant_subtree L 0 (matrix_in s b)).operator) where
    pub found-literal : at ≡ c.first → literal_part at ≡ relevant_subtree L 0 (matrix_in s b)
    found-literal e = ap literal_part e ∙ sym (placed.one (sym found ∙ e))

    pub found_before : (at ≡ c.first → ⊥) → at < c.first
    found_before other = omega (arith, placed.within)

    pub found-operator : (at ≡ c.first → ⊥) → operator_part L at (kids (subtree_in s b at)) ≡ relevant_subtree L 0 (matrix_in s b)
    found-operator other =
        ap (λ i. operator_part L i (kids (subtree_in s b i))) found ∙ sym (placed.more (λ e. other (found ∙ e)))

  -- where some child is not relevant the part is an operator's, which stands before the first literal
  pub operator_before : {p : Relevant} → p ≡ relevant_subtree L 0 (matrix_in s b) → p.all ≡ false
      → (p.operator < c.first) × (p ≡ operator_part L p.operator (kids (subtree_in s b p.operator)))
  operator_before {p} is some =
      let at : p.operator ≡ (relevant_subtree L 0 (matrix_in s b)).operator = ap (λ (q : Relevant). q.operator) is in
      let other : p.operator ≡ c.first → ⊥ =
      λ e. true≢false (ap (λ (q : Relevant). q.all) (found-literal at e ∙ sym is) ∙ some) in
      (found_before at other, is ∙ sym (found-operator at other))
