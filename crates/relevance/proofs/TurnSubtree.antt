-- The turns of the walks that find the relevant subtree.
-- Assumes nothing.
use mathlib.Core.Path.{◌≡◌, refl, sym, ap, ap₂, ◌∙◌}
use mathlib.Core.Bool.{Bool, true, false, cond}
use mathlib.Core.List.{List}
use Prim.Native.Nat.{ℕ, zero, suc, ◌+◌, ◌-◌, ◌≤◌, ◌<◌}
use native.Mathlib.Omega.{arith}
use lib.Dec.{ltb}
use lib.ListN.{length, get_or}
use borrow.Author.Tests.{lt-ltb, le-ltb, ltb-true, ltb-false}
use Rattle.formula.specs.Tree.{Tree, Forest, ◌▸◌, Literals, rows, rows_all, has, count, keep}
use Rattle.formula.specs.Expand.{relevant}
use Rattle.formula.proofs.Forests.{rows-▸}
use Rattle.sheet.specs.Format.{Bytes}
use Rattle.sheet.proofs.Preorder.{rows_positive}
use Rattle.rows.specs.Formulas.{Readable}
use Rattle.rows.specs.declared.Layout.{Layout}
use Rattle.subtrees.specs.Subtrees.{kids, subtree_in, siblings_in, Beside}
use Rattle.subtrees.specs.Ends.{Indexed, Hops}
use Rattle.subtrees.proofs.Forest.{rows-kids}
use Rattle.subtrees.proofs.Table.{hop_on}
use Rattle.subtrees.proofs.Siblings.{Walked, Children, children_read, siblings-none, subtree_within, walk_on}
use Rattle.occurrences.specs.Chains.{first_from, Links, Chain}
use Rattle.relevance.specs.Walks.{span_by, child_span, Way, there, on, Leads, with_child, Sited}
use Rattle.relevance.specs.declared.Site.{Site}
use Rattle.relevance.specs.declared.subtree.Span.{Span}
use Rattle.relevance.specs.declared.subtree.Share.{Share}
use Rattle.relevance.proofs.Growth.{relevant_most}
use Rattle.occurrences.proofs.Chains.{Pending, pending, held, first_below, pass_on, pass_less}

-- span-by

pub record Spanned (ends : List ℕ) (row : ℕ) (found : Span) (at left : ℕ) : Type 0 where
  pub hops_on : Hops ends at left
  pub same : found ≡ span_by ends row at left

module _ {ends : List ℕ} {row : ℕ} {found : Span} {at left : ℕ} (more : 0 < left) (p : Spanned ends row found at left) where
  pub span_inside : at < length ends
  span_inside = (hop_on ends more p.hops_on).within

  span-step : {e : Bool} → ltb row (get_or ends at 0) ≡ e
      → found ≡ cond e (record { from = at; to = get_or ends at 0 }) (span_by ends row (get_or ends at 0) (left - 1))
  unfolding span_by
  span-step e =
      p.same ∙ unrolled left more ∙
      ap (λ c. cond c (record { from = at; to = get_or ends at 0 }) (span_by ends row (get_or ends at 0) (left - 1))) e
    where
      unrolled : (k : ℕ) → 0 < k
          → span_by ends row at k ≡
          cond (ltb row (get_or ends at 0)) (record { from = at; to = get_or ends at 0 }) (span_by ends row (get_or ends at 0) (k - 1))
      unrolled zero h = absurd (omega arith)
      unrolled (suc k) h = let back : suc k - 1 ≡ k = omega arith in rw back

  pub span-found : row < get_or ends at 0 → record { from = at; to = get_or ends at 0 } ≡ found
  span-found h = sym (span-step (lt-ltb row (get_or ends at 0) h))

  pub span_on : {after : ℕ} → after ≡ left - 1 → get_or ends at 0 ≤ row → Spanned ends row found (get_or ends at 0) after
  span_on one h =
      rw one (record { hops_on = (hop_on ends more p.hops_on).onward; same = span-step (le-ltb row (get_or ends at 0) h) })

pub span_none : {ends : List ℕ} {row : ℕ} {found : Span} {at left : ℕ} → left ≤ 0 → Spanned ends row found at left
    → record { from = at; to = at } ≡ found
unfolding span_by
span_none {left = zero} h p = sym p.same
span_none {left = suc k} h p = absurd (omega arith)

-- the subtrees of a sheet by the table of their ends
module _ {s : Layout} (b : Bytes) {ends : List ℕ} (i : Indexed s b ends) where
  pub hops_beside : (k at : ℕ) → Beside s b at k → Hops ends at k
  hops_beside zero at few = tt
  hops_beside (suc k) at few =
      let w = walk_on b i.readable ends i at {left = suc k} (omega arith) few in
      let back : suc k - 1 ≡ k = omega arith in
      (omega (arith, w.inside, i.holds), hops_beside k (get_or ends at 0) (rw back at w.few))

  spans : (row k at : ℕ) → Beside s b at k → span_by ends row at k ≡ child_span row at (siblings_in s b at k)
  unfolding span_by child_span
  spans row zero at few = sym (ap (child_span row at) (siblings-none s b at (omega arith)))
  spans row (suc k) at few =
      let w = walk_on b i.readable ends i at {left = suc k} (omega arith) few in
      let back : suc k - 1 ≡ k = omega arith in
      ap (λ sp. cond (ltb row (get_or ends at 0)) (record { from = at; to = get_or ends at 0 }) sp)
      (spans row k (get_or ends at 0) (rw back at w.few)) ∙
      ap (λ m. cond (ltb row m) (record { from = at; to = m }) (child_span row m (siblings_in s b (get_or ends at 0) k))) w.next ∙
      sym (ap (child_span row at) (rw back at w.split))

  -- a span read among the children of the subtree at row i
  pub span_read : (row : ℕ) {i from k : ℕ} {span : Span} → Children s b i from k → from ≡ suc i → span ≡ span_by ends row from k
      → span ≡ child_span row (suc i) (kids (subtree_in s b i))
  span_read row {i} {from} {k} c next e = e ∙ spans row k from c.few ∙ ap₂ (child_span row) next c.are

-- Way

pub way_on : {next : List ℕ} {end row to : ℕ} → Way next end row to → row < end
    → (row < length next) × (row < get_or next row 0) × Way next end (get_or next row 0) to
way_on (there h) k = absurd (omega arith)
way_on (on h within later w) k = (within, later, w)

pub way_end : {next : List ℕ} {end row to : ℕ} → Way next end row to → end ≤ row → row ≡ to
way_end (there h) k = refl
way_end (on h within later w) k = absurd (omega arith)

way_same : {next : List ℕ} {end row to to' : ℕ} → Way next end row to → Way next end row to' → to ≡ to'
way_same (there h) v = way_end v h
way_same (on h within later w) v = way_same w (way_on v h).2

-- the way along the literals of a set
module _ (L : Literals) {s : Layout} (b : Bytes) (ok : Readable s b) {next : List ℕ} (l : Links L s b next) {end : ℕ}
    (within : end ≤ s.nodes) where
  way_by : (d row : ℕ) → end ≤ row + d → Pending L s b row end → Way next end row (first_from L s b end)
  way_by zero row h p = let past : end ≤ row = omega arith in rw (sym (p.behind past)) (there past)
  way_by (suc d) row h p =
      go (ltb row end) refl
      (λ k. way_by d (get_or next row 0) (omega (arith, pass_less L b ok l within p k)) (pass_on L b ok l within p k))
    where
      go : (c : Bool) → ltb row end ≡ c → (row < end → Way next end (get_or next row 0) (first_from L s b end))
          → Way next end row (first_from L s b end)
      go true e more =
          let k = ltb-true row end e in
          on {next = next} k (omega (arith, l.holds)) (pass_less L b ok l within p k) (more k)
      go false e more = let past = ltb-false row end e in rw (sym (p.behind past)) (there past)

  way_to : (i : ℕ) {row : ℕ} → row ≡ first_from L s b i → i ≤ end → Way next end row (first_from L s b end)
  way_to i {row} e h = way_by end row (omega arith) (pending L b ok i e h within)

-- with-child

pub with_held : (r : Share) (at end row : ℕ) → row < end
    → record { rows = r.rows + (end - at); children = r.children + 1 } ≡ with_child (ltb row end) r at end
unfolding with_child
with_held r at end row h = rw (lt-ltb row end h)

pub with_none : (r : Share) (at end row : ℕ) → end ≤ row → r ≡ with_child (ltb row end) r at end
unfolding with_child
with_none r at end row h = rw (le-ltb row end h)

-- of a sum over the trees of a forest
relevant_more : (L : Literals) (size : Tree → ℕ) (sum : Forest → ℕ) → ((t : Tree) (ts : Forest) → sum (t ▸ ts) ≡ size t + sum ts)
    → (t : Tree) (ts : Forest) → sum (relevant L (t ▸ ts)) ≡ cond (has L t) (size t) 0 + sum (relevant L ts)
unfolding relevant keep
relevant_more L size sum more t ts = go (has L t)
  where
    go : (c : Bool) → sum (cond c (t ▸ keep (has L) ts) (keep (has L) ts)) ≡ cond c (size t) 0 + sum (keep (has L) ts)
    go true = more t (keep (has L) ts)
    go false = omega arith

count_more : (t : Tree) (ts : Forest) → count (t ▸ ts) ≡ 1 + count ts
unfolding count
count_more t ts = omega arith

-- a walk along the literals of a set over `count` subtrees side by side from row `from` on, of which `first` is the first
pub record Begun (L : Literals) (s : Layout) (b : Bytes) (ends next : List ℕ) (from count first : ℕ) : Type 0 where
  pub indexed : Indexed s b ends
  pub links : Links L s b next
  pub few : Beside s b from count
  pub within : from ≤ s.nodes
  pub first_is : first ≡ first_from L s b from

-- over the children of the operator at row `at`
pub begin : (L : Literals) {s : Layout} (b : Bytes) {ends next : List ℕ} {first last at from k : ℕ} → Indexed s b ends
    → Chain L s b next first last → at < first → Children s b at from k → from ≡ suc at → Begun L s b ends next from k first
begin L {s} b {ends} {next} {first} {last} {at} {from} {k} i c before are next_row =
    record {
      indexed = i;
      links = c.links;
      few = are.few;
      within = omega (arith, c.bounds.inside);
      first_is =
          first_below L b i.readable c.bounds.starts c.bounds.inside before ∙ ap (first_from L s b) (sym next_row);
    }

-- over the children of a site's operator, `k` of them
abbrev pub SiteBegun : Literals → (s : Layout) → Bytes → (ends next : List ℕ) → Site → ℕ → Type 0
SiteBegun L s b ends next o k = Begun L s b ends next (o.operator + 1) k o.first

module _ {s : Layout} (b : Bytes) {ends next : List ℕ} {o : Site} (p : Sited s b ends next o) where
  pub site_inside : o.operator < s.nodes
  site_inside = omega (arith, p.before, p.chained.chain.bounds.inside)

  module _ {k : ℕ} (all : k ≡ count (kids (subtree_in s b o.operator))) where
    pub site-children : Children s b o.operator (o.operator + 1) k
    site-children = children_read b p.chained.indexed.readable o.operator site_inside (omega arith) all

    pub site-begun : (L : Literals) (last : ℕ) → Chain L s b next o.first last → SiteBegun L s b ends next o k
    site-begun L last c = begin L b p.chained.indexed c p.before site-children (omega arith)

    -- along the literals that the site was found by
    pub site-chosen : SiteBegun p.chained.chosen s b ends next o k
    site-chosen = site-begun p.chained.chosen p.last p.chained.chain

-- where it is at row `at` with `left` subtrees to go, and `row` is the first literal from there on
pub record Walk (L : Literals) (s : Layout) (b : Bytes) (at left row : ℕ) : Type 0 where
  pub few : Beside s b at left
  pub within : at ≤ s.nodes
  pub row_is : row ≡ first_from L s b at

-- what the subtrees to go add to the share is that of all
pub record Sharing (L : Literals) (s : Layout) (b : Bytes) (ts : Forest) (at left row : ℕ) (share : Share) : Type 0 where
  pub walk : Walk L s b at left row
  pub few_rows : share.rows ≤ at
  pub few_children : share.children ≤ at
  pub rows_are : rows_all (relevant L ts) ≡ share.rows + rows_all (relevant L (siblings_in s b at left))
  pub children_are : count (relevant L ts) ≡ share.children + count (relevant L (siblings_in s b at left))

module _ (L : Literals) {s : Layout} {b : Bytes} {ends next : List ℕ} {from k first : ℕ} (begun : Begun L s b ends next from k first) where
  pub walk_start : Walk L s b from k first
  walk_start = record { few = begun.few; within = begun.within; row_is = begun.first_is }

  module _ {at left row : ℕ} (some : 0 < left) (p : Walk L s b at left row) where
    pub walked : Walked s b ends at left
    walked = walk_on b begun.indexed.readable ends begun.indexed at some p.few

    pub end_later : at < get_or ends at 0
    end_later = omega (arith, walked.next, rows_positive (subtree_in s b at))

    -- whether the subtree at hand holds a literal
    pub held_by : ltb row (get_or ends at 0) ≡ has L (subtree_in s b at)
    held_by = ap₂ ltb p.row_is walked.next ∙ held L b begun.indexed.readable at walked.inside

    -- the way along the literals to its end
    way : Way next (get_or ends at 0) row (first_from L s b (get_or ends at 0))
    way = way_to L b begun.indexed.readable begun.links walked.next_within at p.row_is (omega (arith, end_later))

    pub leads : Leads next (get_or ends at 0) row
    leads = record { to = first_from L s b (get_or ends at 0); way = way }

    pub walk-next : {row' : ℕ} → Way next (get_or ends at 0) row row' → Walk L s b (get_or ends at 0) (left - 1) row'
    walk-next w = record { few = walked.few; within = walked.next_within; row_is = way_same w way }

  pub share_start : Sharing L s b (siblings_in s b from k) from k first (record { rows = 0; children = 0 })
  share_start =
      record {
        walk = walk_start;
        few_rows = omega arith;
        few_children = omega arith;
        rows_are = omega arith;
        children_are = omega arith;
      }

  pub share_on : {ts : Forest} {at left left' row row' : ℕ} {share after : Share} → 0 < left → left' ≡ left - 1 → Sharing L s b ts at left row share
      → after ≡ with_child (ltb row (get_or ends at 0)) share at (get_or ends at 0) → Way next (get_or ends at 0) row row'
      → Sharing L s b ts (get_or ends at 0) left' row' after
  unfolding with_child
  share_on {ts} {at} {left} {left'} {row} {row'} {share} {after} some one p is to_end =
      rw one
      (go (has L (subtree_in s b at)) (is ∙ ap (λ c. with_child c share at (get_or ends at 0)) (held_by some p.walk))
      (more rows rows_all rows-▸) (more (λ _. 1) count count_more))
    where
      w : Walked s b ends at left
      w = walked some p.walk

      others : Forest
      others = siblings_in s b (get_or ends at 0) (left - 1)

      more : (size : Tree → ℕ) (sum : Forest → ℕ) → ((t : Tree) (ts : Forest) → sum (t ▸ ts) ≡ size t + sum ts)
          → sum (relevant L (siblings_in s b at left)) ≡
          cond (has L (subtree_in s b at)) (size (subtree_in s b at)) 0 + sum (relevant L others)
      more size sum law = ap (λ ts. sum (relevant L ts)) w.split ∙ relevant_more L size sum law (subtree_in s b at) others

      go : (c : Bool) → after ≡ with_child c share at (get_or ends at 0)
          → rows_all (relevant L (siblings_in s b at left)) ≡ cond c (rows (subtree_in s b at)) 0 + rows_all (relevant L others)
          → count (relevant L (siblings_in s b at left)) ≡ cond c 1 0 + count (relevant L others)
          → Sharing L s b ts (get_or ends at 0) (left - 1) row' after
      go true e r k =
          rw e
          (record {
            walk = walk-next some p.walk to_end;
            few_rows = omega (arith, p.few_rows, w.next);
            few_children = omega (arith, p.few_children, end_later some p.walk);
            rows_are = omega (arith, p.rows_are, r, w.next);
            children_are = omega (arith, p.children_are, k);
          })
      go false e r k =
          rw e
          (record {
            walk = walk-next some p.walk to_end;
            few_rows = omega (arith, p.few_rows, w.next);
            few_children = omega (arith, p.few_children, w.next);
            rows_are = omega (arith, p.rows_are, r);
            children_are = omega (arith, p.children_are, k);
          })

pub share_none : (L : Literals) {s : Layout} {b : Bytes} {ts : Forest} {at left row : ℕ} {share : Share} → left ≤ 0
    → Sharing L s b ts at left row share → (share.rows ≡ rows_all (relevant L ts)) × (share.children ≡ count (relevant L ts))
unfolding relevant keep count rows_all
share_none L {s} {b} {ts} {at} {left} h p = (
  omega (arith, p.rows_are, ap (λ us. rows_all (keep (has L) us)) (siblings-none s b at h)),
  omega (arith, p.children_are, ap (λ us. count (keep (has L) us)) (siblings-none s b at h)),
)

-- the relevant children of the subtree at row i end within the rows
pub kept-within : (L : Literals) {s : Layout} (b : Bytes) → Readable s b → (i : ℕ) {kept : ℕ} → i < s.nodes
    → kept ≡ rows_all (relevant L (kids (subtree_in s b i))) → i + (1 + kept) ≤ s.nodes
kept-within L {s} b ok i h e =
    omega (
      arith,
      subtree_within b ok i h,
      rows-kids (subtree_in s b i),
      relevant_most L (kids (subtree_in s b i)),
    )
