-- Runs of trees in a table: the next tree of one, and a turn of the merge.
-- Assumes nothing.
use mathlib.Core.Path.{◌≡◌, refl, sym, ap, ap₂, ◌∙◌, subst}
use mathlib.Core.Bool.{Bool, true, false, true≢false}
use mathlib.Core.List.{List, ◌++◌, append_assoc}
use Prim.Native.Nat.{ℕ, zero, suc, ◌+◌, ◌-◌, ◌≤◌, ◌<◌}
use native.Mathlib.Omega.{arith}
use lib.ListN.{length, take, drop, length-append, length-drop}
use lib.Seq.{length-take-le, take_all, take_at, drop-drop}
use Rattle.formula.specs.Tree.{Tree, Forest, ∅, ◌▸◌, rows, rows_all, count}
use Rattle.formula.specs.Order.{not_after, leads}
use Rattle.formula.proofs.Forests.{rows-▸}
use Rattle.sheet.specs.Format.{Bytes}
use Rattle.sheet.specs.Sheet.{front, behind, root}
use Rattle.sheet.proofs.Preorder.{rows_positive}
use Rattle.rows.specs.Formulas.{node_rows_in}
use Rattle.rows.specs.declared.Layout.{Layout}
use Rattle.rows.proofs.Formulas.{length-nodes}
use Rattle.subtrees.specs.Ends.{Indexed}
use Rattle.subtrees.proofs.Forest.{rest}
use Rattle.tree_order.specs.declared.merging.Runs.{Runs}
use Rattle.std.specs.declared.cmp.Ordering as std
use Rattle.std.specs.Ordering.{is_le}
use Rattle.tree_order.specs.Rows.{ordering, compare_rows}
use Rattle.tree_order.specs.Tables.{tree_entries, forest_entries, picked_rows, picked, Numbers, standing, Stands, first_size, FirstSized}
use Rattle.tree_order.specs.Arranging.{into, Ascending, first_leads}
use Rattle.tree_order.specs.Merging.{left_trees, right_trees, Merger, Turned}
use Rattle.tree_order.proofs.Rows.{not-after, rows-of-trees}
use Rattle.tree_order.proofs.Entries.{Headed, headed, rows-picked_tree, numbers_tree, picked-++, picked-take, standing_is, stands}
use Rattle.tree_order.proofs.Arranging.{into-left, into_right}

-- the first of some trees

pub root_rest : (ts : Forest) → 0 < count ts → ts ≡ root ts ▸ rest ts
unfolding count root rest
root_rest ∅ h = absurd (omega arith)
root_rest (t ▸ ts) h = refl

count_rest : (ts : Forest) {k : ℕ} → 0 < k → k ≤ count ts → k - 1 ≤ count (rest ts)
unfolding count rest
count_rest ∅ h l = absurd (omega arith)
count_rest (t ▸ ts) h l = omega arith

pub front-split : (k : ℕ) (ts : Forest) → 0 < k → k ≤ count ts → front k ts ≡ root ts ▸ front (k - 1) (rest ts)
unfolding front count root rest
front-split zero ts h l = absurd (omega arith)
front-split (suc k) ∅ h l = absurd (omega arith)
front-split (suc k) (t ▸ ts) h l = ap (λ n. t ▸ front n ts) (less k)
  where
    less : (n : ℕ) → n ≡ suc n - 1
    less n = omega arith

pub behind-split : (k : ℕ) (ts : Forest) → 0 < k → k ≤ count ts → behind k ts ≡ behind (k - 1) (rest ts)
unfolding behind count rest
behind-split zero ts h l = absurd (omega arith)
behind-split (suc k) ∅ h l = absurd (omega arith)
behind-split (suc k) (t ▸ ts) h l = ap (λ n. behind n ts) (less k)
  where
    less : (n : ℕ) → n ≡ suc n - 1
    less n = omega arith

module _ {s : Layout} {b : Bytes} {ends : List ℕ} (ix : Indexed s b ends) where
  pub nodes_read : length (node_rows_in s b) ≡ s.nodes
  nodes_read = length-nodes b ix.readable

  -- the first tree of a table
  module _ (at : List ℕ) {k : ℕ} (some : 0 < k) (h : Stands s b ends at k) where
    abbrev first_tree : Tree
    first_tree = root (standing s b at)

    pub first-headed : Headed s b ends at first_tree (rest (standing s b at))
    first-headed =
        headed nodes_read at first_tree (rest (standing s b at))
        (h.whole ∙ ap forest_entries (root_rest (standing s b at) (omega (arith, h.few))))

    pub first-sized : FirstSized ends at
    first-sized =
        let f = first-headed in
        (f.some, omega (arith, f.inside, ix.holds), omega (arith, f.size, rows_positive first_tree))

    pub first_within : rows first_tree ≤ length at
    first_within = first-headed.within

    -- its part of the table
    module _ {n : ℕ} (size : n ≡ first_size ends at) where
      pub size-rows : n ≡ rows first_tree
      size-rows = size ∙ first-headed.size

      first-entries : picked s b ends (take n at) ≡ tree_entries first_tree
      first-entries = ap (λ m. picked s b ends (take m at)) size-rows ∙ first-headed.first

      pub first_counted : n ≡ length (take n at)
      first_counted = sym (length-take-le n at (omega (arith, size-rows, first-headed.within)))

      pub first-numbers : Numbers s (take n at)
      first-numbers = numbers_tree s b ends (take n at) first_tree nodes_read first-entries

  -- two first trees compared
  pub first_compared : (at to : List ℕ) → Stands s b ends at 1 → Stands s b ends to 1 → {m n : ℕ} (o : std.Ordering)
      → m ≡ first_size ends at → n ≡ first_size ends to
      → ordering o ≡ compare_rows (picked_rows s b (take m at)) (picked_rows s b (take n to))
      → is_le o ≡ leads (root (standing s b at)) (root (standing s b to))
  unfolding leads
  first_compared at to g h {m} {n} o p q e =
      not-after o ∙
      ap not_after
      (e ∙
      ap₂ compare_rows (rows-picked_tree s b ends (take m at) _ (first-entries at (omega arith) g p))
      (rows-picked_tree s b ends (take n to) _ (first-entries to (omega arith) h q)) ∙
      rows-of-trees _ _)

-- the next tree of a run, and the run behind it
pub record Advanced (s : Layout) (b : Bytes) (ends at : List ℕ) (p k n : ℕ) : Type 0 where
  pub is_within : p + n ≤ length at
  pub goes_on : Stands s b ends (drop (p + n) at) (k - 1)
  pub front_is : front k (standing s b (drop p at)) ≡ root (standing s b (drop p at)) ▸ front (k - 1) (standing s b (drop (p + n) at))
  pub behind_is : behind k (standing s b (drop p at)) ≡ behind (k - 1) (standing s b (drop (p + n) at))
  pub entries : picked s b ends (take n (drop p at)) ≡ tree_entries (root (standing s b (drop p at)))
  pub counted : length (take n (drop p at)) ≡ n
  pub rows_are : n ≡ rows (root (standing s b (drop p at)))

module _ {s : Layout} {b : Bytes} {ends : List ℕ} (ix : Indexed s b ends) (at : List ℕ) (p : ℕ) {k : ℕ} (some : 0 < k)
    (h : Stands s b ends (drop p at) k) where
  pub starts-within : p < length at
  starts-within = omega (arith, (first-sized ix (drop p at) some h).0, length-drop p at)

  pub advanced : {n : ℕ} → n ≡ first_size ends (drop p at) → Advanced s b ends at p k n
  advanced {n} size =
      let ts = standing s b (drop p at) in
      let f = first-headed ix (drop p at) some h in
      let is = size-rows ix (drop p at) some h size in
      let beyond : picked s b ends (drop (p + n) at) ≡ forest_entries (rest ts)
      = ap (picked s b ends) (sym (drop-drop n p at)) ∙ ap (λ m. picked s b ends (drop m (drop p at))) is ∙ f.others in
      let next : standing s b (drop (p + n) at) ≡ rest ts = standing_is s b ends (drop (p + n) at) (rest ts) beyond in
      record {
        is_within = omega (arith, is, f.within, length-drop p at, starts-within);
        goes_on = stands s b ends (drop (p + n) at) (rest ts) (k - 1) beyond (count_rest ts some h.few);
        front_is = front-split k ts some h.few ∙ ap (λ us. root ts ▸ front (k - 1) us) (sym next);
        behind_is = behind-split k ts some h.few ∙ ap (behind (k - 1)) (sym next);
        entries = ap (λ m. picked s b ends (take m (drop p at))) is ∙ f.first;
        counted = sym (first_counted ix (drop p at) some h size);
        rows_are = is;
      }

-- what is copied joins what is merged already
merged_more : (s : Layout) (b : Bytes) (ends spare part : List ℕ) {spare' : List ℕ} (to n : ℕ) (t : Tree) → to + n ≤ length spare
    → length part ≡ n → spare' ≡ take to spare ++ part ++ drop (to + n) spare → picked s b ends part ≡ tree_entries t
    → take (to + n) (picked s b ends spare') ≡ take to (picked s b ends spare) ++ tree_entries t
merged_more s b ends spare part to n t room long is e =
    let front_part = take to spare ++ part in
    sym (picked-take s b ends (to + n) _) ∙
    ap (λ l. picked s b ends (take (to + n) l)) is ∙
    ap (picked s b ends)
    (take_at front_part (drop (to + n) spare) (to + n)
    (length-append (take to spare) part ∙ ap₂ ◌+◌ (length-take-le to spare (omega arith)) long)) ∙
    picked-++ s b ends (take to spare) part ∙ ap₂ ◌++◌ (picked-take s b ends to spare) e

length-copied : (spare part : List ℕ) {spare' : List ℕ} (to n : ℕ) → to + n ≤ length spare → length part ≡ n
    → spare' ≡ take to spare ++ part ++ drop (to + n) spare → length spare' ≡ length spare
length-copied spare part to n room long is =
    ap length is ∙ length-append (take to spare ++ part) (drop (to + n) spare) ∙
    ap₂ ◌+◌ (length-append (take to spare) part ∙ ap₂ ◌+◌ (length-take-le to spare (omega arith)) long)
    (length-drop (to + n) spare) ∙
    whole (length spare) (to + n) room
  where
    whole : (l m : ℕ) → m ≤ l → m + (l - m) ≡ l
    whole l m h = omega arith

entries_cons : (t : Tree) (ts : Forest) → forest_entries (t ▸ ts) ≡ tree_entries t ++ forest_entries ts
unfolding forest_entries
entries_cons t ts = refl

-- right-trees of no trees
first_leads-none : (t : Tree) (k : ℕ) (ts : Forest) → k ≡ 0 → true ≡ first_leads t (front k ts)
unfolding front
first_leads-none t zero ts e = refl
first_leads-none t (suc k) ts e = absurd (omega arith)

module _ {s : Layout} {b : Bytes} {ends : List ℕ} (ix : Indexed s b ends) (at : List ℕ) (m : Runs) (g : Merger s b ends at m) (some : 0 < m.lefts) where
  abbrev next-left : Tree
  next-left = root (standing s b (drop m.left at))

  abbrev next_right : Tree
  next_right = root (standing s b (drop m.right at))

  -- whether the left run's next tree goes first
  pub left_alone : m.rights ≡ 0 → true ≡ first_leads next-left (right_trees s b at m)
  left_alone e = first_leads-none next-left m.rights (standing s b (drop m.right at)) e

  pub left_compared : 0 < m.rights → {r : Bool} → r ≡ leads next-left next_right → r ≡ first_leads next-left (right_trees s b at m)
  left_compared more e =
      e ∙ ap (first_leads next-left) (sym (front-split m.rights (standing s b (drop m.right at)) more g.right_stands.few))

  pub some_right : first_leads next-left (right_trees s b at m) ≡ false → 0 < m.rights
  some_right e = by m.rights refl
    where
      by : (k : ℕ) → m.rights ≡ k → 0 < m.rights
      by zero f = let z : ◌≡◌ {A = Bool} true false = left_alone f ∙ e in absurd (true≢false z)
      by (suc k) f = omega arith

  pub room_left : (spare : List ℕ) → length at ≤ length spare → {n : ℕ} → Advanced s b ends at m.left m.lefts n → m.to + n ≤ length spare
  room_left spare l {n} a = omega (arith, g.meets, g.within, ap rows_all a.front_is, rows-▸ next-left (front (m.lefts - 1) (standing s b (drop (m.left + n) at))), a.rows_are)

  pub room_right : (spare : List ℕ) → length at ≤ length spare → {n : ℕ} → Advanced s b ends at m.right m.rights n → m.to + n ≤ length spare
  room_right spare l {n} a = omega (arith, g.meets, a.is_within)

  module _ (spare spare' : List ℕ) (l : length at ≤ length spare) {n : ℕ} where
    pub turned_left : (a : Advanced s b ends at m.left m.lefts n) → first_leads next-left (right_trees s b at m) ≡ true
        → spare' ≡ take m.to spare ++ take n (drop m.left at) ++ drop (m.to + n) spare
        → Turned s b ends at spare spare' m
        (record { left = m.left + n; lefts = m.lefts - 1; right = m.right; rights = m.rights; to = m.to + n })
    turned_left a first is =
        let others = front (m.lefts - 1) (standing s b (drop (m.left + n) at)) in
        let ascends = subst Ascending a.front_is g.left_ascends in
        let counted-rows = ap rows_all a.front_is ∙ rows-▸ next-left others in
        let part = take n (drop m.left at) in
        let room = room_left spare l a in
        record {
          merger =
              record {
                left_stands = a.goes_on;
                right_stands = g.right_stands;
                left_ascends = ascends.1;
                right_ascends = g.right_ascends;
                meets = omega (arith, g.meets, counted-rows, a.rows_are);
                within = g.within;
              };
          same_merged =
              ap (λ l. l ++ forest_entries (into others (right_trees s b at m)))
              (merged_more s b ends spare part m.to n next-left room a.counted is a.entries) ∙
              append_assoc (take m.to (picked s b ends spare)) (tree_entries next-left) (forest_entries (into others (right_trees s b at m))) ∙
              ap (λ l. take m.to (picked s b ends spare) ++ l)
              (sym (ap forest_entries (ap (λ ts. into ts (right_trees s b at m)) a.front_is ∙
              into-left next-left others (right_trees s b at m) ascends g.right_ascends first) ∙
              entries_cons next-left (into others (right_trees s b at m))));
          same_rest = refl;
          same_length = length-copied spare part m.to n room a.counted is;
          less = omega arith;
        }

    pub turned_right : (a : Advanced s b ends at m.right m.rights n) → first_leads next-left (right_trees s b at m) ≡ false
        → spare' ≡ take m.to spare ++ take n (drop m.right at) ++ drop (m.to + n) spare
        → Turned s b ends at spare spare' m
        (record { left = m.left; lefts = m.lefts; right = m.right + n; rights = m.rights - 1; to = m.to + n })
    turned_right a first is =
        let lefts = front (m.lefts - 1) (rest (standing s b (drop m.left at))) in
        let left_is = front-split m.lefts (standing s b (drop m.left at)) some g.left_stands.few in
        let others = front (m.rights - 1) (standing s b (drop (m.right + n) at)) in
        let ascends = subst Ascending a.front_is g.right_ascends in
        let counted-rows = ap rows_all a.front_is ∙ rows-▸ next_right others in
        let part = take n (drop m.right at) in
        let room = room_right spare l a in
        let more = some_right first in
        let late : leads next-left next_right ≡ false = ap (first_leads next-left) (sym a.front_is) ∙ first in
        record {
          merger =
              record {
                left_stands = g.left_stands;
                right_stands = a.goes_on;
                left_ascends = g.left_ascends;
                right_ascends = ascends.1;
                meets = omega (arith, g.meets);
                within = omega (arith, g.within, counted-rows, a.rows_are);
              };
          same_merged =
              ap (λ l. l ++ forest_entries (into (left_trees s b at m) others))
              (merged_more s b ends spare part m.to n next_right room a.counted is a.entries) ∙
              append_assoc (take m.to (picked s b ends spare)) (tree_entries next_right) (forest_entries (into (left_trees s b at m) others)) ∙
              ap (λ l. take m.to (picked s b ends spare) ++ l)
              (sym (ap forest_entries (ap₂ into left_is a.front_is ∙
              into_right next-left next_right lefts others (subst Ascending left_is g.left_ascends) late ∙
              ap (λ ts. next_right ▸ into ts others) (sym left_is)) ∙
              entries_cons next_right (into (left_trees s b at m) others)));
          same_rest = sym a.behind_is;
          same_length = length-copied spare part m.to n room a.counted is;
          less = omega (arith, more);
        }

-- parts of a table, as the code lends them

pub suffix : (at : List ℕ) (p : ℕ) → take (length at - p) (drop p at) ≡ drop p at
suffix at p = take_all (length at - p) (drop p at) (omega (arith, length-drop p at))

-- what copying the first tree asks for
pub copies_first : {s : Layout} {b : Bytes} {ends : List ℕ} (ix : Indexed s b ends) (at spare : List ℕ) (p to : ℕ) {k : ℕ} (some : 0 < k)
    (h : Stands s b ends (drop p at) k) → to + first_size ends (drop p at) ≤ length spare
    → let part = take (length at - p) (drop p at) in
    FirstSized ends part × (first_size ends part ≤ length part) × (to + first_size ends part ≤ length spare)
copies_first {ends = ends} ix at spare p to some h room =
    subst (λ part. FirstSized ends part × (first_size ends part ≤ length part) × (to + first_size ends part ≤ length spare)) (sym (suffix at p))
    (first-sized ix (drop p at) some h, omega (arith, size-rows ix (drop p at) some h refl, first_within ix (drop p at) some h), room)
