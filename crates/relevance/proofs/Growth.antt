-- The relevant subtree as numbers: E, whether every child is relevant, and the rows that an expansion adds.
-- Assumes nothing.
use mathlib.Core.Path.{◌≡◌, refl, sym, ap, ap₂, ◌∙◌}
use mathlib.Core.Bool.{Bool, true, false, not, ◌||◌, cond, false≢true}
use Prim.Native.Nat.{ℕ, suc, ◌+◌, ◌≤◌}
use native.Mathlib.Omega.{arith}
use lib.Dec.{eqb}
use borrow.Author.Tests.{eq-eqb, ne_eqb, eqb-true, eqb-false}
use Rattle.formula.specs.Tree.{Tree, lit, node, Forest, ∅, ◌▸◌, Literals, rows, rows_all, has, has_any, count, some_child, keep}
use Rattle.formula.specs.Expand.{relevant, one_relevant, all_relevant, growth, growth_below, raw_rows}
use Rattle.formula.proofs.Booleans.{by_cases}
use Rattle.sheet.specs.Format.{Bytes}
use Rattle.sheet.proofs.Preorder.{rows_positive}
use Rattle.rows.specs.Formulas.{matrix_in, Readable}
use Rattle.rows.specs.declared.Layout.{Layout}
use Rattle.rows.proofs.Formulas.{rows-nodes}
use Rattle.subtrees.specs.Subtrees.{kids}
use Rattle.subtrees.specs.Parts.{relevant_subtree, part_below, operator_part}
use Rattle.subtrees.proofs.Forest.{rows-kids}
use Rattle.relevance.specs.Raw.{added, grown, presence, grown_by, copied}
use Rattle.subtrees.specs.declared.relevant.Relevant.{Relevant}
use Rattle.std.specs.Prelude.{Option, Some, None}

-- relevant

pub relevant_most : (L : Literals) (ts : Forest) → rows_all (relevant L ts) ≤ rows_all ts
unfolding relevant keep rows_all
relevant_most L ∅ = omega arith
relevant_most L (t ▸ ts) = go (has L t) (relevant_most L ts)
  where
    go : (c : Bool) → rows_all (keep (has L) ts) ≤ rows_all ts
        → rows_all (cond c (t ▸ keep (has L) ts) (keep (has L) ts)) ≤ rows t + rows_all ts
    go true h = omega arith
    go false h = omega arith

eqb_shift : (m a b : ℕ) → eqb (m + a) (m + b) ≡ eqb a b
eqb_shift m a b =
    by_cases (eqb a b)
    (λ e. eq-eqb (m + a) (m + b) (ap (λ n. m + n) (eqb-true a b e)) ∙ sym e)
    (λ e. let other = eqb-false a b e in ne_eqb (m + a) (m + b) (λ h. other (omega arith)) ∙ sym e)

-- every child is relevant exactly if the relevant ones have all rows
all_rows : (L : Literals) (ts : Forest) → eqb (rows_all (relevant L ts)) (rows_all ts) ≡ all_relevant L ts
unfolding relevant keep rows_all all_relevant some_child
all_rows L ∅ = refl
all_rows L (t ▸ ts) = go (has L t) (relevant_most L ts) (all_rows L ts)
  where
    go : (c : Bool) → rows_all (keep (has L) ts) ≤ rows_all ts
        → eqb (rows_all (keep (has L) ts)) (rows_all ts) ≡ not (some_child (λ u. not (has L u)) ts)
        → eqb (rows_all (cond c (t ▸ keep (has L) ts) (keep (has L) ts))) (rows t + rows_all ts) ≡
        not (not c || some_child (λ u. not (has L u)) ts)
    go true h same = eqb_shift (rows t) (rows_all (keep (has L) ts)) (rows_all ts) ∙ same
    go false h same = ne_eqb (rows_all (keep (has L) ts)) (rows t + rows_all ts) (λ e. omega (arith, rows_positive t))

-- so for the children of the tree at row `at`, which ends at row `end`
all_read : (L : Literals) (at : ℕ) (t : Tree) {kept end : ℕ} → kept ≡ rows_all (relevant L (kids t)) → end ≡ at + rows t
    → eqb (at + (1 + kept)) end ≡ all_relevant L (kids t)
all_read L at t {kept} {end} k e =
    ap₂ eqb (ap (λ m. at + (1 + m)) k ∙ shape (rows_all (relevant L (kids t)))) (e ∙ omega (arith, rows-kids t)) ∙
    eqb_shift (suc at) (rows_all (relevant L (kids t))) (rows_all (kids t)) ∙ all_rows L (kids t)
  where
    shape : (m : ℕ) → at + (1 + m) ≡ suc at + m
    shape m = omega arith

pub operator_part_read : (L : Literals) (at : ℕ) (t : Tree) {kept ones end : ℕ} → kept ≡ rows_all (relevant L (kids t))
    → ones ≡ count (relevant L (kids t)) → end ≡ at + rows t
    → record { operator = at; all = eqb (at + (1 + kept)) end; rows = 1 + kept; children = ones } ≡ operator_part L at (kids t)
unfolding operator_part
operator_part_read L at t {kept} {ones} {end} k o e =
    ap (λ a. record { operator = at; all = a; rows = 1 + kept; children = ones }) (all_read L at t k e) ∙
    ap₂ (λ (m r : ℕ). record { operator = at; all = all_relevant L (kids t); rows = 1 + m; children = r }) k o

-- growth

mutual
  unfolding growth relevant_subtree part_below has has_any operator_part

  -- E + 1 or E + 2
  growth_part : (t : Tree) (L : Literals) (i : ℕ) → has L t ≡ true → growth L t ≡ added (relevant_subtree L i t)
  growth_part (lit s v) L i h = refl
  growth_part (node o ts) L i h = go (one_relevant L ts) (all_relevant L ts) (growth-part_below ts L (suc i) h)
    where
      go : (x y : Bool) → growth_below L ts ≡ added (part_below L (suc i) ts)
          → cond x (growth_below L ts) (cond y (1 + rows_all (relevant L ts) + 1) (1 + rows_all (relevant L ts) + 2)) ≡
          added
          (cond x (part_below L (suc i) ts)
          (record {
            operator = i;
            all = y;
            rows = 1 + rows_all (relevant L ts);
            children = count (relevant L ts);
          }))
      go true y e = e
      go false true e = refl
      go false false e = refl

  growth-part_below : (ts : Forest) (L : Literals) (i : ℕ) → has_any L ts ≡ true → growth_below L ts ≡ added (part_below L i ts)
  growth-part_below ∅ L i h = absurd (false≢true h)
  growth-part_below (t ▸ ts) L i h = go (has L t) h (λ e. growth_part t L i e) (λ e. growth-part_below ts L (i + rows t) e)
    where
      go : (c : Bool) → (c || has_any L ts) ≡ true → (c ≡ true → growth L t ≡ added (relevant_subtree L i t))
          → (has_any L ts ≡ true → growth_below L ts ≡ added (part_below L (i + rows t) ts))
          → cond c (growth L t) (growth_below L ts) ≡ added (cond c (relevant_subtree L i t) (part_below L (i + rows t) ts))
      go true h here there = here refl
      go false h here there = there h

mutual
  unfolding rows relevant_subtree part_below operator_part

  -- E is within the rows
  part_most : (t : Tree) (L : Literals) (i : ℕ) → (relevant_subtree L i t).rows ≤ rows t
  part_most (lit s v) L i = omega arith
  part_most (node o ts) L i = go (one_relevant L ts) (part_below_most ts L (suc i))
    where
      go : (x : Bool) → (part_below L (suc i) ts).rows ≤ rows_all ts
          → (cond x (part_below L (suc i) ts)
          (operator_part L i ts)).rows
          ≤ suc (rows_all ts)
      go true h = omega arith
      go false h = omega (arith, relevant_most L ts)

  part_below_most : (ts : Forest) (L : Literals) (i : ℕ) → (part_below L i ts).rows ≤ rows_all ts
  part_below_most ∅ L i = omega arith
  part_below_most (t ▸ ts) L i = go (has L t) (part_most t L i) (part_below_most ts L (i + rows t))
    where
      go : (c : Bool) → (relevant_subtree L i t).rows ≤ rows t → (part_below L (i + rows t) ts).rows ≤ rows_all ts
          → (cond c (relevant_subtree L i t) (part_below L (i + rows t) ts)).rows ≤ rows t + rows_all ts
      go true h k = omega arith
      go false h k = omega arith

-- raw-rows

raw_present : (L : Literals) (t : Tree) → has L t ≡ true → raw_rows L t ≡ grown (rows t) (relevant_subtree L 0 t)
unfolding raw_rows
raw_present L t h = rw h (ap (λ m. rows t + m) (growth_part t L 0 h))

raw_absent : (L : Literals) (t : Tree) → has L t ≡ false → raw_rows L t ≡ rows t
unfolding raw_rows
raw_absent L t h = rw h

-- presence

pub absent : (L : Literals) (t : Tree) → has L t ≡ false → None ≡ presence L t
unfolding presence
absent L t h = rw h

pub present : (L : Literals) (t : Tree) {p : Relevant} → has L t ≡ true → p ≡ relevant_subtree L 0 t → Some p ≡ presence L t
unfolding presence
present L t {p} h e = ap Some e ∙ rw h

raw-grown : (L : Literals) (t : Tree) → grown_by (rows t) (presence L t) ≡ raw_rows L t
raw-grown L t =
    by_cases (has L t)
    (λ h. ap (grown_by (rows t)) (sym (present L t h refl)) ∙ sym (raw_present L t h))
    (λ h. ap (grown_by (rows t)) (sym (absent L t h)) ∙ sym (raw_absent L t h))

copied_most : (L : Literals) (t : Tree) → copied (presence L t) ≤ rows t
unfolding presence
copied_most L t = go (has L t)
  where
    go : (c : Bool) → copied (cond c (Some (relevant_subtree L 0 t)) None) ≤ rows t
    go true = part_most t L 0
    go false = omega arith

-- in a sheet: the raw rows are those that the part tells, and E is within the rows
module _ (L : Literals) {s : Layout} (b : Bytes) (ok : Readable s b) where
  pub raw_rows_in : {p : Relevant} → has L (matrix_in s b) ≡ true → p ≡ relevant_subtree L 0 (matrix_in s b)
      → (grown s.nodes p ≡ raw_rows L (matrix_in s b)) × (p.rows ≤ s.nodes)
  raw_rows_in {p} h e = (
    ap₂ grown (sym (rows-nodes b ok)) e ∙ sym (raw_present L (matrix_in s b) h),
    omega (arith, ap (λ (q : Relevant). q.rows) e, part_most (matrix_in s b) L 0, rows-nodes b ok),
  )

  pub raw_rows_by : {p : Option Relevant} → p ≡ presence L (matrix_in s b)
      → (grown_by s.nodes p ≡ raw_rows L (matrix_in s b)) × (copied p ≤ s.nodes)
  raw_rows_by {p} e = (
    ap₂ grown_by (sym (rows-nodes b ok)) e ∙ raw-grown L (matrix_in s b),
    omega (arith, ap copied e, copied_most L (matrix_in s b), rows-nodes b ok),
  )
