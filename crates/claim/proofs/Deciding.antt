-- What Claim decides of the strategy's sheet: prefixes row by row, the pairs' form, cover and order.
-- Assumes nothing.
use mathlib.Core.Path.{◌≡◌, refl, sym, ap, ap₂, ◌∙◌, subst}
use mathlib.Core.Bool.{Bool, true, false, not, ◌&&◌, cond, beq, and_assoc, true≢false, false≢true}
use mathlib.Core.List.{List, [], ◌∷◌}
use mathlib.Core.Option.{Option, none, some, get_or}
use Prim.Native.Nat.{ℕ, suc, ◌+◌, ◌-◌, ◌≤◌, ◌<◌}
use native.Mathlib.Omega.{arith}
use lib.Dec.{eqb}
use lib.ListN.{length, take, drop, drop_of_length-le}
use Rattle.formula.specs.Tree.{Quantifier, same_op, exists, Binding, Prefix, Formula, rows, count, binds, closed}
use Rattle.formula.specs.Strategy.{Pairs, is_covering, in_order}
use Rattle.formula.specs.StrategyMatrix.{pair_trees, strategy_matrix, pairs_of}
use Rattle.formula.proofs.Booleans.{same_op-exists}
use Rattle.formula.proofs.Forests.{count-rows}
use Rattle.formula.proofs.Strategy.Matrix.{matrix_pairs}
use Rattle.sheet.specs.Format as sheets
use Rattle.sheet.specs.Format.{Bytes, row, Every}
use Rattle.sheet.specs.Sheet.{formula}
use Rattle.sheet.specs.Check.{Answer, refused, accepted, answer}
use Rattle.sheet.specs.Strategy.{claim_refused, equal_prefix, fault_row, pair_tests, claim_call}
use Rattle.sheet.specs.Limits.{Within}
use Rattle.sheet.proofs.Limits.{binds-numbered}
use Rattle.sheet.proofs.Accepted.{accepted_within}
use Rattle.sheet.proofs.Parts.{ArgumentFits}
use Rattle.sheet.proofs.RoundTrip.{arguments_fit}
use Rattle.sheet.proofs.Every.{every_at}
use Rattle.sheet.proofs.Strategy.Claim.{equal_prefix_same, other_prefix, no_pairs, uncovered, reads_refused}
use Rattle.sheet.proofs.Strategy.Faults.{fault_row_most}
use Rattle.rows.specs.Formats.{format_of}
use Rattle.rows.specs.Layouts.{rows_in}
use Rattle.rows.specs.Formulas.{prefix_in, matrix_in, formula_in, Readable}
use Rattle.rows.specs.declared.Format.{Format}
use Rattle.rows.specs.declared.Layout.{Layout}
use Rattle.rows.proofs.Layouts.{length-rows_in}
use Rattle.rows.proofs.Formulas.{length_prefix, rows-nodes}
use Rattle.rows.proofs.Limits.{limits, sound}
use Rattle.prefixes.specs.Places.{binding_in}
use Rattle.prefixes.proofs.Places.{prefix_row}
use Rattle.subtrees.specs.Subtrees.{kids, subtree_in}
use Rattle.subtrees.proofs.Siblings.{subtree_root}
use Rattle.checking.specs.Sheets.{Sheet}
use Rattle.checking.proofs.CheckedSheets.{sheet_format, sheet_readable, sheet-formula_in, sheet_right}
use Rattle.reduce.specs.Inner.Places.{Numbered}
use Rattle.pair_tests.specs.Pairs.{side, is_read, pairs_in, pair_cuts, Paired}
use Rattle.pair_tests.specs.Levels.{fault_in}
use Rattle.pair_tests.proofs.Stands.{counted}
use Rattle.std.specs.Prelude.{Result, Ok, Err}
use Rattle.rows.specs.declared.refusals.Refusal.{Refusal}
use Rattle.claim.specs.Inner.Plans.{same_row, PairsPass, PairPlans, ClaimPlans}
use Rattle.claim.specs.Inner.Writing.{Source}

-- one row of two prefixes

module _ (z y : Binding) {e f : Bool} (is : e ≡ same_op exists z.quantifier) (are : f ≡ same_op exists y.quantifier) where
  kinds : beq e f ≡ same_op z.quantifier y.quantifier
  kinds = ap₂ beq is are ∙ sym (same_op-exists z.quantifier y.quantifier)

  pub rows_differ : beq e f ≡ false → false ≡ same_row z y
  unfolding same_row
  rows_differ h = sym (ap (λ m. m && eqb z.variable y.variable) (sym kinds ∙ h))

  pub rows_agree : beq e f ≡ true → {m n : ℕ} → m ≡ z.variable → n ≡ y.variable → eqb m n ≡ same_row z y
  unfolding same_row
  rows_agree h a b = ap₂ eqb a b ∙ ap (λ m. m && eqb z.variable y.variable) (sym (sym kinds ∙ h))

-- the rows before row i are the same
pub record Alike (p r : Prefix) (i : ℕ) : Type 0 where
  pub so_far : equal_prefix p r ≡ equal_prefix (drop i p) (drop i r)

pub alike-none : (p r : Prefix) → Alike p r 0
alike-none p r = record { so_far = refl }

pub lengths_differ : (p r : Prefix) → (length p ≡ length r → ⊥) → false ≡ equal_prefix p r
lengths_differ p r h = by (equal_prefix p r) refl
  where
    by : (m : Bool) → equal_prefix p r ≡ m → false ≡ m
    by true e = absurd (h (ap length (equal_prefix_same p r e)))
    by false e = refl

equal-row : (z y : Binding) (p r : Prefix) → equal_prefix (z ∷ p) (y ∷ r) ≡ (same_row z y && equal_prefix p r)
unfolding equal_prefix same_row
equal-row z y p r = sym (and_assoc (same_op z.quantifier y.quantifier) (eqb z.variable y.variable) (equal_prefix p r))

none_equal : equal_prefix [] [] ≡ true
unfolding equal_prefix
none_equal = refl

module _ {s t : Layout} (b d : Bytes) (ok : Readable s b) (ko : Readable t d) (same : s.variables ≡ t.variables) {i : ℕ}
    (a : Alike (prefix_in s b) (prefix_in t d) i) where
  pub alike_all : s.variables ≤ i → true ≡ equal_prefix (prefix_in s b) (prefix_in t d)
  alike_all h =
      sym
      (a.so_far ∙
      ap₂ equal_prefix (drop_of_length-le (prefix_in s b) {i = i} (omega (arith, length_prefix b ok)))
      (drop_of_length-le (prefix_in t d) {i = i} (omega (arith, length_prefix d ko))) ∙
      none_equal)

  module _ (h : i < s.variables) {m : Bool} (is : m ≡ same_row (binding_in s b i) (binding_in t d i)) where
    here : equal_prefix (prefix_in s b) (prefix_in t d) ≡ (m && equal_prefix (drop (suc i) (prefix_in s b)) (drop (suc i) (prefix_in t d)))
    here =
        a.so_far ∙ ap₂ equal_prefix (prefix_row b ok i h) (prefix_row d ko i (omega arith)) ∙
        equal-row (binding_in s b i) (binding_in t d i) (drop (suc i) (prefix_in s b)) (drop (suc i) (prefix_in t d)) ∙
        ap (λ k. k && equal_prefix (drop (suc i) (prefix_in s b)) (drop (suc i) (prefix_in t d))) (sym is)

    pub alike-stops : m ≡ false → false ≡ equal_prefix (prefix_in s b) (prefix_in t d)
    alike-stops e = sym (here ∙ ap (λ k. k && equal_prefix (drop (suc i) (prefix_in s b)) (drop (suc i) (prefix_in t d))) e)

    pub alike-on : {j : ℕ} → j ≡ suc i → m ≡ true → Alike (prefix_in s b) (prefix_in t d) j
    alike-on n e =
        record {
          so_far =
              here ∙ ap (λ k. k && equal_prefix (drop (suc i) (prefix_in s b)) (drop (suc i) (prefix_in t d))) e ∙
              ap (λ k. equal_prefix (drop k (prefix_in s b)) (drop k (prefix_in t d))) (sym n);
        }

-- sheets that Check accepts

module _ {f : Format} {b : Bytes} {s : Layout} (h : Sheet f b s) where
  pub sheet_prefix : prefix_in s b ≡ (formula (format_of f) b).prefix
  unfolding formula_in
  sheet_prefix = ap (λ (g : Formula). g.prefix) (sheet-formula_in h)

  pub sheet_matrix : matrix_in s b ≡ (formula (format_of f) b).matrix
  unfolding formula_in
  sheet_matrix = ap (λ (g : Formula). g.matrix) (sheet-formula_in h)

  pub sheet-numbered : Numbered s b
  sheet-numbered =
      record {
        readable = sheet_readable h;
        few_numbers =
            λ x e. omega (
              arith,
              (limits f).few_variables,
              binds-numbered (format_of f) (formula (format_of f) b).prefix x (accepted_within (format_of f) b h.tests_pass).is_numbered
                  (ap (λ p. binds p x) (sym sheet_prefix) ∙ e),
            );
      }

  pub sheet-closed : closed (formula_in s b) ≡ true
  sheet-closed = ap closed (sheet-formula_in h) ∙ (accepted_within (format_of f) b h.tests_pass).is_closed

-- pairs

pairs_read : (t : Layout) (d : Bytes) {m : Bool} → m ≡ is_read (pairs_of (matrix_in t d)) → m ≡ true → pairs_of (matrix_in t d) ≡ some (pairs_in t d)
unfolding pairs_in
pairs_read t d is e = by (pairs_of (matrix_in t d)) (sym is ∙ e)
  where
    by : (o : Option Pairs) → is_read o ≡ true → o ≡ some (get_or o [])
    by none h = absurd (false≢true h)
    by (some g) h = refl

not_read : (o : Option Pairs) → is_read o ≡ false → o ≡ none
not_read none h = refl
not_read (some g) h = absurd (true≢false h)

count_pairs : (g : Pairs) → count (pair_trees g) ≡ length g
unfolding pair_trees count
count_pairs [] = refl
count_pairs (c ∷ g) = ap suc (count_pairs g)

module _ {t : Layout} (d : Bytes) (ok : Readable t d) {m : Bool} (is : m ≡ is_read (pairs_of (matrix_in t d))) (e : m ≡ true) where
  pub pairs_matrix : matrix_in t d ≡ strategy_matrix (pairs_in t d)
  pairs_matrix = matrix_pairs (matrix_in t d) (pairs_in t d) (pairs_read t d is e)

  -- the root has a child for each pair
  pub root_pairs : {n : ℕ} → n ≡ count (kids (subtree_in t d 0)) → (n ≡ length (pairs_in t d)) × (n + 1 ≤ 8192)
  unfolding strategy_matrix rows
  root_pairs {n} k =
      let own = subtree_root d ok ∙ pairs_matrix in
      let all : n ≡ count (pair_trees (pairs_in t d)) = k ∙ ap (λ u. count (kids u)) own in (
        all ∙ count_pairs (pairs_in t d),
        omega (arith, all, count-rows (pair_trees (pairs_in t d)), rows-nodes d ok, ap rows pairs_matrix, ok.few_nodes),
      )

-- 26 and 27 of the pairs

fault_shift : (q : Quantifier) (p : Prefix) (a i : ℕ) (g : Pairs) → fault_row q p (a + i) g ≡ a + fault_row q p i g
unfolding fault_row
fault_shift q p a i [] = refl
fault_shift q p a i (c ∷ g) = by (in_order q p g) (fault_shift q p a (i + (2 + rows c.function)) g)
  where
    n : ℕ
    n = 2 + rows c.function

    more : a + i + n ≡ a + (i + n)
    more = omega arith

    by : (m : Bool) → fault_row q p (a + (i + n)) g ≡ a + fault_row q p (i + n) g
        → cond m (a + i) (fault_row q p (a + i + n) g) ≡ a + cond m i (fault_row q p (i + n) g)
    by true rest = refl
    by false rest = ap (λ k. fault_row q p k g) more ∙ rest

fault_least : (q : Quantifier) (p : Prefix) (i : ℕ) (g : Pairs) → i ≤ fault_row q p i g
unfolding fault_row
fault_least q p i [] = omega arith
fault_least q p i (c ∷ g) = by (in_order q p g) (fault_least q p (i + (2 + rows c.function)) g)
  where
    by : (m : Bool) → i + (2 + rows c.function) ≤ fault_row q p (i + (2 + rows c.function)) g
        → i ≤ cond m i (fault_row q p (i + (2 + rows c.function)) g)
    by true l = omega arith
    by false l = omega arith

module _ (q : Quantifier) (p : Prefix) (g : Pairs) {n : ℕ} (is : n ≡ fault_in q p g) where
  pub fault_none : n ≤ 0 → in_order q p g ≡ true
  unfolding fault_in
  fault_none h = by (in_order q p g) refl
    where
      by : (m : Bool) → in_order q p g ≡ m → m ≡ true
      by true e = refl
      by false e = absurd (omega (arith, is ∙ ap (λ m. cond m 0 (fault_row q p 1 g)) e, fault_least q p 1 g))

  pub fault_some : 0 < n → (in_order q p g ≡ false) × (n ≡ fault_row q p 1 g)
  unfolding fault_in
  fault_some h = by (in_order q p g) refl
    where
      by : (m : Bool) → in_order q p g ≡ m → (m ≡ false) × (n ≡ fault_row q p 1 g)
      by true e = absurd (omega (arith, is ∙ ap (λ m. cond m 0 (fault_row q p 1 g)) e))
      by false e = (refl, is ∙ ap (λ m. cond m 0 (fault_row q p 1 g)) e)

  pub fault_few : n ≤ rows (strategy_matrix g)
  unfolding fault_in
  fault_few = by (in_order q p g) refl
    where
      by : (m : Bool) → in_order q p g ≡ m → n ≤ rows (strategy_matrix g)
      by true e = omega (arith, is ∙ ap (λ m. cond m 0 (fault_row q p 1 g)) e)
      by false e = omega (arith, is ∙ ap (λ m. cond m 0 (fault_row q p 1 g)) e, fault_row_most q p 1 g)

module _ (s : Layout) (b : Bytes) (exists : Bool) where
  abbrev q : Quantifier
  q = side exists

  abbrev p : Prefix
  p = prefix_in s b

  abbrev g : Pairs
  g = pairs_in s b

  pub pairs_uncovered : {m : Bool} → m ≡ is_covering (side exists) (prefix_in s b) (pairs_in s b) → m ≡ false
      → ◌≡◌ {A = Answer ℕ} (answer (pair_tests (side exists) (prefix_in s b) (suc s.variables) (some (pairs_in s b))) 0) (refused 26 0)
  unfolding pair_tests answer
  pairs_uncovered is e = rw (sym is ∙ e)

  pub pairs_fault : {m : Bool} {n r : ℕ} → m ≡ is_covering (side exists) (prefix_in s b) (pairs_in s b) → m ≡ true
      → n ≡ fault_in (side exists) (prefix_in s b) (pairs_in s b) → 0 < n → r ≡ s.variables + n
      → ◌≡◌ {A = Answer ℕ} (answer (pair_tests (side exists) (prefix_in s b) (suc s.variables) (some (pairs_in s b))) 0) (refused 27 r)
  unfolding pair_tests answer
  pairs_fault {m} {n} {r} is e fault h at =
      rw (sym is ∙ e, (fault_some q p g fault h).0) (ap (λ k. refused 27 k) place)
    where
      one : suc s.variables ≡ s.variables + 1
      one = omega arith

      place : fault_row q p (suc s.variables) g ≡ r
      place =
          ap (λ k. fault_row q p k g) one ∙ fault_shift q p s.variables 1 g ∙
          ap (λ k. s.variables + k) (sym (fault_some q p g fault h).1) ∙ sym at

  pub pairs_pass : {cuts : List ℕ} {m : Bool} {n k : ℕ} → Paired s b cuts → m ≡ is_covering (side exists) (prefix_in s b) (pairs_in s b) → m ≡ true
      → n ≡ fault_in (side exists) (prefix_in s b) (pairs_in s b) → n ≤ 0 → k ≡ length cuts - 1 → PairsPass s b exists k
  pairs_pass w is e fault h last =
      record {
        counted = omega (arith, last, counted b w);
        covering = sym is ∙ e;
        ordered = fault_none q p g fault h;
      }

-- the strategy's sheet

module _ {f : Format} {b d : Bytes} {s t : Layout} (x : Sheet f b s) (y : Sheet f d t) (exists : Bool) where
  abbrev F : sheets.Format
  F = format_of f

  pub plan_other : {m : Bool} → m ≡ equal_prefix (prefix_in s b) (prefix_in t d) → m ≡ false → (out : Bytes)
      → (claim_call (format_of f) b (side exists) d out).answer ≡ claim_refused 2 26 0
  plan_other is e out =
      other_prefix F b (side exists) d out x.tests_pass y.tests_pass (ap₂ equal_prefix (sym (sheet_prefix x)) (sym (sheet_prefix y)) ∙ sym is ∙ e)

  module _ {m : Bool} (is : m ≡ equal_prefix (prefix_in s b) (prefix_in t d)) (e : m ≡ true) where
    pub plan-prefix : (formula (format_of f) d).prefix ≡ (formula (format_of f) b).prefix
    plan-prefix = sym (sheet_prefix y) ∙ sym (equal_prefix_same (prefix_in s b) (prefix_in t d) (sym is ∙ e)) ∙ sheet_prefix x

    pub plan-form : {k : Bool} → k ≡ is_read (pairs_of (matrix_in t d)) → k ≡ false → (out : Bytes)
        → (claim_call (format_of f) b (side exists) d out).answer ≡ claim_refused 2 26 0
    plan-form own f out =
        no_pairs F b (side exists) d out x.tests_pass y.tests_pass plan-prefix
        (ap pairs_of (sym (sheet_matrix y)) ∙ not_read (pairs_of (matrix_in t d)) (sym own ∙ f))

    module _ {k : Bool} (own : k ≡ is_read (pairs_of (matrix_in t d))) (whole : k ≡ true) where
      are_read : pairs_of (formula (format_of f) d).matrix ≡ some (pairs_in t d)
      are_read = ap pairs_of (sym (sheet_matrix y)) ∙ pairs_read t d own whole

      pub plan-paired : {cuts : List ℕ} → cuts ≡ pair_cuts 1 (pairs_in t d) → Paired t d cuts
      plan-paired c =
          record {
            readable = sheet_readable y;
            is_closed = sheet-closed y;
            is_matrix = pairs_matrix d (sheet_readable y) own whole;
            are_cuts = c;
          }

      prefix_same : prefix_in t d ≡ (formula F b).prefix
      prefix_same = sheet_prefix y ∙ plan-prefix

      variables_are : t.variables ≡ sheets.variables F d
      variables_are = (sheet_right y).variables_are

      -- 26 and 27 of the pairs are the call's
      refuse : (cov ord : Bool) → is_covering (side exists) (prefix_in t d) (pairs_in t d) ≡ cov → in_order (side exists) (prefix_in t d) (pairs_in t d) ≡ ord → {n i : ℕ}
          → ◌≡◌ {A = Answer ℕ} (cond (not cov) (refused 26 0)
          (cond (not ord) (refused 27 (fault_row (side exists) (prefix_in t d) (suc t.variables) (pairs_in t d))) (accepted 0))) (refused n i)
          → (out : Bytes) → (claim_call (format_of f) b (side exists) d out).answer ≡ claim_refused 2 n i
      refuse false ord c o {n} {i} h out =
          let number : 26 ≡ n = cc in
          let place : 0 ≡ i = cc in
          uncovered F b (side exists) d out x.tests_pass y.tests_pass plan-prefix (pairs_in t d) are_read
          (ap (λ p. is_covering (side exists) p (pairs_in t d)) (sym prefix_same) ∙ c) ∙ ap₂ (claim_refused 2) number place
      refuse true false c o {n} {i} h out =
          let number : 27 ≡ n = cc in
          let place : fault_row (side exists) (prefix_in t d) (suc t.variables) (pairs_in t d) ≡ i = cc in
          reads_refused F b (side exists) d out x.tests_pass y.tests_pass plan-prefix (pairs_in t d) are_read
          (ap (λ p. is_covering (side exists) p (pairs_in t d)) (sym prefix_same) ∙ c)
          (ap (λ p. in_order (side exists) p (pairs_in t d)) (sym prefix_same) ∙ o) ∙
          ap₂ (λ p v. claim_refused 2 27 (fault_row (side exists) p (suc v) (pairs_in t d))) (sym prefix_same) (sym variables_are) ∙
          ap₂ (claim_refused 2) number place
      refuse true true c o {n} {i} h out = let z : ◌≡◌ {A = ℕ} 0 1 = cc in absurd (omega arith)

      pub plan-pairs : (r : Result ℕ Refusal) (cuts : List ℕ) (n : ℕ) → n ≡ length (pairs_in t d) → take (suc n) cuts ≡ pair_cuts 1 (pairs_in t d) → PairPlans t d exists r
          → ClaimPlans f b exists d t cuts r
      unfolding pair_tests answer
      plan-pairs (Err e) cuts k len c h =
          λ out. refuse (is_covering (side exists) (prefix_in t d) (pairs_in t d)) (in_order (side exists) (prefix_in t d) (pairs_in t d)) refl refl h out
      plan-pairs (Ok m) cuts n len c h =
          record {
            same_prefix = plan-prefix;
            are_read = are_read;
            paired = plan-paired (ap (λ k. take (suc k) cuts) (h.counted ∙ sym len) ∙ c);
            passed = h;
          }

-- every argument is a number of its format
pub sheet_source : {f : Format} {b : Bytes} {s : Layout} → Sheet f b s → Source s b
sheet_source {f} {b} {s} h =
    let ok = sheet_readable h in
    let F = format_of f in
    record {
      readable = ok;
      arguments_fit =
          λ r l. every_at (ArgumentFits (format_of s.format).width) (rows_in s b) r (row 0 0)
          (subst (λ (g : Format). Every (ArgumentFits (format_of g).width) (rows_in s b)) (sym (sheet_format h))
          (subst (Every (ArgumentFits F.width)) ok.is_formula
          (arguments_fit F (sound f) (formula_in s b) (subst (Within F) (sym (sheet-formula_in h)) (accepted_within F b h.tests_pass)))))
          (omega (arith, length-rows_in b ok.room));
    }
