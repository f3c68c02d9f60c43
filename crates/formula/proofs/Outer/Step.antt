-- The step one block out on a proper formula: it keeps the truth and the formula proper, takes x away and adds the copies.
-- Assumes nothing.
use mathlib.Core.Path.{◌≡◌, refl, sym, ◌∙◌, ap, ap₂}
use mathlib.Core.Bool.{Bool, true, false, not, ◌&&◌, ◌||◌, cond, beq, true≢false, and-false}
use mathlib.Core.List.{List, [], ◌∷◌, ◌++◌}
use mathlib.Core.Logic.{⊎_elim}
use Prim.Native.Nat.{ℕ, suc, ◌+◌, ◌≤◌}
use native.Mathlib.Omega.{arith}
use lib.Dec.{eqb}
use lib.ListN.{length, length-append, length-map}
use lib.Seq.{length-take-le}
use borrow.Author.Tests.{ne_eqb, not-true, not-false, ltb-false}
use Rattle.formula.specs.Tree.{and, same_op, exists, for_all, Tree, lit, Prefix, Formula, Literals, of, rows, has}
use Rattle.formula.specs.Tree.{constant, assigned, binds, quantifier_of, without, distinct, closed}
use Rattle.formula.specs.Truth.{Assignment, put, eval, truth}
use Rattle.formula.specs.Tidy.{tidied}
use Rattle.formula.specs.Expand.{all_of, after, occurs, occurring, later, raw_tree, raw_rows, expand_tree, growth}
use Rattle.formula.specs.Outer.{universal_then_existential, one_block_out, existentials, block, within, depends, dependents, unused}
use Rattle.formula.specs.Outer.{copies_of, too_few, renamed, chosen_by, renaming, outer_copying, existential, raw_outer}
use Rattle.formula.specs.Outer.{outer_expanded, outer_rows}
use Rattle.formula.proofs.Booleans.{and_parts, or_parts, or_cases, or_later, cond_cases, join_self, same_op_eq}
use Rattle.formula.proofs.Binding.{bind_ext}
use Rattle.formula.proofs.Evaluation.{eval_same, eval-assigned, eval-constant, put_other, rows-assigned, has_cover, has-constant}
use Rattle.formula.proofs.Expand.{Values, eval-expand, rows-expand}
use Rattle.formula.proofs.Closed.{unbound, length_without, binds-without, unbound-without, distinct_without, has-expand}
use Rattle.formula.proofs.Tidy.Growth.{rows-tidy}
use Rattle.formula.proofs.Steps.{Proper, truth-tidied, proper_tidied}
use Rattle.formula.proofs.Outer.Closure.{stage-binds, block_apart}
use Rattle.formula.proofs.Outer.Fresh.{rows_of, unused-above, unused-below, unused-unbound, unused-distinct, take-binds, take-distinct, renamed_other, renamed-new, those-binds}
use Rattle.formula.proofs.Outer.Truth.{Setting, both, copied, after_both, bind_at}
use Rattle.formula.proofs.Prefixes.{binds-++, binds-later, distinct-++, after-binds, after_own, among-binds}

-- rows after x, those of them with a literal, and the existential ones of these

existentials-binds : (v : ℕ) (p : Prefix) → binds (existentials p) v ≡ true → binds p v ≡ true
unfolding existentials binds
existentials-binds v [] h = h
existentials-binds v (z ∷ p) h =
    cond_cases (λ (q : Prefix). binds q v ≡ true → binds (z ∷ p) v ≡ true) (same_op exists z.quantifier)
    (λ e k.
    ⊎_elim (λ i. ap (λ (m : Bool). m || binds p v) i) (λ i. binds-later z p v (existentials-binds v p i))
    (or_cases (eqb z.variable v) (binds (existentials p) v) k)) (λ e k. binds-later z p v (existentials-binds v p k)) h

existentials_exist : (p : Prefix) → all_of exists (existentials p) ≡ true
unfolding existentials all_of
existentials_exist [] = refl
existentials_exist (z ∷ p) =
    cond_cases (λ (q : Prefix). all_of exists q ≡ true) (same_op exists z.quantifier) (λ e. ap₂ ◌&&◌ e (existentials_exist p))
    (λ e. existentials_exist p)

module _ (highest x : ℕ) (f : Formula) where
  abbrev p : Prefix
  p = f.prefix

  abbrev t : Tree
  t = f.matrix

  abbrev B : Prefix
  B = block x f

  abbrev D : ℕ → Bool
  D = depends x f

  abbrev ys : List ℕ
  ys = dependents x f

  abbrev ns : List ℕ
  ns = copies_of highest x f

  block-binds : (v : ℕ) → binds B v ≡ true → binds (after x p) v ≡ true
  unfolding block later occurring
  block-binds v h = among-binds (occurs t) v (after x p) (existentials-binds v (later x f) h)

  depends_in : (v : ℕ) → D v ≡ true → binds B v ≡ true
  unfolding depends
  depends_in v h = stage-binds t B x (length B) v h

  dependents_are : (v : ℕ) → binds (rows_of ys) v ≡ D v
  unfolding dependents
  dependents_are v = those-binds D B v ∙ by (D v) refl
    where
      by : (m : Bool) → D v ≡ m → (binds B v && m) ≡ m
      by true e = ap (λ (b : Bool). b && true) (depends_in v e)
      by false e = and-false (binds B v)

  pub copies-new : (v : ℕ) → binds (rows_of ns) v ≡ true → binds p v ≡ false
  unfolding copies_of
  copies-new v h = unused-unbound p highest 1 v (take-binds (length ys) (unused p highest 1) v h)

  pub copies-numbered : (v : ℕ) → binds (rows_of ns) v ≡ true → (1 ≤ v) × (v ≤ highest)
  unfolding copies_of
  copies-numbered v h =
      let k = take-binds (length ys) (unused p highest 1) v h in
      (unused-above p highest 1 v k, omega (arith, unused-below p highest 1 v k))

  pub copies-distinct : distinct (rows_of ns) ≡ true
  unfolding copies_of
  copies-distinct = take-distinct (length ys) (unused p highest 1) (unused-distinct p highest 1)

  pub copies_many : too_few highest x f ≡ false → length ns ≡ length ys
  unfolding too_few copies_of
  copies_many h = length-take-le (length ys) (unused p highest 1) (ltb-false (length (unused p highest 1)) (length ys) h)

  block_exists : all_of exists B ≡ true
  unfolding block
  block_exists = existentials_exist (later x f)

  block-free : distinct p ≡ true → (z : ℕ) → binds B z ≡ true → D z ≡ false → has (chosen_by x D) t ≡ true
      → within (chosen_by x D) (of z) t ≡ false
  unfolding depends
  block-free d z h k l = block_apart t B x z h (ne_eqb z x other) k l
    where
      other : z ≡ x → ⊥
      other e = true≢false (sym (block-binds z h) ∙ ap (binds (after x p)) e ∙ after_own x p d)

  setting : distinct p ≡ true → closed f ≡ true → too_few highest x f ≡ false → Setting t p B x D ys ns
  unfolding closed
  setting d c e =
      record {
        is_closed = not-true (has (unbound p) t) c;
        block_bound = λ v h. after-binds x v p (block-binds v h);
        block_exists = block_exists;
        in_block = depends_in;
        copied_are = dependents_are;
        are_new = copies-new;
        enough = (let l = copies_many e in omega arith);
        new_distinct = copies-distinct;
        free = block-free d;
      }

  -- the raw tree joins the values of the two copies
  values : (s : Setting t p B x D ys ns) (ρ : Assignment) → Values (outer_copying highest x f) ρ (put ρ x false) (copied t p B x D ys ns s ρ)
  unfolding outer_copying eval
  values set ρ =
      record {
        in_first = eval-assigned x false ρ;
        in_second = λ s v. second s v (eqb v x);
        apart₀ = λ s v h. put_other x false ρ s v (or_parts (eqb v x) (D v) h).0;
        apart₁ = λ s v h. last v (or_parts (eqb v x) (D v) h);
      }
    where
      second : (s : Bool) (v : ℕ) (m : Bool)
          → eval (cond m (constant s) (lit s (renamed ys ns v))) ρ ≡ beq s (cond m true (ρ (renamed ys ns v)))
      second true v true = eval-constant true ρ
      second false v true = eval-constant false ρ
      second s v false = refl

      last : (v : ℕ) → (eqb v x ≡ false) × (D v ≡ false) → cond (eqb v x) true (ρ (renamed ys ns v)) ≡ ρ v
      last v h =
          ap (λ (m : Bool). cond m true (ρ (renamed ys ns v))) h.0 ∙ ap ρ (renamed_other ys ns v (dependents_are v ∙ h.1))

  eval-raw_outer : (s : Setting t p B x D ys ns) (ρ : Assignment)
      → eval (raw_tree (outer_copying highest x f) t) ρ ≡ both t p B x D ys ns s ρ
  unfolding raw_tree outer_copying
  eval-raw_outer set ρ = by (has (chosen_by x D) t) refl
    where
      by : (m : Bool) → has (chosen_by x D) t ≡ m
          → eval (cond m (expand_tree (outer_copying highest x f) t) t) ρ ≡ both t p B x D ys ns set ρ
      by true e = eval-expand (outer_copying highest x f) ρ (put ρ x false) (copied t p B x D ys ns set ρ) (values set ρ) t e
      by false e =
          let v = values set ρ in
          sym
          (ap₂ ◌&&◌ (eval_same (chosen_by x D) (put ρ x false) ρ v.apart₀ t e)
          (eval_same (chosen_by x D) (copied t p B x D ys ns set ρ) ρ v.apart₁ t e) ∙
          join_self and (eval t ρ))

  pub truth-raw_outer : one_block_out x f ≡ true → distinct p ≡ true → closed f ≡ true → too_few highest x f ≡ false
      → truth (raw_outer highest x f) ≡ truth f
  unfolding truth raw_outer one_block_out block later occurring
  truth-raw_outer h d c e =
      let set = setting d c e in
      let start : Assignment = λ _. false in
      let parts = and_parts (binds p x) (same_op for_all (quantifier_of p x) && universal_then_existential (later x f)) h in
      let more = and_parts (same_op for_all (quantifier_of p x)) (universal_then_existential (later x f)) parts.1 in
      bind_ext (without x p ++ rows_of ns) (eval-raw_outer set) start ∙
      sym
      (bind_at p (rows_of ns) x (eval t) (both t p B x D ys ns set) parts.0 (sym (same_op_eq for_all (quantifier_of p x) more.0))
      (after_both t p B x D ys ns set (after x p) (λ v k. after-binds x v p k) (after_own x p d) more.1 refl) start)

  -- the new formula is proper

  new_prefix : Prefix
  new_prefix = without x p ++ rows_of ns

  stays-bound : (v : ℕ) → eqb v x ≡ false → binds p v ≡ true → binds new_prefix v ≡ true
  unfolding new_prefix
  stays-bound v n h =
      binds-++ (without x p) (rows_of ns) v ∙ ap (λ (m : Bool). m || binds (rows_of ns) v) (binds-without x v p n ∙ h)

  renamed-bound : too_few highest x f ≡ false → (v : ℕ) → eqb v x ≡ false → binds p v ≡ true → binds new_prefix (renamed ys ns v) ≡ true
  unfolding new_prefix
  renamed-bound e v n h = by (D v) refl
    where
      by : (m : Bool) → D v ≡ m → binds (without x p ++ rows_of ns) (renamed ys ns v) ≡ true
      by true k =
          binds-++ (without x p) (rows_of ns) (renamed ys ns v) ∙
          or_later (binds (without x p) (renamed ys ns v))
          (renamed-new ys ns v (let l = copies_many e in omega arith) (dependents_are v ∙ k))
      by false k = ap (binds (without x p ++ rows_of ns)) (renamed_other ys ns v (dependents_are v ∙ k)) ∙ stays-bound v n h

  -- literals that the old prefix doesn't bind, and those that the new one doesn't
  abbrev old_unbound : Literals
  old_unbound = unbound p

  abbrev new-unbound : Literals
  new-unbound = unbound new_prefix

  apart_bound : (s : Bool) (v : ℕ) → chosen_by x D s v ≡ false → old_unbound s v ≡ false → new-unbound s v ≡ false
  apart_bound s v h k = ap not (stays-bound v (or_parts (eqb v x) (D v) h).0 (not-false (binds p v) k))

  first_bound : (s : Bool) (v : ℕ) → old_unbound s v ≡ false → has new-unbound (assigned x false s v) ≡ false
  unfolding has
  first_bound s v k = at (eqb v x) refl
    where
      at : (m : Bool) → eqb v x ≡ m → has new-unbound (cond m (constant (beq s false)) (lit s v)) ≡ false
      at true q = has-constant new-unbound (beq s false)
      at false q = ap not (stays-bound v q (not-false (binds p v) k))

  second_bound : too_few highest x f ≡ false → (s : Bool) (v : ℕ) → old_unbound s v ≡ false → has new-unbound (renaming x ys ns s v) ≡ false
  unfolding has
  second_bound e s v k = at (eqb v x) refl
    where
      at : (m : Bool) → eqb v x ≡ m → has new-unbound (cond m (constant s) (lit s (renamed ys ns v))) ≡ false
      at true q = has-constant new-unbound s
      at false q = ap not (renamed-bound e v q (not-false (binds p v) k))

  closed-raw_outer : closed f ≡ true → too_few highest x f ≡ false → closed (raw_outer highest x f) ≡ true
  unfolding closed raw_outer raw_tree outer_copying new_prefix
  closed-raw_outer c e = ap not (by (has (chosen_by x D) t) refl)
    where
      by : (m : Bool) → has (chosen_by x D) t ≡ m → has new-unbound (cond m (expand_tree (outer_copying highest x f) t) t) ≡ false
      by true k =
          has-expand (outer_copying highest x f) old_unbound new-unbound first_bound (second_bound e) apart_bound t
          (not-true (has old_unbound t) c)
      by false k = has_cover (chosen_by x D) old_unbound new-unbound apart_bound t k (not-true (has old_unbound t) c)

  distinct-raw_outer : distinct p ≡ true → distinct (raw_outer highest x f).prefix ≡ true
  unfolding raw_outer
  distinct-raw_outer d =
      distinct-++ (without x p) (rows_of ns) (distinct_without x p d) copies-distinct
      (λ v h. unbound-without x v p (copies-new v h))

  -- the step

  outer_tidied : outer_expanded highest x f ≡ tidied (raw_outer highest x f)
  unfolding outer_expanded tidied
  outer_tidied = refl

  pub truth_outer : one_block_out x f ≡ true → distinct p ≡ true → closed f ≡ true → too_few highest x f ≡ false
      → truth (outer_expanded highest x f) ≡ truth f
  truth_outer h d c e = ap truth outer_tidied ∙ truth-tidied (raw_outer highest x f) ∙ truth-raw_outer h d c e

  pub proper_outer : Proper f → too_few highest x f ≡ false → Proper (outer_expanded highest x f)
  proper_outer r e =
      rw outer_tidied (proper_tidied (raw_outer highest x f) (distinct-raw_outer r.is_distinct) (closed-raw_outer r.is_closed e))

  -- variables left + 1 = variables before + copies
  pub length-raw_outer : binds p x ≡ true → suc (length (raw_outer highest x f).prefix) ≡ length p + length ns
  unfolding raw_outer
  length-raw_outer h =
      let l = length_without x p h in
      let m = length-append (without x p) (rows_of ns) in
      let n = length-map ns existential in
      omega arith

  pub length_outer : binds p x ≡ true → suc (length (outer_expanded highest x f).prefix) ≡ length p + length ns
  unfolding outer_expanded
  length_outer h = length-raw_outer h

  -- the raw tree has as many rows as are counted, and tidying adds none
  rows-renaming : (s : Bool) (v : ℕ) → rows (renaming x ys ns s v) ≡ 1
  unfolding rows
  rows-renaming s v = by (eqb v x) s
    where
      by : (m c : Bool) → rows (cond m (constant c) (lit s (renamed ys ns v))) ≡ 1
      by true true = refl
      by true false = refl
      by false c = refl

  pub rows-raw_outer : rows (raw_outer highest x f).matrix ≡ outer_rows x f
  unfolding raw_outer outer_rows raw_tree raw_rows outer_copying
  rows-raw_outer = by (has (chosen_by x D) t) refl
    where
      by : (m : Bool) → has (chosen_by x D) t ≡ m
          → rows (cond m (expand_tree (outer_copying highest x f) t) t) ≡ cond m (rows t + growth (chosen_by x D) t) (rows t)
      by true e = rows-expand (outer_copying highest x f) (rows-assigned x false) rows-renaming t e
      by false e = refl

  pub rows_outer : rows (outer_expanded highest x f).matrix ≤ outer_rows x f
  unfolding outer_expanded
  rows_outer = let e = rows-raw_outer in let l = rows-tidy (raw_outer highest x f).matrix in omega arith
