-- A step on a proper formula: it keeps the truth, the formula proper, and takes one variable away.
-- Assumes nothing.
use mathlib.Core.Path.{◌≡◌, refl, sym, ◌∙◌, ap, ap₂}
use mathlib.Core.Bool.{Bool, true, false, not, ◌||◌, true≢false}
use mathlib.Core.List.{[], ◌∷◌}
use mathlib.Core.Option.{some}
use Prim.Native.Nat.{ℕ, ◌-◌, ◌≤◌}
use native.Mathlib.Omega.{arith}
use lib.ListN.{length}
use borrow.Author.Tests.{not-true}
use Rattle.formula.specs.Tree.{and, or, Tree, lit, node, Forest, ∅, ◌▸◌, Prefix, Formula, of, rows, has, has_any, assign, binds, quantifier_of, without, distinct, closed}
use Rattle.formula.specs.Truth.{Assignment, put, join, eval, bind, truth}
use Rattle.formula.specs.Tidy.{tidied, is_tidy, childless, breaks, faults, faults_all, root_faults, any, verdict}
use Rattle.formula.specs.Settle.{may_settle, settled}
use Rattle.formula.specs.Expand.{innermost, copying, raw_tree, raw_rows, raw, expanded}
use Rattle.formula.specs.Solve.{Fits, fits_raw}
use Rattle.formula.proofs.Booleans.{join_self, or_parts}
use Rattle.formula.proofs.Binding.{bind_ext}
use Rattle.formula.proofs.Evaluation.{rows-assign}
use Rattle.formula.proofs.Tidy.Truth.{eval-tidy}
use Rattle.formula.proofs.Tidy.Limits.{tidy-is_tidy, any-++}
use Rattle.formula.proofs.Tidy.Growth.{has-tidy, rows-tidy}
use Rattle.formula.proofs.Settle.{truth-assigned}
use Rattle.formula.proofs.Expand.{truth-raw, rows-raw_tree}
use Rattle.formula.proofs.Closed.{unbound, length_without, distinct_without, closed-assigned, closed-raw}

-- what every step starts from and leads to: no number twice, every literal bound, tidy
pub record Proper (f : Formula) : Type 0 where
  pub is_distinct : distinct f.prefix ≡ true
  pub is_closed : closed f ≡ true
  pub is_neat : is_tidy f.matrix ≡ true

-- tidying

pub truth-tidied : (f : Formula) → truth (tidied f) ≡ truth f
unfolding truth tidied
truth-tidied f = bind_ext f.prefix (eval-tidy f.matrix) (λ _. false)

pub proper_tidied : (f : Formula) → distinct f.prefix ≡ true → closed f ≡ true → Proper (tidied f)
unfolding tidied closed
proper_tidied f d c =
    record {
      is_distinct = d;
      is_closed = ap not (has-tidy (unbound f.prefix) f.matrix (not-true (has (unbound f.prefix) f.matrix) c));
      is_neat = tidy-is_tidy f.matrix;
    }

-- settling

assigned-formula : ℕ → Bool → Formula → Formula
assigned-formula x b f = record { prefix = without x f.prefix; matrix = assign x b f.matrix }

settled-tidied : (x : ℕ) (b : Bool) (f : Formula) → settled x b f ≡ tidied (assigned-formula x b f)
unfolding settled tidied assigned-formula
settled-tidied x b f = refl

pub truth-settled : (x : ℕ) (b : Bool) (f : Formula) → binds f.prefix x ≡ true → distinct f.prefix ≡ true → may_settle x f ≡ some b
    → truth (settled x b f) ≡ truth f
unfolding assigned-formula
truth-settled x b f h d k =
    ap truth (settled-tidied x b f) ∙ truth-tidied (assigned-formula x b f) ∙ truth-assigned x b f h d k

pub proper_settled : (x : ℕ) (b : Bool) (f : Formula) → Proper f → Proper (settled x b f)
unfolding assigned-formula
proper_settled x b f p =
    rw (settled-tidied x b f)
    (proper_tidied (assigned-formula x b f) (distinct_without x f.prefix p.is_distinct) (closed-assigned x b f p.is_closed))

pub rows_settled : (x : ℕ) (b : Bool) (f : Formula) → rows (settled x b f).matrix ≤ rows f.matrix
unfolding settled
rows_settled x b f = let e = rows-assign x b f.matrix in let l = rows-tidy (assign x b f.matrix) in omega arith

-- expanding

expanded-tidied : (x : ℕ) (f : Formula) → expanded x f ≡ tidied (raw x f)
unfolding expanded tidied
expanded-tidied x f = refl

pub truth-expanded : (x : ℕ) (f : Formula) → innermost x f ≡ true → distinct f.prefix ≡ true → truth (expanded x f) ≡ truth f
truth-expanded x f h d = ap truth (expanded-tidied x f) ∙ truth-tidied (raw x f) ∙ truth-raw x f h d

pub proper_expanded : (x : ℕ) (f : Formula) → Proper f → Proper (expanded x f)
unfolding raw
proper_expanded x f p =
    rw (expanded-tidied x f)
    (proper_tidied (raw x f) (distinct_without x f.prefix p.is_distinct) (closed-raw x f p.is_closed))

pub rows-expanded : (x : ℕ) (f : Formula) → rows (expanded x f).matrix ≤ raw_rows (of x) f.matrix
unfolding expanded raw
rows-expanded x f =
    let q = quantifier_of f.prefix x in
    let e = rows-raw_tree q x f.matrix in
    let l = rows-tidy (raw_tree (copying q x) f.matrix) in
    omega arith

-- what is tested for fit is the raw formula: one variable less, and the raw tree's rows
pub fits_raw-formula : (fits : Fits) (x : ℕ) (f : Formula) → binds f.prefix x ≡ true
    → fits_raw fits x f ≡ fits (length (raw x f).prefix) (rows (raw x f).matrix)
unfolding fits_raw raw
fits_raw-formula fits x f h =
    let l = length_without x f.prefix h in
    let less : length f.prefix - 1 ≡ length (without x f.prefix) = omega arith in
    ap₂ fits less (sym (rows-raw_tree (quantifier_of f.prefix x) x f.matrix))

-- decided

pub bind-constant : (p : Prefix) (b : Bool) (ρ : Assignment) → bind p (λ _. b) ρ ≡ b
unfolding bind
bind-constant [] b ρ = refl
bind-constant (z ∷ p) b ρ =
    ap₂ (join z.quantifier) (bind-constant p b (put ρ z.variable false)) (bind-constant p b (put ρ z.variable true)) ∙
    join_self z.quantifier b

pub eval-verdict : (t : Tree) (v : Bool) → verdict t ≡ some v → (ρ : Assignment) → eval t ρ ≡ v
unfolding eval verdict
eval-verdict (lit s x) v h ρ = let z : ◌≡◌ {A = Bool} true false = cc in absurd (true≢false z)
eval-verdict (node and ∅) v h ρ = cc
eval-verdict (node or ∅) v h ρ = cc
eval-verdict (node o (t ▸ ts)) v h ρ = let z : ◌≡◌ {A = Bool} true false = cc in absurd (true≢false z)

-- a verdict is the formula's truth value
pub verdict-truth : (f : Formula) (v : Bool) → verdict f.matrix ≡ some v → truth f ≡ v
unfolding truth
verdict-truth f v h = bind_ext f.prefix (eval-verdict f.matrix v h) (λ _. false) ∙ bind-constant f.prefix v (λ _. false)

-- a tidy tree that is not an empty operator has a literal

everything : Bool → ℕ → Bool
everything s v = true

mutual
  unfolding faults any has childless everything

  literal-below : (t : Tree) → any (faults t) ≡ false → has everything t ≡ true
  literal-below (lit s v) h = refl
  literal-below (node o ts) h =
      let parts = or_parts (childless ts || breaks o ts) (any (faults_all ts)) h in
      literal-among ts (or_parts (childless ts) (breaks o ts) parts.0).0 parts.1

  literal-among : (ts : Forest) → childless ts ≡ false → any (faults_all ts) ≡ false → has_any everything ts ≡ true
  literal-among ∅ c h = absurd (true≢false c)
  literal-among (t ▸ ts) c h =
      ap (λ (b : Bool). b || has_any everything ts)
      (literal-below t (or_parts (any (faults t)) (any (faults_all ts)) (sym (any-++ (faults t) (faults_all ts)) ∙ h)).0)

verdict-of_neat : (t : Tree) → is_tidy t ≡ true → has everything t ≡ false → (v : Bool) × (verdict t ≡ some v)
unfolding is_tidy root_faults any verdict has everything childless
verdict-of_neat (lit s v) n h = absurd (true≢false h)
verdict-of_neat (node and ∅) n h = (true, refl)
verdict-of_neat (node or ∅) n h = (false, refl)
verdict-of_neat (node o (t ▸ ts)) n h =
    let clean = or_parts (breaks o (t ▸ ts)) (any (faults_all (t ▸ ts))) (not-true (any (root_faults (node o (t ▸ ts)))) n) in
    absurd (true≢false (sym (literal-among (t ▸ ts) refl clean.1) ∙ h))

-- no variable left means a verdict
pub decided_without-variables : (f : Formula) → Proper f → f.prefix ≡ [] → (v : Bool) × (verdict f.matrix ≡ some v)
unfolding closed binds everything
decided_without-variables f p e =
    verdict-of_neat f.matrix p.is_neat
    (ap (λ (q : Prefix). has (unbound q) f.matrix) (sym e) ∙ not-true (has (unbound f.prefix) f.matrix) p.is_closed)
