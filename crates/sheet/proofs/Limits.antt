-- The limits of a format, and the formulas that its sheets hold.
-- Assumes nothing.
use mathlib.Core.Path.{◌≡◌, refl, ap, ap₂, ◌∙◌}
use mathlib.Core.Bool.{Bool, true, false, not, ◌&&◌, ◌||◌, cond, false≢true}
use mathlib.Core.List.{[], ◌∷◌, ◌++◌}
use mathlib.Core.Logic.{⊎_elim}
use Prim.Native.Nat.{ℕ, zero, suc, ◌+◌, ◌≤◌, ◌<◌}
use native.Mathlib.Omega.{arith}
use lib.Dec.{eqb, ltb}
use lib.ListN.{length, get_or}
use borrow.Author.Tests.{not-true, ltb-false, le-ltb, eqb-true, eqb-false, eq-eqb, ne_eqb}
use Rattle.formula.specs.Tree.{Binding, Prefix, Formula, binds, without, rows}
use Rattle.sheet.specs.Format.{Format, narrow, wide}
use Rattle.sheet.specs.Limits.{Sound, numbered, Within}
use Rattle.formula.proofs.Booleans.{and_parts, or_parts, or_cases, or_later}
use Rattle.formula.proofs.Closed.{length_without}
use Rattle.formula.proofs.Steps.{Proper}
use Rattle.formula.specs.Outer.{unused, dependents, copies_of, too_few, raw_outer, outer_expanded}
use Rattle.formula.proofs.Outer.Fresh.{rows_of, unused_many}
use Rattle.formula.proofs.Outer.Step.{copies_many, copies-numbered, length_outer}

pub narrow_sound : Sound narrow
narrow_sound = record { variables_fit = omega arith; nodes_fit = omega arith }

pub wide_sound : Sound wide
wide_sound = record { variables_fit = omega arith; nodes_fit = omega arith }

pub numbered-∷ : (F : Format) (z : Binding) (p : Prefix) → numbered F (z ∷ p) ≡ true
    → (z.variable ≤ F.most_variables) × (numbered F p ≡ true)
unfolding numbered
numbered-∷ F z p h =
    let b = and_parts (not (eqb z.variable 0 || ltb F.most_variables z.variable)) (numbered F p) h in
    let n = or_parts (eqb z.variable 0) (ltb F.most_variables z.variable) (not-true _ b.0) in
    (ltb-false F.most_variables z.variable n.1, b.1)

-- every bound number is within the limit
pub numbered_at : (F : Format) (p : Prefix) (r : ℕ) (z : Binding) → numbered F p ≡ true → r < length p
    → (get_or p r z).variable ≤ F.most_variables
numbered_at F [] r z h l = absurd (omega arith)
numbered_at F (y ∷ p) zero z h l = (numbered-∷ F y p h).0
numbered_at F (y ∷ p) (suc r) z h l = numbered_at F p r z (numbered-∷ F y p h).1 (omega arith)

pub binds-numbered : (F : Format) (p : Prefix) (x : ℕ) → numbered F p ≡ true → binds p x ≡ true → x ≤ F.most_variables
unfolding binds
binds-numbered F [] x h e = let z : ◌≡◌ {A = ℕ} 0 1 = cc in absurd (omega arith)
binds-numbered F (z ∷ p) x h e =
    let n = numbered-∷ F z p h in
    go (eqb z.variable x) refl e n.0 (binds-numbered F p x n.1)
  where
    go : (b : Bool) → eqb z.variable x ≡ b → (b || binds p x) ≡ true → z.variable ≤ F.most_variables
        → (binds p x ≡ true → x ≤ F.most_variables) → x ≤ F.most_variables
    go true q e n ih = omega (arith, eqb-true z.variable x q)
    go false q e n ih = ih e

-- the limits that a step keeps
numbered-without : (F : Format) (x : ℕ) (p : Prefix) → numbered F p ≡ true → numbered F (without x p) ≡ true
unfolding numbered without
numbered-without F x [] h = refl
numbered-without F x (z ∷ p) h =
    let ok = not (eqb z.variable 0 || ltb F.most_variables z.variable) in
    let parts = and_parts ok (numbered F p) h in
    by (eqb z.variable x) parts.0 parts.1 (numbered-without F x p parts.1)
  where
    by : (m : Bool) → not (eqb z.variable 0 || ltb F.most_variables z.variable) ≡ true → numbered F p ≡ true
        → numbered F (without x p) ≡ true → numbered F (cond m p (z ∷ without x p)) ≡ true
    by true k r rest = r
    by false k r rest = ap₂ ◌&&◌ k rest

pub within_step : (F : Format) (f g : Formula) (x : ℕ) → Within F f → binds f.prefix x ≡ true → g.prefix ≡ without x f.prefix → Proper g
    → rows g.matrix ≤ F.most_nodes → Within F g
within_step F f g x w h e p l =
    record {
      few_variables = omega (arith, length_without x f.prefix h, ap length e, w.few_variables);
      few_nodes = l;
      is_numbered = ap (numbered F) e ∙ numbered-without F x f.prefix w.is_numbered;
      is_distinct = p.is_distinct;
      is_closed = p.is_closed;
    }

-- copies have unused numbers of the format, and so few that there is room for their rows

pub numbered-++ : (F : Format) (p q : Prefix) → numbered F p ≡ true → numbered F q ≡ true → numbered F (p ++ q) ≡ true
unfolding numbered
numbered-++ F [] q h k = k
numbered-++ F (z ∷ p) q h k =
    let parts = and_parts (not (eqb z.variable 0 || ltb F.most_variables z.variable)) (numbered F p) h in
    ap₂ ◌&&◌ parts.0 (numbered-++ F p q parts.1 k)

pub numbered_by : (F : Format) (p : Prefix) → ((v : ℕ) → binds p v ≡ true → (1 ≤ v) × (v ≤ F.most_variables)) → numbered F p ≡ true
unfolding numbered binds
numbered_by F [] h = refl
numbered_by F (z ∷ p) h =
    let own = h z.variable (ap (λ (m : Bool). m || binds p z.variable) (eq-eqb z.variable z.variable refl)) in
    ap₂ (λ (m n : Bool). not m && n)
    (ap₂ ◌||◌ (ne_eqb z.variable 0 (λ e. omega (arith, own.0, e))) (le-ltb F.most_variables z.variable own.1))
    (numbered_by F p (λ v k. h v (or_later (eqb z.variable v) k)))

pub binds_positive : (F : Format) (p : Prefix) (x : ℕ) → numbered F p ≡ true → binds p x ≡ true → 1 ≤ x
unfolding numbered binds
binds_positive F [] x h e = absurd (false≢true e)
binds_positive F (z ∷ p) x h e =
    let parts = and_parts (not (eqb z.variable 0 || ltb F.most_variables z.variable)) (numbered F p) h in
    let own = or_parts (eqb z.variable 0) (ltb F.most_variables z.variable) (not-true _ parts.0) in
    ⊎_elim (λ q. positive x (λ k. eqb-false z.variable 0 own.0 (eqb-true z.variable x q ∙ k)))
    (λ q. binds_positive F p x parts.1 q) (or_cases (eqb z.variable x) (binds p x) e)
  where
    positive : (n : ℕ) → (n ≡ 0 → ⊥) → 1 ≤ n
    positive zero f = absurd (f refl)
    positive (suc n) f = omega arith

-- the highest number less the variables is how many are unused
pub unused-count : (F : Format) (f : Formula) → Within F f
    → length (unused f.prefix F.most_variables 1) + length f.prefix ≡ F.most_variables
unused-count F f w =
    unused_many F.most_variables f.prefix w.is_distinct
    (λ v h. (binds_positive F f.prefix v w.is_numbered h, binds-numbered F f.prefix v w.is_numbered h))

pub within_outer : (F : Format) (f : Formula) (x : ℕ) → Within F f → binds f.prefix x ≡ true → too_few F.most_variables x f ≡ false
    → Proper (outer_expanded F.most_variables x f) → rows (outer_expanded F.most_variables x f).matrix ≤ F.most_nodes
    → Within F (outer_expanded F.most_variables x f)
unfolding outer_expanded raw_outer too_few
within_outer F f x w h e p l =
    let H = F.most_variables in
    let many = copies_many H x f e in
    let left = ltb-false (length (unused f.prefix H 1)) (length (dependents x f)) e in
    record {
      few_variables = omega (arith, length_outer H x f h, many, left, unused-count F f w);
      few_nodes = l;
      is_numbered =
          numbered-++ F (without x f.prefix) (rows_of (copies_of H x f)) (numbered-without F x f.prefix w.is_numbered)
          (numbered_by F (rows_of (copies_of H x f)) (copies-numbered H x f));
      is_distinct = p.is_distinct;
      is_closed = p.is_closed;
    }
