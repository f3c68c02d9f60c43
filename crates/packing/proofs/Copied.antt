-- The numbers of the step one block out are in their ranges: the new sheet's length, how many variables are copied, and the lowest of them.
-- Assumes nothing.
use mathlib.Core.Path.{◌≡◌, refl, ap, ◌∙◌, subst}
use mathlib.Core.Bool.{Bool, true, false, cond}
use mathlib.Core.List.{List, [], ◌∷◌, ◌++◌}
use Prim.Native.Nat.{ℕ, ◌≤◌, ◌<◌}
use native.Mathlib.Omega.{arith}
use lib.Dec.{eqb, ltb}
use lib.ListN.{length}
use borrow.Author.Tests.{ltb-false}
use Rattle.formula.specs.Tree.{Op, exists, same_op, Tree, Binding, Prefix, Formula}
use Rattle.formula.specs.Expand.{after, among, occurs, occurring, later}
use Rattle.formula.specs.Solve.{those}
use Rattle.formula.specs.Outer.{existentials, block, depends, dependents, unused, too_few, outer_expanded, lowest_of}
use Rattle.sheet.specs.Format as sheet
use Rattle.sheet.specs.Format.{Bytes, Every}
use Rattle.sheet.specs.Sheet.{formula, sheet as sheet-of}
use Rattle.sheet.specs.Check.{Answer, refused, accepted, answer, passes, check_tests}
use Rattle.sheet.specs.Operations.{write, tidy_and_bound_tests}
use Rattle.sheet.specs.Outer.{copies, outer_tests, outer_call, Copied, outer_answer}
use Rattle.sheet.specs.Limits.{numbered, Within}
use Rattle.sheet.proofs.Tests.{passed-∷, passed-++, answer-passes, accepted_passes}
use Rattle.sheet.proofs.Limits.{numbered-∷, unused-count}
use Rattle.sheet.proofs.Accepted.{accepted_within}
use Rattle.sheet.proofs.Calls.{front_written}
use Rattle.sheet.proofs.Known.{refused_known, outer_known, outer_place}
use Rattle.sheet.proofs.Truthful.{outer_truthful}
use Rattle.rows.specs.Formats.{format_of}
use Rattle.rows.specs.declared.Format.{Format}
use Rattle.rows.proofs.Limits.{sound}
use Rattle.packing.specs.Unpacked.{FitsCopied}
use Rattle.packing.proofs.Ranges.{told, short, numbers_small}

-- rows with no number above the most
abbrev Low : ℕ → Prefix → Type 0
Low m p = Every (λ (z : Binding). z.variable ≤ m) p

low_numbered : (F : sheet.Format) (p : Prefix) → numbered F p ≡ true → Low F.most_variables p
low_numbered F [] h = tt
low_numbered F (z ∷ p) h = let n = numbered-∷ F z p h in (n.0, low_numbered F p n.1)

low_after : (m x : ℕ) (p : Prefix) → Low m p → Low m (after x p)
unfolding after
low_after m x [] l = tt
low_after m x (z ∷ p) l = by (eqb z.variable x) (low_after m x p l.1)
  where
    by : (c : Bool) → Low m (after x p) → Low m (cond c p (after x p))
    by true k = l.1
    by false k = k

low_among : (m : ℕ) (P : ℕ → Bool) (p : Prefix) → Low m p → Low m (among P p)
unfolding among
low_among m P [] l = tt
low_among m P (z ∷ p) l = by (P z.variable) (low_among m P p l.1)
  where
    by : (c : Bool) → Low m (among P p) → Low m (cond c (z ∷ among P p) (among P p))
    by true k = (l.0, k)
    by false k = k

low_existentials : (m : ℕ) (p : Prefix) → Low m p → Low m (existentials p)
unfolding existentials
low_existentials m [] l = tt
low_existentials m (z ∷ p) l = by (same_op exists z.quantifier) (low_existentials m p l.1)
  where
    by : (c : Bool) → Low m (existentials p) → Low m (cond c (z ∷ existentials p) (existentials p))
    by true k = (l.0, k)
    by false k = k

low_block : (m x : ℕ) (f : Formula) → Low m f.prefix → Low m (block x f)
unfolding block later occurring
low_block m x f l = low_existentials m _ (low_among m (occurs f.matrix) _ (low_after m x f.prefix l))

those_low : (m : ℕ) (P : ℕ → Bool) (p : Prefix) → Low m p → Every (λ (y : ℕ). y ≤ m) (those P p)
unfolding those
those_low m P [] l = tt
those_low m P (z ∷ p) l = by (P z.variable) (those_low m P p l.1)
  where
    by : (c : Bool) → Every (λ (y : ℕ). y ≤ m) (those P p) → Every (λ (y : ℕ). y ≤ m) (cond c (z.variable ∷ those P p) (those P p))
    by true k = (l.0, k)
    by false k = k

lowest_low : (m : ℕ) (ys : List ℕ) → Every (λ (y : ℕ). y ≤ m) ys → lowest_of ys ≤ m
unfolding lowest_of
lowest_low m [] l = omega arith
lowest_low m (y ∷ []) l = l.0
lowest_low m (y ∷ z ∷ ys) l = by (ltb y (lowest_of (z ∷ ys))) (lowest_low m (z ∷ ys) l.1)
  where
    by : (c : Bool) → lowest_of (z ∷ ys) ≤ m → cond c y (lowest_of (z ∷ ys)) ≤ m
    by true k = l.0
    by false k = k

-- no more are copied than numbers are unused
copied_most : (F : sheet.Format) (x : ℕ) (f : Formula) → Within F f → too_few F.most_variables x f ≡ false → length (dependents x f) ≤ F.most_variables
unfolding too_few
copied_most F x f w e =
    omega (arith, ltb-false (length (unused f.prefix F.most_variables 1)) (length (dependents x f)) e, unused-count F f w)

module _ (f : Format) (b : Bytes) (x : ℕ) (out : Bytes) where
  abbrev F : sheet.Format
  F = format_of f

  abbrev new : Bytes
  new = sheet-of F (outer_expanded F.most_variables x (formula F b))

  new_short : passes (outer_tests F b x (length out)) ≡ true → length new ≤ 46088
  unfolding outer_call write
  new_short p =
      let e = answer-passes (outer_tests F b x (length out)) (length new) p in
      let w = front_written (outer_tests F b x (length out)) new out (length new) e in
      short f new
      (subst (λ (c : Bytes). passes (check_tests F c) ≡ true) w.1 ((outer_truthful F (sound f) b x out refl).on_accepted (length new) e).is_accepted)

  values_fit : passes (outer_tests F b x (length out)) ≡ true
      → (length new < 65536) × (copies F b x < 65536) × (lowest_of (dependents x (formula F b)) < 65536)
  unfolding outer_tests copies dependents
  values_fit p =
      let parts = passed-++ (check_tests F b ++ tidy_and_bound_tests F b x) _ p in
      let checked = (passed-++ (check_tests F b) _ parts.0).0 in
      let w = accepted_within F b checked in
      let few = (passed-∷ _ _ (passed-∷ _ _ parts.1).1).0 in
      let low = low_block F.most_variables x (formula F b) (low_numbered F (formula F b).prefix w.is_numbered) in (
        omega (arith, new_short p),
        numbers_small f (copied_most F x (formula F b) w few),
        numbers_small f (lowest_low F.most_variables _ (those_low F.most_variables (depends x (formula F b)) (block x (formula F b)) low)),
      )

  pub outer_fits : FitsCopied (outer_answer F b x (length out))
  unfolding outer_answer
  outer_fits = by (outer_answer F b x (length out)) refl
    where
      by : (a : Answer Copied) → outer_answer F b x (length out) ≡ a → FitsCopied a
      by (refused n i) e =
          told f (refused_known (outer_tests F b x (length out)) _ (outer_known F b x (length out)) e) (outer_place F b _ x (length out) e)
      by (accepted c) e =
          let p = accepted_passes (outer_tests F b x (length out)) _ c e in
          subst (λ (d : Copied). (d.new_length < 65536) × (d.copied < 65536) × (d.lowest < 65536)) p.1 (values_fit p.0)
