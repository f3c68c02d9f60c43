-- The innermost block: its variables are in the prefix, its last row is there, and spare rows apart it is the run of equal kinds at
-- the end of the prefix.
-- Assumes nothing.
use mathlib.Core.Path.{◌≡◌, refl, sym, ◌∙◌, ap}
use mathlib.Core.Bool.{Bool, true, false, not, ◌&&◌, ◌||◌, cond, false≢true, true≢false}
use mathlib.Core.List.{[], ◌∷◌}
use mathlib.Core.Option.{Option, none, some}
use Prim.Native.Nat.{ℕ}
use lib.Dec.{eqb}
use borrow.Author.Tests.{eqb-true, eq-eqb, ne_eqb, not-true}
use Rattle.formula.specs.Tree.{Tree, Binding, Prefix, Formula, binds, quantifier_of, distinct}
use Rattle.formula.specs.Settle.{settling, may_settle}
use Rattle.formula.specs.Expand.{all_of, after, among, occurs, occurring, later, innermost, in_last_block}
use Rattle.formula.specs.Solve.{those, earlier, least, is_some, lowest}
use Rattle.formula.proofs.Booleans.{and_parts}
use Rattle.formula.proofs.Prefixes.{after-binds, among-all}

-- a variable of the innermost block is in the prefix
pub innermost-binds : (x : ℕ) (f : Formula) → innermost x f ≡ true → binds f.prefix x ≡ true
unfolding innermost
innermost-binds x f h = (and_parts (binds f.prefix x) (all_of (quantifier_of f.prefix x) (later x f)) h).0

-- a row without a literal, of whatever kind, is not among those that count
pub occurring_spare : (t : Tree) (z : Binding) (p : Prefix) → occurs t z.variable ≡ false → occurring t (z ∷ p) ≡ occurring t p
unfolding occurring among
occurring_spare t z p e = ap (λ (m : Bool). cond m (z ∷ among (occurs t) p) (among (occurs t) p)) e

-- the run of equal kinds at the end: x is there, and every row after it is of its kind
last_block : (x : ℕ) (p : Prefix) → in_last_block x p ≡ (binds p x && all_of (quantifier_of p x) (after x p))
unfolding in_last_block binds quantifier_of after
last_block x [] = refl
last_block x (z ∷ p) = by (eqb z.variable x) (last_block x p)
  where
    by : (m : Bool) → in_last_block x p ≡ (binds p x && all_of (quantifier_of p x) (after x p))
        → cond m (all_of z.quantifier p) (in_last_block x p) ≡
        ((m || binds p x) && all_of (cond m z.quantifier (quantifier_of p x)) (cond m p (after x p)))
    by true e = refl
    by false e = e

-- where every row has a literal, it is the innermost block

abbrev pub AllOccur : Formula → Type 0
AllOccur f = (x : ℕ) → binds f.prefix x ≡ true → occurs f.matrix x ≡ true

pub innermost-last-block : (x : ℕ) (f : Formula) → AllOccur f → innermost x f ≡ in_last_block x f.prefix
unfolding innermost later occurring
innermost-last-block x f all =
    ap (λ q. binds f.prefix x && all_of (quantifier_of f.prefix x) q)
    (among-all (occurs f.matrix) (after x f.prefix) (λ v k. all v (after-binds x v f.prefix k))) ∙
    sym (last_block x f.prefix)

-- where nothing can be settled, every row has a literal: so Solve expands in that run

settles_absent : (x : ℕ) (f : Formula) → occurs f.matrix x ≡ false → is_some (may_settle x f) ≡ true
unfolding may_settle settling is_some
settles_absent x f e = rw e

none_passes : (before : ℕ → ℕ → Bool) (P : ℕ → Bool) (p : Prefix) → least before (those P p) ≡ none → (x : ℕ) → binds p x ≡ true → P x ≡ false
unfolding those least binds earlier
none_passes before P [] h x k = absurd (false≢true k)
none_passes before P (z ∷ p) h x k = by (P z.variable) refl h (eqb z.variable x) refl k (λ e b. none_passes before P p e x b)
  where
    chosen : (y : ℕ) (o : Option ℕ) → earlier before y o ≡ none → ⊥
    chosen y none e = let w : ◌≡◌ {A = Bool} true false = cc in true≢false w
    chosen y (some v) e = let w : ◌≡◌ {A = Bool} true false = cc in true≢false w

    by : (m : Bool) → P z.variable ≡ m → least before (cond m (z.variable ∷ those P p) (those P p)) ≡ none
        → (n : Bool) → eqb z.variable x ≡ n → (n || binds p x) ≡ true
        → (least before (those P p) ≡ none → binds p x ≡ true → P x ≡ false) → P x ≡ false
    by true e l n s b more = absurd (chosen z.variable (least before (those P p)) l)
    by false e l true s b more = ap P (sym (eqb-true z.variable x s)) ∙ e
    by false e l false s b more = more l b

pub unsettled_occur : (f : Formula) → lowest f ≡ none → AllOccur f
unfolding lowest
unsettled_occur f h x k = by (occurs f.matrix x) refl
  where
    by : (m : Bool) → occurs f.matrix x ≡ m → m ≡ true
    by true e = refl
    by false e =
        absurd (false≢true (sym (none_passes _ (λ y. is_some (may_settle y f)) f.prefix h x k) ∙ settles_absent x f e))

pub solve-block : (f : Formula) → lowest f ≡ none → (x : ℕ) → innermost x f ≡ in_last_block x f.prefix
solve-block f h x = innermost-last-block x f (unsettled_occur f h)

-- the last row of a prefix is in the innermost block, whatever has a literal
pub last-variable : (z : Binding) (p : Prefix) (t : Tree) → distinct (z ∷ p) ≡ true
    → (x : ℕ) × (innermost x (record { prefix = z ∷ p; matrix = t }) ≡ true)
unfolding innermost later occurring binds distinct all_of after among quantifier_of
last-variable z [] t d = (z.variable, rw (eq-eqb z.variable z.variable refl))
last-variable z (w ∷ p) t d =
    let parts = and_parts (not (binds (w ∷ p) z.variable)) (distinct (w ∷ p)) d in
    further (not-true (binds (w ∷ p) z.variable) parts.0) (last-variable w p t parts.1)
  where
    rest : Formula
    rest = record { prefix = w ∷ p; matrix = t }

    further : binds (w ∷ p) z.variable ≡ false → (x : ℕ) × (innermost x rest ≡ true)
        → (x : ℕ) × (innermost x (record { prefix = z ∷ w ∷ p; matrix = t }) ≡ true)
    further fresh l =
        let x = l.0 in
        let apart : eqb z.variable x ≡ false
        = ne_eqb z.variable x (λ e. false≢true (sym fresh ∙ ap (binds (w ∷ p)) e ∙ innermost-binds x rest l.1)) in (
          x,
          ap (λ (m : Bool). (m || binds (w ∷ p) x) &&
              all_of (cond m z.quantifier (quantifier_of (w ∷ p) x)) (among (occurs t) (cond m (w ∷ p) (after x (w ∷ p))))) apart ∙ l.1,
        )
