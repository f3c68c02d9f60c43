-- Where Solve stops, two variables at least are left: a lone one always settles.
-- Assumes nothing.
use mathlib.Core.Path.{◌≡◌, refl, sym, ◌∙◌, ap}
use mathlib.Core.Bool.{Bool, true, false, not, ◌||◌, or-false, true≢false}
use mathlib.Core.List.{[], ◌∷◌}
use mathlib.Core.Option.{none, some}
use Prim.Native.Nat.{ℕ, ◌≤◌}
use native.Mathlib.Omega.{arith}
use lib.Dec.{eqb}
use lib.ListN.{length}
use borrow.Author.Tests.{eqb-true, eq-eqb, not-true, not-false}
use Rattle.formula.specs.Tree.{and, or, Tree, lit, node, Forest, ∅, ◌▸◌, Binding, Prefix, Formula, Literals, of, binds, has, has_any, closed, some_child, some_two}
use Rattle.formula.specs.Tidy.{same_variable, verdict, alone, childless, breaks, faults, faults_all, root_faults, any, is_tidy}
use Rattle.formula.specs.Settle.{is_lit, at_root, may_take, settling, may_settle}
use Rattle.formula.specs.Solve.{those, earlier, least, is_some, lowest, Fits}
use Rattle.formula.specs.Right.{Stuck}
use Rattle.formula.proofs.Booleans.{or_parts, or-none, eqb_comm}
use Rattle.formula.proofs.Evaluation.{has_cover}
use Rattle.formula.proofs.Tidy.Limits.{any-++, limits, faulty_root}
use Rattle.formula.proofs.Closed.{unbound}
use Rattle.formula.proofs.Steps.{Proper, decided_without-variables}

-- literals of another variable
abbrev other : ℕ → Literals
other x s v = not (eqb v x)

-- a child that is no literal of x
abbrev strange : ℕ → Tree → Bool
strange x t = not (is_lit (of x) t)

-- two children, each a literal of x, are literals of one variable
two_literals : (x : ℕ) (ts : Forest) → childless ts ≡ false → alone ts ≡ false → some_child (strange x) ts ≡ false
    → some_two same_variable ts ≡ true
unfolding childless alone some_child some_two is_lit same_variable
two_literals x ∅ c a h = absurd (true≢false c)
two_literals x (t ▸ ∅) c a h = absurd (true≢false a)
two_literals x (lit s v ▸ lit r w ▸ ts) c a h =
    let first = or_parts (not (eqb v x)) (not (eqb w x) || some_child (strange x) ts) h in
    let second = or_parts (not (eqb w x)) (some_child (strange x) ts) first.1 in
    let same : v ≡ w = eqb-true v x (not-false (eqb v x) first.0) ∙ sym (eqb-true w x (not-false (eqb w x) second.0)) in
    ap (λ (m : Bool). m || some_child (same_variable (lit s v)) ts || some_two same_variable (lit r w ▸ ts)) (eq-eqb v w same)
two_literals x (lit s v ▸ node o us ▸ ts) c a h =
    absurd (true≢false (or_parts (not (eqb v x)) true h).1)
two_literals x (node o us ▸ t ▸ ts) c a h = absurd (true≢false h)

-- in one variable alone, a tidy operator has no such children
one_variable : (x : ℕ) (ts : Forest) → childless ts ≡ false → alone ts ≡ false → some_two same_variable ts ≡ false
    → some_child (strange x) ts ≡ false → ⊥
one_variable x ts c a t h = true≢false (sym (two_literals x ts c a h) ∙ t)

mutual
  unfolding faults any has some_child is_lit

  lone_below : (x : ℕ) (t : Tree) → any (faults t) ≡ false → has (other x) t ≡ false → strange x t ≡ false
  lone_below x (lit s v) h k = k
  lone_below x (node o ts) h k =
      let l = limits o ts (faulty_root (node o ts) h) in
      let parts = or_parts (childless ts || breaks o ts) (any (faults_all ts)) h in
      absurd
      (one_variable x ts (or_parts (childless ts) (breaks o ts) parts.0).0 l.many l.variables (lone_among x ts parts.1 k))

  lone_among : (x : ℕ) (ts : Forest) → any (faults_all ts) ≡ false → has_any (other x) ts ≡ false → some_child (strange x) ts ≡ false
  lone_among x ∅ h k = refl
  lone_among x (t ▸ ts) h k =
      let clean = or_parts (any (faults t)) (any (faults_all ts)) (sym (any-++ (faults t) (faults_all ts)) ∙ h) in
      let parts = or_parts (has (other x) t) (has_any (other x) ts) k in
      or-none (lone_below x t clean.0 parts.0) (lone_among x ts clean.1 parts.1)

-- so an undecided tidy tree in one variable is a literal, and that settles
lone_settles : (x : ℕ) (z : Binding) (t : Tree) → is_tidy t ≡ true → verdict t ≡ none → has (other x) t ≡ false
    → is_some (may_settle x (record { prefix = z ∷ []; matrix = t })) ≡ true
unfolding is_tidy root_faults any verdict has childless may_settle settling may_take at_root is_some
lone_settles x z (lit s v) n u k = by s (not-false (eqb v x) k)
  where
    by : (s : Bool) → eqb v x ≡ true → is_some (may_settle x (record { prefix = z ∷ []; matrix = lit s v })) ≡ true
    by true e = rw e
    by false e = rw e
lone_settles x z (node and ∅) n u k = let w : ◌≡◌ {A = Bool} true false = cc in absurd (true≢false w)
lone_settles x z (node or ∅) n u k = let w : ◌≡◌ {A = Bool} true false = cc in absurd (true≢false w)
lone_settles x z (node o (t ▸ ts)) n u k =
    let clean = not-true (any (root_faults (node o (t ▸ ts)))) n in
    let l = limits o (t ▸ ts) clean in
    absurd (one_variable x (t ▸ ts) refl l.many l.variables (lone_among x (t ▸ ts) (or_parts (breaks o (t ▸ ts)) (any (faults_all (t ▸ ts))) clean).1 k))

-- the lowest of one row
lowest_lone : (z : Binding) (t : Tree) → is_some (may_settle z.variable (record { prefix = z ∷ []; matrix = t })) ≡ true
    → lowest (record { prefix = z ∷ []; matrix = t }) ≡ some z.variable
unfolding lowest those least earlier
lowest_lone z t h = rw h

-- of one row every literal is that row's
own_literals : (z : Binding) (t : Tree) → closed (record { prefix = z ∷ []; matrix = t }) ≡ true → has (other z.variable) t ≡ false
unfolding closed binds
own_literals z t h = has_cover (unbound (z ∷ [])) (unbound (z ∷ [])) (other z.variable) own t none none
  where
    none : has (unbound (z ∷ [])) t ≡ false
    none = not-true (has (unbound (z ∷ [])) t) h

    own : (s : Bool) (v : ℕ) → unbound (z ∷ []) s v ≡ false → unbound (z ∷ []) s v ≡ false → other z.variable s v ≡ false
    own s v a b = ap not (eqb_comm v z.variable ∙ sym (or-false (eqb z.variable v))) ∙ a

pub two_left : (fits : Fits) (f : Formula) (x : ℕ) → Proper f → Stuck fits f x → 2 ≤ length f.prefix
two_left fits f x p s = by f.prefix f.matrix p s.undecided s.nothing_settles
  where
    by : (q : Prefix) (t : Tree) → Proper (record { prefix = q; matrix = t }) → verdict t ≡ none
        → lowest (record { prefix = q; matrix = t }) ≡ none → 2 ≤ length q
    by [] t w u n =
        let d = decided_without-variables (record { prefix = []; matrix = t }) w refl in
        let e : verdict t ≡ some d.0 = d.1 in
        let k : ◌≡◌ {A = Bool} true false = cc in
        absurd (true≢false k)
    by (z ∷ []) t w u n =
        let settles = lowest_lone z t (lone_settles z.variable z t w.is_neat u (own_literals z t w.is_closed)) in
        let k : ◌≡◌ {A = Bool} true false = cc in
        absurd (true≢false k)
    by (z ∷ y ∷ q) t w u n = omega arith
