-- The clauses by names are as true as the formula, in the clause profile, with no number twice and every literal bound.
-- Assumes nothing.
use mathlib.Core.Path.{◌≡◌, refl, sym, ◌∙◌, ap, ap₂}
use mathlib.Core.Bool.{Bool, true, false, not, ◌||◌, cond, or-true, true≢false}
use mathlib.Core.List.{List, [], ◌∷◌, ◌++◌}
use Prim.Native.Nat.{ℕ, zero, suc, ◌+◌, ◌≤◌, ◌<◌}
use native.Mathlib.Omega.{arith}
use lib.Dec.{eqb}
use lib.ListN.{length, get_or, length-take}
use borrow.Author.Tests.{eq-eqb, ne_eqb, not-true, not-false, ltb-false}
use Rattle.formula.specs.Tree.{and, Prefix, Formula, Literals, has, binds, distinct, closed}
use Rattle.formula.specs.Truth.{Assignment, put, join, eval, eval_all, bind, truth, Leads}
use Rattle.formula.specs.Outer.{unused}
use Rattle.formula.specs.Clausal.{conjuncts, named_all, clauses, fresh_names, too_few_names, clausal}
use Rattle.formula.proofs.Booleans.{and_parts, or_parts, eqb_comm, leads-both}
use Rattle.formula.proofs.Binding.{bind_ext}
use Rattle.formula.proofs.Evaluation.{eval_same, has_cover}
use Rattle.formula.proofs.Closed.{unbound}
use Rattle.formula.proofs.Outer.Fresh.{rows_of, unused-above, unused-below, unused-unbound, unused-distinct, take-binds, take-distinct}
use Rattle.formula.proofs.Outer.Witness.{witness, intro}
use Rattle.formula.proofs.Prefixes.{binds-++, distinct-++}
use Rattle.formula.proofs.Clausal.Names.{has-conjuncts, has-clauses}
use Rattle.formula.proofs.Clausal.Sound.{clausal_sound}
use Rattle.formula.proofs.Clausal.Complete.{named-values-all, length-named_all, clausal-complete}
use Rattle.formula.proofs.Outer.Truth.{all-existential}

bind-++ : (p q : Prefix) (f : Assignment → Bool) (ρ : Assignment) → bind (p ++ q) f ρ ≡ bind p (λ σ. bind q f σ) ρ
unfolding bind
bind-++ [] q f ρ = refl
bind-++ (z ∷ p) q f ρ =
    ap₂ (join z.quantifier) (bind-++ p q f (put ρ z.variable false)) (bind-++ p q f (put ρ z.variable true))

-- rows of names

binds_getD : (ns : List ℕ) (k : ℕ) → k < length ns → binds (rows_of ns) (get_or ns k 0) ≡ true
unfolding binds
binds_getD [] k h = absurd (omega arith)
binds_getD (n ∷ ns) zero h = ap (λ (m : Bool). m || binds (rows_of ns) n) (eq-eqb n n refl)
binds_getD (n ∷ ns) (suc k) h =
    ap (◌||◌ (eqb n (get_or ns k 0))) (binds_getD ns k (omega arith)) ∙ or-true (eqb n (get_or ns k 0))

-- names with values
given-values : List ℕ → List Bool → Assignment → Assignment
given-values [] bs σ = σ
given-values (n ∷ ns) [] σ = σ
given-values (n ∷ ns) (b ∷ bs) σ = put (given-values ns bs σ) n b

given_others : (ns : List ℕ) (bs : List Bool) (σ : Assignment) (v : ℕ) → binds (rows_of ns) v ≡ false → given-values ns bs σ v ≡ σ v
unfolding given-values binds
given_others [] bs σ v h = refl
given_others (n ∷ ns) [] σ v h = refl
given_others (n ∷ ns) (b ∷ bs) σ v h =
    let parts = or_parts (eqb n v) (binds (rows_of ns) v) h in
    ap (λ (m : Bool). cond m b (given-values ns bs σ v)) (eqb_comm v n ∙ parts.0) ∙ given_others ns bs σ v parts.1

given-value : (ns : List ℕ) (bs : List Bool) (σ : Assignment) → distinct (rows_of ns) ≡ true → (k : ℕ) → k < length ns → k < length bs
    → given-values ns bs σ (get_or ns k 0) ≡ get_or bs k false
unfolding given-values distinct
given-value [] bs σ d k h l = absurd (omega arith)
given-value (n ∷ ns) [] σ d k h l = absurd (omega arith)
given-value (n ∷ ns) (b ∷ bs) σ d zero h l = ap (λ (m : Bool). cond m b (given-values ns bs σ n)) (eq-eqb n n refl)
given-value (n ∷ ns) (b ∷ bs) σ d (suc k) h l =
    let parts = and_parts (not (binds (rows_of ns) n)) (distinct (rows_of ns)) d in
    let apart : eqb (get_or ns k 0) n ≡ false
    = ne_eqb (get_or ns k 0) n
    (λ e. true≢false (sym (binds_getD ns k (omega arith)) ∙ ap (binds (rows_of ns)) e ∙ not-true (binds (rows_of ns) n) parts.0)) in
    ap (λ (m : Bool). cond m b (given-values ns bs σ (get_or ns k 0))) apart ∙ given-value ns bs σ parts.1 k (omega arith) (omega arith)

module _ (highest : ℕ) (f : Formula) where
  abbrev ns : List ℕ
  ns = fresh_names highest f

  fresh : ℕ → ℕ
  fresh i = get_or ns i 0

  pub names-distinct : distinct (rows_of ns) ≡ true
  unfolding fresh_names
  names-distinct =
      take-distinct (named_all (conjuncts f.matrix)) (unused f.prefix highest 1) (unused-distinct f.prefix highest 1)

  pub names-unbound : (v : ℕ) → binds (rows_of ns) v ≡ true → binds f.prefix v ≡ false
  unfolding fresh_names
  names-unbound v h =
      unused-unbound f.prefix highest 1 v (take-binds (named_all (conjuncts f.matrix)) (unused f.prefix highest 1) v h)

  -- numbers from 1 up to the highest
  pub names_in_range : (v : ℕ) → binds (rows_of ns) v ≡ true → (1 ≤ v) × (v ≤ highest)
  unfolding fresh_names
  names_in_range v h =
      let b = take-binds (named_all (conjuncts f.matrix)) (unused f.prefix highest 1) v h in
      (unused-above f.prefix highest 1 v b, omega (arith, unused-below f.prefix highest 1 v b))

  new : Literals
  new s v = binds (rows_of ns) v

  -- no number twice
  pub distinct-clausal : distinct f.prefix ≡ true → distinct (clausal highest f).prefix ≡ true
  unfolding clausal
  distinct-clausal d = distinct-++ f.prefix (rows_of ns) d names-distinct names-unbound

  module _ (c : closed f ≡ true) (enough : too_few_names highest f ≡ false) where
    length-ns : length ns ≡ named_all (conjuncts f.matrix)
    unfolding fresh_names too_few_names
    length-ns =
        let many = ltb-false (length (unused f.prefix highest 1)) (named_all (conjuncts f.matrix)) enough in
        omega (arith, many, length-take (named_all (conjuncts f.matrix)) (unused f.prefix highest 1))

    -- no literal of the formula is a name's
    none-new : has new f.matrix ≡ false
    unfolding closed new
    none-new =
        let bound = not-true (has (unbound f.prefix) f.matrix) c in
        has_cover (unbound f.prefix) (unbound f.prefix) new (λ s v a b. by v (binds (rows_of ns) v) refl (not-false (binds f.prefix v) a))
        f.matrix bound bound
      where
        by : (v : ℕ) (m : Bool) → binds (rows_of ns) v ≡ m → binds f.prefix v ≡ true → m ≡ false
        by v true e b = absurd (true≢false (sym b ∙ names-unbound v e))
        by v false e b = refl

    matrix-true : (σ : Assignment) → bind (rows_of ns) (eval_all (clauses fresh 0 (conjuncts f.matrix)) and) σ ≡ eval f.matrix σ
    unfolding new fresh
    matrix-true σ = leads-both _ _ from-clauses to-clauses
      where
        from-clauses : Leads (bind (rows_of ns) (eval_all (clauses fresh 0 (conjuncts f.matrix)) and) σ) (eval f.matrix σ)
        from-clauses h =
            let w = witness (rows_of ns) (eval_all (clauses fresh 0 (conjuncts f.matrix)) and) σ (all-existential ns) h in
            eval_same new σ w.0 (λ s v n. sym (w.1 v n)) f.matrix none-new ∙ clausal_sound fresh w.0 f.matrix w.2

        bs : List Bool
        bs = named-values-all (conjuncts f.matrix) σ

        have : (j : ℕ) → j < length bs → given-values ns bs σ (fresh (0 + j)) ≡ get_or bs j false
        have j k =
            ap (λ (i : ℕ). given-values ns bs σ (fresh i)) (omega arith) ∙
            given-value ns bs σ names-distinct j (omega (arith, k, length-ns, length-named_all (conjuncts f.matrix) σ)) k

        to-clauses : Leads (eval f.matrix σ) (bind (rows_of ns) (eval_all (clauses fresh 0 (conjuncts f.matrix)) and) σ)
        to-clauses h =
            intro (rows_of ns) (eval_all (clauses fresh 0 (conjuncts f.matrix)) and) σ (given-values ns bs σ) (all-existential ns)
            (given_others ns bs σ)
            (clausal-complete fresh (given-values ns bs σ) σ new (λ s v n. given_others ns bs σ v n) f.matrix none-new have h)

    pub truth-clausal : truth (clausal highest f) ≡ truth f
    unfolding truth clausal eval fresh
    truth-clausal =
        bind-++ f.prefix (rows_of ns) (eval_all (clauses (λ i. get_or ns i 0) 0 (conjuncts f.matrix)) and) (λ _. false) ∙
        bind_ext f.prefix (λ σ. matrix-true σ) (λ _. false)

    -- every literal is bound
    pub closed-clausal : closed (clausal highest f) ≡ true
    unfolding closed clausal has fresh
    closed-clausal =
        ap not
        (has-clauses all fresh (length ns) name-bound (conjuncts f.matrix) 0 (omega (arith, length-ns))
        (has-conjuncts all f.matrix (has_cover (unbound f.prefix) (unbound f.prefix) all old f.matrix bound bound)))
      where
        all : Literals
        all = unbound (f.prefix ++ rows_of ns)

        bound : has (unbound f.prefix) f.matrix ≡ false
        bound = not-true (has (unbound f.prefix) f.matrix) c

        old : (s : Bool) (v : ℕ) → unbound f.prefix s v ≡ false → unbound f.prefix s v ≡ false → all s v ≡ false
        old s v a b =
            ap not
            (binds-++ f.prefix (rows_of ns) v ∙ ap (λ (m : Bool). m || binds (rows_of ns) v) (not-false (binds f.prefix v) a))

        name-bound : (s : Bool) (k : ℕ) → k < length ns → all s (fresh k) ≡ false
        name-bound s k h =
            ap not
            (binds-++ f.prefix (rows_of ns) (get_or ns k 0) ∙ ap (◌||◌ (binds f.prefix (get_or ns k 0))) (binds_getD ns k h) ∙
            or-true (binds f.prefix (get_or ns k 0)))
