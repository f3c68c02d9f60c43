-- A step of a list: what it leaves of the prefix, of the tree's value and of its literals; and induction over the steps, from the last to
-- the first.
-- Assumes nothing.
use mathlib.Core.Path.{◌≡◌, refl, ap}
use mathlib.Core.Bool.{Bool, true, false, ◌&&◌, cond, beq, false≢true}
use mathlib.Core.List.{List, [], ◌∷◌}
use mathlib.Core.Logic.{◌⊎◌, inl, inr}
use mathlib.Core.Option.{Option, none, some, get_or}
use Prim.Native.Nat.{ℕ}
use lib.Dec.{eqb}
use Rattle.formula.specs.Tree.{Quantifier, Tree, lit, constant, Formula, of, has, assigned, assign, binds, quantifier_of, without, distinct, closed}
use Rattle.formula.specs.Truth.{Assignment, eval}
use Rattle.formula.specs.Tidy.{tidied}
use Rattle.formula.specs.Settle.{may_settle, settled}
use Rattle.formula.specs.Expand.{occurs, innermost, copying, expand_tree, raw_tree, raw, expanded}
use Rattle.formula.specs.Solve.{is_some}
use Rattle.formula.specs.Strategy.{Pair, Pairs, owns, function_by, function_of, Move, settle, expand, moved, allowed, made, after_move, reached, left, strategy}
use Rattle.formula.proofs.Booleans.{and_parts}
use Rattle.formula.proofs.Evaluation.{has-replace, has-constant}
use Rattle.formula.proofs.Tidy.Growth.{has-tidy}
use Rattle.formula.proofs.Closed.{distinct_without, has-expand, closed-assigned, closed-raw}
use Rattle.formula.proofs.Innermost.{innermost-binds}
use Rattle.formula.proofs.Steps.{proper_tidied}
use Rattle.formula.proofs.Strategy.Function.{both, eval-settled, eval-expanded}

-- no number twice, and every literal bound
pub record Prenex (f : Formula) : Type 0 where
  pub is_distinct : distinct f.prefix ≡ true
  pub is_closed : closed f ≡ true

pub prenex_tidied : (f : Formula) → Prenex f → Prenex (tidied f)
prenex_tidied f s =
    let p = proper_tidied f s.is_distinct s.is_closed in
    record { is_distinct = p.is_distinct; is_closed = p.is_closed }

-- a formula from which a step took x
pub record Taken (x : ℕ) (f f' : Formula) : Type 0 where
  pub was_bound : binds f.prefix x ≡ true
  pub prefix_is : f'.prefix ≡ without x f.prefix
  pub still_prenex : Prenex f → Prenex f'
  pub value_is : (ρ : Assignment) → eval f'.matrix ρ ≡ both (quantifier_of f.prefix x) x f.matrix ρ
  pub still_absent : (v : ℕ) → occurs f.matrix v ≡ false → occurs f'.matrix v ≡ false

absent_assigned : (x : ℕ) (b : Bool) (v : ℕ) (s : Bool) (u : ℕ) → of v s u ≡ false → has (of v) (assigned x b s u) ≡ false
unfolding has
absent_assigned x b v s u h = by (eqb u x)
  where
    by : (m : Bool) → has (of v) (cond m (constant (beq s b)) (lit s u)) ≡ false
    by true = has-constant (of v) (beq s b)
    by false = h

taken_settled : (x : ℕ) (b : Bool) (f : Formula) → binds f.prefix x ≡ true → may_settle x f ≡ some b → Taken x f (settled x b f)
unfolding settled tidied assign
taken_settled x b f h e =
    record {
      was_bound = h;
      prefix_is = refl;
      still_prenex =
          λ s. prenex_tidied (record { prefix = without x f.prefix; matrix = assign x b f.matrix })
          (record {
            is_distinct = distinct_without x f.prefix s.is_distinct;
            is_closed = closed-assigned x b f s.is_closed;
          });
      value_is = eval-settled x b f e;
      still_absent =
          λ v k. has-tidy (of v) (assign x b f.matrix) (has-replace (of v) (of v) (assigned x b) (absent_assigned x b v) f.matrix k);
    }

absent_raw : (q : Quantifier) (x v : ℕ) (t : Tree) → occurs t v ≡ false → occurs (raw_tree (copying q x) t) v ≡ false
unfolding raw_tree
absent_raw q x v t k = by (has (of x) t)
  where
    by : (m : Bool) → has (of v) (cond m (expand_tree (copying q x) t) t) ≡ false
    by true =
        has-expand (copying q x) (of v) (of v) (absent_assigned x false v) (absent_assigned x true v) (λ s u apart h. h) t k
    by false = k

taken_expanded : (x : ℕ) (f : Formula) → innermost x f ≡ true → Taken x f (expanded x f)
unfolding expanded raw tidied
taken_expanded x f h =
    record {
      was_bound = innermost-binds x f h;
      prefix_is = refl;
      still_prenex =
          λ s. prenex_tidied (raw x f)
          (record { is_distinct = distinct_without x f.prefix s.is_distinct; is_closed = closed-raw x f s.is_closed });
      value_is = eval-expanded x f;
      still_absent =
          λ v k. has-tidy (of v) (raw_tree (copying (quantifier_of f.prefix x) x) f.matrix)
          (absent_raw (quantifier_of f.prefix x) x v f.matrix k);
    }

pub is_some-value : (o : Option Bool) → is_some o ≡ true → o ≡ some (get_or o false)
unfolding is_some
is_some-value none h = absurd (false≢true h)
is_some-value (some b) h = refl

pub taken_made : (m : Move) (f : Formula) → allowed m f ≡ true → Taken (moved m) f (made m f)
taken_made (settle x) f h =
    let parts = and_parts (binds f.prefix x) (is_some (may_settle x f)) h in
    taken_settled x (get_or (may_settle x f) false) f parts.0 (is_some-value (may_settle x f) parts.1)
taken_made (expand x) f h = taken_expanded x f h

-- a step that settles gives a constant function, one that expands is in the innermost block
pub constant-or-innermost : (m : Move) (f : Formula) → allowed m f ≡ true
    → ((b : Bool) × (function_of (moved m) f ≡ constant b)) ⊎ (innermost (moved m) f ≡ true)
unfolding function_of function_by
constant-or-innermost (settle x) f h =
    let parts = and_parts (binds f.prefix x) (is_some (may_settle x f)) h in
    let b = get_or (may_settle x f) false in
    inl (b, ap (function_by (quantifier_of f.prefix x) x f.matrix) (is_some-value (may_settle x f) parts.1))
constant-or-innermost (expand x) f h = inr h

-- the pair of a step's variable
abbrev pub pair_of : Move → Formula → Pair
pair_of m f = record { variable = moved m; function = function_of (moved m) f }

-- What holds where a list ends, and of each formula that a step is made from if of the one that it leads to, holds of the first formula.
module _ (q : Quantifier) (C : Formula → Pairs → Type 0)
    (own : (m : Move) (f : Formula) (g : Pairs) → Prenex f → allowed m f ≡ true → owns q f.prefix (moved m) ≡ true → C (made m f) g
    → C f (pair_of m f ∷ g))
    (other : (m : Move) (f : Formula) (g : Pairs) → Prenex f → allowed m f ≡ true → owns q f.prefix (moved m) ≡ false → C (made m f) g → C f g)
  where
    pub strategy-induction : (ms : List Move) (f : Formula) → Prenex f
        → (Prenex (reached ms f) → C (reached ms f) (left q (reached ms f).prefix)) → C f (strategy q ms f)
    unfolding strategy reached after_move
    strategy-induction [] f s last = last s
    strategy-induction (m ∷ ms) f s last =
        by (allowed m f) refl (owns q f.prefix (moved m)) refl last (λ f' s' k. strategy-induction ms f' s' k)
      where
        End : Formula → Type 0
        End f' = Prenex (reached ms f') → C (reached ms f') (left q (reached ms f').prefix)

        by : (a : Bool) → allowed m f ≡ a → (o : Bool) → owns q f.prefix (moved m) ≡ o → End (cond a (made m f) f)
            → ((f' : Formula) → Prenex f' → End f' → C f' (strategy q ms f'))
            → C f
            (cond (a && o) (pair_of m f ∷ strategy q ms (cond a (made m f) f)) (strategy q ms (cond a (made m f) f)))
        by false a o k e more = more f s e
        by true a true k e more = own m f (strategy q ms (made m f)) s a k (more (made m f) ((taken_made m f a).still_prenex s) e)
        by true a false k e more = other m f (strategy q ms (made m f)) s a k (more (made m f) ((taken_made m f a).still_prenex s) e)
