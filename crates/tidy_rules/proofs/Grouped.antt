-- The rules at children one after another: what some of them add to those before.
-- Assumes nothing.
use mathlib.Core.Path.{◌≡◌, refl, sym, ap, ap₂, ◌∙◌}
use mathlib.Core.Bool.{Bool, true, false, not, ◌&&◌, ◌||◌, and-false, false≢true}
use mathlib.Core.Logic.{⊎_elim}
use Prim.Native.Nat.{ℕ}
use lib.Dec.{eqb}
use borrow.Author.Tests.{not-false}
use Rattle.formula.specs.Tree.{Op, dual, Tree, lit, node, Forest, ∅, ◌▸◌, ◌⧺◌, some_child, some_two, keep}
use Rattle.formula.specs.Tidy.{is_empty, opposite, same_tree, same_variable, decides, firsts}
use Rattle.formula.proofs.Booleans.{cond_cases, and_parts, or_parts, or-none, or_cases, eqb_comm, or_swap}
use Rattle.formula.proofs.Forests.{some_child_less, some_child-⧺, some_child_same, keep_same, keep-⧺, keep-keep, some_child-or, some_two-⧺, keep_every}
use Rattle.formula.proofs.Tidy.Children.{firsts-all}
use Rattle.formula.proofs.Tidy.Same.{same_tree_same}
use Rattle.tidy_rules.specs.Segments.{Segment, gone, literal, operator, none, ◌◂◌, grown, live}
use Rattle.tidy_rules.specs.Rules.{decisive, repeated, new, Unopposed}

pub decides-⧺ : (o : Op) (ts us : Forest) → some_two opposite us ≡ false
    → decides o (ts ⧺ us) ≡ (decides o ts || some_child (decisive o ts) us)
unfolding decides decisive
decides-⧺ o ts us two =
    ap₂ ◌||◌ (some_child-⧺ (is_empty (dual o)) ts us) (some_two-⧺ opposite ts us) ∙
    ap (λ b. (E ts || E us) || (some_two opposite ts || (X || b))) two ∙
    mixed (E ts) (E us) (some_two opposite ts) X ∙
    ap (λ b. (E ts || some_two opposite ts) || b) (sym (some_child-or (is_empty (dual o)) (λ u. some_child (λ t. opposite t u) ts) us))
  where
    E : Forest → Bool
    E = some_child (is_empty (dual o))

    X : Bool
    X = some_child (λ u. some_child (λ t. opposite t u) ts) us

    mixed : (a b c d : Bool) → ((a || b) || (c || (d || false))) ≡ ((a || c) || (b || d))
    mixed true b c d = refl
    mixed false true true d = refl
    mixed false true false d = refl
    mixed false false c true = refl
    mixed false false c false = refl

pub decides-before : (o : Op) (ts us : Forest) → decides o ts ≡ true → decides o (ts ⧺ us) ≡ true
unfolding decides
decides-before o ts us e =
    ap₂ ◌||◌ (some_child-⧺ (is_empty (dual o)) ts us) (some_two-⧺ opposite ts us) ∙ still (some_child (is_empty (dual o)) ts) _ (some_two opposite ts) _ e
  where
    still : (a b c d : Bool) → (a || c) ≡ true → ((a || b) || (c || d)) ≡ true
    still true b c d e = refl
    still false true c d e = refl
    still false false true d e = refl
    still false false false d e = absurd (false≢true e)

-- rule 4

pub firsts-⧺ : (ts us : Forest) → firsts same_tree (ts ⧺ us) ≡ firsts same_tree ts ⧺ new ts (firsts same_tree us)
unfolding firsts ◌⧺◌ repeated some_child
firsts-⧺ ∅ us = sym (keep_every _ (λ t. refl) (firsts same_tree us))
firsts-⧺ (t ▸ ts) us =
    ap (λ ws. t ▸ ws)
    (ap (keep (λ u. not (same_tree t u))) (firsts-⧺ ts us) ∙ keep-⧺ (λ u. not (same_tree t u)) (firsts same_tree ts) (new ts (firsts same_tree us)) ∙
    ap (λ ws. keep (λ u. not (same_tree t u)) (firsts same_tree ts) ⧺ ws)
    (keep-keep (λ u. not (same_tree t u)) (λ u. not (repeated ts u)) (λ u. not (repeated (t ▸ ts) u)) (λ u. both (same_tree t u) (repeated ts u)) (firsts same_tree us)))
  where
    both : (a b : Bool) → not (a || b) ≡ (not b && not a)
    both true true = refl
    both true false = refl
    both false true = refl
    both false false = refl

twice : (a b : Bool) → (a || b) ≡ (a || (a || b))
twice true b = refl
twice false b = refl

-- the first of equal children passes the tests that the others do
some_child-firsts_is : (P : Tree → Bool) (ts : Forest) → some_child P (firsts same_tree ts) ≡ some_child P ts
unfolding some_child firsts keep
some_child-firsts_is P ∅ = refl
some_child-firsts_is P (t ▸ ts) = dropped (firsts same_tree ts) ∙ ap (λ b. P t || b) (some_child-firsts_is P ts)
  where
    dropped : (us : Forest) → (P t || some_child P (keep (λ u. not (same_tree t u)) us)) ≡ (P t || some_child P us)
    dropped ∅ = refl
    dropped (u ▸ us) =
        let rest = dropped us in
        cond_cases (λ ws. (P t || some_child P ws) ≡ (P t || (P u || some_child P us))) (not (same_tree t u))
        (λ _. or_swap (P t) (P u) _ ∙ ap (λ b. P u || b) rest ∙ or_swap (P u) (P t) _)
        (λ e. rest ∙ twice (P t) _ ∙ ap (λ w. P t || (P w || some_child P us)) (same_tree_same t u (not-false (same_tree t u) e)))

pub decisive-firsts : (o : Op) (ts us : Forest) → some_child (decisive o (firsts same_tree ts)) us ≡ some_child (decisive o ts) us
unfolding decisive
decisive-firsts o ts us = some_child_same (λ u. ap (λ b. is_empty (dual o) u || b) (some_child-firsts_is (λ t. opposite t u) ts)) us

pub new-firsts : (ts us : Forest) → new (firsts same_tree ts) us ≡ new ts us
unfolding repeated
new-firsts ts us = keep_same (λ u. ap not (some_child-firsts_is (λ t. same_tree t u) ts)) us

-- a child that is equal to one of others passes no test that all of them fail
repeated_fails : (P : Tree → Bool) (us : Forest) (u : Tree) → repeated us u ≡ true → some_child P us ≡ false → P u ≡ false
unfolding repeated some_child
repeated_fails P ∅ u r e = absurd (false≢true r)
repeated_fails P (t ▸ ts) u r e =
    let fails = or_parts (P t) (some_child P ts) e in
    ⊎_elim (λ q. ap P (sym (same_tree_same t u q)) ∙ fails.0) (λ q. repeated_fails P ts u q fails.1)
    (or_cases (same_tree t u) (repeated ts u) r)

opposite_comm : (t u : Tree) → opposite t u ≡ opposite u t
unfolding opposite
opposite_comm (node o ts) (node k us) = refl
opposite_comm (node o ts) (lit s v) = refl
opposite_comm (lit s v) (node o ts) = refl
opposite_comm (lit true v) (lit true w) = ap (λ b. b && false) (eqb_comm v w)
opposite_comm (lit true v) (lit false w) = ap (λ b. b && true) (eqb_comm v w)
opposite_comm (lit false v) (lit true w) = ap (λ b. b && true) (eqb_comm v w)
opposite_comm (lit false v) (lit false w) = ap (λ b. b && false) (eqb_comm v w)

equal_unopposed : (t u : Tree) → same_tree t u ≡ true → opposite t u ≡ false
unfolding same_tree opposite
equal_unopposed (node o ts) u e = refl
equal_unopposed (lit s v) (node o ts) e = refl
equal_unopposed (lit true v) (lit true w) e = and-false (eqb v w)
equal_unopposed (lit true v) (lit false w) e = absurd (false≢true (and_parts (eqb v w) _ e).1)
equal_unopposed (lit false v) (lit true w) e = absurd (false≢true (and_parts (eqb v w) _ e).1)
equal_unopposed (lit false v) (lit false w) e = and-false (eqb v w)

-- where no two are opposite, nothing is opposite to a child that is equal to one of them
repeated_unopposed : (us : Forest) (u : Tree) → Unopposed us → repeated us u ≡ true → some_child (λ t. opposite t u) us ≡ false
unfolding repeated some_child some_two
repeated_unopposed ∅ u two r = refl
repeated_unopposed (t ▸ ts) u two r =
    let apart = or_parts (some_child (opposite t) ts) (some_two opposite ts) two in
    ⊎_elim
    (λ q.
    or-none (equal_unopposed t u q)
    (some_child_same (λ w. opposite_comm w u ∙ ap (λ z. opposite z w) (sym (same_tree_same t u q))) ts ∙ apart.0))
    (λ q. or-none (repeated_fails (opposite t) ts u q apart.0) (repeated_unopposed ts u apart.1 q))
    (or_cases (same_tree t u) (repeated ts u) r)

pub repeated_indecisive : (o : Op) (us : Forest) (s : Bool) (v : ℕ) → Unopposed us → repeated us (lit s v) ≡ true
    → decisive o us (lit s v) ≡ false
unfolding decisive is_empty
repeated_indecisive o us s v two r = repeated_unopposed us (lit s v) two r

apart_opposite : (t u : Tree) → same_variable t u ≡ false → opposite t u ≡ false
unfolding same_variable opposite
apart_opposite (node o ts) u e = refl
apart_opposite (lit s v) (node o ts) e = refl
apart_opposite (lit s v) (lit s' v') e = rw e

apart_same : (t : Tree) (s : Bool) (v : ℕ) → same_variable t (lit s v) ≡ false → same_tree t (lit s v) ≡ false
unfolding same_variable same_tree
apart_same (node o ts) s v e = refl
apart_same (lit s' v') s v e = rw e

-- a literal of a variable that none of them has
pub record Unknown (o : Op) (us : Forest) (u : Tree) : Type 0 where
  pub indecisive : decisive o us u ≡ false
  pub unrepeated : repeated us u ≡ false

pub unknown : (o : Op) (us : Forest) (s : Bool) (v : ℕ) → some_child (λ t. same_variable t (lit s v)) us ≡ false → Unknown o us (lit s v)
unfolding decisive repeated is_empty
unknown o us s v e =
    record {
      indecisive = some_child_less (λ t. same_variable t (lit s v)) (λ t. opposite t (lit s v)) (λ t. apart_opposite t (lit s v)) us e;
      unrepeated = some_child_less (λ t. same_variable t (lit s v)) (λ t. same_tree t (lit s v)) (λ t. apart_same t s v) us e;
    }

-- a segment holds one tree at most, and no two
pub record Single (ts : Forest) : Type 0 where
  pub unopposed : some_two opposite ts ≡ false
  pub unequal : some_two same_tree ts ≡ false

pub single : (x : Segment) → Single (live (x ◂ none))
unfolding live grown some_two some_child
single (gone rs) = record { unopposed = refl; unequal = refl }
single (literal s v) = record { unopposed = refl; unequal = refl }
single (operator o ks) = record { unopposed = refl; unequal = refl }

pub firsts-single : {ts : Forest} → Single ts → firsts same_tree ts ≡ ts
firsts-single {ts} c = firsts-all same_tree ts c.unequal
