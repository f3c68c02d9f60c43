-- Certificates: derivations of clauses (Q-resolution) and of cubes (term resolution), judged step by step. One definition serves both
-- sides: OR is the side of clauses and AND that of cubes.
-- Assumes nothing.
use Rattle.std.specs.Prelude.{◌≡◌, Bool, false, not, ◌&&◌, ◌||◌, cond, List, [], ◌∷◌, ◌++◌, map, ℕ, suc, eqb, length}
use Rattle.std.specs.Bool.{beq}
use Rattle.std.proofs.Math.Option.{Option, none, some}
use Rattle.std.proofs.Math.ListN.{get_elem?}
use Rattle.formula.specs.Tree.{Op, and, or, dual, same_op, Tree, lit, node, Forest, ∅, ◌▸◌, Prefix, Formula, binds, quantifier_of}
use Rattle.formula.specs.Truth.{join, unit}
use Rattle.formula.specs.Expand.{after}

-- a literal: its sign (true: the variable, false: its negation) and its variable's number
pub record Literal : Type 0 where
  pub sign : Bool
  pub variable : ℕ

abbrev pub negated : Literal → Literal
negated l = record { sign = not l.sign; variable = l.variable }

abbrev pub same_literal : Literal → Literal → Bool
same_literal l k = beq l.sign k.sign && eqb l.variable k.variable

-- a clause, or a cube: "a constraint is a list of literals"
abbrev pub Constraint : Type 0
Constraint = List Literal

unfoldable pub some_literal : (Literal → Bool) → Constraint → Bool
some_literal P [] = false
some_literal P (l ∷ c) = P l || some_literal P c

unfoldable pub holds : Constraint → Literal → Bool
holds c l = some_literal (same_literal l) c

unfoldable pub leave_out : Literal → Constraint → Constraint
leave_out l [] = []
leave_out l (k ∷ c) = cond (same_literal l k) (leave_out l c) (k ∷ leave_out l c)

-- how many children of an operator must be settled so that it is, all (AND) or one (OR): OR is false if all its children are, AND if one
-- is; AND is true if all are, OR if one is
abbrev pub needed : Op → Op → Op
needed or or = and
needed or and = or
needed and and = and
needed and or = or

-- initial: "a clause all of whose literals being false makes the matrix false, a cube all of whose literals being true makes it true,
-- read off the tree by recursion"
unfoldable mutual
  pub settles : Op → Constraint → Tree → Bool
  settles o c (lit s v) = holds c (record { sign = s; variable = v })
  settles o c (node k ts) = settles_each o c (needed o k) ts

  pub settles_each : Op → Constraint → Op → Forest → Bool
  settles_each o c j ∅ = unit j
  settles_each o c j (t ▸ ts) = join j (settles o c t) (settles_each o c j ts)

-- a literal "of the side's own quantifier" is behind x in the prefix
unfoldable pub own_behind : Op → Prefix → ℕ → Constraint → Bool
own_behind o p x c = some_literal (λ l. binds (after x p) l.variable && same_op o (quantifier_of p l.variable)) c

-- "it is bound, of the side's other quantifier (universal in a clause), no literal of the side's own quantifier .. stands behind it in
-- the prefix" (universal reduction, of a clause)
unfoldable pub reducible : Op → Prefix → Constraint → Literal → Bool
reducible o p c l =
    binds p l.variable && (same_op (dual o) (quantifier_of p l.variable) && not (own_behind o p l.variable c))

-- "or may go": it is reducible by "R and D" together, "and its complement is in neither"
unfoldable pub may_go : Op → Prefix → Constraint → Constraint → Literal → Bool
may_go o p r d l = reducible o p (r ++ d) l && not (holds (r ++ d) (negated l))

-- d follows from r: "each literal of R .. is in D, or may go"
unfoldable pub follows : Op → Prefix → Constraint → Constraint → Bool
follows o p r d = not (some_literal (λ l. not (holds d l || may_go o p r d l)) r)

-- "A without l and B without not l"
unfoldable pub resolvent : Literal → Constraint → Constraint → Constraint
resolvent l a b = leave_out l a ++ leave_out (negated l) b

-- a step: what its constraint comes from, and the constraint; antecedents are named by their numbers, from 0 on
pub data Reason : Type 0 where
  initial : Reason
  derived : Literal → ℕ → ℕ → Reason

pub record Inference : Type 0 where
  pub reason : Reason
  pub constraint : Constraint

-- a number that is no earlier step's makes a step invalid
unfoldable pub derives : Op → Prefix → Literal → Option Constraint → Option Constraint → Constraint → Bool
derives o p l none b d = false
derives o p l (some a) none d = false
derives o p l (some a) (some b) d = follows o p (resolvent l a b) d

unfoldable pub is_valid : Op → Formula → List Constraint → Reason → Constraint → Bool
is_valid o f earlier initial d = settles o d f.matrix
is_valid o f earlier (derived l m n) d = derives o f.prefix l (get_elem? earlier m) (get_elem? earlier n) d

-- how many steps are valid up to the first that isn't
unfoldable pub valid_steps : Op → Formula → List Constraint → List Inference → ℕ
valid_steps o f earlier [] = 0
valid_steps o f earlier (s ∷ ss) =
    cond (is_valid o f earlier s.reason s.constraint) (suc (valid_steps o f (earlier ++ (s.constraint ∷ [])) ss)) 0

unfoldable pub ends_empty : List Inference → Bool
ends_empty [] = false
ends_empty (s ∷ []) = eqb (length s.constraint) 0
ends_empty (s ∷ s' ∷ ss) = ends_empty (s' ∷ ss)

-- the verdict: clauses refute, cubes prove; or the number of the first step that isn't valid, or of all steps if the last constraint
-- isn't empty
pub data Certified : Type 0 where
  certain : Bool → Certified
  uncertain : ℕ → Certified

unfoldable pub certified : Op → Formula → List Inference → Certified
certified o f ss =
    let n = valid_steps o f [] ss in
    cond (eqb n (length ss) && ends_empty ss) (certain (unit o)) (uncertain n)

-- what the number in place of a verdict is relied on for: it is that of the first step that isn't valid
pub record FirstInvalid (o : Op) (f : Formula) (ss : List Inference) (n : ℕ) : Type 0 where
  pub before : List Inference
  pub step : Inference
  pub behind : List Inference
  pub is_split : ss ≡ before ++ (step ∷ behind)
  pub is_number : n ≡ length before
  pub all_valid : valid_steps o f [] before ≡ n
  pub is_invalid : is_valid o f (map (λ s. s.constraint) before) step.reason step.constraint ≡ false
