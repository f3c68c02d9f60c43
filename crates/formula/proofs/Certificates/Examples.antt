-- Certificates that pin the rules, computed in the definitions: one of each side, and derivations that are no proof.
-- Assumes nothing.
use mathlib.Core.Path.{◌≡◌, refl}
use mathlib.Core.Bool.{true, false}
use mathlib.Core.List.{List, [], ◌∷◌}
use Prim.Native.Nat.{ℕ}
use Rattle.formula.specs.Tree.{Op, and, or, exists, for_all, lit, node, ∅, ◌▸◌, Formula, binds, quantifier_of}
use Rattle.formula.specs.Expand.{after}
use Rattle.formula.specs.Certificates.{Literal, Constraint, initial, derived, Inference, some_literal, holds, leave_out, settles, own_behind, reducible}
use Rattle.formula.specs.Certificates.{may_go, follows, resolvent, derives, is_valid, valid_steps, ends_empty, Certified, certain, uncertain, certified}

abbrev pos : ℕ → Literal
pos v = record { sign = true; variable = v }

abbrev neg : ℕ → Literal
neg v = record { sign = false; variable = v }

abbrev start : Constraint → Inference
start c = record { reason = initial; constraint = c }

abbrev by : Literal → ℕ → ℕ → Constraint → Inference
by l m n c = record { reason = derived l m n; constraint = c }

-- the answer, with all that it computes with
answer : Op → Formula → List Inference → Certified
unfolding some_literal holds leave_out settles own_behind reducible may_go follows resolvent derives is_valid valid_steps ends_empty certified binds quantifier_of after
answer o f ss = certified o f ss

-- exists 1, for all 2, exists 3: (1 or 2 or 3) and (1 or not 3) and not 1
abbrev refutable : Formula
refutable =
    record {
      prefix =
          record { quantifier = exists; variable = 1 } ∷ record { quantifier = for_all; variable = 2 } ∷
          record { quantifier = exists; variable = 3 } ∷ [];
      matrix =
          node and
          (node or (lit true 1 ▸ lit true 2 ▸ lit true 3 ▸ ∅) ▸ node or (lit true 1 ▸ lit false 3 ▸ ∅) ▸ lit false 1 ▸ ∅);
    }

-- 3 is resolved on, then 2 goes; then 1
pub refuted :
    certified or refutable
    (start (pos 1 ∷ pos 2 ∷ pos 3 ∷ []) ∷ start (pos 1 ∷ neg 3 ∷ []) ∷ by (pos 3) 0 1 (pos 1 ∷ []) ∷ start (neg 1 ∷ []) ∷
    by (pos 1) 2 3 [] ∷ []) ≡ certain false
unfolding answer
refuted = refl

-- for all 1, exists 2: 1 is not 2
abbrev differing : Formula
differing =
    record {
      prefix = record { quantifier = for_all; variable = 1 } ∷ record { quantifier = exists; variable = 2 } ∷ [];
      matrix = node and (node or (lit true 1 ▸ lit true 2 ▸ ∅) ▸ node or (lit false 1 ▸ lit false 2 ▸ ∅) ▸ ∅);
    }

-- each cube holds a literal of both clauses; 2 goes, then 1 is resolved on
pub proved :
    certified and differing
    (start (pos 1 ∷ neg 2 ∷ []) ∷ by (neg 2) 0 0 (pos 1 ∷ []) ∷ start (pos 2 ∷ neg 1 ∷ []) ∷ by (pos 1) 1 2 [] ∷ []) ≡ certain true
unfolding answer
proved = refl

-- what would refute it: a universal literal doesn't go past the existential one behind it
pub past-existential :
    certified or differing
    (start (pos 1 ∷ pos 2 ∷ []) ∷ by (pos 1) 0 0 (pos 2 ∷ []) ∷ start (neg 1 ∷ neg 2 ∷ []) ∷ by (neg 1) 2 2 (neg 2 ∷ []) ∷
    by (pos 2) 1 3 [] ∷ []) ≡ uncertain 1
unfolding answer
past-existential = refl

-- nor do both literals of 1 in a tautology
pub tautology :
    certified or differing (start (pos 1 ∷ pos 2 ∷ []) ∷ start (neg 1 ∷ neg 2 ∷ []) ∷ by (pos 2) 0 1 [] ∷ []) ≡ uncertain 2
unfolding answer
tautology = refl

-- which is a valid step, and of which the literals that stay do no harm
pub tautology_stays :
    certified or differing
    (start (pos 1 ∷ pos 2 ∷ []) ∷ start (neg 1 ∷ neg 2 ∷ []) ∷ by (pos 2) 0 1 (pos 1 ∷ neg 1 ∷ []) ∷ []) ≡ uncertain 3
unfolding answer
tautology_stays = refl

-- a cube that misses a clause isn't initial, and a step's own number is no earlier one's
pub misses_clause : certified and differing (start (pos 1 ∷ []) ∷ []) ≡ uncertain 0
unfolding answer
misses_clause = refl

pub own_number : certified and differing (start (pos 1 ∷ neg 2 ∷ []) ∷ by (neg 2) 1 1 [] ∷ []) ≡ uncertain 1
unfolding answer
own_number = refl

-- no step proves nothing
pub no_step : certified and differing [] ≡ uncertain 0
unfolding answer
no_step = refl
