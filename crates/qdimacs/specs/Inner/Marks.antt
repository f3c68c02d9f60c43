-- Marks by variable number: 1 bound, 2 free, 0 neither.
-- Assumes nothing.
use Rattle.std.specs.Prelude.{◌≡◌, Bool, true, false, not, ◌&&◌, ◌||◌, cond, List, [], ◌∷◌, ◌++◌, ℕ, zero, suc, ◌+◌, ◌≤◌, eqb, ltb, leb, ℤ, length, get_or, set}
use Rattle.formula.specs.Tree.{exists, Prefix, binds, distinct}
use Rattle.sheet.specs.Format.{Bytes}
use Rattle.sheet.specs.Qdimacs.{Token, all, named}
use Rattle.sheet.specs.Texts.{up_to}
use Rattle.words.specs.Literals.{variable}
use Rattle.words.specs.declared.token.Token as code
use Rattle.qdimacs.specs.Inner.Lists.{between, ordered, clause_tokens, bound_from, whole_lists}
use Rattle.qdimacs.specs.Inner.Cursor.{tokens_at}
use Rattle.qdimacs.specs.Inner.Clauses.{literal_said}
use Rattle.qdimacs.specs.declared.marks.Bound.{Bound}

-- words that are well listed, with numbers that a table has
pub record Listed (b : Bytes) : Type 0 where
  pub well : (ordered between (tokens_at b 0) && whole_lists false (clause_tokens between (tokens_at b 0))) ≡ true
  pub below : all (up_to 1024) (tokens_at b 0) ≡ true

abbrev pub bindings_in : Bytes → Prefix
bindings_in b = bound_from between (tokens_at b 0)

-- what is found, and the marks, after a word of a quantifier line
abbrev pub found_with : Bound → code.Token → List ℕ → Bound
found_with f t m =
    cond (eqb t.class 7)
    (cond (eqb (get_or m t.magnitude 0) 1) (record { twice = true; count = f.count + 1 }) (record { twice = f.twice; count = f.count + 1 })) f

abbrev pub marks_with : code.Token → List ℕ → List ℕ
marks_with t m = cond (eqb t.class 7) (cond (eqb (get_or m t.magnitude 0) 1) m (set m t.magnitude 1)) m

-- the numbers marked are those that the prefix binds
pub record Marked (p : Prefix) (m : List ℕ) : Type 0 where
  pub size : length m ≡ 1025
  pub bound_is : (x : ℕ) → binds p x ≡ eqb (get_or m x 0) 1
  pub others : (x : ℕ) → eqb (get_or m x 0) 0 ≡ not (eqb (get_or m x 0) 1)

pub record Binds (b : Bytes) (f : Bound) (m : List ℕ) : Type 0 where
  pub once_is : distinct (bindings_in b) ≡ not f.twice
  pub count_is : f.count ≡ length (bindings_in b)
  pub marked : Marked (bindings_in b) m

-- the marks after a literal of a clause, and after a word of one
abbrev pub named_by : ℤ → List ℕ → List ℕ
named_by l m = cond (leb 1025 (variable l)) m (cond (eqb (get_or m (variable l) 0) 0) (set m (variable l) 2) m)

abbrev pub named_with : code.Token → List ℕ → List ℕ
named_with t m = cond (ltb t.class 6) m (named_by (literal_said t) m)

-- x is free once the words that are left are marked
abbrev pub free_with : List ℕ → List Token → ℕ → Bool
free_with m ts x = eqb (get_or m x 0) 2 || (eqb (get_or m x 0) 0 && named x ts)

pub record Names (b : Bytes) (from : ℕ) (m new : List ℕ) : Type 0 where
  pub size : length new ≡ 1025
  pub free_is : (x : ℕ) → 1 ≤ x → x ≤ 1024 → eqb (get_or new x 0) 2 ≡ free_with m (tokens_at b from) x

-- the bindings of the free numbers
unfoldable pub frees : List ℕ → ℕ → Prefix
frees m zero = []
frees m (suc n) = frees m n ++ cond (eqb (get_or m (suc n) 0) 2) (record { quantifier = exists; variable = suc n } ∷ []) []
