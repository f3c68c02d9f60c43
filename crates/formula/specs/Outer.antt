-- Expansion of a universal variable one block out (N6; document 000, section 5.2: non-innermost expansion).
-- Assumes nothing.
use Rattle.std.specs.Prelude.{Bool, false, ◌&&◌, ◌||◌, cond, List, [], ◌∷◌, ◌++◌, map, ℕ, zero, suc, eqb, ltb, length, take}
use Rattle.formula.specs.Tree.{and, same_op, exists, for_all, Tree, lit, node, Forest, ∅, ◌▸◌, Binding, Prefix, Formula, Literals, of}
use Rattle.formula.specs.Tree.{binds, quantifier_of, without, has, has_any, constant, assigned}
use Rattle.formula.specs.Tidy.{tidy}
use Rattle.formula.specs.Expand.{all_of, later, Copying, relevant, one_relevant, raw_tree, raw_rows}
use Rattle.formula.specs.Solve.{those}

-- any number of universal rows and then at least one existential, to the end
unfoldable pub universal_then_existential : Prefix → Bool
universal_then_existential [] = false
universal_then_existential (z ∷ p) = cond (same_op exists z.quantifier) (all_of exists p) (universal_then_existential p)

-- x is universal, and the later rows with literals are such rows
unfoldable pub one_block_out : ℕ → Formula → Bool
one_block_out x f =
    binds f.prefix x && (same_op for_all (quantifier_of f.prefix x) && universal_then_existential (later x f))

-- the existential block of these rows
unfoldable pub existentials : Prefix → Prefix
existentials [] = []
existentials (z ∷ p) = cond (same_op exists z.quantifier) (z ∷ existentials p) (existentials p)

unfoldable pub block : ℕ → Formula → Prefix
block x f = existentials (later x f)

-- does the relevant subtree of the literals L hold a literal of M? It is the literal where there is one alone, and else the deepest
-- operator above all of L with those of its children that hold one.
unfoldable mutual
  pub within : Literals → Literals → Tree → Bool
  within L M (lit s v) = M s v
  within L M (node o ts) = cond (one_relevant L ts) (within_below L M ts) (has_any M (relevant L ts))

  pub within_below : Literals → Literals → Forest → Bool
  within_below L M ∅ = false
  within_below L M (t ▸ ts) = cond (has L t) (within L M t) (within_below L M ts)

-- y has literals, and z has one in the relevant subtree of y
unfoldable pub touches : Tree → ℕ → ℕ → Bool
touches t y z = has (of y) t && within (of y) (of z) t

-- a set of variables, by its test; some row's variable is in it
unfoldable pub some_row : (ℕ → Bool) → Prefix → Bool
some_row P [] = false
some_row P (z ∷ p) = P z.variable || some_row P p

-- the block's variables with a literal in the relevant subtree of x; with those that a member touches; and so on, as often as the block
-- has rows
unfoldable pub touched : Tree → Prefix → ℕ → ℕ → Bool
touched t p x z = binds p z && touches t x z

unfoldable pub grown : Tree → Prefix → (ℕ → Bool) → ℕ → Bool
grown t p D z = D z || (binds p z && some_row (λ y. D y && touches t y z) p)

unfoldable pub stage : Tree → Prefix → ℕ → ℕ → ℕ → Bool
stage t p x zero = touched t p x
stage t p x (suc n) = grown t p (stage t p x n)

-- the depending variables
unfoldable pub depends : ℕ → Formula → ℕ → Bool
depends x f = stage f.matrix (block x f) x (length (block x f))

-- those to copy, in prefix order
unfoldable pub dependents : ℕ → Formula → List ℕ
dependents x f = those (depends x f) (block x f)

-- the numbers from i on, n of them, that are not in the prefix
unfoldable pub unused : Prefix → ℕ → ℕ → List ℕ
unused p zero i = []
unused p (suc n) i = cond (binds p i) (unused p n (suc i)) (i ∷ unused p n (suc i))

-- the smallest unused numbers, up to the highest, as many as there are variables to copy
unfoldable pub copies_of : ℕ → ℕ → Formula → List ℕ
copies_of highest x f = take (length (dependents x f)) (unused f.prefix highest 1)

-- fewer unused numbers are left than variables to copy
unfoldable pub too_few : ℕ → ℕ → Formula → Bool
too_few highest x f = ltb (length (unused f.prefix highest 1)) (length (dependents x f))

-- the i-th variable's new number is the i-th of the others
unfoldable pub renamed : List ℕ → List ℕ → ℕ → ℕ
renamed [] ns v = v
renamed (y ∷ ys) [] v = v
renamed (y ∷ ys) (n ∷ ns) v = cond (eqb v y) n (renamed ys ns v)

-- the literals of x and of all depending variables choose the subtree that is copied; joined by AND; the x = 0 copy keeps the names
abbrev pub chosen_by : ℕ → (ℕ → Bool) → Literals
chosen_by x D s v = eqb v x || D v

abbrev pub renaming : ℕ → List ℕ → List ℕ → Bool → ℕ → Tree
renaming x ys ns s v = cond (eqb v x) (constant s) (lit s (renamed ys ns v))

unfoldable pub outer_copying : ℕ → ℕ → Formula → Copying
outer_copying highest x f =
    record {
      chosen = chosen_by x (depends x f);
      joint = and;
      first = assigned x false;
      second = renaming x (dependents x f) (copies_of highest x f);
    }

-- an exists row
abbrev pub existential : ℕ → Binding
existential v = record { quantifier = exists; variable = v }

-- the raw sheet's formula: the row of x goes, the copies' rows close the prefix; and the tidied one
unfoldable pub raw_outer : ℕ → ℕ → Formula → Formula
raw_outer highest x f =
    record {
      prefix = without x f.prefix ++ map existential (copies_of highest x f);
      matrix = raw_tree (outer_copying highest x f) f.matrix;
    }

unfoldable pub outer_expanded : ℕ → ℕ → Formula → Formula
outer_expanded highest x f =
    record { prefix = (raw_outer highest x f).prefix; matrix = tidy (raw_outer highest x f).matrix }

-- raw rows are counted as in Expand, over all literals that choose
unfoldable pub outer_rows : ℕ → Formula → ℕ
outer_rows x f = raw_rows (chosen_by x (depends x f)) f.matrix

-- the lowest (old) number among those copied, 0 if there is none
unfoldable pub lowest_of : List ℕ → ℕ
lowest_of [] = 0
lowest_of (y ∷ []) = y
lowest_of (y ∷ z ∷ ys) = cond (ltb y (lowest_of (z ∷ ys))) y (lowest_of (z ∷ ys))
