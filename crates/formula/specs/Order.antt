-- The order on subtrees, sorting by it, and comparing two formulas (N14).
-- Assumes nothing.
use Rattle.std.specs.Prelude.{Bool, true, false, cond, not, ◌||◌, [], ◌∷◌, ℕ, ltb, length, ◌≡◌}
use Rattle.formula.specs.Tree.{Op, and, or, Quantifier, Tree, lit, node, Forest, ∅, ◌▸◌, Binding, Prefix, Formula, count, some_child, some_two}
use Rattle.formula.specs.Tidy.{is_op, duplicate, same_variable, alone, childless}

infixr 40 ◌then◌
pub data Ordering : Type 0 where
  before same after : Ordering

-- the first comparison, or the second where the first finds no difference
abbrev pub ◌then◌ : Ordering → Ordering → Ordering
before then o = before
same then o = o
after then o = after

unfoldable pub compare_numbers : ℕ → ℕ → Ordering
compare_numbers a b = cond (ltb a b) before (cond (ltb b a) after same)

-- AND before OR
abbrev pub operator_rank : Op → ℕ
operator_rank and = 1
operator_rank or = 2

-- positive first
abbrev pub sign_rank : Bool → ℕ
sign_rank true = 1
sign_rank false = 2

-- Literals before AND before OR; literals by variable, positive first; operators by number of children, then child after child.
unfoldable mutual
  pub compare_trees : Tree → Tree → Ordering
  compare_trees (lit s v) (lit s' v') = compare_numbers v v' then compare_numbers (sign_rank s) (sign_rank s')
  compare_trees (lit s v) (node o us) = before
  compare_trees (node o ts) (lit s v) = after
  compare_trees (node o ts) (node k us) =
      compare_numbers (operator_rank o) (operator_rank k) then compare_numbers (count ts) (count us) then compare_children ts us

  pub compare_children : Forest → Forest → Ordering
  compare_children ∅ ∅ = same
  compare_children ∅ (u ▸ us) = before
  compare_children (t ▸ ts) ∅ = after
  compare_children (t ▸ ts) (u ▸ us) = compare_trees t u then compare_children ts us

-- in order: not the later one first
abbrev pub not_after : Ordering → Bool
not_after before = true
not_after same = true
not_after after = false

unfoldable pub leads : Tree → Tree → Bool
leads t u = not_after (compare_trees t u)

-- a tree put in front of the first that it may stand before
unfoldable pub insert : Tree → Forest → Forest
insert t ∅ = t ▸ ∅
insert t (u ▸ us) = cond (leads t u) (t ▸ u ▸ us) (u ▸ insert t us)

-- all children in order, leaves up
unfoldable mutual
  pub sort : Tree → Tree
  sort (lit s v) = lit s v
  sort (node o ts) = node o (sort_all ts)

  pub sort_all : Forest → Forest
  sort_all ∅ = ∅
  sort_all (t ▸ ts) = insert (sort t) (sort_all ts)

unfoldable pub sorted : Formula → Formula
sorted f = record { prefix = f.prefix; matrix = sort f.matrix }

-- kinds: 1 exists, 2 for all
abbrev pub quantifier_rank : Quantifier → ℕ
quantifier_rank or = 1
quantifier_rank and = 2

-- row by row, kind before argument
unfoldable pub compare_bindings : Binding → Binding → Ordering
compare_bindings y z =
    compare_numbers (quantifier_rank y.quantifier) (quantifier_rank z.quantifier) then
    compare_numbers y.variable z.variable

unfoldable pub compare_bound : Prefix → Prefix → Ordering
compare_bound [] [] = same
compare_bound [] (z ∷ q) = before
compare_bound (y ∷ p) [] = after
compare_bound (y ∷ p) (z ∷ q) = compare_bindings y z then compare_bound p q

-- prefixes, fewer rows first, then row by row; then sorted trees
unfoldable pub compare_prefixes : Prefix → Prefix → Ordering
compare_prefixes p q = compare_numbers (length p) (length q) then compare_bound p q

unfoldable pub compare_formulas : Formula → Formula → Ordering
compare_formulas f g = compare_prefixes f.prefix g.prefix then compare_trees (sort f.matrix) (sort g.matrix)

-- Trees that differ only in the order of children: the same literal, or the same operator with two neighbours exchanged or a child changed
-- in this way, any number of times.
mutual
  pub data Rearranged : Tree → Tree → Type 0 where
    literal : (s : Bool) (v : ℕ) → Rearranged (lit s v) (lit s v)
    operator : (o : Op) {ts us : Forest} → Reordered ts us → Rearranged (node o ts) (node o us)

  pub data Reordered : Forest → Forest → Type 0 where
    nothing : Reordered ∅ ∅
    inside : {t u : Tree} {ts us : Forest} → Rearranged t u → Reordered ts us → Reordered (t ▸ ts) (u ▸ us)
    exchanged : (t u : Tree) (ts : Forest) → Reordered (t ▸ u ▸ ts) (u ▸ t ▸ ts)
    again : {ts us vs : Forest} → Reordered ts us → Reordered us vs → Reordered ts vs

-- children that break a limit of tidiness which doesn't compare operators: a lone child, a child of the parent's own kind, two literals of
-- one variable
unfoldable pub strays : Op → Forest → Bool
strays o ts = alone ts || some_child (is_op o) ts || some_two same_variable ts

-- an operator below the root, or one below it, is childless or has such children
unfoldable mutual
  pub astray : Tree → Bool
  astray (lit s v) = false
  astray (node o ts) = (childless ts || strays o ts) || astray_all ts

  pub astray_all : Forest → Bool
  astray_all ∅ = false
  astray_all (t ▸ ts) = astray t || astray_all ts

-- tidy but for equal siblings (N4), which sorting may make
unfoldable pub nearly_tidy : Tree → Bool
nearly_tidy (lit s v) = true
nearly_tidy (node o ts) = not (strays o ts || astray_all ts)

-- two siblings anywhere in a tree are related by R
unfoldable mutual
  pub siblings : (Tree → Tree → Bool) → Tree → Bool
  siblings R (lit s v) = false
  siblings R (node o ts) = some_two R ts || siblings_all R ts

  pub siblings_all : (Tree → Tree → Bool) → Forest → Bool
  siblings_all R ∅ = false
  siblings_all R (t ▸ ts) = siblings R t || siblings_all R ts

-- equal operators once both are sorted
unfoldable pub alike : Tree → Tree → Bool
alike t u = duplicate (sort t) (sort u)

-- the comparison of the same two things the other way round
abbrev pub turned : Ordering → Ordering
turned before = after
turned same = same
turned after = before

-- The order of the first and the third of three things, where the two comparisons of neighbours agree or one of them is `same`.
abbrev pub Chain : Ordering → Ordering → Ordering → Type 0
Chain before before o = o ≡ before
Chain before same o = o ≡ before
Chain before after o = Unit {0}
Chain same p o = o ≡ p
Chain after before o = Unit {0}
Chain after same o = o ≡ after
Chain after after o = o ≡ after
