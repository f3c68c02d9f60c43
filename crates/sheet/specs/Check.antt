-- Check: refusals 1 to 8 with number and place ("What each operation turns away").
-- Assumes nothing.
use Rattle.std.specs.Prelude.{Bool, true, false, not, ◌&&◌, ◌||◌, cond, List, [], ◌∷◌, ◌++◌, ℕ, zero, suc, ◌+◌, ◌≤◌, eqb, ltb, leb, length, ◌≡◌}
use Rattle.sheet.specs.Format.{Bytes, Format, Row, header, sheet_length, variables, nodes, prefix_rows, node_rows, children}
use Rattle.sheet.specs.Refusals.{too_short, size_outside, wrong_length, bad_kind, bad_number, bound_twice, unbound, not_one_tree}

-- an answer: refused with number and place, or accepted with a value
pub data Answer (A : Type 0) : Type 0 where
  refused : ℕ → ℕ → Answer A
  accepted : A → Answer A

-- A test on the input. The first of a list that fails is the refusal: its number and its place.
pub record Test : Type 0 where
  pub fails : Bool
  pub number : ℕ
  pub place : ℕ

abbrev pub test : Bool → ℕ → ℕ → Test
test b n i = record { fails = b; number = n; place = i }

unfoldable pub answer : {A : Type 0} → List Test → A → Answer A
answer [] a = accepted a
answer (t ∷ ts) a = cond t.fails (refused t.number t.place) (answer ts a)

unfoldable pub passes : List Test → Bool
passes [] = true
passes (t ∷ ts) = not t.fails && passes ts

-- 1 under 4 bytes; 2 a size outside its limits; 3 wrong length
unfoldable pub size_tests : Format → Bytes → List Test
size_tests F b =
    test (ltb (length b) (header F)) too_short 0 ∷
    test (ltb F.most_variables (variables F b) || eqb (nodes F b) 0 || ltb F.most_nodes (nodes F b)) size_outside 0 ∷
    test (not (eqb (length b) (sheet_length F (variables F b) (nodes F b)))) wrong_length 0 ∷
    []

unfoldable pub member : ℕ → List ℕ → Bool
member x [] = false
member x (y ∷ ys) = eqb y x || member x ys

-- the quantifier rows, from row i on, under the numbers bound before: 4 kind, 5 quantifier number, 6 bound twice
unfoldable pub quantifier_tests : Format → ℕ → List ℕ → List Row → List Test
quantifier_tests F i bound [] = []
quantifier_tests F i bound (r ∷ rs) =
    test (not (eqb r.kind 1 || eqb r.kind 2)) bad_kind i ∷
    test (eqb r.argument 0 || ltb F.most_variables r.argument) bad_number i ∷
    test (member r.argument bound) bound_twice i ∷
    quantifier_tests F (suc i) (r.argument ∷ bound) rs

-- the node rows, from row i on: 4 kind, 7 literal unbound
unfoldable pub node_tests : ℕ → List ℕ → List Row → List Test
node_tests i bound [] = []
node_tests i bound (r ∷ rs) =
    test (not (leb 3 r.kind && leb r.kind 6)) bad_kind i ∷
    test (leb r.kind 4 && not (member r.argument bound)) unbound i ∷
    node_tests (suc i) bound rs

-- 8 not one tree: one node is owed at first, each row pays one and adds its children, and the debt reaches zero at the last row and
-- not before. The place is the first row after an early end, or V+N if rows run out.
unfoldable pub tree_test : ℕ → ℕ → List Row → Test
tree_test zero i [] = test false not_one_tree i
tree_test zero i (r ∷ rs) = test true not_one_tree i
tree_test (suc owed) i [] = test true not_one_tree i
tree_test (suc owed) i (r ∷ rs) = tree_test (owed + children r) (suc i) rs

unfoldable pub arguments : List Row → List ℕ
arguments [] = []
arguments (r ∷ rs) = r.argument ∷ arguments rs

-- the first bad row comes before 8
unfoldable pub check_tests : Format → Bytes → List Test
check_tests F b =
    size_tests F b ++ quantifier_tests F 0 [] (prefix_rows F b) ++
    node_tests (variables F b) (arguments (prefix_rows F b)) (node_rows F b) ++
    (tree_test 1 (variables F b) (node_rows F b) ∷ [])

-- accepted, it returns V and N
pub record Sizes : Type 0 where
  pub variables : ℕ
  pub nodes : ℕ

unfoldable pub check : Format → Bytes → Answer Sizes
check F b = answer (check_tests F b) (record { variables = variables F b; nodes = nodes F b })

-- refusals are numbered 1 to 25
pub record IsKnown (n : ℕ) : Type 0 where
  pub least : 1 ≤ n
  pub most : n ≤ 25

abbrev pub is_known : ℕ → Bool
is_known n = leb 1 n && leb n 25

-- tests all of whose refusals have such a number
unfoldable pub known : List Test → Bool
known [] = true
known (t ∷ ts) = is_known t.number && known ts

abbrev pub Known : List Test → Type 0
Known ts = known ts ≡ true

-- the largest place: behind the last row of the largest sheet
abbrev pub last_place : Format → ℕ
last_place F = F.most_variables + F.most_nodes
