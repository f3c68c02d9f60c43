-- Check's tests say of sizes, prefix and matrix what Within asks: few, numbered, distinct, closed.
-- Assumes nothing.
use mathlib.Core.Path.{◌≡◌, refl, sym, ap, ap₂, ◌∙◌, fun_ext}
use mathlib.Core.Bool.{Bool, true, false, not, ◌&&◌, ◌||◌, cond, and-true, and_assoc, not-not}
use mathlib.Core.List.{List, [], ◌∷◌, ◌++◌, append-nil, append_assoc, map}
use Prim.Native.Nat.{ℕ, suc, ◌+◌, ◌≤◌, ◌<◌}
use native.Mathlib.Nat.{add-zero, suc-add, add-suc, add_assoc}
use native.Mathlib.Numerals.{add-one}
use native.Mathlib.Omega.{arith}
use lib.Dec.{eqb, ltb, leb}
use lib.ListN.{length}
use borrow.Author.Tests.{ltb-false, leb-true, eqb-true, eqb-false, not-false, le-ltb, eq-eqb, ne_eqb}
use Rattle.formula.specs.Tree.{and, or, Quantifier, exists, for_all, Tree, lit, node, Forest, ∅, ◌▸◌, Prefix, binds, distinct, Literals, rows, rows_all, has, has_any, closed}
use Rattle.sheet.specs.Format.{Bytes, Format, header, sheet_length, variables, nodes, Row, row, prefix_rows, node_rows, Every}
use Rattle.sheet.specs.Sheet.{quantifier_kind, binding, binding_row, tree_rows, forest_rows}
use Rattle.sheet.specs.Check.{passes, size_tests, member, quantifier_tests, node_tests, tree_test, arguments, check_tests}
use Rattle.formula.proofs.Booleans.{and_parts, or_parts, eqb_comm}
use Rattle.sheet.proofs.Tests.{passed-∷, passes-++, passed-++}
use Rattle.sheet.specs.Limits.{numbered}
use Rattle.sheet.proofs.Preorder.{NodeRow, node-kind}
use Rattle.sheet.proofs.Parts.{sheet_length-rows}

and-left_comm : (a b c : Bool) → (a && (b && c)) ≡ (b && (a && c))
and-left_comm true b c = refl
and-left_comm false true c = refl
and-left_comm false false c = refl

and_swap : (a b c d : Bool) → (a && b && (c && d)) ≡ (a && c && (b && d))
and_swap a b c d = simp (and_assoc, and-left_comm)

-- a row's tests, each beside the same test of the rows behind it
and_regroup : (k k' n n' m b d c : Bool)
    → (k && (n && (m && (k' && (n' && (d && (b && c))))))) ≡ (k && k' && (n && n' && (b && d && (m && c))))
and_regroup k k' n n' m b d c = simp (and_assoc, and-left_comm)

not-or : (a b : Bool) → not (a || b) ≡ (not a && not b)
not-or true b = refl
not-or false b = refl

-- the four groups of tests

pub record Passed (F : Format) (b : Bytes) : Type 0 where
  pub sizes : passes (size_tests F b) ≡ true
  pub quantifiers : passes (quantifier_tests F 0 [] (prefix_rows F b)) ≡ true
  pub node_kinds : passes (node_tests (variables F b) (arguments (prefix_rows F b)) (node_rows F b)) ≡ true
  pub one_tree : (tree_test 1 (variables F b) (node_rows F b)).fails ≡ false

pub check_tests_pass : (F : Format) (b : Bytes) → Passed F b → passes (check_tests F b) ≡ true
unfolding check_tests passes
check_tests_pass F b p = simp (passes-++, p.sizes, p.quantifiers, p.node_kinds, p.one_tree)

pub passed : (F : Format) (b : Bytes) → passes (check_tests F b) ≡ true → Passed F b
unfolding check_tests
passed F b h =
    let a = passed-++ _ _ h in
    let n = passed-++ _ _ a.0 in
    let q = passed-++ _ _ n.0 in
    record { sizes = q.0; quantifiers = q.1; node_kinds = n.1; one_tree = (passed-∷ _ [] a.1).0 }

-- sizes

pub record SizesFit (F : Format) (b : Bytes) : Type 0 where
  pub few_variables : variables F b ≤ F.most_variables
  pub some_node : 0 < nodes F b
  pub few_nodes : nodes F b ≤ F.most_nodes
  pub right_length : length b ≡ sheet_length F (variables F b) (nodes F b)

pub size_tests_pass : (F : Format) (b : Bytes) → SizesFit F b → passes (size_tests F b) ≡ true
unfolding passes size_tests
size_tests_pass F b s =
    rw (
      le-ltb (length b) (header F) (omega (arith, sheet_length-rows F (variables F b) (nodes F b))),
      le-ltb F.most_variables (variables F b) s.few_variables,
      ne_eqb (nodes F b) 0 (λ e. omega arith),
      le-ltb F.most_nodes (nodes F b) s.few_nodes,
      eq-eqb (length b) (sheet_length F (variables F b) (nodes F b)) s.right_length,
    )

pub passed_sizes : (F : Format) (b : Bytes) → passes (size_tests F b) ≡ true → SizesFit F b
unfolding size_tests
passed_sizes F b h =
    let p = passed-∷ _ _ (passed-∷ _ _ h).1 in
    let n = or_parts (ltb F.most_variables (variables F b) || eqb (nodes F b) 0) (ltb F.most_nodes (nodes F b)) p.0 in
    let v = or_parts (ltb F.most_variables (variables F b)) (eqb (nodes F b) 0) n.0 in
    record {
      few_variables = ltb-false F.most_variables (variables F b) v.0;
      some_node = omega (arith, eqb-false (nodes F b) 0 v.1);
      few_nodes = ltb-false F.most_nodes (nodes F b) n.1;
      right_length = eqb-true (length b) (sheet_length F (variables F b) (nodes F b)) (not-false _ (passed-∷ _ [] p.1).0);
    }

-- quantifier rows

-- kinds 1 and 2
quantifier_kinds : List Row → Bool
quantifier_kinds [] = true
quantifier_kinds (r ∷ rs) = (eqb r.kind 1 || eqb r.kind 2) && quantifier_kinds rs

-- no number of the prefix is bound before
clear : List ℕ → Prefix → Bool
clear bound [] = true
clear bound (z ∷ p) = not (member z.variable bound) && clear bound p

clear_nil : (p : Prefix) → clear [] p ≡ true
unfolding clear member
clear_nil [] = refl
clear_nil (z ∷ p) = clear_nil p

clear-∷ : (x : ℕ) (bound : List ℕ) (p : Prefix) → clear (x ∷ bound) p ≡ (not (binds p x) && clear bound p)
unfolding clear member binds
clear-∷ x bound [] = refl
clear-∷ x bound (z ∷ p) =
    rw (clear-∷ x bound p, not-or (eqb x z.variable), not-or (eqb z.variable x), eqb_comm x z.variable)
    (and_swap (not (eqb z.variable x)) (not (member z.variable bound)) (not (binds p x)) (clear bound p))

quantifier_tests-rows : (F : Format) (i : ℕ) (bound : List ℕ) (rs : List Row)
    → passes (quantifier_tests F i bound rs) ≡
    (quantifier_kinds rs && (numbered F (map binding rs) && (distinct (map binding rs) && clear bound (map binding rs))))
unfolding passes quantifier_tests quantifier_kinds numbered distinct clear binding
quantifier_tests-rows F i bound [] = refl
quantifier_tests-rows F i bound (r ∷ rs) =
    let p = map binding rs in
    rw (not-not, quantifier_tests-rows F (suc i) (r.argument ∷ bound) rs, clear-∷ r.argument bound p)
    (and_regroup (eqb r.kind 1 || eqb r.kind 2) (quantifier_kinds rs)
    (not (eqb r.argument 0 || ltb F.most_variables r.argument)) (numbered F p)
    (not (member r.argument bound)) (not (binds p r.argument)) (distinct p) (clear bound p))

quantifier_kinds_prefix : (p : Prefix) → quantifier_kinds (map binding_row p) ≡ true
unfolding quantifier_kinds binding_row
quantifier_kinds_prefix [] = refl
quantifier_kinds_prefix (z ∷ p) = rw (kind z.quantifier) (quantifier_kinds_prefix p)
  where
    kind : (q : Quantifier) → (eqb (quantifier_kind q) 1 || eqb (quantifier_kind q) 2) ≡ true
    kind and = refl
    kind or = refl

pub map-binding_row : (p : Prefix) → map binding (map binding_row p) ≡ p
unfolding binding binding_row
map-binding_row [] = refl
map-binding_row (z ∷ p) = ap₂ ◌∷◌ (back z.quantifier z.variable) (map-binding_row p)
  where
    back : (q : Quantifier) (v : ℕ) → binding (row (quantifier_kind q) v) ≡ record { quantifier = q; variable = v }
    back and v = refl
    back or v = refl

map-binding : (rs : List Row) → quantifier_kinds rs ≡ true → map binding_row (map binding rs) ≡ rs
unfolding binding binding_row quantifier_kinds
map-binding [] h = refl
map-binding (r ∷ rs) h =
    let b = and_parts (eqb r.kind 1 || eqb r.kind 2) (quantifier_kinds rs) h in
    ap₂ ◌∷◌ (ap (λ k. row k r.argument) (back r.kind (eqb r.kind 1) refl b.0)) (map-binding rs b.1)
  where
    back : (k : ℕ) (one : Bool) → eqb k 1 ≡ one → (one || eqb k 2) ≡ true → quantifier_kind (cond one exists for_all) ≡ k
    back k true e h = sym (eqb-true k 1 e)
    back k false e h = sym (eqb-true k 2 h)

pub quantifier_tests_pass : (F : Format) (p : Prefix) → numbered F p ≡ true → distinct p ≡ true
    → passes (quantifier_tests F 0 [] (map binding_row p)) ≡ true
quantifier_tests_pass F p n d =
    rw (quantifier_tests-rows F 0 [] (map binding_row p), quantifier_kinds_prefix p, map-binding_row p, n, d, clear_nil p)

pub record Quantifiers (F : Format) (rs : List Row) : Type 0 where
  pub rows_of_prefix : map binding_row (map binding rs) ≡ rs
  pub is_numbered : numbered F (map binding rs) ≡ true
  pub is_distinct : distinct (map binding rs) ≡ true

pub passed_quantifiers : (F : Format) (rs : List Row) → passes (quantifier_tests F 0 [] rs) ≡ true → Quantifiers F rs
passed_quantifiers F rs h =
    let p = map binding rs in
    let k = and_parts (quantifier_kinds rs) (numbered F p && (distinct p && clear [] p)) (sym (quantifier_tests-rows F 0 [] rs) ∙ h) in
    let n = and_parts (numbered F p) (distinct p && clear [] p) k.1 in
    record {
      rows_of_prefix = map-binding rs k.0;
      is_numbered = n.0;
      is_distinct = (and_parts (distinct p) (clear [] p) n.1).0;
    }

-- node rows

pub member-arguments : (rs : List Row) (x : ℕ) → member x (arguments rs) ≡ binds (map binding rs) x
unfolding member arguments binds binding
member-arguments [] x = refl
member-arguments (r ∷ rs) x = ap (λ b. eqb r.argument x || b) (member-arguments rs x)

-- a literal outside the numbers bound
abbrev unbound : List ℕ → Literals
unbound bound s v = not (member v bound)

mutual
  unfolding passes node_tests tree_rows has rows

  node_tests_tree : (t : Tree) (i : ℕ) (bound : List ℕ) (rs : List Row)
      → passes (node_tests i bound (tree_rows t ++ rs)) ≡ (not (has (unbound bound) t) && passes (node_tests (i + rows t) bound rs))
  node_tests_tree (lit true v) i bound rs = rw add-one
  node_tests_tree (lit false v) i bound rs = rw add-one
  node_tests_tree (node and ts) i bound rs = rw (add-suc, ← suc-add) (node_tests_forest ts (suc i) bound rs)
  node_tests_tree (node or ts) i bound rs = rw (add-suc, ← suc-add) (node_tests_forest ts (suc i) bound rs)

  node_tests_forest : (ts : Forest) (i : ℕ) (bound : List ℕ) (rs : List Row)
      → passes (node_tests i bound (forest_rows ts ++ rs)) ≡ (not (has_any (unbound bound) ts) && passes (node_tests (i + rows_all ts) bound rs))
  node_tests_forest ∅ i bound rs = rw add-zero
  node_tests_forest (t ▸ ts) i bound rs =
      rw (append_assoc, node_tests_tree t i bound (forest_rows ts ++ rs), node_tests_forest ts (i + rows t) bound rs, not-or, and_assoc, add_assoc)

pub passes-node_tests : (qs : List Row) (t : Tree) (i : ℕ)
    → passes (node_tests i (arguments qs) (tree_rows t)) ≡ closed (record { prefix = map binding qs; matrix = t })
unfolding passes node_tests closed
passes-node_tests qs t i =
    ap (λ rs. passes (node_tests i (arguments qs) rs)) (sym (append-nil (tree_rows t))) ∙ node_tests_tree t i (arguments qs) [] ∙
    and-true (not (has (unbound (arguments qs)) t)) ∙
    ap (λ (L : Literals). not (has L t)) (fun_ext (λ s. fun_ext (λ v. ap not (member-arguments qs v))))

pub passed_nodes : (i : ℕ) (bound : List ℕ) (rs : List Row) → passes (node_tests i bound rs) ≡ true → Every NodeRow rs
unfolding node_tests
passed_nodes i bound [] h = tt
passed_nodes i bound (r ∷ rs) h =
    let p = passed-∷ _ _ h in
    let k = and_parts (leb 3 r.kind) (leb r.kind 6) (not-false _ p.0) in
    (node-kind r.kind (leb-true 3 r.kind k.0) (leb-true r.kind 6 k.1), passed_nodes (suc i) bound rs (passed-∷ _ _ p.1).1)
