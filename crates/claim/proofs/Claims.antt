-- The rows of a claim, and the sheet made of them.
-- Assumes nothing.
use mathlib.Core.Path.{◌≡◌, refl, sym, ap, ap₂, ◌∙◌, subst}
use mathlib.Core.Bool.{Bool, true, false, not}
use mathlib.Core.List.{List, [], ◌∷◌, ◌++◌, map, append-nil, append_assoc}
use Prim.Native.Nat.{ℕ, suc, ◌+◌, ◌*◌, ◌-◌, ◌≤◌}
use native.Mathlib.Omega.{arith}
use lib.ListN.{length}
use lib.Seq.{slice}
use Rattle.formula.specs.Tree.{Quantifier, dual, Tree, lit, node, ∅, ◌▸◌, Prefix, rows, count}
use Rattle.formula.specs.Strategy.{Pairs}
use Rattle.formula.specs.Claim.{negated, broken, all_rows, claim}
use Rattle.formula.proofs.Forests.{count-rows}
use Rattle.formula.proofs.Strategy.Claim.{length-all_rows, rows-claim_matrix}
use Rattle.sheet.specs.Format.{Bytes, Row, row}
use Rattle.sheet.specs.Sheet.{quantifier_kind, literal_kind, operator_kind, binding_row, tree_rows, forest_rows, formula_rows, sheet}
use Rattle.sheet.specs.Operations.{padded}
use Rattle.sheet.proofs.Preorder.{length-forest_rows}
use Rattle.rows.specs.Formats.{format_of}
use Rattle.rows.specs.Layouts.{format_in, total, rows_in, Room, sealed, width}
use Rattle.rows.specs.Formulas.{prefix_in, matrix_in, formula_in, Readable}
use Rattle.rows.specs.declared.Format.{Format}
use Rattle.rows.specs.declared.Layout.{Layout}
use Rattle.rows.proofs.Formulas.{length_prefix, rows-nodes}
use Rattle.rows.proofs.Sealed.{sealed-sheet, sealed-length}
use Rattle.raw.proofs.Source.{matrix_part}
use Rattle.substitution.specs.Output.{Laid}
use Rattle.substitution.proofs.Splice.{laid_on, laid-all}
use Rattle.pair_tests.specs.Pairs.{side, pairs_in}
use Rattle.pair_tests.proofs.Stands.{counted}
use Rattle.claim.specs.Inner.Writing.{of_kind, negated_row, differs, differ_rows, front_rows, claimed, claim_layout, Claimable}
use Rattle.claim.specs.declared.write.Strategy.{Strategy}
use Rattle.claim.proofs.Negation.{rows-negated}

-- the prefix

pub kind-rows : (q : Quantifier) (p : Prefix) → map (of_kind (quantifier_kind q)) p ≡ map binding_row (all_rows q p)
unfolding all_rows binding_row
kind-rows q [] = refl
kind-rows q (z ∷ p) = ap (λ l. row (quantifier_kind q) z.variable ∷ l) (kind-rows q p)

-- the pairs

two_children : (o : Quantifier) (s : Bool) (x : ℕ) (t : Tree) → tree_rows (node o (lit s x ▸ t ▸ ∅)) ≡ (row (operator_kind o) 2 ∷ row (literal_kind s) x ∷ []) ++ tree_rows t
unfolding tree_rows count
two_children o s x t = ap (λ l. row (operator_kind o) 2 ∷ row (literal_kind s) x ∷ l) (append-nil (tree_rows t))

pub differ_broken : (q : Quantifier) (g : Pairs) → differ_rows (operator_kind (dual q)) g ≡ forest_rows (broken q g)
unfolding differ_rows differs broken forest_rows
differ_broken q [] = refl
differ_broken q (c ∷ g) =
    let k = operator_kind (dual q) in
    let x = c.variable in
    let F = tree_rows c.function in
    let A : List Row = row k 2 ∷ row 3 x ∷ [] in
    let B : List Row = row k 2 ∷ row 4 x ∷ [] in
    let D = differ_rows k g in
    append_assoc A (map negated_row F ++ (B ++ F)) D ∙
    ap (λ l. A ++ l) (append_assoc (map negated_row F) (B ++ F) D) ∙
    sym (append_assoc A (map negated_row F) ((B ++ F) ++ D)) ∙
    ap₂ ◌++◌ (ap (λ l. A ++ l) (rows-negated c.function) ∙ sym (two_children (dual q) true x (negated c.function)))
    (ap₂ ◌++◌ (sym (two_children (dual q) false x c.function)) (differ_broken q g))

count-broken : (q : Quantifier) (g : Pairs) → count (broken q g) ≡ 2 * length g
unfolding broken count
count-broken q [] = refl
count-broken q (c ∷ g) = omega (arith, count-broken q g)

-- all rows

pub claim-rows : (q : Quantifier) (s : Layout) (b : Bytes) (g : Pairs) {n k : ℕ} → n ≡ suc (2 * length g) → k ≡ operator_kind (dual q)
    → front_rows q s b n ++ differ_rows k g ≡ formula_rows (claim q (formula_in s b) g)
unfolding front_rows formula_rows claim formula_in tree_rows count
claim-rows q s b g {n} {k} e is =
    let P = map binding_row (all_rows (dual q) (prefix_in s b)) in
    let M = tree_rows (matrix_in s b) in
    append_assoc P (row (operator_kind q) n ∷ M) (differ_rows k g) ∙
    ap₂ (λ m l. P ++ (row (operator_kind q) m ∷ (M ++ l))) (e ∙ ap suc (sym (count-broken q g)))
    (ap (λ m. differ_rows m g) is ∙ differ_broken q g)

-- the rows in front of the pairs'
pub front-laid : (q : Quantifier) {s : Layout} (b : Bytes) → Readable s b → {t : Layout} {o₀ o₁ o₂ o₃ : Bytes} {n₁ n₂ n₃ k m n : ℕ}
    → k ≡ quantifier_kind (dual q) → m ≡ operator_kind q → Laid t o₀ o₁ 0 n₁ (map (of_kind k) (prefix_in s b)) → Laid t o₁ o₂ n₁ n₂ (row m n ∷ [])
    → Laid t o₂ o₃ n₂ n₃ (slice s.variables (total s) (rows_in s b)) → Laid t o₀ o₃ 0 n₃ (front_rows q s b n)
unfolding front_rows
front-laid q {s} b ok {t} {o₀ = o₀} {o₃ = o₃} {n₃ = n₃} {n = n} e f x y z =
    subst (Laid t o₀ o₃ 0 n₃)
    (ap₂ ◌++◌ (ap (λ k. map (of_kind k) (prefix_in s b)) e ∙ kind-rows (dual q) (prefix_in s b))
    (ap₂ (λ m l. row m n ∷ l) f (matrix_part s b ok)))
    (laid_on x (laid_on y z))

pub operator_of_other : (e : Bool) → operator_kind (side (not e)) ≡ operator_kind (dual (side e))
operator_of_other true = refl
operator_of_other false = refl

module _ {b : Bytes} {s : Layout} {d : Bytes} {r : Strategy} {cuts : List ℕ} {len : ℕ} (c : Claimable b s d r cuts len) where
  abbrev q : Quantifier
  q = side r.exists

  abbrev g : Pairs
  g = pairs_in r.layout d

  pub claim-nodes : suc (rows (claimed b s d r).matrix) ≡ s.nodes + 2 * r.layout.nodes
  unfolding claimed formula_in
  claim-nodes =
      rows-claim_matrix q (formula_in s b) g ∙
      ap₂ (λ m n. m + 2 * n) (rows-nodes b c.first.readable) (ap rows (sym c.paired.is_matrix) ∙ rows-nodes d c.second.readable)

  pub claim-variables : length (claimed b s d r).prefix ≡ s.variables
  unfolding claimed claim formula_in
  claim-variables = length-all_rows (dual q) (prefix_in s b) ∙ length_prefix b c.first.readable

  -- the rows that are written
  pub pairs_length : {k : ℕ} → k ≡ operator_kind (dual q) → suc (s.nodes + length (differ_rows k g)) ≡ rows (claimed b s d r).matrix
  unfolding claimed claim formula_in rows
  pairs_length is =
      ap suc
      (ap₂ ◌+◌ (sym (rows-nodes b c.first.readable))
      (ap (λ m. length (differ_rows m g)) is ∙ ap length (differ_broken q g) ∙ length-forest_rows (broken q g)))

  -- the root's children are few
  pub root-children : {n : ℕ} → n ≡ 2 * length cuts - 1 → (n ≡ suc (2 * length g)) × (n ≤ 8192)
  unfolding claimed claim formula_in rows count
  root-children {n} e =
      let is : n ≡ suc (2 * length g) = omega (arith, e, counted d c.paired) in
      (is, omega (arith, is, count-broken q g, count-rows (matrix_in s b ▸ broken q g), c.few_rows))

  module _ (t : Layout) (same : t.format ≡ s.format) (vs : t.variables ≡ s.variables) (ns : t.nodes ≡ s.nodes + 2 * r.layout.nodes - 1) where
    nodes_are : t.nodes ≡ rows (claimed b s d r).matrix
    nodes_are = omega (arith, ns, claim-nodes)

    sizes-are : claim_layout b s d r ≡ record { format = s.format; variables = t.variables; nodes = t.nodes }
    sizes-are = ap₂ (λ (m n : ℕ). record { format = s.format; variables = m; nodes = n }) (sym vs) (sym nodes_are)

    layout_is : claim_layout b s d r ≡ t
    layout_is = sizes-are ∙ ap (λ (f : Format). record { format = f; variables = t.variables; nodes = t.nodes }) (sym same)

    pub claim-room : Room t len
    claim-room = subst (λ (l : Layout). Room l len) layout_is c.room

    pub front-room : s.variables + 1 + s.nodes ≤ total t
    front-room = omega (arith, vs, nodes_are, pairs_length refl)

    pub pairs-room : {k at : ℕ} → k ≡ operator_kind (dual q) → at ≡ s.variables + 1 + s.nodes → at + length (differ_rows k g) ≡ total t
    pairs-room is e = omega (arith, vs, nodes_are, pairs_length is, e)

    -- all rows are written, and made a sheet
    module _ {old mid new : Bytes} {m n k at last : ℕ} (children : n ≡ suc (2 * length g)) (kind : k ≡ operator_kind (dual q))
        (front : Laid t old mid 0 at (front_rows q s b n)) (back : Laid t mid new at last (differ_rows k g))
        (at-is : at ≡ s.variables + 1 + s.nodes) (long : length new ≡ len) (all : m ≡ total t) where
      room-new : Room t (length new)
      room-new = record { holds = omega (arith, claim-room.holds, long) }

      rows_are : rows_in t new ≡ formula_rows (claimed b s d r)
      unfolding claimed
      rows_are = laid-all room-new (back.next_row ∙ pairs-room kind at-is) (laid_on front back) ∙ claim-rows q s b g children kind

      variables_are : length (claimed b s d r).prefix ≡ t.variables
      variables_are = claim-variables ∙ sym vs

      pub claim-sealed : sealed t m new ≡ padded len (sheet (format_in s) (claimed b s d r))
      claim-sealed =
          ap (λ k. sealed t k new) all ∙ sealed-sheet t new (claimed b s d r) room-new rows_are variables_are (sym nodes_are) ∙
          ap₂ (λ n f. padded n (sheet (format_of f) (claimed b s d r))) long same

      pub claim-length : 2 * width t + m + width t * m ≡ length (sheet (format_in s) (claimed b s d r))
      claim-length =
          ap (λ k. 2 * width t + k + width t * k) all ∙ sealed-length t new (claimed b s d r) room-new rows_are variables_are (sym nodes_are) ∙
          ap (λ f. length (sheet (format_of f) (claimed b s d r))) same
