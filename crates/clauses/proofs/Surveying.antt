-- The turns of the survey: what is counted so far and what is left make the whole.
-- Assumes nothing.
use mathlib.Core.Path.{◌≡◌, refl, sym, ap, ap₂, ◌∙◌}
use mathlib.Core.Bool.{Bool}
use mathlib.Core.List.{List, [], ◌∷◌, ◌++◌, append-nil}
use Prim.Native.Nat.{ℕ, suc, ◌+◌, ◌≤◌, ◌<◌}
use native.Mathlib.Nat.{add-zero}
use native.Mathlib.Omega.{arith}
use lib.ListN.{length, take, drop, set, length-set}
use lib.Seq.{take-suc-set, append_snoc, length-take-le, drop_at}
use Rattle.formula.specs.Tree.{and, or, Tree, lit, node, Forest, ∅, ◌⧺◌, rows, rows_all, count}
use Rattle.formula.specs.Clausal.{operators, operators_all, conjuncts, named_all}
use Rattle.formula.proofs.Forests.{count-⧺, rows-⧺, count-rows}
use Rattle.sheet.specs.Format.{Bytes}
use Rattle.rows.specs.Formulas.{matrix_in, Readable}
use Rattle.rows.specs.declared.Layout.{Layout}
use Rattle.rows.proofs.Formulas.{rows-nodes}
use Rattle.subtrees.specs.Subtrees.{subtree_in}
use Rattle.clauses.specs.Inner.Named.{own_clauses, defined_from, clauses_from, clauses_left, marks, next_name, marks_conjuncts, marks_left, first_conjunct}
use Rattle.clauses.specs.Inner.Survey.{Surveyed}
use Rattle.clauses.proofs.Named.{few_clauses}
use Rattle.clauses.proofs.Counting.{next_more}
use Rattle.clauses.proofs.Walking.{Walking, Turned, walking_first, walking_none}

-- the clauses of a sheet's matrix, by a table
abbrev pub all_clauses : Layout → Bytes → List ℕ → Forest
all_clauses s b L = clauses_from L (first_conjunct (matrix_in s b)) (conjuncts (matrix_in s b))

pub record Surveying (s : Layout) (b : Bytes) (before table : List ℕ) (names clauses lines j next : ℕ) : Type 0 where
  pub ts : Forest
  pub us : Forest
  pub walking : Walking s b j next ts us
  pub same_length : length table ≡ length before
  pub few_names : names ≤ j
  pub names_left : names + (operators_all ts + named_all us) ≡ named_all (conjuncts (matrix_in s b))
  pub count_left : (L : List ℕ) → clauses + count (clauses_left L j ts us) ≡ count (all_clauses s b L)
  pub rows_left : (L : List ℕ) → lines + rows_all (clauses_left L j ts us) ≡ rows_all (all_clauses s b L)
  pub marked : take j table ++ marks_left (λ i. i) names ts us ≡
      take (first_conjunct (matrix_in s b)) before ++ marks_conjuncts (λ i. i) 0 (conjuncts (matrix_in s b))

conjunct-rows : (t : Tree) → rows_all (conjuncts t) ≤ rows t
unfolding conjuncts rows
conjunct-rows (lit s v) = omega arith
conjunct-rows (node and ts) = omega arith
conjunct-rows (node or ts) = omega arith

module _ {s : Layout} (b : Bytes) (ok : Readable s b) where
  abbrev conjuncts_in : Forest
  conjuncts_in = conjuncts (matrix_in s b)

  -- there are few of them
  pub few_rows : (L : List ℕ) → rows_all (all_clauses s b L) ≤ 40960
  few_rows L =
      omega (
        arith,
        few_clauses L (conjuncts (matrix_in s b)) (first_conjunct (matrix_in s b)),
        conjunct-rows (matrix_in s b),
        rows-nodes b ok,
        ok.few_nodes,
      )

  pub surveying_first : {j : ℕ} (table : List ℕ) → j ≡ first_conjunct (matrix_in s b) → Surveying s b table table 0 0 0 j j
  unfolding clauses_left defined_from marks_left marks ◌⧺◌ rows_all operators
  surveying_first {j} table e =
      let first = first_conjunct (matrix_in s b) in
      let same : j + 0 ≡ first = omega (arith, e) in
      record {
        ts = ∅;
        us = conjuncts_in;
        walking = walking_first b ok e;
        same_length = refl;
        few_names = omega arith;
        names_left = omega arith;
        count_left = λ L. omega (arith, ap (λ n. count (clauses_from L n conjuncts_in)) same);
        rows_left = λ L. omega (arith, ap (λ n. rows_all (clauses_from L n conjuncts_in)) same);
        marked = ap₂ (λ m n. take m table ++ marks_conjuncts (λ i. i) n conjuncts_in) e (add-zero 0);
      }

  module _ {before table : List ℕ} {names clauses lines j next : ℕ} (r : Surveying s b before table names clauses lines j next) where
    module _ {c : Bool} {next₁ : ℕ} (t : Turned s b j next r.ts r.us c next₁) where
      module _ {k : ℕ} (k-is : (L : List ℕ) → k ≡ count (own_clauses L j c (subtree_in s b j))) where
        count-on : (L : List ℕ) → (clauses + k) + count (clauses_left L (suc j) t.ts₁ t.us₁) ≡ count (all_clauses s b L)
        count-on L =
            omega (
              arith,
              r.count_left L,
              k-is L,
              ap count (t.clauses L),
              count-⧺ (own_clauses L j c (subtree_in s b j)) (clauses_left L (suc j) t.ts₁ t.us₁),
            )

        pub few-counted : clauses + k ≤ 40960
        few-counted = omega (arith, count-on [], count-rows (all_clauses s b []), few_rows [])

      module _ {m : ℕ} (m-is : (L : List ℕ) → m ≡ rows_all (own_clauses L j c (subtree_in s b j))) where
        rows_on : (L : List ℕ) → (lines + m) + rows_all (clauses_left L (suc j) t.ts₁ t.us₁) ≡ rows_all (all_clauses s b L)
        rows_on L =
            omega (
              arith,
              r.rows_left L,
              m-is L,
              ap rows_all (t.clauses L),
              rows-⧺ (own_clauses L j c (subtree_in s b j)) (clauses_left L (suc j) t.ts₁ t.us₁),
            )

        pub few_lines : lines + m ≤ 40960
        few_lines = omega (arith, rows_on [], few_rows [])

      pub surveying-on : {i n k m : ℕ} → i ≡ suc j → n ≡ next_name 0 c (subtree_in s b j) → n ≤ 1
          → ((L : List ℕ) → k ≡ count (own_clauses L j c (subtree_in s b j))) → ((L : List ℕ) → m ≡ rows_all (own_clauses L j c (subtree_in s b j)))
          → j < length table → Surveying s b before (set table j names) (names + n) (clauses + k) (lines + m) i next₁
      surveying-on {i} {n} at n-is one k-is m-is inside =
          let name-is : names + n ≡ next_name names c (subtree_in s b j) = omega (arith, n-is, next_more names c (subtree_in s b j)) in
          rw at
          (record {
            ts = t.ts₁;
            us = t.us₁;
            walking = t.walking;
            same_length = length-set table j names ∙ r.same_length;
            few_names = omega (arith, r.few_names, one);
            names_left = omega (arith, r.names_left, t.names names, name-is);
            count_left = count-on k-is;
            rows_left = rows_on m-is;
            marked =
                ap (λ l. l ++ marks_left (λ i. i) (names + n) t.ts₁ t.us₁) (take-suc-set table j names inside) ∙
                append_snoc (take j table) names (marks_left (λ i. i) (names + n) t.ts₁ t.us₁) ∙
                ap (λ p. take j table ++ names ∷ marks_left (λ i. i) p t.ts₁ t.us₁) name-is ∙
                ap (λ l. take j table ++ l) (sym (t.marked (λ i. i) names)) ∙ r.marked;
          })

    pub surveyed : s.nodes ≤ j → s.nodes ≤ length before → Surveyed s b table (record { names = names; clauses = clauses; rows = lines })
    unfolding clauses_left clauses_from defined_from marks_left marks_conjuncts marks ◌⧺◌ rows_all count operators named_all
    surveyed h room =
        let end = walking_none b ok h r.walking in
        let all : j ≡ s.nodes = omega (arith, h, r.walking.within) in
        let first = first_conjunct (matrix_in s b) in
        let whole = ap₂ (λ ts us. take j table ++ marks_left (λ i. i) names ts us) (sym end.0) (sym end.1) ∙ r.marked in
        let row : first ≤ s.nodes = (walking_first b ok refl).within in
        record {
          names_are = omega (arith, r.names_left, ap operators_all end.0, ap named_all end.1);
          clauses_are = λ L. omega (arith, r.count_left L, ap₂ (λ ts us. count (clauses_left L j ts us)) end.0 end.1);
          rows_are = λ L. omega (arith, r.rows_left L, ap₂ (λ ts us. rows_all (clauses_left L j ts us)) end.0 end.1);
          are_numbered =
              ap (λ n. drop first (take n table)) (sym all) ∙ ap (drop first) (sym (append-nil (take j table)) ∙ whole) ∙
              drop_at (take first before) (marks_conjuncts (λ i. i) 0 conjuncts_in) first (length-take-le first before (omega (arith, row, room)));
        }
