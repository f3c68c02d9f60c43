-- The turns of the loops that fill the tables of occurrences.
-- Assumes nothing.
use mathlib.Core.Path.{◌≡◌, refl, sym, ap, ap₂, ◌∙◌}
use mathlib.Core.Bool.{Bool, true, false, ◌||◌, true≢false}
use mathlib.Core.List.{List}
use Prim.Native.Nat.{ℕ, suc, ◌+◌, ◌*◌, ◌≤◌, ◌<◌}
use native.Mathlib.Omega.{arith}
use lib.Dec.{eqb, ltb}
use lib.ListN.{length, get_or, set, replicate, length-set, length-replicate, get_or-replicate}
use lib.Seq.{get_or-set_same, get_or-set_other}
use borrow.Author.Tests.{ne_eqb, ltb-true, eqb-true, eqb-false}
use Rattle.formula.specs.Tree.{and, or, Tree, lit, node, of, has, has_any}
use Rattle.formula.specs.Settle.{is_lit}
use Rattle.sheet.specs.Format.{Bytes}
use Rattle.rows.specs.Formulas.{matrix_in, Readable}
use Rattle.rows.specs.declared.Layout.{Layout}
use Rattle.subtrees.specs.Subtrees.{top, forest_in, subtree_in}
use Rattle.occurrences.specs.Chains.{first_from, Last}
use Rattle.occurrences.specs.Occurrences.{Occurrences, variable_of, Firsts, Nexts, Lasts, FirstsKept}
use Rattle.occurrences.proofs.Hits.{has-root, has_row, no_rows}
use Rattle.occurrences.proofs.Chains.{first_here, first_later, first_none, occurs, first_absent}

-- variable-of

pub variable-literal : (t : Tree) → (top t).kind ≤ 4 → (top t).argument ≡ variable_of t
variable-literal (lit s v) h = refl
variable-literal (node and ts) h = absurd (omega arith)
variable-literal (node or ts) h = absurd (omega arith)

pub variable_operator : (t : Tree) → 4 < (top t).kind → 1025 ≡ variable_of t
variable_operator (lit true v) h = absurd (omega arith)
variable_operator (lit false v) h = absurd (omega arith)
variable_operator (node o ts) h = refl

literal-variable : (x : ℕ) (t : Tree) → x ≤ 1024 → is_lit (of x) t ≡ eqb (variable_of t) x
unfolding is_lit
literal-variable x (lit s v) h = refl
literal-variable x (node o ts) h = sym (ne_eqb 1025 x (λ e. omega arith))

is_variable : (x : ℕ) (t : Tree) → x ≤ 1024 → is_lit (of x) t ≡ true → variable_of t ≡ x
is_variable x t h e = eqb-true (variable_of t) x (sym (literal-variable x t h) ∙ e)

other_variable : (x : ℕ) (t : Tree) → x ≤ 1024 → is_lit (of x) t ≡ false → variable_of t ≡ x → ⊥
other_variable x t h e = eqb-false (variable_of t) x (sym (literal-variable x t h) ∙ e)

-- link

module _ {s : Layout} (b : Bytes) (ok : Readable s b) where
  pub first_none-left : (before : List ℕ) {ranges : List ℕ} → ranges ≡ replicate (length before) s.nodes → length before ≡ 2050
      → Firsts s b s.nodes ranges
  first_none-left before {ranges} e size =
      record {
        holds = ap length e ∙ length-replicate (length before) s.nodes ∙ size;
        is =
            λ x h. ap (λ l. get_or l (2 * x) 0) e ∙ get_or-replicate (length before) (2 * x) s.nodes 0 (omega arith) ∙
            sym (first_none (of x) b ok);
      }

  pub next-none-left : {next : List ℕ} → s.nodes ≤ length next → Nexts s b s.nodes next
  next-none-left room = record { holds = room; is = λ x h j low high one. absurd (omega arith) }

  module _ {i j x : ℕ} {ranges : List ℕ} (next_row : i ≡ suc j) (inside : j < s.nodes) (var : x ≡ variable_of (subtree_in s b j))
      (f : Firsts s b i ranges) where
    pub first_turn : Firsts s b j (set ranges (2 * x) j)
    first_turn =
        record { holds = length-set ranges (2 * x) j ∙ f.holds; is = λ y h. go y h (is_lit (of y) (subtree_in s b j)) refl }
      where
        go : (y : ℕ) → y ≤ 1024 → (c : Bool) → is_lit (of y) (subtree_in s b j) ≡ c
            → get_or (set ranges (2 * x) j) (2 * y) 0 ≡ first_from (of y) s b j
        go y h true k =
            let same : x ≡ y = var ∙ is_variable y (subtree_in s b j) h k in
            ap (λ z. get_or (set ranges (2 * z) j) (2 * y) 0) same ∙ get_or-set_same ranges (2 * y) j 0 (omega (arith, f.holds)) ∙
            sym (first_here (of y) b ok j inside k)
        go y h false k =
            let other = other_variable y (subtree_in s b j) h k in
            get_or-set_other ranges (2 * x) (2 * y) j 0 (λ same. other (sym var ∙ omega arith)) ∙ f.is y h ∙
            ap (first_from (of y) s b) next_row ∙ sym (first_later (of y) b ok j inside k)

    pub next_turn : {e : ℕ} {next : List ℕ} → e ≡ get_or ranges (2 * x) 0 → Nexts s b i next → Nexts s b j (set next j e)
    next_turn {e} {next} old l =
        record {
          holds = omega (arith, length-set next j e, l.holds);
          is = λ y h k low high one. go y h k low high one (eqb k j) refl;
        }
      where
        go : (y : ℕ) → y ≤ 1024 → (k : ℕ) → j ≤ k → k < s.nodes → is_lit (of y) (subtree_in s b k) ≡ true → (c : Bool) → eqb k j ≡ c
            → get_or (set next j e) k 0 ≡ first_from (of y) s b (suc k)
        go y h k low high one true c =
            let here : k ≡ j = eqb-true k j c in
            let same : x ≡ y =
            var ∙ is_variable y (subtree_in s b j) h (ap (λ m. is_lit (of y) (subtree_in s b m)) (sym here) ∙ one) in
            ap (λ m. get_or (set next j e) m 0) here ∙ get_or-set_same next j e 0 (omega (arith, l.holds)) ∙ old ∙
            ap (λ z. get_or ranges (2 * z) 0) same ∙ f.is y h ∙ ap (first_from (of y) s b) (next_row ∙ ap suc (sym here))
        go y h k low high one false c =
            let other = eqb-false k j c in
            get_or-set_other next j k e 0 other ∙ l.is y h k (omega arith) high one

  -- mark

  pub mark_none : {ranges : List ℕ} → length ranges ≡ 2050 → Lasts s b 0 ranges
  mark_none size =
      record {
        holds = size;
        is = λ x h some none. absurd (true≢false (sym some ∙ sym (has-root (of x) b ok) ∙ none));
      }

  pub mark_turn : {i j x : ℕ} {ranges : List ℕ} → j ≡ suc i → i < s.nodes → x ≡ variable_of (subtree_in s b i) → Lasts s b i ranges
      → Lasts s b j (set ranges (2 * x + 1) i)
  mark_turn {i} {j} {x} {ranges} is inside var m =
      record {
        holds = length-set ranges (2 * x + 1) i ∙ m.holds;
        is =
            λ y h some none. go y h some (ap (λ k. has_any (of y) (forest_in s b k)) (sym is) ∙ none)
            (is_lit (of y) (subtree_in s b i)) refl;
      }
    where
      go : (y : ℕ) → y ≤ 1024 → has (of y) (matrix_in s b) ≡ true → has_any (of y) (forest_in s b (suc i)) ≡ false
          → (c : Bool) → is_lit (of y) (subtree_in s b i) ≡ c → Last (of y) s b (get_or (set ranges (2 * x + 1) i) (2 * y + 1) 0)
      go y h some none true k =
          let same : x ≡ y = var ∙ is_variable y (subtree_in s b i) h k in
          let here : get_or (set ranges (2 * x + 1) i) (2 * y + 1) 0 ≡ i =
          ap (λ z. get_or (set ranges (2 * z + 1) i) (2 * y + 1) 0) same ∙
          get_or-set_same ranges (2 * y + 1) i 0 (omega (arith, m.holds)) in
          rw here (record { inside = inside; is_one = k; none_behind = none })
      go y h some none false k =
          let other = other_variable y (subtree_in s b i) h k in
          rw (get_or-set_other ranges (2 * x + 1) (2 * y + 1) i 0 (λ same. other (sym var ∙ omega arith)))
          (m.is y h some (has_row (of y) b ok i inside ∙ ap₂ ◌||◌ k none))

  -- both

  pub occurrences_filled : {before ranges next : List ℕ} → Firsts s b 0 before → Nexts s b 0 next → Lasts s b s.nodes ranges
      → FirstsKept before ranges → Occurrences s b ranges next
  unfolding has_any
  occurrences_filled {before} {ranges} {next} f l m kept =
      record {
        holds = m.holds;
        tells = tells;
        absent = λ x h none. first_absent (of x) b ok (kept x ∙ f.is x h) none;
        chained =
            λ x h some. record {
              bounds =
                  record {
                    inside = ltb-true _ _ (tells x h ∙ some);
                    starts = kept x ∙ f.is x h;
                    ends = m.is x h some (ap (has_any (of x)) (no_rows b ok s.nodes refl));
                  };
              links = record { holds = l.holds; is = λ i inside one. l.is x h i (omega arith) inside one };
            };
      }
    where
      tells : (x : ℕ) → x ≤ 1024 → ltb (get_or ranges (2 * x) 0) s.nodes ≡ has (of x) (matrix_in s b)
      tells x h = occurs (of x) b ok (kept x ∙ f.is x h)

-- an entry for a last literal is none for a first one
pub kept-turn : (before ranges : List ℕ) (x i : ℕ) → FirstsKept before ranges → FirstsKept before (set ranges (2 * x + 1) i)
kept-turn before ranges x i k y = get_or-set_other ranges (2 * x + 1) (2 * y) i 0 (λ same. absurd (omega arith)) ∙ k y
