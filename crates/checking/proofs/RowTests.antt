-- Loop turns over the prefix rows and the node rows: what is left of the tests at row r.
-- Assumes nothing.
use mathlib.Core.Path.{◌≡◌, refl, sym, ap, ◌∙◌}
use mathlib.Core.Bool.{Bool, true, false, not, ◌&&◌}
use mathlib.Core.List.{List, [], ◌∷◌, ◌++◌}
use Prim.Native.Nat.{ℕ, suc, ◌+◌, ◌≤◌, ◌<◌}
use native.Mathlib.Numerals.{add-one}
use native.Mathlib.Omega.{arith}
use lib.Dec.{eqb, leb, ltb}
use lib.ListN.{length, get_or, take, drop, set}
use lib.Seq.{length-take-le, take-suc, drop-cons, get_or-take, drop-length, take-length}
use borrow.Author.Tests.{ltb-false}
use Rattle.sheet.specs.Format.{Format, Row, row}
use Rattle.sheet.specs.Check.{refused, accepted, Test, Sizes, test, answer, member, quantifier_tests, node_tests, arguments}
use Rattle.formula.proofs.Booleans.{or_parts}
use Rattle.checking.specs.Inner.Stages.{quantifier, misnumbered, node, Marks, unbound}
use Rattle.checking.proofs.Tests.{stops, goes_on}
use Rattle.checking.proofs.Bound.{member-last, quantifier_tests-bound, marks_more, marks_same}

-- a number that is not outside 1 to the most has its entry
pub numbered_low : (most x : ℕ) → most ≤ 1024 → misnumbered most x ≡ false → x < 1025
numbered_low most x few h = omega (arith, ltb-false most x (or_parts (eqb x 0) (ltb most x) h).1)

-- the first v of the rows, up to row r: what is left of the tests, and the table
pub record Prefixed (F : Format) (rows : List Row) (v : ℕ) (a : Sizes) (table : List Bool) (r : ℕ) : Type 0 where
  pub within : r ≤ v
  pub remaining : answer (quantifier_tests F 0 [] (take v rows)) a ≡
      answer (quantifier_tests F r (arguments (take r (take v rows))) (drop r (take v rows))) a
  pub marked : Marks table (arguments (take r (take v rows)))

module _ (F : Format) (rows : List Row) (v : ℕ) (a : Sizes) (enough : v ≤ length rows) where
  abbrev prefix : List Row
  prefix = take v rows

  length_prefix : length prefix ≡ v
  length_prefix = length-take-le v rows enough

  pub prefix_none : (table : List Bool) → Marks table [] → Prefixed F rows v a table 0
  unfolding arguments
  prefix_none table m = record { within = omega arith; remaining = refl; marked = m }

  pub prefix_all : {table : List Bool} {r : ℕ} → v ≤ r → Prefixed F rows v a table r
      → (accepted a ≡ answer (quantifier_tests F 0 [] prefix) a) × Marks table (arguments prefix)
  unfolding quantifier_tests answer
  prefix_all {table} {r} h p =
      let end : r ≡ length prefix = omega (arith, p.within, length_prefix) in
      (sym (p.remaining ∙ rw (end, drop-length prefix)), rw (end, take-length prefix) at p.marked)

  module _ {table : List Bool} {r : ℕ} (more : r < v) (p : Prefixed F rows v a table r) where
    abbrev here : Row
    here = get_or rows r (row 0 0)

    inside : r < length prefix
    inside = omega (arith, length_prefix)

    here-prefix : get_or prefix r (row 0 0) ≡ here
    here-prefix = get_or-take v rows r (row 0 0) more

    abbrev behind : List Test
    behind = quantifier_tests F (suc r) (here.argument ∷ arguments (take r prefix)) (drop (suc r) prefix)

    tests-here : answer (quantifier_tests F 0 [] prefix) a ≡
        answer
        (test (not (quantifier here.kind)) 4 r ∷
        test (misnumbered F.most_variables here.argument) 5 r ∷
        test (get_or table here.argument false) 6 r ∷
        behind)
        a
    unfolding quantifier_tests
    tests-here =
        p.remaining ∙ rw (p.marked.entry here.argument, drop-cons prefix r (row 0 0) inside, here-prefix)

    pub prefix-kind : quantifier here.kind ≡ false → refused 4 r ≡ answer (quantifier_tests F 0 [] prefix) a
    prefix-kind h = sym (tests-here ∙ stops 4 r _ a (ap not h))

    module _ (kind : quantifier here.kind ≡ true) where
      pub prefix-number : misnumbered F.most_variables here.argument ≡ true
          → refused 5 r ≡ answer (quantifier_tests F 0 [] prefix) a
      prefix-number h = sym (tests-here ∙ goes_on 4 r _ a (ap not kind) ∙ stops 5 r _ a h)

      module _ (numbered : misnumbered F.most_variables here.argument ≡ false) where
        pub prefix-twice : get_or table here.argument false ≡ true → refused 6 r ≡ answer (quantifier_tests F 0 [] prefix) a
        prefix-twice h = sym (tests-here ∙ goes_on 4 r _ a (ap not kind) ∙ goes_on 5 r _ a numbered ∙ stops 6 r _ a h)

        pub prefix-turn : get_or table here.argument false ≡ false → F.most_variables ≤ 1024
            → Prefixed F rows v a (set table here.argument true) (r + 1)
        prefix-turn h few =
            record {
              within = omega arith;
              remaining =
                  tests-here ∙ goes_on 4 r _ a (ap not kind) ∙ goes_on 5 r _ a numbered ∙ goes_on 6 r _ a h ∙
                  rw add-one
                  (ap (λ ts. answer ts a) (quantifier_tests-bound F (suc r) _ _ (drop (suc r) prefix) (λ x. sym (bound-here x))));
              marked =
                  rw add-one
                  (marks_same (λ x. sym (bound-here x))
                  (marks_more table (arguments (take r prefix)) here.argument (numbered_low _ _ few numbered) p.marked));
            }
          where
            bound-here : (x : ℕ) → member x (arguments (take (suc r) prefix)) ≡ member x (here.argument ∷ arguments (take r prefix))
            bound-here x =
                ap (λ rs. member x (arguments rs)) (take-suc prefix r (row 0 0) inside ∙ ap (λ s. take r prefix ++ (s ∷ [])) here-prefix) ∙
                member-last (take r prefix) here x

-- the rows from v on, up to row r
pub record Noded (rows : List Row) (bound : List ℕ) (v : ℕ) (a : Sizes) (r : ℕ) : Type 0 where
  pub low : v ≤ r
  pub high : r ≤ length rows
  pub remaining : answer (node_tests v bound (drop v rows)) a ≡ answer (node_tests r bound (drop r rows)) a

module _ (rows : List Row) (bound : List ℕ) (v : ℕ) (a : Sizes) where
  pub nodes-none : v ≤ length rows → Noded rows bound v a v
  nodes-none h = record { low = omega arith; high = h; remaining = refl }

  pub nodes-all : {r : ℕ} → length rows ≤ r → Noded rows bound v a r → accepted a ≡ answer (node_tests v bound (drop v rows)) a
  unfolding node_tests answer
  nodes-all {r} h p =
      let end : r ≡ length rows = omega (arith, p.high) in
      sym (p.remaining ∙ rw (end, drop-length rows))

  module _ {r : ℕ} (more : r < length rows) (p : Noded rows bound v a r) where
    abbrev at_row : Row
    at_row = get_or rows r (row 0 0)

    tests-at : answer (node_tests v bound (drop v rows)) a ≡
        answer
        (test (not (node at_row.kind)) 4 r ∷
        test (leb at_row.kind 4 && not (member at_row.argument bound)) 7 r ∷
        node_tests (suc r) bound (drop (suc r) rows))
        a
    unfolding node_tests
    tests-at = p.remaining ∙ rw (drop-cons rows r (row 0 0) more)

    pub node-kind : node at_row.kind ≡ false → refused 4 r ≡ answer (node_tests v bound (drop v rows)) a
    node-kind h = sym (tests-at ∙ stops 4 r _ a (ap not h))

    module _ (kind : node at_row.kind ≡ true) (table : List Bool) (marked : Marks table bound) where
      literal : (leb at_row.kind 4 && not (member at_row.argument bound)) ≡ unbound table at_row
      literal = rw (marked.entry at_row.argument)

      pub node-unbound : unbound table at_row ≡ true → refused 7 r ≡ answer (node_tests v bound (drop v rows)) a
      node-unbound h = sym (tests-at ∙ goes_on 4 r _ a (ap not kind) ∙ stops 7 r _ a (literal ∙ h))

      pub node-turn : unbound table at_row ≡ false → Noded rows bound v a (r + 1)
      node-turn h =
          record {
            low = omega (arith, p.low);
            high = omega arith;
            remaining = tests-at ∙ goes_on 4 r _ a (ap not kind) ∙ goes_on 7 r _ a (literal ∙ h) ∙ rw add-one;
          }
