-- The turns of linking.
-- Assumes nothing.
use mathlib.Core.Path.{◌≡◌, refl, sym, ◌∙◌, ap, ap₂}
use mathlib.Core.Bool.{Bool, true, false, not, ◌||◌, cond, true≢false}
use mathlib.Core.List.{List}
use Prim.Native.Nat.{ℕ, suc, ◌≤◌, ◌<◌}
use native.Mathlib.Omega.{arith}
use lib.Dec.{eqb}
use lib.ListN.{length, get_or, set, length-set, get_or-eq_default}
use lib.Seq.{get_or-set_same, get_or-set_other}
use borrow.Author.Tests.{eqb-true, eqb-false, eq-eqb, ltb-true}
use Rattle.formula.specs.Tree.{Tree, lit, node, Literals, has_any}
use Rattle.formula.specs.Settle.{is_lit}
use Rattle.sheet.specs.Format.{Bytes}
use Rattle.rows.specs.Formulas.{Readable}
use Rattle.rows.specs.declared.Layout.{Layout}
use Rattle.subtrees.specs.Subtrees.{forest_in, subtree_in}
use Rattle.occurrences.specs.Chains.{first_from, Last}
use Rattle.occurrences.specs.Occurrences.{variable_of}
use Rattle.occurrences.proofs.Hits.{has-root, has_row, no_rows}
use Rattle.occurrences.proofs.Chains.{first_here, first_later, first_none, occurs}
use Rattle.relevance.specs.declared.Range.{Range}
use Rattle.substitution.specs.Changes.{entry, chosen}
use Rattle.outer.specs.Inner.Chain.{with_row, Linking, Linked}

-- the number of an operator is past the table, so it is its own entry
pub chosen_at : (t : List ℕ) → length t ≡ 1025 → (u : Tree) → is_lit (chosen t) u ≡ not (eqb (entry t (variable_of u)) (variable_of u))
unfolding is_lit chosen
chosen_at t h (lit s v) = refl
chosen_at t h (node o ts) = sym (ap not (eq-eqb (entry t 1025) 1025 (get_or-eq_default t 1025 (omega arith))))

module _ (L : Literals) {s : Layout} (b : Bytes) (ok : Readable s b) where
  pub linking_none : {next : List ℕ} → s.nodes ≤ length next → Linking L s b s.nodes next (record { first = s.nodes; last = s.nodes })
  unfolding has_any
  linking_none h =
      record {
        holds = h;
        within = omega arith;
        starts = sym (first_none L b ok);
        links = λ j l k e. absurd (omega arith);
        some = λ e. absurd (true≢false (sym e ∙ ap (has_any L) (no_rows b ok s.nodes refl)));
        none = λ e. refl;
      }

  module _ {i j : ℕ} {next : List ℕ} {r : Range} (is : i ≡ suc j) (inside : j < s.nodes) (l : Linking L s b i next r) where
    links-next : (k : ℕ) → j ≤ k → k < s.nodes → is_lit L (subtree_in s b k) ≡ true
        → get_or (set next j r.first) k 0 ≡ first_from L s b (suc k)
    links-next k low high one = by (eqb k j) refl
      where
        by : (c : Bool) → eqb k j ≡ c → get_or (set next j r.first) k 0 ≡ first_from L s b (suc k)
        by true e =
            let here = eqb-true k j e in
            ap (λ m. get_or (set next j r.first) m 0) here ∙ get_or-set_same next j r.first 0 (omega (arith, l.holds)) ∙ l.starts ∙
            ap (first_from L s b) (is ∙ ap suc (sym here))
        by false e =
            let other = eqb-false k j e in
            get_or-set_other next j k r.first 0 other ∙ l.links k (omega arith) high one

    behind : {c : Bool} → is_lit L (subtree_in s b j) ≡ c → has_any L (forest_in s b j) ≡ (c || has_any L (forest_in s b i))
    behind e = has_row L b ok j inside ∙ ap₂ (λ c k. c || has_any L (forest_in s b k)) e (sym is)

    some_turn : true ≡ is_lit L (subtree_in s b j) → (m : Bool) → eqb r.last s.nodes ≡ m → (k : Bool)
        → has_any L (forest_in s b i) ≡ k → Last L s b (cond m j r.last)
    some_turn e true at true k = absurd (let p = (l.some k).inside in let q = eqb-true r.last s.nodes at in omega arith)
    some_turn e true at false k =
        record { inside = inside; is_one = sym e; none_behind = ap (λ m. has_any L (forest_in s b m)) (sym is) ∙ k }
    some_turn e false at true k = l.some k
    some_turn e false at false k = absurd (eqb-false r.last s.nodes at (l.none k))

    turn : (c : Bool) → c ≡ is_lit L (subtree_in s b j) → Linking L s b j (set next j r.first) (with_row c s.nodes j r)
    unfolding with_row
    turn true e =
        record {
          holds = omega (arith, length-set next j r.first, l.holds);
          within = omega arith;
          starts = sym (first_here L b ok j inside (sym e));
          links = links-next;
          some = λ h. some_turn e (eqb r.last s.nodes) refl (has_any L (forest_in s b i)) refl;
          none = λ h. absurd (true≢false (sym (behind (sym e)) ∙ h));
        }
    turn false e =
        record {
          holds = omega (arith, length-set next j r.first, l.holds);
          within = l.within;
          starts = l.starts ∙ ap (first_from L s b) is ∙ sym (first_later L b ok j inside (sym e));
          links = links-next;
          some = λ h. l.some (sym (behind (sym e)) ∙ h);
          none = λ h. l.none (sym (behind (sym e)) ∙ h);
        }

    pub linking-turn : {c : Bool} → c ≡ is_lit L (subtree_in s b j) → Linking L s b j (set next j r.first) (with_row c s.nodes j r)
    linking-turn {c} e = turn c e

  pub linked-all : {next : List ℕ} {r : Range} → Linking L s b 0 next r → Linked L s b next r
  linked-all {next} {r} l =
      record {
        starts = l.starts;
        chain =
            λ h. record {
              bounds =
                  record {
                    inside = ltb-true r.first s.nodes (occurs L b ok l.starts ∙ h);
                    starts = l.starts;
                    ends = l.some (has-root L b ok ∙ h);
                  };
              links = record { holds = l.holds; is = λ i inside one. l.links i (omega arith) inside one };
            };
      }
